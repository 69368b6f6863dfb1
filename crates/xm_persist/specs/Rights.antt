-- Persistency over two consecutive cycles, and the rules that grant it (after Gotmanov, Chatterjee and Kishinevsky,
-- VMCAI 2011).
use Rattle.std.specs.Prelude.{◌≡◌, ◌≢◌, ℕ, suc, ◌<◌, Bool, true, false, List, Some, None}
use Rattle.xm_model.specs.Component.{Content, Fork, Function, Join, Merge, Queue, Sink, Source, Switch}
use Rattle.xm_model.specs.Frame.{IsFrame}
use Rattle.xm_model.specs.Net.{HasPrim, IsNet, Network}
use Rattle.xm_model.specs.Next.{next}
use Rattle.xm_model.specs.Run.{IsRun}
use Rattle.xm_model.specs.Signals.{Signals}
use Rattle.xm_model.specs.declared.state.Choice.{Choice}
use Rattle.xm_model.specs.declared.primitive.Side.{Side}
use Rattle.xm_model.specs.declared.primitive.SinkMode.{SinkMode}
use Rattle.xm_model.specs.declared.primitive.SourceMode.{SourceMode}
use Rattle.xm_model.specs.declared.primitive.SinkMode.TheVariants as sink_mode
use Rattle.xm_model.specs.declared.primitive.SourceMode.TheVariants as source_mode

-- an initiator is persistent: what it offers and is not taken it offers again
abbrev pub OfferStays : ℕ → Signals → Signals → Type 0
OfferStays c φ ψ = (d : ℕ) → φ.offer c ≡ Some d → φ.ready c ≡ false → ψ.offer c ≡ Some d

-- a target is persistent: where it is ready and gets nothing it is ready again
abbrev pub ReadyStays : ℕ → Signals → Signals → Type 0
ReadyStays c φ ψ = φ.ready c ≡ true → φ.offer c ≡ None → ψ.ready c ≡ true

-- the initiator of a channel is persistent, or its target is
pub data Right : Type 0 where
  Initiator : ℕ → Right
  Target : ℕ → Right

-- the rights that are granted
pub data Granted (net : Network) : Right → Type 0 where
  source_out : (i out : ℕ) (colours : List ℕ) (mode : SourceMode) → HasPrim net i (Source out colours mode) →
      mode ≢ source_mode.Free → Granted net (Initiator out)
  sink_in : (i input : ℕ) (mode : SinkMode) → HasPrim net i (Sink input mode) →
      mode ≢ sink_mode.Free → Granted net (Target input)
  queue_out : (i input out capacity : ℕ) (initial : List ℕ) → HasPrim net i (Queue input out capacity initial) →
      Granted net (Initiator out)
  queue_in : (i input out capacity : ℕ) (initial : List ℕ) → HasPrim net i (Queue input out capacity initial) →
      Granted net (Target input)
  function_out : (i input out : ℕ) (table : List ℕ) → HasPrim net i (Function input out table) →
      Granted net (Initiator input) → Granted net (Initiator out)
  function_in : (i input out : ℕ) (table : List ℕ) → HasPrim net i (Function input out table) →
      Granted net (Target out) → Granted net (Target input)
  fork_a : (i input a b : ℕ) (table_a table_b : List ℕ) → HasPrim net i (Fork input a b table_a table_b) →
      Granted net (Initiator input) → Granted net (Target b) → Granted net (Initiator a)
  fork_b : (i input a b : ℕ) (table_a table_b : List ℕ) → HasPrim net i (Fork input a b table_a table_b) →
      Granted net (Initiator input) → Granted net (Target a) → Granted net (Initiator b)
  fork_in : (i input a b : ℕ) (table_a table_b : List ℕ) → HasPrim net i (Fork input a b table_a table_b) →
      Granted net (Target a) → Granted net (Target b) → Granted net (Target input)
  join_out : (i a b out : ℕ) (pass : Side) → HasPrim net i (Join a b out pass) →
      Granted net (Initiator a) → Granted net (Initiator b) → Granted net (Initiator out)
  join_a : (i a b out : ℕ) (pass : Side) → HasPrim net i (Join a b out pass) →
      Granted net (Target out) → Granted net (Initiator b) → Granted net (Target a)
  join_b : (i a b out : ℕ) (pass : Side) → HasPrim net i (Join a b out pass) →
      Granted net (Target out) → Granted net (Initiator a) → Granted net (Target b)
  switch_a : (i input a b : ℕ) (to_a : List Bool) → HasPrim net i (Switch input a b to_a) →
      Granted net (Initiator input) → Granted net (Initiator a)
  switch_b : (i input a b : ℕ) (to_a : List Bool) → HasPrim net i (Switch input a b to_a) →
      Granted net (Initiator input) → Granted net (Initiator b)
  switch_in : (i input a b : ℕ) (to_a : List Bool) → HasPrim net i (Switch input a b to_a) →
      Granted net (Target input)
  merge_out : (i a b out : ℕ) → HasPrim net i (Merge a b out) →
      Granted net (Initiator a) → Granted net (Initiator b) → Granted net (Initiator out)
  merge_a : (i a b out : ℕ) → HasPrim net i (Merge a b out) → Granted net (Target a)
  merge_b : (i a b out : ℕ) → HasPrim net i (Merge a b out) → Granted net (Target b)

-- the right holds over two cycles with these signals
abbrev pub HoldsOver : Right → Signals → Signals → Type 0
HoldsOver (Initiator c) φ ψ = OfferStays c φ ψ
HoldsOver (Target c) φ ψ = ReadyStays c φ ψ

-- a granted right holds over any two consecutive cycles, from any state and with any choices
abbrev pub GrantsHold : Type 0
GrantsHold =
    (net : Network) (s : ℕ → Content) (w v : ℕ → Choice) (φ ψ : Signals) (right : Right) →
    IsFrame net s w φ → IsFrame net (next net s φ) v ψ → Granted net right → HoldsOver right φ ψ

-- and so at every cycle of a run
abbrev pub GrantsHoldOfRuns : Type 0
GrantsHoldOfRuns =
    (net : Network) (cycles : ℕ) (w : ℕ → ℕ → Choice) (s : ℕ → ℕ → Content) (φ : ℕ → Signals) (right : Right) →
    IsRun net cycles w s φ → Granted net right → (t : ℕ) → suc t < cycles → HoldsOver right (φ t) (φ (suc t))

-- where the initiators at both outputs of a fork are granted, so are the targets
abbrev pub ForksTarget : Type 0
ForksTarget =
    (net : Network) (p input a b : ℕ) (table_a table_b : List ℕ) →
    IsNet net → HasPrim net p (Fork input a b table_a table_b) →
    Granted net (Initiator a) → Granted net (Initiator b) → Granted net (Target a) × Granted net (Target b)

-- every channel has a persistent initiator
abbrev pub AllGranted : Network → Type 0
AllGranted net = (c : ℕ) → c < net.channels → Granted net (Initiator c)

-- the first channel that is not granted one
pub record IsFirstUngranted (net : Network) (c : ℕ) : Type 0 where
  pub is_channel : c < net.channels
  pub ungranted : Granted net (Initiator c) → ⊥
  pub granted_below : (e : ℕ) → e < c → Granted net (Initiator e)
