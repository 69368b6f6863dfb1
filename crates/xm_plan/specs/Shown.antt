-- Primitives whose signals are known before anything is chosen, and show what they hold.
use Rattle.std.specs.Prelude.{◌≡◌, ℕ, Bool, true, false, nat_lt, List, Option, None, Some, length, slice_get}
use Rattle.xm_model.specs.Component.{Component, Content, Queue, Sink, Source}
use Rattle.xm_model.specs.Signals.{Signals, held_in, packets_in, pending_in}
use Rattle.xm_model.specs.declared.primitive.SinkMode.{SinkMode}
use Rattle.xm_model.specs.declared.primitive.SinkMode.TheVariants as sink_mode
use Rattle.xm_model.specs.declared.primitive.SourceMode.{SourceMode}
use Rattle.xm_model.specs.declared.primitive.SourceMode.TheVariants as source_mode

-- the source offers its pending colour again, whatever is chosen
abbrev pub IsPending : SourceMode → Option ℕ → Type 0
IsPending source_mode.Free pending = ⊥
IsPending _ None = ⊥
IsPending _ (Some d) = Unit {0}

-- the sink is ready again
abbrev pub IsHeld : SinkMode → Bool → Type 0
IsHeld sink_mode.Keep true = Unit {0}
IsHeld _ _ = ⊥

-- a source goes on with its pending colour, a sink is held ready, and a queue offers its oldest packet and is ready
-- where it has a free place
abbrev pub IsShown : Component → Content → Signals → Type 0
IsShown (Source out colours mode) s φ = IsPending mode (pending_in s) × (φ.offer out ≡ pending_in s)
IsShown (Sink input mode) s φ = IsHeld mode (held_in s) × (φ.ready input ≡ true)
IsShown (Queue input out capacity initial) s φ =
    (φ.offer out ≡ slice_get (packets_in s) 0) × (φ.ready input ≡ nat_lt (length (packets_in s)) capacity)
IsShown _ s φ = Unit {0}

-- each primitive does that is noted as unchanged
abbrev pub AreShown : List Component → (ℕ → Content) → List Bool → Signals → Type 0
AreShown prims s changed φ =
    (p : ℕ) (m : Component) → slice_get prims p ≡ Some m → slice_get changed p ≡ Some false → IsShown m (s p) φ
