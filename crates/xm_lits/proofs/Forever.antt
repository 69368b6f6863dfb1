-- A cycle that goes on for ever, by functions of time that come again: literals, rules and clashes are proved of it.
use Rattle.std.specs.Prelude.{◌≡◌, ℕ, suc, ◌+◌, ◌<◌, ◌≤◌, true, List, [], ◌∷◌, length, Some, slice_get, is_some}
use Rattle.xm_lits.proofs.Repeat
use Rattle.xm_lits.specs.Inference.{Inference}
use Rattle.xm_lits.specs.Repeating.{AllOf, SomeOf, capacity_at}
use Rattle.xm_lits.specs.declared.literal.Lit.{Lit}
use Rattle.xm_lits.specs.declared.literal.Lit.TheVariants.{Stuck, Dead, Idle, Full, Has, Lacks}
use Rattle.xm_model.specs.Component.{Content, Fork, Queue, Sink, Source}
use Rattle.xm_model.specs.Frame.{IsFrame}
use Rattle.xm_model.specs.Net.{HasPrim, IsNet, Network}
use Rattle.xm_model.specs.Next.{next}
use Rattle.xm_model.specs.Membership.{IsIn, times}
use Rattle.xm_model.specs.Signals.{Signals, packets_in}
use Rattle.xm_model.specs.declared.state.Choice.{Choice}
use Rattle.xm_model.specs.declared.primitive.SinkMode.{SinkMode}
use Rattle.xm_model.specs.declared.primitive.SourceMode.TheVariants as source_mode
use Rattle.xm_persist.specs.Rights.{ReadyStays}

abbrev pub Holds : Network → (ℕ → ℕ → Content) → (ℕ → Signals) → Lit → Type 0
Holds net s φ (Stuck c) = Repeat.Stuck c φ
Holds net s φ (Dead c d) = Repeat.Dead c d φ
Holds net s φ (Idle c d) = Repeat.Idle c d φ
Holds net s φ (Full i) = length (packets_in (s 0 i)) ≡ capacity_at (slice_get net.prims i)
Holds net s φ (Has i d) = 1 ≤ times d (packets_in (s 0 i))
Holds net s φ (Lacks i d) = times d (packets_in (s 0 i)) ≡ 0

abbrev pub AllHold : Network → (ℕ → ℕ → Content) → (ℕ → Signals) → List Lit → Type 0
AllHold net s φ ls = AllOf (Holds net s φ) ls

abbrev pub SomeHolds : Network → (ℕ → ℕ → Content) → (ℕ → Signals) → List (List Lit) → Type 0
SomeHolds net s φ alternatives = SomeOf (Holds net s φ) alternatives

-- each of the rules has an alternative that holds
abbrev pub AllSound : Network → (ℕ → ℕ → Content) → (ℕ → Signals) → List Inference → Type 0
AllSound net s φ [] = Unit {0}
AllSound net s φ (r ∷ rs) = SomeHolds net s φ r.alternatives × AllSound net s φ rs

-- a fair cycle that repeats, with what is known of its colours and rights
pub record IsForever (net : Network) (colours : ℕ → List ℕ) (n : ℕ) (w : ℕ → ℕ → Choice) (s : ℕ → ℕ → Content) (φ : ℕ → Signals) : Type 0 where
  pub is_net : IsNet net
  pub offers_stay : (c : ℕ) → c < net.channels → Repeat.Stays c φ
  pub forks_stay_a : (i input a b : ℕ) (ta tb : List ℕ) → HasPrim net i (Fork input a b ta tb) → (t : ℕ) →
      ReadyStays a (φ t) (φ (suc t))
  pub forks_stay_b : (i input a b : ℕ) (ta tb : List ℕ) → HasPrim net i (Fork input a b ta tb) → (t : ℕ) →
      ReadyStays b (φ t) (φ (suc t))
  pub is_long : 0 < n
  pub frames : (t : ℕ) → IsFrame net (s t) (w t) (φ t)
  pub steps : (t i : ℕ) → s (suc t) i ≡ next net (s t) (φ t) i
  pub frames_again : (t : ℕ) → φ (t + n) ≡ φ t
  pub states_again : (t i : ℕ) → s (t + n) i ≡ s t i
  pub sinks : (i input : ℕ) (mode : SinkMode) → HasPrim net i (Sink input mode) → (t : ℕ) × ((φ t).ready input ≡ true)
  pub sources : (i out : ℕ) (cs : List ℕ) → HasPrim net i (Source out cs source_mode.Fair) →
      (t : ℕ) × (is_some ((φ t).offer out) ≡ true)
  pub fits : (i input out capacity t : ℕ) (initial : List ℕ) → HasPrim net i (Queue input out capacity initial) →
      length (packets_in (s t i)) ≤ capacity
  pub packets : (i input out capacity j d : ℕ) (initial : List ℕ) → HasPrim net i (Queue input out capacity initial) →
      slice_get (packets_in (s 0 i)) j ≡ Some d → IsIn (colours out) d
  pub coloured : (t c d : ℕ) → c < net.channels → (φ t).offer c ≡ Some d → IsIn (colours c) d
