-- Inner: draws that are passed over at once.
use Rattle.std.specs.Prelude.{◌≡◌, ℕ, suc, ◌+◌, ◌-◌, ◌*◌, ◌%◌, ◌<◌, ◌≤◌, ◌^◌, Bool, true, List, [], ◌∷◌, drop, Some, slice_get}
use Rattle.xm_model.specs.declared.state.Choice.{Choice}
use Rattle.xm_tape.specs.Draws.{number_after}
use Rattle.xm_tape.specs.declared.leap.Leap.{Leap}
use Rattle.xm_tape.specs.declared.leap.Stop.{Stop}

-- the number after n draws, at once
abbrev pub IsLeap : ℕ → Leap → Type 0
IsLeap n leap = (x : ℕ) → x < 2 ^ 64 → number_after n x ≡ (x * leap.multiplier + leap.increment) % 2 ^ 64

-- none of the places from a on, below b, is wanted
abbrev pub NoneWanted : List Bool → ℕ → ℕ → Type 0
NoneWanted own a b = (k : ℕ) → a ≤ k → k < b → slice_get own k ≡ Some true → ⊥

-- the stops go from one place on to another, with one at each place between that is wanted
abbrev pub Reaches : List Bool → ℕ → List Stop → ℕ → Type 0
Reaches own from [] to = from ≡ to
Reaches own from (s ∷ stops) to =
    (from ≤ s.place) × IsLeap (suc s.place - from) s.leap × NoneWanted own from s.place × Reaches own (suc s.place) stops to

-- they go through a row of this width, and the last leap to its end
pub record AreStops (own : List Bool) (width : ℕ) (stops : List Stop) (rest : Leap) : Type 0 where
  pub to : ℕ
  pub reaches : Reaches own 0 stops to
  pub inside : to ≤ width
  pub leap : IsLeap (width - to) rest
  pub none : NoneWanted own to width

-- the stops before the j-th are done: the number is that behind the last, and the wanted places up to there are those of
-- the whole row
pub record AreDone (own : List Bool) (stops : List Stop) (j to : ℕ) (whole row : List Choice) (before number : ℕ) :
    Type 0 where
  pub from : ℕ
  pub ahead : Reaches own from (drop j stops) to
  pub number_is : number ≡ number_after from before
  pub same : (k : ℕ) → k < from → slice_get own k ≡ Some true → slice_get row k ≡ slice_get whole k
