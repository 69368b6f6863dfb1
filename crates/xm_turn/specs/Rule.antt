-- The rule that a turn's table keeps between any two steps. Its words are the turn, the number of passes that have it,
-- and the floor. Its one slot is the value's home.
use Rattle.std.specs.Prelude.{◌≡◌, ℕ, zero, suc, ◌+◌, ◌<◌, ◌≤◌, List, [], ◌∷◌, Some}
use Rattle.std.specs.Prelude.{Option as Maybe}
use mathlib.Core.Option.{Option, none, some}
use lib.ListN.{get_elem?}
use Rattle.atomic_table.specs.Table.{State}
use Rattle.xm_turn.specs.declared.rule.View.{View}
use Rattle.xm_turn.specs.declared.rule.Phase.{Phase}
use Rattle.xm_turn.specs.declared.rule.Phase.TheVariants.{Free, Holding, Looked}

-- 1 where the pass has the turn
abbrev pub turns_in : Phase → ℕ
turns_in Free = 0
turns_in (Holding took) = 1
turns_in Looked = 1

-- what a pass that has the turn knows of the floor: it is at most that of the value that it took, and once it has
-- looked, it is what it has seen
abbrev pub KnowsFloor : ℕ → ℕ → Phase → Type 0
KnowsFloor floor seen Free = Unit {0}
KnowsFloor floor seen (Holding took) = floor ≤ took
KnowsFloor floor seen Looked = seen ≡ floor

module _ {N : Type 0} where
  abbrev pub turns_of : View N → ℕ
  turns_of v = turns_in v.phase

  abbrev pub shares_of : View N → ℕ
  shares_of v = v.shares

  -- what f gives of each view, added up
  abbrev pub total : (View N → ℕ) → List (View N) → ℕ
  total f [] = 0
  total f (x ∷ xs) = f x + total f xs

  -- a pass with a share names the run r and the number n of all shares, one without has no turn, and none has seen more
  -- than the floor
  pub record Agrees (r : N) (n floor : ℕ) (v : View N) : Type 0 where
    pub named : 0 < v.shares → (v.run ≡ Some r) × (v.all ≡ n)
    pub empty : v.shares ≡ 0 → v.phase ≡ Free
    pub below : v.seen ≤ floor
    pub fresh : KnowsFloor floor v.seen v.phase

module _ {V N : Type 0} (run : V → N) (floor_of : V → ℕ) (r : N) where
  -- where no pass has the turn, the value is at home, names the run, and is not below the floor; at most one pass has
  -- the turn, and with it the value
  abbrev pub AtHome : (floor turns : ℕ) → List (Option (Maybe V)) → Type 0
  AtHome floor zero slots = (v : V) × (slots ≡ some (Some v) ∷ []) × (run v ≡ r) × (floor ≤ floor_of v)
  AtHome floor (suc others) slots = (others ≡ 0) × (slots ≡ none ∷ [])

  -- the words are the turn and the floor, all passes agree, and their shares add up to n
  pub record Kept (n : ℕ) (s : State (Maybe V) (View N)) : Type 0 where
    pub floor : ℕ
    pub words : s.words ≡ total turns_of s.views ∷ floor ∷ []
    pub home : AtHome floor (total turns_of s.views) s.homes
    pub agree : (id : ℕ) (v : View N) → get_elem? s.views id ≡ some v → Agrees r n floor v
    pub shares : total shares_of s.views ≡ n
