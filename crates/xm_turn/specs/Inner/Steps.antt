-- What each step on a turn's words tells the pass that takes it.
use Rattle.std.specs.Prelude.{◌≡◌, ℕ, zero, suc, ◌<◌, ◌≤◌, max, [], ◌∷◌, Some}
use Rattle.std.specs.Prelude.{Option as Maybe}
use Rattle.atomic_table.specs.Table.{Me, Step}
use Rattle.xm_turn.specs.declared.rule.View.{View}
use Rattle.xm_turn.specs.declared.rule.Phase.{Phase}
use Rattle.xm_turn.specs.declared.rule.Phase.TheVariants.{Free, Holding, Looked}
use Rattle.xm_turn.specs.Views.{giving}

-- the phase after a look
abbrev pub looked : Phase → Phase
looked Free = Free
looked (Holding took) = Looked
looked Looked = Looked

-- a look finds no more than the floor of the value that was taken
abbrev pub Within : Phase → ℕ → Type 0
Within Free found = Unit {0}
Within (Holding took) found = found ≤ took
Within Looked found = Unit {0}

module _ {N : Type 0} where
  abbrev pub taking : ℕ → View N → View N
  taking took v = record v { phase = Holding took }

  abbrev pub seeing : ℕ → View N → View N
  seeing found v = record v { phase = looked v.phase; seen = found }

-- where the word was 0 the pass takes the turn, with a value that names its run; where it was 1 another pass has the
-- turn, and this one is not whole
module _ {V N : Type 0} (run : V → N) (floor_of : V → ℕ) (me : Me (Maybe V) (View N)) where
  abbrev pub Takes : ℕ → Me (Maybe V) (View N) → Type 0
  Takes zero me' = (x : V) × (me' ≡ (taking (floor_of x) me.0, (0, Some x) ∷ [])) × (me.0.run ≡ Some (run x))
  Takes (suc others) me' = (me' ≡ me) × (others ≡ 0) × (me.0.shares < me.0.all)

module _ {S N : Type 0} where
  -- the floor was found, which the pass has then seen
  abbrev pub Looks : Me S (View N) → ℕ → Me S (View N) → Type 0
  Looks me found me' = (me' ≡ (seeing found me.0, me.1)) × (me.0.seen ≤ found) × Within me.0.phase found

  -- the pass has seen the floor that it raised to
  abbrev pub Raises : Step S → Me S (View N) → Me S (View N) → Type 0
  Raises step me me' = me' ≡ (seeing (max me.0.seen step.first) me.0, me.1)

  -- the pass is free, and the value has left it
  abbrev pub Gives : Me S (View N) → Me S (View N) → Type 0
  Gives me me' = me' ≡ (giving me.0, [])
