-- What clauses say of a turn and its passes.
use Rattle.std.specs.Prelude.{◌≡◌, ℕ, ◌<◌, ◌≤◌, [], ◌∷◌, Some, None}
use Rattle.std.specs.Prelude.{Option as Maybe}
use Rattle.atomic_table.specs.Table.{Me}
use Rattle.xm_turn.specs.declared.rule.View.{View}
use Rattle.xm_turn.specs.declared.turn.Pass.{Pass}
use Rattle.xm_turn.specs.declared.turn.Turn.{Turn}
use Rattle.xm_turn.specs.declared.rule.Phase.TheVariants.{Free, Looked}
use Rattle.xm_turn.specs.Views.{giving}

module _ {V N : Type 0} where
  -- what the pass knows
  abbrev pub knows : Pass V N → View N
  knows p = p.seat.me.0

  -- it is a pass of this turn, with a share
  abbrev pub IsPassOf : Turn V N → Pass V N → Type 0
  IsPassOf t p = (p.seat.table_id ≡ t.table.shared.table_id) × (0 < p.seat.me.0.shares)

  -- it has neither the turn nor the value
  abbrev pub IsFree : Pass V N → Type 0
  IsFree p = (p.seat.me.0.phase ≡ Free) × (p.seat.me.1 ≡ [])

  -- it has all shares, so that it is the only pass
  abbrev pub IsWhole : Pass V N → Type 0
  IsWhole p = p.seat.me.0.shares ≡ p.seat.me.0.all

  -- it names the run r
  abbrev pub Names : Pass V N → N → Type 0
  Names p r = p.seat.me.0.run ≡ Some r

  -- the value names the run that the pass names, and is not below the floor that the pass has seen
  abbrev pub IsValueOf : (V → N) → (V → ℕ) → Pass V N → V → Type 0
  IsValueOf run floor_of p v = Names p (run v) × (p.seat.me.0.seen ≤ floor_of v)

  -- it has the turn, and has seen the floor since; the value is with its holder
  abbrev pub HasTurn : Pass V N → Type 0
  HasTurn p = (p.seat.me.0.phase ≡ Looked) × (p.seat.me.1 ≡ (0, None) ∷ [])

  -- it is the same pass
  abbrev pub IsStill : Pass V N → Pass V N → Type 0
  IsStill old new = (new.seat.table_id ≡ old.seat.table_id) × (new.seat.id ≡ old.seat.id)

  -- the same pass, with this view, and this of the value's slot
  abbrev pub Becomes : Pass V N → Pass V N → Me (Maybe V) (View N) → Type 0
  Becomes old new me = IsStill old new × (new.seat.me ≡ me)

  -- the same pass, which knows what it knew
  abbrev pub IsSame : Pass V N → Pass V N → Type 0
  IsSame old new = Becomes old new old.seat.me

  -- the same pass, which now has the turn and has seen no less
  abbrev pub IsHolder : Pass V N → Pass V N → Type 0
  IsHolder old new = IsStill old new × HasTurn new × (old.seat.me.0.seen ≤ new.seat.me.0.seen)
      × (new.seat.me.0 ≡ record old.seat.me.0 { phase = Looked; seen = new.seat.me.0.seen })

  -- the same pass, which has given the turn back
  abbrev pub IsGiven : Pass V N → Pass V N → Type 0
  IsGiven old new = IsStill old new × IsFree new × (knows new ≡ giving (knows old))
