-- What clauses say of the answer of a try, and of the value that a holder lends.
use Rattle.std.specs.Borrow.{Fml, MutBor, RattleType, Lends}
use Rattle.xm_turn.specs.declared.turn.Pass.{Pass}
use Rattle.xm_turn.specs.declared.turn.Held as held
use Rattle.xm_turn.specs.declared.turn.TryTake.{TryTake}
use Rattle.xm_turn.specs.declared.turn.TryTake.TheVariants.{Held, Busy}
use Rattle.xm_turn.specs.contracts.turn.Held as held_contract

module _ {V N : Type 0} where
  -- where the pass has the turn, this holds of it
  abbrev pub IfHeld : TryTake V N → (held.Held V N → Type 0) → Type 0
  IfHeld (Held h) P = P h
  IfHeld (Busy p) P = Unit {0}

  -- where another pass has the turn, this holds of the pass that is handed back
  abbrev pub IfBusy : TryTake V N → (Pass V N → Type 0) → Type 0
  IfBusy (Held h) P = Unit {0}
  IfBusy (Busy p) P = P p

  -- the turn with another value
  abbrev pub with_value : held.Held V N → V → held.Held V N
  with_value h v = record h { value = v }

-- what is written through r is the value that the holder then has
abbrev pub LendsValue : (T T' : RattleType) → MutBor (held.Held T.Denot T'.Denot) → MutBor T.Denot → Fml
LendsValue T T' h r = Lends (held_contract.the_row T T') T h r (with_value h.now)
