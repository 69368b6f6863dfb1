-- What the pass of a worker knows once it comes back.
use Rattle.std.specs.Prelude.{◌≡◌, ℕ, IfSome}
use Rattle.xm_turn.specs.declared.rule.View.{View}
use Rattle.xm_turn.specs.declared.turn.Turn.{Turn}
use Rattle.xm_turn.specs.declared.turn.Pass.{Pass}
use Rattle.xm_turn.specs.Passes.{IsPassOf, IsFree, knows}
use Rattle.xm_turn.specs.Views.{IsLater}

-- a free pass of the turn, later than one that knew v
abbrev pub Returns : {V N : Type 0} → Turn V N → View N → Pass V N → Type 0
Returns t v p = IsPassOf t p × IsFree p × IsLater v (knows p)

-- the pass has seen the last cycle of its run
abbrev pub HasSeenTarget : {N : Type 0} → (N → ℕ) → View N → Type 0
HasSeenTarget target v = IfSome v.run (λ r. v.seen ≡ target r)
