use Rattle.std.proofs.Common.{◌≡◌, ℕ, ◌<◌, true}
use Rattle.xm_order.specs.declared.signal.Signal.TheVariants as signal
use Rattle.xm_persist.specs.Inner.Persistencies.{granted_in}
use Rattle.xm_persist.proofs.persistent.first_not_granted.Given as goal

abbrev pub invariant-loop-c : goal.invariant-loop-c
invariant-loop-c l = (e : ℕ) → e < l.c → granted_in l.found (signal.Offer e) ≡ true
