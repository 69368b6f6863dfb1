use Rattle.std.proofs.Common.{◌<◌, take, All}
use Rattle.xm_colours.specs.Family.{Rises}
use Rattle.xm_elim.proofs.rising.is_rising.Given as goal

abbrev pub invariant-loop-p : goal.invariant-loop-p
invariant-loop-p l = record { rise : Rises (take l.p-index l.places); low : All (λ q. q < l.lowest) (take l.p-index l.places) }
