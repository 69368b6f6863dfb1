use Rattle.std.proofs.Common.{◌≡◌, drop}
use Rattle.xm_search.specs.Inner.Choosing.{any_last}
use Rattle.xm_search.proofs.choosing.end_pick.Given as goal

abbrev pub invariant-loop-on : goal.invariant-loop-on
invariant-loop-on l = any_last l.design l.path ≡ any_last l.design (drop l.on-index l.path)
