use Rattle.std.proofs.Common.{◌≡◌, drop, map}
use Rattle.xm_lits.specs.Inference.{inference_of}
use Rattle.xm_search.specs.Inner.Choosing.{some_last}
use Rattle.xm_search.proofs.choosing.end_place.Given as goal

abbrev pub invariant-loop-k : goal.invariant-loop-k
invariant-loop-k l = some_last (map inference_of l.rules) ≡ some_last (map inference_of (drop l.k l.rules))
