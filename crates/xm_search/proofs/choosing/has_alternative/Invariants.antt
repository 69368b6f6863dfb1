use Rattle.std.proofs.Common.{◌≡◌, drop}
use Rattle.xm_lits.specs.Inference.{alternatives_of}
use Rattle.xm_search.specs.Trees.{has_alternative}
use Rattle.xm_search.proofs.choosing.has_alternative.Given as goal

abbrev pub invariant-loop-alternative : goal.invariant-loop-alternative
invariant-loop-alternative l =
    has_alternative l.path (alternatives_of l.alternatives) ≡ has_alternative l.path (alternatives_of (drop l.alternative-index l.alternatives))
