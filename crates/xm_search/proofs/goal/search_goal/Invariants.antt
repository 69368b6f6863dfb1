use Rattle.std.proofs.Common.{◌+◌, ◌-◌, length}
use Rattle.xm_search.specs.Inner.Ground.{lemmas_of}
use Rattle.xm_search.specs.Inner.Growing.{IsUnderWay}
use Rattle.xm_search.proofs.goal.search_goal.Given as goal

abbrev pub invariant-loop-alloc : goal.invariant-loop-alloc
invariant-loop-alloc l = record { grown : IsUnderWay l.design (lemmas_of l.ground) l.before l.goal l.budget l.growth }

abbrev pub decreases-loop-alloc : goal.decreases-loop-alloc
decreases-loop-alloc l = l.budget + 1 - length l.growth.done.items
