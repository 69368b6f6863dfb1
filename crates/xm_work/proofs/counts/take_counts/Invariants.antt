use Rattle.xm_turn.specs.Passes.{knows}
use Rattle.xm_work.specs.Passes.{Returns}
use Rattle.xm_work.specs.Inner.Counting.{AreCountsOf}
use Rattle.xm_work.proofs.counts.take_counts.Given as goal

abbrev pub invariant-loop : goal.invariant-loop
invariant-loop g l =
    (goal.iterator-loop g).can_next l.iterator' × (goal.iterator-loop g).is_finite l.iterator'
    × Returns l.turn (knows l.initial.pass) l.pass
    × AreCountsOf g.B.Bench.is_of g.B.Bench.cycle_of l.watch.wanted l.watch.cycles (knows l.initial.pass)
    (knows l.pass).seen l.counts.items
