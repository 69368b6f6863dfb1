use Rattle.xm_turn.specs.Passes.{knows}
use Rattle.xm_work.specs.Passes.{Returns}
use Rattle.xm_work.proofs.counts.wait_for_cycle.Given as goal

abbrev pub invariant-loop : goal.invariant-loop
invariant-loop g l =
    (goal.iterator-loop g).can_next l.iterator' × (goal.iterator-loop g).is_finite l.iterator'
    × Returns l.turn (knows l.initial.pass) l.pass
