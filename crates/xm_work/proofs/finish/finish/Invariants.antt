use Rattle.std.proofs.Common.{◌≡◌, ◌≤◌}
use Rattle.xm_work.proofs.finish.finish.Given as goal

abbrev pub invariant-loop : goal.invariant-loop
invariant-loop g l =
    (goal.iterator-loop g).can_next l.iterator' × (goal.iterator-loop g).is_finite l.iterator'
    × (g.B.Named.run l.bench ≡ g.B.Named.run l.initial.bench)
    × (g.B.Named.floor_of l.initial.bench ≤ g.B.Named.floor_of l.bench)
