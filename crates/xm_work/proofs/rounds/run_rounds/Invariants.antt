use Rattle.std.proofs.Common.{◌≡◌}
use Rattle.xm_work.specs.Counts.{AreCounts}
use Rattle.xm_work.proofs.Underway.{IsUnderway}
use Rattle.xm_work.proofs.rounds.run_rounds.Given as goal

abbrev pub invariant-loop : goal.invariant-loop
invariant-loop g l =
    (goal.iterator-loop g).can_next l.iterator' × (goal.iterator-loop g).is_finite l.iterator'
    × IsUnderway g.B.Rounds.has_lines (g.B.Rounds.whole (g.B.Named.run l.initial.bench))
    (g.B.Rounds.whole (g.B.Named.run l.bench)) l.cycles l.last (g.B.Bench.target (g.B.Named.run l.bench))
    (g.B.Rounds.next_line (g.B.Named.run l.bench)) (g.K.Sink.held l.initial.out) (g.K.Sink.held l.out)
    × AreCounts g.B.Bench.is_of g.B.Bench.cycle_of l.wanted l.cycles (g.B.Named.run l.bench)
    (g.B.Named.floor_of l.bench) l.counts.items
    × (g.K.Sink.faults l.out ≡ g.K.Sink.faults l.initial.out)
