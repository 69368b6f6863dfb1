use Rattle.std.proofs.Common.{◌-◌, vec_len}
use Rattle.xm_work.specs.Counts.{AreCounts}
use Rattle.xm_work.proofs.finish.finish_counts.Given as goal

abbrev pub invariant-loop-counts : goal.invariant-loop-counts
invariant-loop-counts g l =
    AreCounts g.B.Bench.is_of g.B.Bench.cycle_of l.watch.wanted l.watch.cycles (g.B.Named.run l.bench)
    (g.B.Named.floor_of l.bench) l.counts.items

abbrev pub decreases-loop-counts : goal.decreases-loop-counts
decreases-loop-counts g l = l.watch.wanted - vec_len l.counts
