use Rattle.std.proofs.Common.{IfOk, subst}
use Rattle.xm_board.specs.Run.{RunName}
use Rattle.xm_work.proofs.Telling.{snapped}
use Rattle.xm_work.specs.Simulating.{IsSnapshotOf, Simulating, is_snapshot_of}
use Rattle.xm_work.proofs.simulation.SimulationBench.snapshot.Goals as goal

pub returns-clause-is : goal.returns-clause-is
returns-clause-is c =
    let taken = c.snapshot.ensures in
    subst (λ (v : Simulating). IfOk c.snapshot.result (λ it. is_snapshot_of v.whole it)) c.self.view_is
    (subst (λ (run : RunName). IfOk c.snapshot.result (λ it. IsSnapshotOf run.net run.tape it)) c.self.invariant.run
    (snapped c.self.inside.board.run c.snapshot.result taken.cells taken.channels taken.holds))
