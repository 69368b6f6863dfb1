use Rattle.xm_board.proofs.Stepped.{at_cycle, can_change, is_done, run_found, stepped}
use Rattle.xm_board.proofs.job.Job.step.Goals as goal

pub part_step-requires-clause-cycle : goal.part_step-requires-clause-cycle
part_step-requires-clause-cycle c =
    let it = c.self.inside in
    let found = run_found c.one_run.ensures it.design.now it.parts.now it.newest c.is_designed.ensures in
    at_cycle it.design.now it.parts.now it.part it.cycle it.newest it.change c.self.invariant found.0 found.1.0 found.1.1

pub change-requires-clause-can : goal.change-requires-clause-can
change-requires-clause-can c =
    let it = c.self.inside in
    let found = run_found c.one_run.ensures it.design.now it.parts.now it.newest c.is_designed.ensures in
    let row = stepped it.design.now it.parts.now it.part it.cycle it.newest it.change c.self.invariant c.choosing_law.ensures _ c.row.result.now c.part_step.ensures.step c.row.ensures found.0 found.1.0 found.1.1 in
    can_change it.design.now it.parts.now it.part it.cycle it.newest it.change c.self.invariant c.change_law.ensures c.fits_hold.ensures c.is_designed.ensures _ found.0 found.1.0 found.1.1 row

pub invariant_of-result : goal.invariant_of-result
invariant_of-result c =
    let it = c.self.inside in
    is_done it.design.now it.parts.now it.part it.cycle it.newest it.change c.self.invariant c.part_step.new.out c.change.new.out c.advance.new.self c.advance.ensures.tape c.advance.ensures.cycle c.advance.ensures.own c.part_step.ensures.roomy c.change.ensures.change
    (stepped it.design.now it.parts.now it.part it.cycle it.newest it.change c.self.invariant c.choosing_law.ensures _ c.row.result.now c.part_step.ensures.step c.row.ensures)
