use Rattle.std.proofs.Common.{◌∙◌}
use Rattle.xm_model.specs.Naming.{naming_of}
use Rattle.xm_report.proofs.Holding.{line_of_state}
use Rattle.xm_report.proofs.snap.snap_text.Goals as goal

pub returns : goal.returns
returns c = λ s holds.
    line_of_state (naming_of c.args.names.now) c.args.design.now c.args.cycle c.args.state.now.cells.items s holds c.as_slice.result.now c.as_slice-2.result.now c.new-text.result.items _ (c.as_slice.ensures ∙ c.in_ok-pairs.ensures) c.as_slice-2.ensures c.new-text.ensures.items c.in_ok-push_snapshot.ensures
