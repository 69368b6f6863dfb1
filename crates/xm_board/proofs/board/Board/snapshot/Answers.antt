use Rattle.std.proofs.Common.{List, length, ap, sym, subst, ◌∙◌}
use Rattle.xm_board.proofs.Snapping.{fit_rows, snap_cells, snap_channels, snap_floor, snap_holds}
use Rattle.xm_board.specs.Inner.Gluing.{HaveFitRows}
use Rattle.xm_board.specs.declared.row_log.RowLog.{RowLog}
use Rattle.xm_parts.specs.Kept.{label_at}
use Rattle.xm_board.proofs.board.Board.snapshot.Goals as goal

pub glued-requires-clause-design : goal.glued-requires-clause-design
glued-requires-clause-design c = c.self.invariant.set_up.design_is

pub glued-requires-clause-whole : goal.glued-requires-clause-whole
glued-requires-clause-whole c = ap length c.as_slice-logs.ensures ∙ (c.self.invariant.logs_are.whole ∙ c.self.invariant.set_up.count)

pub glued-requires-clause-fit : goal.glued-requires-clause-fit
glued-requires-clause-fit c =
    let b = c.self.inside in
    subst (λ (l : List RowLog). HaveFitRows b.design.now.net (label_at b.parts.now.labels) l) (sym c.as_slice-logs.ensures)
    (fit_rows b.design.now b.tape.now b.parts.now b.core b.floor b.logs.items b.moves.items b.far.items b.newest.items c.self.invariant c.one_run.ensures c.fits_hold.ensures c.fit_law.ensures c.is_designed.ensures c.is_core.ensures)

pub returns-clause-floor : goal.returns-clause-floor
returns-clause-floor c = snap_floor c.self.inside.design.now c.self.inside.tape.now c.self.inside.parts.now c.self.inside.core c.self.inside.floor c.self.inside.logs.items c.self.inside.moves.items c.self.inside.far.items c.self.inside.newest.items c.self.invariant c.args.self.now c.self.view_is _ c.glued.ensures.cycle

pub returns-clause-cells : goal.returns-clause-cells
returns-clause-cells c = snap_cells c.self.inside.design.now c.self.inside.tape.now c.self.inside.parts.now c.self.inside.core c.args.self.now c.self.view_is _ c.glued.ensures.cells

pub returns-clause-channels : goal.returns-clause-channels
returns-clause-channels c = snap_channels c.self.inside.design.now c.self.inside.tape.now c.self.inside.parts.now c.self.inside.core c.args.self.now c.self.view_is _ c.glued.ensures.channels

pub returns-clause-holds : goal.returns-clause-holds
returns-clause-holds c =
    let b = c.self.inside in
    snap_holds b.design.now b.tape.now b.parts.now b.core b.floor b.logs.items b.moves.items b.far.items b.newest.items c.self.invariant c.args.self.now c.self.view_is c.as_slice-logs.result.now c.as_slice-logs.ensures _ c.glued.ensures.cycle c.glued.ensures.holds
