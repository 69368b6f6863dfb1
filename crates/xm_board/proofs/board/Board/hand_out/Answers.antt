use Rattle.std.proofs.Common.{◌≡◌, ◌<◌, ◌^◌, ℕ, ◌+◌, List, Some, length, slice_get, ap, sym, subst, ◌∙◌, refl, arith}
use Rattle.std.proofs.lemmas.Option.{slice_get_read}
use Rattle.xm_board.proofs.Handing.{board_moves, board_newest, board_rows, board_taken, job_taken, last_row, log_rows, passing_few}
use Rattle.xm_board.specs.Core.{IsReady}
use Rattle.xm_board.specs.Inner.Jobs.{IsNewest, run_in}
use Rattle.xm_board.specs.Inner.Taking.{HasMoveRoom}
use Rattle.xm_board.specs.Run.{Boarded, row_at}
use Rattle.xm_tape.specs.Taped.{chosen, cycles_of, rows_of}
use Rattle.xm_board.specs.declared.row_log.RowLog.{RowLog}
use Rattle.xm_board.specs.declared.two_cycles.TwoCycles.{TwoCycles}
use Rattle.xm_design.specs.Designed.{Designed}
use Rattle.xm_parts.specs.Kept.{label_at}
use Rattle.xm_parts.specs.Partition.{channels_in, lies_in}
use Rattle.xm_board.proofs.board.Board.hand_out.Goals as goal

pub overflow_cast-room : goal.overflow_cast-room
overflow_cast-room c =
    let b = c.self.inside in
    let channels = ap length c.channels.ensures in
    let few = passing_few (lies_in (label_at b.parts.now.labels) c.args.p) b.parts.now.design.net.channels in
    let limit = c.is_designed.ensures.net.limits.channels in
    let same : b.parts.now.design.net.channels ≡ b.design.now.net.channels = ap (λ (d : Designed). d.net.channels) c.self.invariant.set_up.design_is in
    omega arith

pub invariant_of-self : goal.invariant_of-self
invariant_of-self c =
    let b = c.self.inside in
    board_rows b.design.now b.tape.now b.parts.now b.core b.floor b.logs.items b.moves.items b.far.items b.newest.items c.args.p c.self.invariant c.make_row_room.new.logs.items c.make_row_room.ensures.same

pub invariant_of-self-in_err-make_move_room : goal.invariant_of-self-in_err-make_move_room
invariant_of-self-in_err-make_move_room c =
    let b = c.self.inside in
    board_moves b.design.now b.tape.now b.parts.now b.core b.floor b.logs.items b.moves.items b.far.items b.newest.items c.args.p c.self.invariant c.make_row_room.new.logs.items c.make_move_room.new.moves.items c.make_row_room.ensures.same c.make_move_room.ensures.same

pub invariant_of-self-in_err-change : goal.invariant_of-self-in_err-change
invariant_of-self-in_err-change c =
    let b = c.self.inside in
    board_moves b.design.now b.tape.now b.parts.now b.core b.floor b.logs.items b.moves.items b.far.items b.newest.items c.args.p c.self.invariant c.make_row_room.new.logs.items c.make_move_room.new.moves.items c.make_row_room.ensures.same c.make_move_room.ensures.same

pub take_newest-requires-clause-log : goal.take_newest-requires-clause-log
take_newest-requires-clause-log c =
    let b = c.self.inside in
    let ready = subst (λ (d : Boarded). IsReady d.core c.args.p) (sym c.self.view_is) (record { part = c.requires.part; inside = c.requires.inside; early = c.requires.early; last = c.requires.last }) in
    let mid = board_moves b.design.now b.tape.now b.parts.now b.core b.floor b.logs.items b.moves.items b.far.items b.newest.items c.args.p c.self.invariant c.make_row_room.new.logs.items c.make_move_room.new.moves.items c.make_row_room.ensures.same c.make_move_room.ensures.same in
    let logs = c.make_row_room.new.logs.items in
    let log = c.index-as_slice-p.result in
    let inside : c.args.p < length c.as_slice.result.now = (let w = mid.logs_are.whole in let e = ap length c.as_slice.ensures in let part = ready.part in omega arith) in
    let at : slice_get logs c.args.p ≡ Some log = ap (λ (l : List RowLog). slice_get l c.args.p) (sym c.as_slice.ensures) ∙ slice_get_read c.as_slice.result.now (length c.as_slice.result.now) c.args.p log refl inside c.index-as_slice-p.is in
    let found = (c.one_run.ensures b.design.now.net b.design.now.order (cycles_of b.tape.now) (chosen b.design.now.net.prims (rows_of b.tape.now)) c.is_designed.ensures.net c.is_designed.ensures.order).0 in
    (λ k. row_at (run_in b.design.now b.parts.now b.tape.now) found.0 found.1.0 c.args.p (b.floor + k), log_rows b.design.now b.tape.now b.parts.now b.core b.floor logs c.make_move_room.new.moves.items b.far.items b.newest.items c.args.p mid log at found.0 found.1.0 found.1.1)

pub take_newest-requires-clause-fits : goal.take_newest-requires-clause-fits
take_newest-requires-clause-fits c it at =
    let b = c.self.inside in
    subst (λ (k : ℕ). IsNewest (run_in b.design.now b.parts.now b.tape.now) c.args.p k it) (sym c.cycle-cycle.ensures) (c.self.invariant.newest_are.fit c.args.p it at)

pub invariant_of-self-in_err-newest : goal.invariant_of-self-in_err-newest
invariant_of-self-in_err-newest c =
    let b = c.self.inside in
    let ready = subst (λ (d : Boarded). IsReady d.core c.args.p) (sym c.self.view_is) (record { part = c.requires.part; inside = c.requires.inside; early = c.requires.early; last = c.requires.last }) in
    board_newest b.design.now b.tape.now b.parts.now b.core b.floor b.logs.items b.moves.items b.far.items b.newest.items c.args.p c.self.invariant c.make_row_room.new.logs.items c.make_move_room.new.moves.items c.take_newest.new.all.items ready.part c.make_row_room.ensures.same c.make_move_room.ensures.same c.take_newest.ensures.left

pub put-requires : goal.put-requires
put-requires c =
    let b = c.self.inside in
    let ready = subst (λ (d : Boarded). IsReady d.core c.args.p) (sym c.self.view_is) (record { part = c.requires.part; inside = c.requires.inside; early = c.requires.early; last = c.requires.last }) in
    let around = c.index-as_slice-p-2.result in
    let far_inside : c.args.p < length c.as_slice-2.result.now = (let w = c.self.invariant.far_are.whole in let e = ap length c.as_slice-2.ensures in let part = ready.part in omega arith) in
    let around_at : slice_get b.far.items c.args.p ≡ Some around = ap (λ (l : List TwoCycles). slice_get l c.args.p) (sym c.as_slice-2.ensures) ∙ slice_get_read c.as_slice-2.result.now (length c.as_slice-2.result.now) c.args.p around refl far_inside c.index-as_slice-p-2.is in
    c.in_ok-newest.ensures.fits.far ∙ sym (c.self.invariant.far_are.now_whole c.args.p around around_at)

pub invariant_of-result : goal.invariant_of-result
invariant_of-result c =
    let b = c.self.inside in
    let ready = subst (λ (d : Boarded). IsReady d.core c.args.p) (sym c.self.view_is) (record { part = c.requires.part; inside = c.requires.inside; early = c.requires.early; last = c.requires.last }) in
    let mid = board_moves b.design.now b.tape.now b.parts.now b.core b.floor b.logs.items b.moves.items b.far.items b.newest.items c.args.p c.self.invariant c.make_row_room.new.logs.items c.make_move_room.new.moves.items c.make_row_room.ensures.same c.make_move_room.ensures.same in
    let logs = c.make_row_room.new.logs.items in
    let log = c.index-as_slice-p.result in
    let inside : c.args.p < length c.as_slice.result.now = (let w = mid.logs_are.whole in let e = ap length c.as_slice.ensures in let part = ready.part in omega arith) in
    let at : slice_get logs c.args.p ≡ Some log = ap (λ (l : List RowLog). slice_get l c.args.p) (sym c.as_slice.ensures) ∙ slice_get_read c.as_slice.result.now (length c.as_slice.result.now) c.args.p log refl inside c.index-as_slice-p.is in
    let around = c.index-as_slice-p-2.result in
    let far_inside : c.args.p < length c.as_slice-2.result.now = (let w = c.self.invariant.far_are.whole in let e = ap length c.as_slice-2.ensures in let part = ready.part in omega arith) in
    let around_at : slice_get b.far.items c.args.p ≡ Some around = ap (λ (l : List TwoCycles). slice_get l c.args.p) (sym c.as_slice-2.ensures) ∙ slice_get_read c.as_slice-2.result.now (length c.as_slice-2.result.now) c.args.p around refl far_inside c.index-as_slice-p-2.is in
    let run = run_in b.design.now b.parts.now b.tape.now in
    let part : c.args.p < b.parts.now.count = (let e = c.self.invariant.set_up.count in let h = ready.part in omega arith) in
    let few : cycles_of b.tape.now < 2 ^ 32 = (let n = c.cycles-cycles.ensures.number in let r = c.cycles-cycles.type_inv in omega arith) in
    let last = last_row b.design.now b.tape.now b.parts.now b.core b.floor logs c.make_move_room.new.moves.items b.far.items b.newest.items c.args.p mid log at in
    let t : b.floor + length log.changes.items ≡ c.cycle-cycle.result = last ∙ sym c.cycle-cycle.ensures in
    job_taken b.design.now b.tape.now b.parts.now b.core b.floor b.logs.items b.moves.items b.far.items b.newest.items c.args.p c.self.invariant c.far_law.ensures ready part few c.cycle-cycle.result c.in_ok-newest.newest around c.put.new.self c.in_ok-change.change c.cycle-cycle.ensures around_at c.put.ensures c.in_ok-newest.ensures.fits
    (λ s φ named. c.in_ok-newest.ensures.row (λ k. row_at run s φ c.args.p (b.floor + k)) (log_rows b.design.now b.tape.now b.parts.now b.core b.floor logs c.make_move_room.new.moves.items b.far.items b.newest.items c.args.p mid log at s φ named)
    (λ it there. c.self.invariant.newest_are.of c.args.p it there s φ named ∙ ap (row_at run s φ c.args.p) (sym last)) ∙ ap (row_at run s φ c.args.p) t)
    (record { cells = c.in_ok-change.ensures.cells; wires = c.in_ok-change.ensures.wires })

pub invariant_of-self-2 : goal.invariant_of-self-2
invariant_of-self-2 c =
    let b = c.self.inside in
    let ready = subst (λ (d : Boarded). IsReady d.core c.args.p) (sym c.self.view_is) (record { part = c.requires.part; inside = c.requires.inside; early = c.requires.early; last = c.requires.last }) in
    let end = board_newest b.design.now b.tape.now b.parts.now b.core b.floor b.logs.items b.moves.items b.far.items b.newest.items c.args.p c.self.invariant c.make_row_room.new.logs.items c.make_move_room.new.moves.items c.take_newest.new.all.items ready.part c.make_row_room.ensures.same c.make_move_room.ensures.same c.take_newest.ensures.left in
    let channels : c.channels.result.now ≡ channels_in b.design.now.net (label_at b.parts.now.labels) c.args.p = c.channels.ensures ∙ ap (λ (d : Designed). channels_in d.net (label_at b.parts.now.labels) c.args.p) c.self.invariant.set_up.design_is in
    board_taken b.design.now b.tape.now b.parts.now b.core b.floor c.make_row_room.new.logs.items c.make_move_room.new.moves.items b.far.items c.take_newest.new.all.items c.args.p end c.is_core.ensures ready.part c.take.new.self c.take.ensures c.in_ok-make_row_room.ensures.room
    (subst (λ (cs : List ℕ). HasMoveRoom c.args.p (length cs) c.make_move_room.new.moves.items) channels c.in_ok-make_move_room.ensures.room)
