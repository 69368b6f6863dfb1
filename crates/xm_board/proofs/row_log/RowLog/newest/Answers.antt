use Rattle.std.proofs.Common.{◌≡◌, length, refl, ap, sym, ◌∙◌, Some, slice_get, List, suc, arith}
use Rattle.std.proofs.lemmas.Option.{slice_get_read}
use Rattle.xm_board.proofs.Logging.{change_here, next_here, rooms_here}
use Rattle.xm_parts.specs.declared.changes.Change.{Change}
use Rattle.xm_board.proofs.row_log.RowLog.newest.Goals as goal

pub copy-requires : goal.copy-requires
copy-requires c = record { fits = (c.requires.0, (c.requires.1.0, c.requires.1.1.1.roomy.fits)) }

pub loop-change-init : goal.loop-change-init
loop-change-init c label p rows is = (c.in_ok-row.ensures.row ∙ is.of.base, c.in_ok-row.ensures.roomy label p is.roomy)

pub apply-requires-clause-change : goal.apply-requires-clause-change
apply-requires-clause-change c =
    let net = c.args.design.now.net in let label = c.requires.0 in let p = c.requires.1.0 in let rows = c.requires.1.1.0 in let is = c.requires.1.1.1 in
    let log = c.args.self.now in let k = c.loop-change.change-index in let it = c.change-item.result in
    let there = slice_get_read c.as_slice-change-items.result.now (length c.as_slice-change-items.result.now) k it refl c.loop-change-test.true c.change-item.is in
    let at : slice_get log.changes.items k ≡ Some it = ap (λ (xs : List Change). slice_get xs k) (sym c.as_slice-change-items.ensures) ∙ there in
    (rows (suc k), change_here net label p rows log k it c.loop-change.row is at (c.loop-change.invariant label p rows is))

pub apply-requires-clause-rooms : goal.apply-requires-clause-rooms
apply-requires-clause-rooms c =
    let net = c.args.design.now.net in let label = c.requires.0 in let p = c.requires.1.0 in let rows = c.requires.1.1.0 in let is = c.requires.1.1.1 in
    let log = c.args.self.now in let k = c.loop-change.change-index in let it = c.change-item.result in
    let there = slice_get_read c.as_slice-change-items.result.now (length c.as_slice-change-items.result.now) k it refl c.loop-change-test.true c.change-item.is in
    let at : slice_get log.changes.items k ≡ Some it = ap (λ (xs : List Change). slice_get xs k) (sym c.as_slice-change-items.ensures) ∙ there in
    rooms_here net label p rows log k it c.loop-change.row is at (c.loop-change.invariant label p rows is) c.room_law.ensures

pub loop-change-preserved : goal.loop-change-preserved
loop-change-preserved c label p rows is =
    let net = c.args.design.now.net in
    let log = c.args.self.now in let k = c.loop-change.change-index in let it = c.change-item.result in
    let there = slice_get_read c.as_slice-change-items.result.now (length c.as_slice-change-items.result.now) k it refl c.loop-change-test.true c.change-item.is in
    let at : slice_get log.changes.items k ≡ Some it = ap (λ (xs : List Change). slice_get xs k) (sym c.as_slice-change-items.ensures) ∙ there in
    next_here net label p rows log k it c.loop-change.row is at (c.loop-change.invariant label p rows is) c.apply.new.row c.apply.ensures.row c.apply.ensures.roomy

pub returns : goal.returns
returns c label p rows is =
    let so_far = c.loop-change.invariant label p rows is in
    let end : c.loop-change.change-index ≡ length c.args.self.now.changes.items = (let e = ap length c.as_slice-change-items.ensures in omega arith) in
    (so_far.0 ∙ ap rows end, so_far.1)
