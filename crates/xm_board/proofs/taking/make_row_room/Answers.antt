use Rattle.std.proofs.Common.{◌<◌, List, length, get_or, slice_get, ap, sym, ◌∙◌, subst}
use Rattle.std.proofs.lemmas.Result.{on_ok_weaker}
use Rattle.xm_board.proofs.Keeping.{is_at, lent_at, written}
use Rattle.xm_board.specs.declared.row_log.RowLog.{RowLog}
use Rattle.xm_board.proofs.taking.make_row_room.Goals as goal

pub returns-clause-same : goal.returns-clause-same
returns-clause-same c =
    let xs = c.args.logs.now.items in let ys = c.as_mut_slice.result.now in let p = c.args.p in
    record {
      was = get_or ys p c.index-as_mut_slice-p.result;
      log = c.make_room.new.self;
      at = lent_at xs ys p c.index-as_mut_slice-p.result c.as_mut_slice.ensures.value c.requires;
      base = c.make_room.ensures.base;
      changes = c.make_room.ensures.changes;
      room = c.make_room.ensures.room;
      new_is = written xs ys p c.make_room.new.self c.as_mut_slice.ensures.value;
    }

pub returns-clause-room : goal.returns-clause-room
returns-clause-room c =
    let xs = c.args.logs.now.items in let ys = c.as_mut_slice.result.now in let p = c.args.p in
    let new = written xs ys p c.make_room.new.self c.as_mut_slice.ensures.value in
    on_ok_weaker c.make_room.result (λ more log at. subst (λ (l : RowLog). length l.changes.items < l.changes.room) (is_at xs p c.make_room.new.self log c.requires (ap (λ (l : List RowLog). slice_get l p) (sym new) ∙ at)) more) c.make_room.ensures.ok
