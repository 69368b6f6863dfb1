use Rattle.std.proofs.Common.{◌+◌, ◌≤◌, List, length, get_or, slice_get, ap, sym, ◌∙◌, subst}
use Rattle.std.proofs.lemmas.Result.{on_ok_weaker}
use Rattle.xm_board.proofs.Keeping.{is_at, lent_at, written}
use Rattle.xm_model.specs.ListView.{ListView}
use Rattle.xm_trace.specs.declared.trace.Move.{Move}
use Rattle.xm_board.proofs.taking.make_move_room.Goals as goal

pub returns-clause-same : goal.returns-clause-same
returns-clause-same c =
    let xs = c.args.moves.now.items in let ys = c.as_mut_slice.result.now in let p = c.args.p in
    record {
      was = get_or ys p c.index-as_mut_slice-p.result;
      moves = c.reserve.new.self;
      at = lent_at xs ys p c.index-as_mut_slice-p.result c.as_mut_slice.ensures.value c.requires;
      items = c.reserve.ensures.items;
      room = c.reserve.ensures.grows;
      new_is = written xs ys p c.reserve.new.self c.as_mut_slice.ensures.value;
    }

pub returns-clause-room : goal.returns-clause-room
returns-clause-room c =
    let xs = c.args.moves.now.items in let ys = c.as_mut_slice.result.now in let p = c.args.p in
    let new = written xs ys p c.reserve.new.self c.as_mut_slice.ensures.value in
    on_ok_weaker c.reserve.result (λ more ms at. subst (λ (l : ListView Move). length l.items + c.args.more ≤ l.room) (is_at xs p c.reserve.new.self ms c.requires (ap (λ (l : List (ListView Move)). slice_get l p) (sym new) ∙ at)) more) c.reserve.ensures.ok
