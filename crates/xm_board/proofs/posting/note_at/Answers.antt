use Rattle.std.proofs.Common.{get_or}
use Rattle.xm_board.proofs.Keeping.{lent_at, written}
use Rattle.xm_board.proofs.posting.note_at.Goals as goal

pub returns : goal.returns
returns c =
    let xs = c.args.moves.now.items in let ys = c.as_mut_slice.result.now in let p = c.args.p in
    record {
      was = get_or ys p c.index-as_mut_slice-p.result;
      moves = c.note_moves.new.moves;
      at = lent_at xs ys p c.index-as_mut_slice-p.result c.as_mut_slice.ensures.value c.requires.part;
      items = c.note_moves.ensures.items;
      room = c.note_moves.ensures.room;
      new_is = written xs ys p c.note_moves.new.moves c.as_mut_slice.ensures.value;
    }
