use Rattle.std.proofs.Common.{get_or}
use Rattle.xm_board.proofs.Keeping.{lent_at, written}
use Rattle.xm_board.proofs.posting.turn_at.Goals as goal

pub returns : goal.returns
returns c =
    let xs = c.args.far.now.items in let ys = c.as_mut_slice.result.now in let p = c.args.p in
    record {
      was = get_or ys p c.index-as_mut_slice-p.result;
      at = lent_at xs ys p c.index-as_mut_slice-p.result c.as_mut_slice.ensures.value c.requires;
      new_is = rw (← c.turn.ensures) (written xs ys p c.turn.new.it c.as_mut_slice.ensures.value);
    }
