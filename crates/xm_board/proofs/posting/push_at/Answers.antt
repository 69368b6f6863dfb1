use Rattle.std.proofs.Common.{get_or}
use Rattle.xm_board.proofs.Keeping.{lent_at, written}
use Rattle.xm_board.proofs.posting.push_at.Goals as goal

pub returns : goal.returns
returns c =
    let xs = c.args.logs.now.items in let ys = c.as_mut_slice.result.now in let p = c.args.p in
    record {
      was = get_or ys p c.index-as_mut_slice-p.result;
      log = c.push.new.self;
      at = lent_at xs ys p c.index-as_mut_slice-p.result c.as_mut_slice.ensures.value c.requires.part;
      pushed = record { base = c.push.ensures.base; changes = c.push.ensures.changes; room = c.push.ensures.room };
      new_is = written xs ys p c.push.new.self c.as_mut_slice.ensures.value;
    }
