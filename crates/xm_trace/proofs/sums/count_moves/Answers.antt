use Rattle.std.proofs.Common.{arith, take}
use Rattle.std.proofs.lemmas.List.{length-take}
use Rattle.xm_trace.proofs.Counting.{no_move, sum_few, sum_more}
use Rattle.xm_trace.proofs.sums.count_moves.Goals as goal

pub count_move-requires-clause-room : goal.count_move-requires-clause-room
count_move-requires-clause-room c k d below within =
    let so_far = c.loop-it.invariant k d below within in
    let before = c.requires.room k d below within in
    let few = sum_few (take c.loop-it.it-index c.args.moves.now) k d in
    let len = length-take c.loop-it.it-index c.args.moves.now in
    omega arith

pub loop-it-preserved : goal.loop-it-preserved
loop-it-preserved c k d below within =
    sum_more c.args.moves.now c.loop-it.it-index k d no_move _ _ _ c.loop-it-test.true (c.count_move.ensures k d below within) (c.loop-it.invariant k d below within)
