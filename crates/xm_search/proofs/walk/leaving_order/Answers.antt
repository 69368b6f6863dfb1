use Rattle.std.proofs.Common.{arith}
use Rattle.xm_search.proofs.Steps.{part_all, part_more}
use Rattle.xm_search.specs.GoalOrder.{onward}
use Rattle.xm_search.proofs.walk.leaving_order.Goals as goal

pub loop-c-preserved : goal.loop-c-preserved
loop-c-preserved c =
    let part = c.loop-c.invariant.part in
    let within = c.loop-c-test.true in
    let all = c.channels-channels.ensures.value in
    record {
      over = c.in_ok-walk.ensures.over;
      path = c.in_ok-walk.ensures.path;
      part = part_more (onward c.args.net.now) c.args.net.now.channels c.loop-c.c c.loop-c.walk c.in_ok-walk.walk (omega (arith, within, all)) part
          (c.in_ok-walk.ensures.walked part.seen part.marks);
    }

pub returns : goal.returns
returns c =
    let past = c.loop-c-test.false in
    let all = c.channels-channels.ensures.value in
    part_all (onward c.args.net.now) c.args.net.now.channels c.loop-c.c c.loop-c.walk (omega (arith, past, all)) c.loop-c.invariant.part
