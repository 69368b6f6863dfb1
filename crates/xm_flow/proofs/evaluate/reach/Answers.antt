use Rattle.std.proofs.Common.{◌<◌, length, ap, refl, arith}
use Rattle.xm_model.specs.Net.{Network}
use Rattle.xm_flow.proofs.Reaching.{reached_more}
use Rattle.xm_flow.proofs.Wholes.{same_length}
use Rattle.xm_flow.proofs.Wiring.{there}
use Rattle.xm_flow.proofs.evaluate.reach.Goals as goal

pub loop-p-preserved : goal.loop-p-preserved
loop-p-preserved c =
    let len = same_length _ _ _ c.prims.ensures.prims (ap (λ (n : Network). n.prims) c.net-net.ensures.net) in
    let inside : c.loop-p.p < length c.args.design.now.net.prims = omega (arith, c.loop-p-test.true, c.len-p-end.ensures, len) in
    let has = there _ _ c.loop-p.p _ _ c.prim.ensures c.net-net.ensures.net refl in
    record {
      reached = reached_more c.args.design.now c.loop-p.p c.loop-p.below c.pairs_at-here.result _ c.loop-p.invariant.reached inside has c.pairs_at-here.ensures.number c.pairs_at-here.ensures.few;
      low = omega (arith, c.if-j-below.false);
    }
