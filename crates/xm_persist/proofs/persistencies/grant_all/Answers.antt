use Rattle.std.proofs.Common.{arith}
use Rattle.std.proofs.lemmas.Option.{slice_get-get_or}
use Rattle.xm_persist.proofs.Granting.{exact_more}
use Rattle.xm_persist.specs.Inner.Persistencies.{granted_in}
use Rattle.xm_persist.proofs.persistencies.grant_all.Goals as goal

pub grant-requires-clause-channel : goal.grant-requires-clause-channel
grant-requires-clause-channel c = c.requires.order.within c.loop-k.k _ (slice_get-get_or c.args.order.now c.loop-k.k _ c.loop-k-test.true)

pub loop-k-init : goal.loop-k-init
loop-k-init c = λ k σ h at. absurd (omega arith)

pub loop-k-preserved : goal.loop-k-preserved
loop-k-preserved c =
    exact_more c.args.net.now c.is_net.ensures c.args.order.now c.requires.order (granted_in c.loop-k.found) (granted_in c.grant.new.found) c.loop-k.k _
    (slice_get-get_or c.args.order.now c.loop-k.k _ c.loop-k-test.true) c.loop-k.invariant c.grant.ensures.made c.grant.ensures.only

pub returns : goal.returns
returns c = λ k σ h at. c.loop-k.invariant k σ (omega (arith, h, c.loop-k-test.false)) at
