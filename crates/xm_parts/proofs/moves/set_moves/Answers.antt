use Rattle.std.proofs.Common.{arith}
use Rattle.std.proofs.lemmas.Option.{slice_get_within}
use Rattle.xm_parts.proofs.FarMoving.{set_from}
use Rattle.xm_parts.specs.Kept.{AreCutsOf, label_at}
use Rattle.xm_parts.proofs.moves.set_moves.Goals as goal

pub returns : goal.returns
returns c =
    let net = c.args.parts.now.design.net in let label = label_at c.args.parts.now.labels in
    let are : AreCutsOf net label c.args.p c.as_slice-cuts.result.now = rw c.as_slice-cuts.ensures c.part.ensures.cuts in
    set_from net c.count-count.ensures.designed.net label c.args.p c.as_slice-cuts.result.now are c.args.q c.args.wires.now c.args.moves.now c.loop-k.moves c.loop-k.auto.moves
    (λ k cut at same. c.loop-k.invariant.set k cut (let h = slice_get_within c.as_slice-cuts.result.now k cut at in let e = c.loop-k-test.false in omega arith) at same)
    c.loop-k.invariant.rest
