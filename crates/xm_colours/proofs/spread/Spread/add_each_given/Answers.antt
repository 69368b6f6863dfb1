use Rattle.std.proofs.Common.{map, ap, ◌∙◌, arith}
use Rattle.xm_colours.proofs.Spreading.{fits_given, given_more, prim_at, prim_within, seeded}
use Rattle.xm_model.specs.Component.{component_of}
use Rattle.xm_colours.proofs.spread.Spread.add_each_given.Goals as goal

pub loop-prim-init : goal.loop-prim-init
loop-prim-init c = record { spread = c.requires; given = λ i m below has it h. absurd (omega arith) }

pub add_given-requires : goal.add_given-requires
add_given-requires c =
    let same = ap (map component_of) c.as_slice-prim-items.ensures ∙ c.prims.ensures.prims in
    fits_given c.args.net.now c.is_net.ensures c.loop-prim.prim-index _ (prim_at c.args.net.now c.as_slice-prim-items.result.now c.loop-prim.prim-index c.prim-item.result same c.loop-prim-test.true c.prim-item.is) _ c.loop-prim.invariant.spread.whole

pub loop-prim-preserved : goal.loop-prim-preserved
loop-prim-preserved c =
    let same = ap (map component_of) c.as_slice-prim-items.ensures ∙ c.prims.ensures.prims in
    let has = prim_at c.args.net.now c.as_slice-prim-items.result.now c.loop-prim.prim-index c.prim-item.result same c.loop-prim-test.true c.prim-item.is in
    record {
      spread = seeded c.args.net.now c.is_net.ensures _ _ _ _ c.loop-prim.invariant.spread c.loop-prim.prim-index _ has c.in_ok-add_given.ensures;
      given = given_more c.args.net.now c.is_net.ensures _ _ _ _ c.loop-prim.invariant.spread c.loop-prim.prim-index _ has c.in_ok-add_given.ensures c.loop-prim.invariant.given;
    }

pub returns-clause-given : goal.returns-clause-given
returns-clause-given c i m below has it h =
    let same = ap (map component_of) c.as_slice-prim-items.ensures ∙ c.prims.ensures.prims in
    c.loop-prim.invariant.given i m (prim_within c.args.net.now c.as_slice-prim-items.result.now c.loop-prim.prim-index i same c.loop-prim-test.false below) has it h
