use Rattle.std.proofs.Common.{◌≡◌, IsTrue, rules, subst}
use Rattle.std.proofs.lemmas.List.{take_all}
use Rattle.std.proofs.lemmas.List.Elements.{All-map, All-more}
use Rattle.std.specs.List.{All}
use Rattle.xm_model.specs.Component.{component_of}
use Rattle.xm_model.specs.declared.primitive.Primitive.{Primitive}
use Rattle.xm_tests_nets.specs.Inner.Fitting.{Fits}
use Rattle.xm_tests_nets.proofs.nets.all_fit.Goals as goal

pub loop-prim-preserved : goal.loop-prim-preserved
loop-prim-preserved c =
    let yes : IsTrue c.fits.result = search rules in
    All-more (λ (prim : Primitive). Fits c.args.channels c.args.colours (component_of prim)) c.args.prims.now c.loop-prim.prim-index c.prim-item.result c.loop-prim-test.true c.loop-prim.invariant
    (subst (λ (prim : Primitive). Fits c.args.channels c.args.colours (component_of prim)) c.prim-item.is (c.fits.ensures yes))

pub returns : goal.returns
returns c = λ _.
    All-map (Fits c.args.channels c.args.colours) component_of c.args.prims.now
    (subst (All (λ (prim : Primitive). Fits c.args.channels c.args.colours (component_of prim))) (take_all c.loop-prim.prim-index c.args.prims.now c.loop-prim-test.false) c.loop-prim.invariant)
