use Rattle.std.proofs.Common.{◌∙◌, ap, sym}
use Rattle.std.specs.Prelude.{slice_get}
use Rattle.xm_model.specs.Component.{component_of}
use Rattle.xm_model.specs.Net.{Network}
use Rattle.xm_search.proofs.Naming.{capacities_next, within}
use Rattle.xm_search.proofs.bounds.push_capacities.Goals as goal

pub loop-q-preserved : goal.loop-q-preserved
loop-q-preserved c =
    let it = c.args.design.now in
    let m = component_of c.prim.result.now in
    let at = ap (λ (n : Network). slice_get n.prims c.loop-q.q) (sym c.net-net.ensures.net) ∙ c.prim.ensures in
    record {
      cons = capacities_next it c.loop-q.q it.net.prims m c.args.bounds.now.cons.items c.loop-q.bounds.cons.items c.push_capacity.new.bounds.cons.items at (within it.net.prims c.loop-q.q m at) c.loop-q.invariant.cons
          (c.in_ok-push_capacity.ensures.cons it c.requires.pairs at);
      named = λ lemmas path are. c.in_ok-push_capacity.ensures.named it lemmas path c.requires.pairs at (c.loop-q.invariant.named lemmas path are);
    }
