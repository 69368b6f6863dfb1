use Rattle.std.proofs.Common.{◌≡◌, Some, ap, subst, ◌∙◌, slice_get, List, ℕ}
use Rattle.xm_colours.specs.Family.{colours_at}
use Rattle.xm_tests.proofs.suites.designs.pair_number.Goals as goal
use Rattle.xm_model.specs.Component.{Queue, component_of}
use Rattle.xm_model.specs.Net.{HasPrim, Network}
use Rattle.xm_model.specs.Membership.{IsIn}

pub queue_pair-requires : goal.queue_pair-requires
queue_pair-requires c =
    let it = Queue c.in-Queue.input c.in-Queue.out c.in-Queue.capacity c.in-Queue.initial.items in
    let there : slice_get c.net-net.result.now.prims c.args.q ≡ Some it = c.prim.ensures ∙ ap (λ p. Some (component_of p)) c.in-Queue.is in
    record {
      input = c.in-Queue.input;
      out = c.in-Queue.out;
      capacity = c.in-Queue.capacity;
      initial = c.in-Queue.initial.items;
      has = subst (λ (net : Network). HasPrim net c.args.q it) c.net-net.ensures.net there;
      colour = subst (λ (colours : List (List ℕ)). IsIn (colours_at colours c.in-Queue.out) c.args.d) c.colours.ensures.value (c.has.ensures.0 c.if-has.true);
    }
