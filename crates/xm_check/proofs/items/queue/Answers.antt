use Rattle.std.proofs.Common.{Some, slice_get, ap, sym, ◌∙◌}
use Rattle.xm_model.specs.Component.{component_of}
use Rattle.xm_model.specs.Net.{Network}
use Rattle.xm_check.proofs.items.queue.Goals as goal

pub returns-in-Queue-clause-some : goal.returns-in-Queue-clause-some
returns-in-Queue-clause-some c = record {
  input = c.in-Queue.input;
  initial = c.in-Queue.initial.items;
  has = ap (λ (n : Network). slice_get n.prims c.args.q) (sym c.net-net.ensures.net) ∙ c.prim.ensures ∙ ap (λ p. Some (component_of p)) c.in-Queue.is;
}
