use Rattle.std.proofs.Common.{length, map, ap, sym, ◌∙◌}
use Rattle.xm_colours.proofs.Sets.{fit_named}
use Rattle.xm_colours.specs.Inner.Spreading.{given, pair}
use Rattle.xm_model.specs.Component.{component_of}
use Rattle.xm_model.specs.declared.primitive.Primitive.{Primitive}
use Rattle.xm_colours.proofs.spread.Spread.add_given.Goals as goal

pub add_all-requires : goal.add_all-requires
add_all-requires c =
    fit_named (map (pair c.in-Source.out) c.as_slice.result.now) (given (component_of c.args.prim.now)) (length c.args.self.now.words.items)
    (ap (map (pair c.in-Source.out)) c.as_slice.ensures ∙ sym (ap (λ (p : Primitive). given (component_of p)) c.in-Source.is)) c.requires

pub add_all-requires-in-Queue : goal.add_all-requires-in-Queue
add_all-requires-in-Queue c =
    fit_named (map (pair c.in-Queue.out) c.as_slice-in-Queue.result.now) (given (component_of c.args.prim.now)) (length c.args.self.now.words.items)
    (ap (map (pair c.in-Queue.out)) c.as_slice-in-Queue.ensures ∙ sym (ap (λ (p : Primitive). given (component_of p)) c.in-Queue.is)) c.requires
