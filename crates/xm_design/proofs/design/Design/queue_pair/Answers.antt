use Rattle.std.proofs.Common.{◌≡◌, ◌+◌, Some, ap, sym, subst, ◌∙◌, arith, slice_get}
use Rattle.std.proofs.lemmas.Option.{slice_get_within}
use Rattle.xm_colours.specs.Family.{colours_at}
use Rattle.xm_design.proofs.Counting.{base_is, pair_at, place_low}
use Rattle.xm_design.specs.Designed.{Designed}
use Rattle.xm_model.specs.Net.{HasPrim}
use Rattle.xm_model.specs.Component.{Queue, component_of}
use Rattle.xm_design.proofs.design.Design.queue_pair.Goals as goal

pub overflow_add-result : goal.overflow_add-result
overflow_add-result c =
    let colours = colours_at c.self.inside.colours in
    let has = subst (λ (it : Designed). HasPrim it.net c.args.queue (Queue c.requires.input c.requires.out c.requires.capacity c.requires.initial)) (sym c.self.view_is) c.requires.has in
    let within = slice_get_within c.self.inside.net.prims c.args.queue _ has in
    let base = base_is colours c.self.inside.net.prims c.as_slice.result.now c.self.inside.tables.numbers.pairs.items c.args.queue c.as_slice.ensures c.self.invariant.tables.pairs within in
    let few = c.self.invariant.tables.pairs.few c.args.queue (omega (arith, within)) in
    let low = place_low (colours c.in-Queue.out) (c.self.invariant.designed.colours.rise c.in-Queue.out) c.place.result c.args.colour c.place.ensures in
    omega (arith, base, few, low, within, c.self.invariant.designed.net.limits.prims, c.ranges.colour.fits)

pub returns-in-Queue : goal.returns-in-Queue
returns-in-Queue c =
    let colours = colours_at c.self.inside.colours in
    let prims = c.self.inside.net.prims in
    let has = subst (λ (it : Designed). HasPrim it.net c.args.queue (Queue c.requires.input c.requires.out c.requires.capacity c.requires.initial)) (sym c.self.view_is) c.requires.has in
    let within = slice_get_within prims c.args.queue _ has in
    let base = base_is colours prims c.as_slice.result.now c.self.inside.tables.numbers.pairs.items c.args.queue c.as_slice.ensures c.self.invariant.tables.pairs within in
    let there : slice_get prims c.args.queue ≡ Some (Queue c.in-Queue.input c.in-Queue.out c.in-Queue.capacity c.in-Queue.initial.items) = c.prim.ensures ∙ ap (λ p. Some (component_of p)) c.in-Queue.is in
    let here = pair_at colours prims 0 c.args.queue c.place.result c.args.colour _ c.in-Queue.out _ _ there c.place.ensures in
    let first : 0 + c.args.queue ≡ c.args.queue = omega arith in
    rw (← c.self.view_is, base) (here ∙ ap (λ j. Some (j, c.args.colour)) first)
