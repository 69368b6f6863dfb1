use Rattle.std.proofs.Common.{length, ap, sym, ◌∙◌}
use Rattle.std.proofs.lemmas.List.{length-map}
use Rattle.xm_model.specs.Component.{component_of}
use Rattle.xm_model.specs.Views.{signals_of}
use Rattle.xm_parts.proofs.Solving.{all_seen, contents_seen}
use Rattle.xm_parts.specs.Kept.{label_at}
use Rattle.xm_parts.proofs.step.solve.Goals as goal

pub solve-requires-clause-prims : goal.solve-requires-clause-prims
solve-requires-clause-prims c = rw c.as_slice.ensures c.part-part.ensures.planned

pub solve-requires-clause-cells : goal.solve-requires-clause-cells
solve-requires-clause-cells c =
    let planned = c.part-part.ensures.planned in
    let long = length-map c.part-part.result.now.planned.items component_of in
    c.requires.cells ∙ sym c.part-part.ensures.plan.prims.whole ∙ ap length (sym planned) ∙ long ∙ ap length (sym c.as_slice.ensures)

pub solve-requires-clause-wires : goal.solve-requires-clause-wires
solve-requires-clause-wires c = c.requires.wires ∙ sym c.part-part.ensures.plan.places

pub returns : goal.returns
returns c s x φ shows chooses frame =
    let it = c.args.parts.now.design in let label = label_at c.args.parts.now.labels in
    all_seen it c.count-count.ensures.designed label c.count-count.ensures.partition c.args.p c.part-part.result.now.plan c.part-part.ensures.plan c.args.cells.now c.args.w.now c.solve.new.wires
    (contents_seen c.part-part.result.now.plan c.args.cells.now c.args.w.now (signals_of c.solve.new.wires) c.solve.ensures.settled) s x φ shows chooses frame (c.solve.auto.wires ∙ c.requires.wires)
