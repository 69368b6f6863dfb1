use Rattle.std.proofs.Common.{◌≡◌, length, map, arith, ◌∙◌, ap}
use Rattle.std.proofs.lemmas.List.{length-map}
use Rattle.xm_design.specs.Designed.{Designed}
use Rattle.xm_model.specs.Views.{content_at, signals_of}
use Rattle.xm_parts.proofs.Passing.{passing_from}
use Rattle.xm_parts.proofs.Projecting.{cells_made, prims_made, roomy_made}
use Rattle.xm_parts.proofs.Stepping.{row_is}
use Rattle.xm_parts.specs.Inner.Copied.{AreCellsOf}
use Rattle.xm_parts.specs.Kept.{label_at}
use Rattle.xm_parts.specs.Partition.{channels_in, lies_in, prims_in, touches_at}
use Rattle.xm_parts.specs.Projection.{wire_of}
use Rattle.xm_parts.proofs.making.project.Goals as goal

pub cells_of-requires-clause-prims : goal.cells_of-requires-clause-prims
cells_of-requires-clause-prims c k i at =
    let net = c.args.parts.now.design.net in let label = label_at c.args.parts.now.labels in
    rw (← c.requires.design) ((passing_from (touches_at net label c.args.p) (length net.prims) k i (rw (c.as_slice.ensures, c.part-part.ensures.prims) at at)).below)

pub wires_of-requires : goal.wires_of-requires
wires_of-requires c k i at =
    let net = c.args.parts.now.design.net in let label = label_at c.args.parts.now.labels in
    let is = passing_from (lies_in label c.args.p) net.channels k i (rw (c.as_slice-3.ensures, c.part-part.ensures.channels) at at) in
    let count = ap (λ (d : Designed). d.net.channels) c.requires.design in
    let whole : length c.as_slice-4.result.now ≡ c.args.design.now.net.channels = ap length c.as_slice-4.ensures ∙ c.requires.wires in
    let below = is.below in
    omega arith

pub returns-clause-row : goal.returns-clause-row
returns-clause-row c =
    let net = c.args.design.now.net in let label = label_at c.args.parts.now.labels in
    let prims : c.as_slice.result.now ≡ prims_in net label c.args.p = rw (← c.requires.design) (c.as_slice.ensures ∙ c.part-part.ensures.prims) in
    let channels : c.as_slice-3.result.now ≡ channels_in net label c.args.p = rw (← c.requires.design) (c.as_slice-3.ensures ∙ c.part-part.ensures.channels) in
    let are : AreCellsOf net (prims_in net label c.args.p) c.args.s.now.cells.items c.in_ok-cells.cells.items = rw (← prims, ← c.as_slice-2.ensures) c.in_ok-cells.ensures in
    let wires : c.in_ok-wires.wires.items ≡ map (wire_of (signals_of c.args.f.now.wires.items)) (channels_in net label c.args.p) = rw (← channels, ← c.as_slice-4.ensures) c.in_ok-wires.ensures in
    row_is net label c.args.p (content_at c.args.s.now.cells.items) (signals_of c.args.f.now.wires.items) c.in_ok-cells.cells.items c.in_ok-wires.wires.items c.in_ok-cells.cells.room c.in_ok-wires.wires.room
    (cells_made net label c.args.p c.args.s.now.cells.items c.in_ok-cells.cells.items are) wires

pub returns-clause-roomy : goal.returns-clause-roomy
returns-clause-roomy c =
    let net = c.args.design.now.net in let label = label_at c.args.parts.now.labels in
    let prims : c.as_slice.result.now ≡ prims_in net label c.args.p = rw (← c.requires.design) (c.as_slice.ensures ∙ c.part-part.ensures.prims) in
    let channels : c.as_slice-3.result.now ≡ channels_in net label c.args.p = rw (← c.requires.design) (c.as_slice-3.ensures ∙ c.part-part.ensures.channels) in
    let are : AreCellsOf net (prims_in net label c.args.p) c.args.s.now.cells.items c.in_ok-cells.cells.items = rw (← prims, ← c.as_slice-2.ensures) c.in_ok-cells.ensures in
    let wires : c.in_ok-wires.wires.items ≡ map (wire_of (signals_of c.args.f.now.wires.items)) (channels_in net label c.args.p) = rw (← channels, ← c.as_slice-4.ensures) c.in_ok-wires.ensures in
    record {
      fits = record {
        prims = prims_made net label c.args.p c.args.s.now.cells.items c.in_ok-cells.cells.items are;
        wires = ap length wires ∙ length-map (channels_in net label c.args.p) (wire_of (signals_of c.args.f.now.wires.items));
      };
      roomy = roomy_made net label c.args.p c.args.s.now.cells.items c.in_ok-cells.cells.items are c.requires.fitting;
    }
