use Rattle.std.proofs.Common.{◌≡◌, List, length, map, ap, sym, ◌∙◌, arith}
use Rattle.xm_design.specs.Designed.{Designed}
use Rattle.xm_model.specs.Component.{content_of}
use Rattle.xm_model.specs.Lending.{refill-full}
use Rattle.xm_model.specs.declared.state.Cell.{Cell}
use Rattle.xm_parts.proofs.Gluing.{part_put, prims_below, shows_cells, shows_wires}
use Rattle.xm_parts.proofs.Passing.{passing_from}
use Rattle.xm_parts.specs.Gluing.{Glued, ShowsCells, ShowsWires}
use Rattle.xm_parts.specs.Kept.{label_at}
use Rattle.xm_parts.specs.Partition.{channels_in, lies_in}
use Rattle.xm_parts.proofs.glue.Glue.add.Goals as goal

pub put_cells-requires-clause-below : goal.put_cells-requires-clause-below
put_cells-requires-clause-below c k x at =
    prims_below c.args.parts.now.design.net (label_at c.args.parts.now.labels) c.args.p c.args.row.now c.requires.row k x (rw c.as_slice.ensures at at)

pub put_wires-requires-clause-below : goal.put_wires-requires-clause-below
put_wires-requires-clause-below c k d at =
    let net = c.args.parts.now.design.net in let label = label_at c.args.parts.now.labels in
    let is = passing_from (lies_in label c.args.p) net.channels k d (rw (c.as_slice-2.ensures, c.part-part.ensures.channels) at at) in
    let below = is.below in
    let one : c.self.inside.design.value ≡ c.args.self.now.design = ap (λ (g : Glued). g.design) c.self.view_is in
    let count : c.self.inside.design.value.net.channels ≡ net.channels = ap (λ (d : Designed). d.net.channels) (one ∙ sym c.requires.design) in
    let whole = c.self.invariant.whole in
    let now : length c.as_mut_slice-2.result.now ≡ length c.self.inside.frame.wires.items = ap length c.as_mut_slice-2.ensures.value in
    omega arith

pub returns-clause-added : goal.returns-clause-added
returns-clause-added c s φ is =
    let net = c.args.parts.now.design.net in let label = label_at c.args.parts.now.labels in
    let cells = refill-full (length c.self.inside.state.cells.items) c.self.inside.state.cells.items c.put_cells.new.to (c.put_cells.auto.to ∙ ap length c.as_mut_slice.ensures.value) in
    let wires = refill-full (length c.self.inside.frame.wires.items) c.self.inside.frame.wires.items c.put_wires.new.to (c.put_wires.auto.to ∙ ap length c.as_mut_slice-2.ensures.value) in
    let channels : c.as_slice-2.result.now ≡ channels_in net label c.args.p = c.as_slice-2.ensures ∙ c.part-part.ensures.channels in
    let cells_shown : ShowsCells c.as_slice.result.now s = rw c.as_slice.ensures (shows_cells net label c.args.p c.args.row.now c.requires.row s φ is) in
    let wires_shown : ShowsWires c.as_slice-2.result.now c.as_slice-3.result.now φ = rw (channels, c.as_slice-3.ensures) (shows_wires net label c.args.p c.args.row.now c.requires.row s φ is) in
    rw (cells, wires) (part_put net label c.args.p c.args.row.now c.requires.row s φ (map content_of c.put_cells.new.to) c.put_wires.new.to
    (λ k x at. c.put_cells.ensures.put s k x cells_shown (rw c.as_slice.ensures at)) (λ k d at. c.put_wires.ensures.put φ k d wires_shown (rw channels at)))

pub returns-clause-kept : goal.returns-clause-kept
returns-clause-kept c q s φ is held =
    let net = c.args.parts.now.design.net in let label = label_at c.args.parts.now.labels in
    let cells = refill-full (length c.self.inside.state.cells.items) c.self.inside.state.cells.items c.put_cells.new.to (c.put_cells.auto.to ∙ ap length c.as_mut_slice.ensures.value) in
    let wires = refill-full (length c.self.inside.frame.wires.items) c.self.inside.frame.wires.items c.put_wires.new.to (c.put_wires.auto.to ∙ ap length c.as_mut_slice-2.ensures.value) in
    let channels : c.as_slice-2.result.now ≡ channels_in net label c.args.p = c.as_slice-2.ensures ∙ c.part-part.ensures.channels in
    let cells_shown : ShowsCells c.as_slice.result.now s = rw c.as_slice.ensures (shows_cells net label c.args.p c.args.row.now c.requires.row s φ is) in
    let wires_shown : ShowsWires c.as_slice-2.result.now c.as_slice-3.result.now φ = rw (channels, c.as_slice-3.ensures) (shows_wires net label c.args.p c.args.row.now c.requires.row s φ is) in
    let old_cells : map content_of c.as_mut_slice.result.now ≡ c.args.self.now.contents = ap (λ (xs : List Cell). map content_of xs) c.as_mut_slice.ensures.value ∙ ap (λ (g : Glued). g.contents) c.self.view_is in
    let old_wires : c.as_mut_slice-2.result.now ≡ c.args.self.now.wires = c.as_mut_slice-2.ensures.value ∙ ap (λ (g : Glued). g.wires) c.self.view_is in
    rw (cells, wires) (record {
      contents_are = λ i touch. c.put_cells.ensures.kept s i cells_shown (rw old_cells (held.contents_are i touch));
      wires_are = λ d below lies. c.put_wires.ensures.kept φ d wires_shown (rw old_wires (held.wires_are d below lies));
    })
