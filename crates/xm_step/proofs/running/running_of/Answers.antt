use Rattle.std.proofs.Common.{◌≡◌, ◌<◌, ℕ, List, Some, ap, length, map, slice_get, subst, sym, arith, ◌∙◌, length-append}
use Rattle.std.proofs.lemmas.List.{get_or_default, length-map}
use Rattle.xm_design.specs.Lemmas.Components.{component_at}
use Rattle.xm_model.specs.Component.{Component, component_of}
use Rattle.xm_model.specs.declared.state.Cell.{Cell}
use Rattle.xm_model.specs.declared.state.Cell.TheVariants as cell
use Rattle.xm_step.specs.Inner.Cells.{IsKept}
use Rattle.xm_step.specs.Roomy.{IsRoomyCell, cell_at}
use Rattle.xm_step.proofs.Keeping.{all_roomy, as_many, same_contents}
use Rattle.xm_step.proofs.Places.{within_prims}
use Rattle.xm_step.proofs.Resetting.{listed_more}
use Rattle.xm_step.proofs.running.running_of.Goals as goal

pub bounds-cells-p : goal.bounds-cells-p
bounds-cells-p c =
    let same : map component_of c.as_slice-prims.result.now ≡ c.args.design.now.net.prims = ap (map component_of) c.as_slice-prims.ensures ∙ c.prims.ensures.prims ∙ ap (λ n. n.prims) c.net.ensures.net in
    let many = as_many c.as_slice-prims.result.now c.args.design.now.net.prims c.as_slice-cells.result.now c.args.state.now.cells.items same c.as_slice-cells.ensures c.requires.whole in
    let less = c.loop-p-test.true in
    omega arith

pub slot_of-requires : goal.slot_of-requires
slot_of-requires c =
    let same : map component_of c.as_slice-prims.result.now ≡ c.args.design.now.net.prims = ap (map component_of) c.as_slice-prims.ensures ∙ c.prims.ensures.prims ∙ ap (λ n. n.prims) c.net.ensures.net in
    let many = as_many c.as_slice-prims.result.now c.args.design.now.net.prims c.as_slice-cells.result.now c.args.state.now.cells.items same c.as_slice-cells.ensures c.requires.whole in
    let within : c.loop-p.p < length c.as_slice-cells.result.now = let less = c.loop-p-test.true in omega arith in
    let there = component_at c.as_slice-prims.result.now c.loop-p.p c.index-prims-p.result c.loop-p-test.true c.index-prims-p.is in
    let roomy : IsRoomyCell (component_of c.index-prims-p.result) (cell_at c.as_slice-cells.result.now c.loop-p.p) = rw c.as_slice-cells.ensures (c.requires.roomy c.loop-p.p (component_of c.index-prims-p.result) (rw same at there)) in
    let here : cell_at c.as_slice-cells.result.now c.loop-p.p ≡ c.index-cells-p.result = get_or_default c.as_slice-cells.result.now c.loop-p.p cell.Nothing c.index-cells-p.result within ∙ sym c.index-cells-p.is in
    subst (λ (x : Cell). IsRoomyCell (component_of c.index-prims-p.result) x) here roomy

pub loop-p-preserved : goal.loop-p-preserved
loop-p-preserved c =
    let same : map component_of c.as_slice-prims.result.now ≡ c.args.design.now.net.prims = ap (map component_of) c.as_slice-prims.ensures ∙ c.prims.ensures.prims ∙ ap (λ n. n.prims) c.net.ensures.net in
    let many = as_many c.as_slice-prims.result.now c.args.design.now.net.prims c.as_slice-cells.result.now c.args.state.now.cells.items same c.as_slice-cells.ensures c.requires.whole in
    let within : c.loop-p.p < length c.as_slice-cells.result.now = let less = c.loop-p-test.true in omega arith in
    let there = component_at c.as_slice-prims.result.now c.loop-p.p c.index-prims-p.result c.loop-p-test.true c.index-prims-p.is in
    let cells = c.as_slice-cells.result.now in
    let here : cell_at cells c.loop-p.p ≡ c.index-cells-p.result = get_or_default cells c.loop-p.p cell.Nothing c.index-cells-p.result within ∙ sym c.index-cells-p.is in
    record {
      len = rw c.in_ok-push.ensures.ok (simp length-append (omega (arith, c.loop-p.invariant.len)));
      kept = rw c.in_ok-push.ensures.ok (listed_more (λ k n y. IsKept n (cell_at cells k) y) (map component_of c.as_slice-prims.result.now) c.loop-p.slots.items _ c.loop-p.p (component_of c.index-prims-p.result) c.loop-p.invariant.len there
          (subst (λ (x : Cell). IsKept (component_of c.index-prims-p.result) x c.in_ok-slot_of.field-0) (sym here) c.in_ok-slot_of.ensures) c.loop-p.invariant.kept);
    }

pub returns : goal.returns
returns c =
    let ms : List Component = c.args.design.now.net.prims in
    let slots = c.loop-p.slots.items in
    let same : map component_of c.as_slice-prims.result.now ≡ ms = ap (map component_of) c.as_slice-prims.ensures ∙ c.prims.ensures.prims ∙ ap (λ n. n.prims) c.net.ensures.net in
    let count : length slots ≡ length ms = rw (← same) (simp length-map (omega (arith, c.loop-p.invariant.len))) in
    let each : (k : ℕ) (m : Component) → slice_get ms k ≡ Some m → IsKept m (cell_at c.args.state.now.cells.items k) (cell_at slots k) = λ k m there.
    let at = rw (← same) at there in rw (← c.as_slice-cells.ensures) (c.loop-p.invariant.kept k m (let h = within_prims c.as_slice-prims.result.now k m at in omega (arith, h)) at) in
    record { cells = same_contents ms c.args.state.now.cells.items slots c.requires.whole count each; roomy = all_roomy ms c.args.state.now.cells.items slots count each }
