use Rattle.std.proofs.Common.{◌≡◌, ℕ, ap, arith, get_or, ◌∙◌, Some, slice_get, subst}
use Rattle.std.proofs.Common.{length-append}
use Rattle.std.proofs.lemmas.Option.{get_or_from_slice_get, slice_get-get_or}
use Rattle.xm_model.specs.Component.{component_of, content_of}
use Rattle.xm_model.specs.Views.{content_at}
use Rattle.xm_model.specs.Net.{HasPrim}
use Rattle.xm_model.specs.declared.state.Cell.{Cell}
use Rattle.xm_parts.proofs.Projecting.{content_read, made_cell}
use Rattle.xm_parts.proofs.Pushing.{push_each}
use Rattle.xm_parts.specs.Inner.Copied.{IsCellWith}
use Rattle.xm_parts.specs.declared.row.PrimCell.{PrimCell}
use Rattle.xm_parts.proofs.making.cells_of.Goals as goal

pub loop-k-preserved : goal.loop-k-preserved
loop-k-preserved c =
    let net = c.args.design.now.net in
    let here : ℕ = get_or c.args.prims.now c.loop-k.k 0 in
    let has : HasPrim net here (component_of c.prim.result.now) = rw (← c.net-net.ensures.net) c.prim.ensures in
    let inside = c.requires.prims c.loop-k.k here (slice_get-get_or c.args.prims.now c.loop-k.k 0 c.loop-k-test.true) in
    let whole = c.requires.whole in
    let holds = ap (λ (x : Cell). content_of x) c.index-cells-prim.is ∙ content_read c.args.cells.now here c.index-cells-prim.result (omega arith) in
    let cell = made_cell net here (component_of c.prim.result.now) _ c.in_ok-cell.cell c.capacity.result (content_at c.args.cells.now here) has c.capacity.ensures c.in_ok-cell.ensures holds in
    record {
      whole = rw c.in_ok-push.ensures.ok (simp length-append (let w = c.loop-k.invariant.whole in omega arith));
      each = rw c.in_ok-push.ensures.ok (push_each (λ (k : ℕ) (x : PrimCell). (i : ℕ) → slice_get c.args.prims.now k ≡ Some i → IsCellWith net i (content_at c.args.cells.now i) x) c.loop-k.made.items _ c.loop-k.k c.loop-k.invariant.whole c.loop-k.invariant.each
          (λ i at. subst (λ (j : ℕ). IsCellWith net j (content_at c.args.cells.now j) (record { prim = here; cell = c.in_ok-cell.cell })) (get_or_from_slice_get c.args.prims.now c.loop-k.k i 0 at) cell));
    }

pub returns : goal.returns
returns c = record {
  whole = (let w = c.loop-k.invariant.whole in let e = c.loop-k-test.false in let u = c.loop-k.auto.k-end in omega arith);
  each = λ k i x at there. c.loop-k.invariant.each k x at i there;
}
