use Rattle.std.proofs.Common.{◌≡◌, ℕ, length, arith, Some, slice_get, subst, refl, length-append}
use Rattle.std.proofs.lemmas.Option.{slice_get_read}
use Rattle.xm_model.specs.Component.{component_of, content_of}
use Rattle.xm_model.specs.Net.{HasPrim}
use Rattle.xm_parts.proofs.Projecting.{made_cell}
use Rattle.xm_parts.proofs.Pushing.{push_each}
use Rattle.xm_parts.specs.Inner.Copied.{IsCellWith}
use Rattle.xm_parts.specs.declared.row.PrimCell.{PrimCell}
use Rattle.xm_parts.proofs.making.copies_of.Goals as goal

pub loop-k-preserved : goal.loop-k-preserved
loop-k-preserved c =
    let net = c.args.design.now.net in
    let y = c.index-cells-k.result in
    let has : HasPrim net y.prim (component_of c.prim.result.now) = rw (← c.net-net.ensures.net) c.prim.ensures in
    let there = slice_get_read c.args.cells.now (length c.args.cells.now) c.loop-k.k y refl c.loop-k-test.true c.index-cells-k.is in
    let cell = made_cell net y.prim (component_of c.prim.result.now) y.cell c.in_ok-cell.cell c.capacity.result (content_of y.cell) has c.capacity.ensures c.in_ok-cell.ensures refl in
    record {
      whole = rw c.in_ok-push.ensures.ok (simp length-append (let w = c.loop-k.invariant.whole in omega arith));
      each = rw c.in_ok-push.ensures.ok (push_each (λ (k : ℕ) (x : PrimCell). (z : PrimCell) → slice_get c.args.cells.now k ≡ Some z → IsCellWith net z.prim (content_of z.cell) x) c.loop-k.made.items _ c.loop-k.k c.loop-k.invariant.whole c.loop-k.invariant.each
          (λ z at. let same : y ≡ z = cc in subst (λ (v : PrimCell). IsCellWith net v.prim (content_of v.cell) (record { prim = y.prim; cell = c.in_ok-cell.cell })) same cell));
    }

pub returns : goal.returns
returns c = record {
  whole = (let w = c.loop-k.invariant.whole in let e = c.loop-k-test.false in let u = c.loop-k.auto.k-end in omega arith);
  each = λ k x y at there. c.loop-k.invariant.each k x at y there;
}
