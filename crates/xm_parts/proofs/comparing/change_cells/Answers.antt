use Rattle.std.proofs.Common.{◌≡◌, ◌∷◌, [], ℕ, get_or, length, length-append, arith, ap, sym, ◌∙◌, Some, slice_get}
use Rattle.xm_model.specs.Component.{Content, content_of}
use Rattle.xm_parts.proofs.Differing.{cells_push, cells_skip, content_here, same_length}
use Rattle.xm_parts.proofs.Stepping.{pairing}
use Rattle.xm_parts.specs.Rows.{contents_in}
use Rattle.xm_parts.proofs.comparing.change_cells.Goals as goal
use Rattle.xm_parts.proofs.comparing.change_cells.Goals.{in-Some, in_default}

pub cell_change-requires : goal.cell_change-requires
cell_change-requires c =
    let old = c.args.old.now in let new = c.args.new.now in let k = c.loop-k.k in
    let whole : length new ≡ length old = same_length old new c.requires.can.whole in
    c.requires.can.each k _ _ _ _ (content_here old k c.index-old-k.result c.loop-k-test.true) (content_here new k c.index-new-k.result (let h = c.loop-k-test.true in omega arith))

with_prim : {i j : ℕ} {t : Content} → i ≡ j → Some (pairing i t) ≡ Some (pairing j t)
with_prim {i} {j} {t} e = ap (λ (n : ℕ). Some (pairing n t)) e

pub loop-k-preserved : goal.loop-k-preserved
loop-k-preserved c =
    let old = c.args.old.now in let new = c.args.new.now in let k = c.loop-k.k in
    let whole : length new ≡ length old = same_length old new c.requires.can.whole in
    let was = content_here old k c.index-old-k.result c.loop-k-test.true in
    let is_there = content_here new k c.index-new-k.result (let h = c.loop-k-test.true in omega arith) in
    let prim = c.requires.can.prims k _ _ _ _ was is_there in
    let is_here : slice_get (contents_in new) k ≡ Some ((get_or old k c.index-old-k.result).prim, content_of (get_or new k c.index-new-k.result).cell) = is_there ∙ with_prim (sym prim) in
    let few = c.loop-k.invariant.few in
    elim c.match-cell_change.branch [
      | in-Some w ↦ (let some = w.in-Some.ensures.some in
          rw w.out-is (record {
            cells = rw w.push_within.ensures.items (cells_push (contents_in old) (contents_in new) k _ _ _ c.loop-k.out.items was is_here c.loop-k.invariant.cells w.in-Some.change some);
            few = rw w.push_within.ensures.items (let count = length-append c.loop-k.out.items (w.in-Some.change ∷ []) in omega arith);
            room = w.push_within.ensures.room ∙ c.loop-k.invariant.room;
          }))
      | in_default w ↦ (let none = w.in_default.ensures.none in
          rw w.out-is (record {
            cells = cells_skip (contents_in old) (contents_in new) k _ _ _ c.loop-k.out.items was is_here c.loop-k.invariant.cells none;
            few = omega arith;
            room = c.loop-k.invariant.room;
          }))
    ]
