use Rattle.std.proofs.Common.{rules, SFits, to_z, ℕ, List, get_or, take, refl, sym, ◌∙◌, ap, subst}
use Rattle.std.specs.Int.{w128}
use Rattle.std.proofs.lemmas.Int.{to_z-of_z}
use Rattle.std.proofs.lemmas.List.{take_more}
use Rattle.xm_rows.specs.Columns.{columns_of}
use Rattle.xm_rows.specs.Row.{SparseRow, coefficient}
use Rattle.xm_lp.specs.Inner.Listing.{AreNoted, IsNoted}
use Rattle.xm_lp.specs.Start.{row_at}
use Rattle.xm_lp.proofs.Noting.{rows_more, rows_passed}
use Rattle.xm_lp.proofs.Ordering.{read_row}
use Rattle.xm_lp.proofs.places.note_rows.Goals as goal

pub loop-h-preserved-then-value_at-eq0 : goal.loop-h-preserved-then-value_at-eq0
loop-h-preserved-then-value_at-eq0 c =
    let rows = c.args.rows.now in
    let list = c.args.list.now in
    let n = c.loop-h.h-index in
    let h = get_or list n 0 in
    let at = read_row rows h c.index-rows-h.result rows refl (c.requires.within n 0 c.loop-h-test.true) c.index-rows-h.is in
    let fits : SFits w128 c.value_at.result = search rules in
    let read = ap (to_z w128) c.if-value_at-eq0.true in
    let zero = simp to_z-of_z at read in
    let none = ap (λ (r : SparseRow). coefficient r.entries c.args.column) (sym at) ∙ sym c.value_at.ensures.value ∙ zero in
    subst (λ (l : List ℕ). AreNoted rows c.args.column c.args.i l (columns_of c.args.places.now) (columns_of c.loop-h.places)) (sym (take_more list n 0 c.loop-h-test.true))
    (rows_passed rows c.args.column c.args.i (take n list) h (columns_of c.args.places.now) (columns_of c.loop-h.places) none c.loop-h.invariant)

pub loop-h-preserved : goal.loop-h-preserved
loop-h-preserved c =
    let rows = c.args.rows.now in
    let list = c.args.list.now in
    let n = c.loop-h.h-index in
    let h = get_or list n 0 in
    let within = c.requires.within n 0 c.loop-h-test.true in
    let at = read_row rows h c.index-rows-h.result rows refl within c.index-rows-h.is in
    let pivot = read_row rows c.args.i c.index-rows-i.result rows refl c.requires.pivot c.index-rows-i.is in
    let from = columns_of c.loop-h.places in
    let to = columns_of c.note_fresh.new.places in
    subst (λ (l : List ℕ). AreNoted rows c.args.column c.args.i l (columns_of c.args.places.now) to) (sym (take_more list n 0 c.loop-h-test.true))
    (rows_more rows c.args.column c.args.i (take n list) h (columns_of c.args.places.now) from to within c.loop-h.invariant
    (subst (λ (r : SparseRow). IsNoted h r (row_at rows c.args.i).entries from to) at
    (subst (λ (r : SparseRow). IsNoted h c.index-rows-h.result r.entries from to) pivot c.in_ok-note_fresh.ensures)))
