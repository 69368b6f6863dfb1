use Rattle.std.proofs.Common.{◌<◌, ℕ, List, All, get_or, length, take, sym, ◌∙◌, subst}
use Rattle.std.proofs.lemmas.List.{take_more}
use Rattle.xm_rows.specs.Lemmas.Noting.{noted_read}
use Rattle.xm_lp.specs.Inner.Table.{tableau_of}
use Rattle.xm_lp.proofs.Ordering.{IsBest, IsBestOf, best_passed, best_taken}
use Rattle.xm_lp.proofs.table.pivot_row.Goals as goal

pub ratio_of-requires-clause-row : goal.ratio_of-requires-clause-row
ratio_of-requires-clause-row c =
    let list = c.as_slice-row-items.ensures ∙ sym (noted_read c.args.places.now c.args.column c.index-places-column.result c.requires.column c.index-places-column.is) in
    subst (All (λ h. h < length c.args.table.now.rows.items)) (sym list) (c.requires.listed.bounded c.args.column) c.loop-row.row-index 0 c.loop-row-test.true

pub loop-row-preserved-in_default : goal.loop-row-preserved-in_default
loop-row-preserved-in_default c =
    let t = tableau_of c.args.table.now in
    let items = c.as_slice-row-items.result.now in
    let n = c.loop-row.row-index in
    subst (λ (l : List ℕ). IsBestOf t c.args.column l c.loop-row.best) (sym (take_more items n 0 c.loop-row-test.true))
    (best_passed t c.args.column (get_or items n 0) (take n items) c.loop-row.best c.loop-row.invariant c.in_default.ensures.none)

pub loop-row-preserved : goal.loop-row-preserved
loop-row-preserved c =
    let t = tableau_of c.args.table.now in
    let items = c.as_slice-row-items.result.now in
    let n = c.loop-row.row-index in
    subst (λ (l : List ℕ). IsBest t c.args.column l c.first_of.result) (sym (take_more items n 0 c.loop-row-test.true))
    (best_taken t c.args.column (get_or items n 0) (take n items) c.loop-row.best c.in-Some.ratio c.first_of.result c.loop-row.invariant c.in-Some.ensures.some
    c.first_of.ensures.one c.first_of.ensures.before c.first_of.ensures.before_best)
