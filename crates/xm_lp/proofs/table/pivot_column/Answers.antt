use Rattle.std.proofs.Common.{List, take, get_or, pos, ◌≤ℤ◌, SFits, sym, ◌∙◌, ap, subst, arith, rules}
use Rattle.std.specs.Int.{w128}
use Rattle.std.proofs.lemmas.Int.{ints}
use Rattle.std.proofs.lemmas.List.{take_all}
use Rattle.std.proofs.lemmas.List.Elements.{All-more}
use Rattle.xm_rows.specs.declared.row.Entry.{Entry}
use Rattle.xm_rows.specs.Row.{SparseRow, IsRising}
use Rattle.xm_lp.specs.Inner.Table.{tableau_of}
use Rattle.xm_lp.proofs.Columns.{AreUp, none_before, none_at_all, first_negative}
use Rattle.xm_lp.proofs.Ordering.{read_row}
use Rattle.xm_lp.proofs.table.pivot_column.Goals as goal

pub loop-entry-init : goal.loop-entry-init
loop-entry-init c = up_none c.entries-entry-items.result.now
  where
    up_none : (es : List Entry) → AreUp (take 0 es)
    up_none es = λ k d lt. absurd (omega arith)

pub returns-then-entry-artificials-clause-last : goal.returns-then-entry-artificials-clause-last
returns-then-entry-artificials-clause-last c =
    let row = read_row c.args.table.now.rows.items 0 c.index-as_slice-0.result c.as_slice.result.now c.as_slice.ensures c.requires c.index-as_slice-0.is in
    let value = c.entries-entry-items.ensures.value in
    let rising = subst IsRising (sym value) c.entries-entry-items.ensures.row.rising in
    none_before (tableau_of c.args.table.now) c.entries-entry-items.result.now c.loop-entry.entry-index c.args.artificials (record { column = 0; value = pos 0 }) (value ∙ ap (λ (r : SparseRow). r.entries) row)
    c.loop-entry-test.true rising c.loop-entry.invariant c.if-entry-artificials.true

pub returns-then-entry-lt0-clause-column : goal.returns-then-entry-lt0-clause-column
returns-then-entry-lt0-clause-column c =
    let row = read_row c.args.table.now.rows.items 0 c.index-as_slice-0.result c.as_slice.result.now c.as_slice.ensures c.requires c.index-as_slice-0.is in
    let value = c.entries-entry-items.ensures.value in
    let rising = subst IsRising (sym value) c.entries-entry-items.ensures.row.rising in
    let fits : SFits w128 (get_or c.entries-entry-items.result.now c.loop-entry.entry-index (record { column = 0; value = pos 0 })).value = search rules in
    let negative = c.if-entry-lt0.true in
    first_negative (tableau_of c.args.table.now) c.entries-entry-items.result.now c.loop-entry.entry-index c.args.artificials (record { column = 0; value = pos 0 }) (value ∙ ap (λ (r : SparseRow). r.entries) row)
    c.loop-entry-test.true rising c.loop-entry.invariant c.if-entry-artificials.false (omega (arith, ints, negative))

pub loop-entry-preserved : goal.loop-entry-preserved
loop-entry-preserved c =
    let fits : SFits w128 (get_or c.entries-entry-items.result.now c.loop-entry.entry-index (record { column = 0; value = pos 0 })).value = search rules in
    let up = c.if-entry-lt0.false in
    All-more (λ (e : Entry). pos 0 ≤ℤ e.value) c.entries-entry-items.result.now c.loop-entry.entry-index (record { column = 0; value = pos 0 }) c.loop-entry-test.true c.loop-entry.invariant (omega (arith, ints, up))

pub returns-clause-last : goal.returns-clause-last
returns-clause-last c =
    let row = read_row c.args.table.now.rows.items 0 c.index-as_slice-0.result c.as_slice.result.now c.as_slice.ensures c.requires c.index-as_slice-0.is in
    let value = c.entries-entry-items.ensures.value in
    none_at_all (tableau_of c.args.table.now) c.entries-entry-items.result.now c.args.artificials (value ∙ ap (λ (r : SparseRow). r.entries) row)
    (subst AreUp (take_all c.loop-entry.entry-index c.entries-entry-items.result.now c.loop-entry-test.false) c.loop-entry.invariant)
