use Rattle.std.proofs.Common.{ap, subst, sym, arith, Err, List, ℕ, length}
use Rattle.xm_lp.specs.Pivot.{IsPivotColumn}
use Rattle.xm_lp.specs.Rule.{first}
use Rattle.xm_lp.specs.Inner.Listing.{AreListed}
use Rattle.xm_lp.specs.Inner.Table.{tableau_of}
use Rattle.xm_model.specs.ListView.{ListView}
use Rattle.xm_rows.specs.Columns.{columns_of}
use Rattle.xm_rows.specs.Row.{SparseRow}
use Rattle.xm_lp.proofs.Deciding.{start_failed, pivots_more, constants_up, counts_same, row_is_there, pivot_left}
use Rattle.xm_lp.proofs.simplex.follow.Goals as goal

pub loop-pivots-init : goal.loop-pivots-init
loop-pivots-init c = record {
  after = first (tableau_of c.in-Ok.table) c.in-Ok.ensures.ok;
  listed = subst (λ (rs : List SparseRow). AreListed rs (columns_of c.as_mut_slice-places.result.now)) c.as_slice.ensures
      (subst (λ (l : List (ListView ℕ)). AreListed c.as_slice.result.now (columns_of l)) (sym c.as_mut_slice-places.ensures.value) c.in-Ok-rows_by.ensures.listed);
}

pub rows_by-requires : goal.rows_by-requires
rows_by-requires c =
    let t = tableau_of c.in-Ok.table in
    let start = c.in-Ok.ensures.ok in
    let same = counts_same c.args.constraints.now c.args.columns 0 t c.requires.below (first t start) in
    let count = start.basic_count in
    let lent = ap (λ (rs : List SparseRow). length rs) c.as_slice.ensures in
    let few = c.requires.few in
    omega (arith, same, count, lent, few)

pub returns-in_default : goal.returns-in_default
returns-in_default c =
    let within = c.loop-pivots-test.true in
    c.answer.ensures c.args.pivots_left (omega (arith, within))

pub pivot_row-requires-clause-count : goal.pivot_row-requires-clause-count
pivot_row-requires-clause-count c =
    counts_same c.args.constraints.now c.args.columns c.loop-pivots.pivots (tableau_of c.loop-pivots.table) c.requires.below c.loop-pivots.invariant.after

pub pivot_row-requires-clause-constants : goal.pivot_row-requires-clause-constants
pivot_row-requires-clause-constants c =
    constants_up c.args.constraints.now c.args.columns c.loop-pivots.pivots (tableau_of c.loop-pivots.table) c.requires.below c.loop-pivots.invariant.after

pub unreachable-requires : goal.unreachable-requires
unreachable-requires c =
    row_is_there c.args.constraints.now c.args.columns c.loop-pivots.pivots c.in-Some.column (tableau_of c.loop-pivots.table) c.requires.below c.loop-pivots.invariant.after
    (subst (λ a. IsPivotColumn (tableau_of c.loop-pivots.table) a c.in-Some.column) c.first_artificial-first.ensures c.in-Some.ensures.column)
    c.in_default-pivot_row.ensures.none

pub pivot-requires-clause-count : goal.pivot-requires-clause-count
pivot-requires-clause-count c =
    counts_same c.args.constraints.now c.args.columns c.loop-pivots.pivots (tableau_of c.loop-pivots.table) c.requires.below c.loop-pivots.invariant.after

pub returns-in-Err-Overflow : goal.returns-in-Err-Overflow
returns-in-Err-Overflow c =
    (pivot_left c.args.constraints.now c.args.columns c.args.pivots_left c.loop-pivots.pivots c.in-Some.column c.in-Some-pivot_row.row (tableau_of c.loop-pivots.table)
    c.loop-pivots.invariant.after c.loop-pivots-test.true
    (subst (λ a. IsPivotColumn (tableau_of c.loop-pivots.table) a c.in-Some.column) c.first_artificial-first.ensures c.in-Some.ensures.column)
    c.in-Some-pivot_row.ensures.row (c.in-Err-Overflow.ensures.overflow (ap Err c.in-Err-Overflow.field-0-is)))

pub loop-pivots-preserved : goal.loop-pivots-preserved
loop-pivots-preserved c = record {
  after = pivots_more c.args.constraints.now c.args.columns c.loop-pivots.pivots c.in-Some.column c.in-Some-pivot_row.row (tableau_of c.loop-pivots.table) (tableau_of c.pivot.new.table)
      c.loop-pivots.invariant.after
      (subst (λ a. IsPivotColumn (tableau_of c.loop-pivots.table) a c.in-Some.column) c.first_artificial-first.ensures c.in-Some.ensures.column)
      c.in-Some-pivot_row.ensures.row c.in-Ok-pivot.ensures.ok;
  listed = c.in-Ok-pivot.ensures.listed;
}

pub returns-in-Err : goal.returns-in-Err
returns-in-Err c =
    (start_failed c.args.constraints.now c.args.columns c.args.pivots_left c.in-Err.fault c.in-Err.ensures.err)
