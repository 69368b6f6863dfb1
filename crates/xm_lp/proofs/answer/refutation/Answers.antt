use Rattle.std.proofs.Common.{◌+◌, ap, subst, arith, List, ℤ, Option, length}
use Rattle.std.specs.Prelude.{IfSome, IfNone}
use Rattle.xm_model.specs.ListView.{ListView}
use Rattle.xm_rows.specs.Row.{SparseRow}
use Rattle.xm_lp.specs.Inner.Table.{tableau_of}
use Rattle.xm_lp.specs.Inner.Refuted.{AllProductsFit, AreDifferences, AreValues, DifferenceLeaves}
use Rattle.xm_lp.proofs.Slacks.{slacks_few}
use Rattle.xm_lp.proofs.Ordering.{read_row}
use Rattle.xm_lp.proofs.Deciding.{some_rows}
use Rattle.xm_lp.proofs.Answering.{refuted_by, products_leave, difference_leaves}
use Rattle.xm_lp.proofs.answer.refutation.Goals as goal

pub overflow_add-first : goal.overflow_add-first
overflow_add-first c =
    let few = slacks_few c.args.constraints.now in let bound = c.requires.few in let first = c.requires.first in
    omega (arith, few, bound, first)

pub overflow_add-first-2 : goal.overflow_add-first-2
overflow_add-first-2 c =
    let few = slacks_few c.args.constraints.now in let bound = c.requires.few in let first = c.requires.first in
    omega (arith, few, bound, first)

pub multipliers-requires-clause-few : goal.multipliers-requires-clause-few
multipliers-requires-clause-few c =
    let few = slacks_few c.args.constraints.now in let bound = c.requires.few in let first = c.requires.first in
    let same = ap (λ (l : List ℤ). length l) c.as_slice-2.ensures in
    let count = c.in_ok-lows.ensures.count in
    omega (arith, few, bound, first, same, count)

pub returns-in_default : goal.returns-in_default
returns-in_default c =
    let some = some_rows c.args.constraints.now c.args.columns c.args.pivots (tableau_of c.args.table.now) c.requires.below c.requires.after in
    let row = read_row c.args.table.now.rows.items 0 c.index-as_slice-0.result c.as_slice.result.now c.as_slice.ensures some c.index-as_slice-0.is in
    let values = subst (λ (r : SparseRow). AreValues r (c.args.first + length c.args.constraints.now + 1) c.in_ok-lows.lows.items) row c.in_ok-lows.ensures in
    let leaves = subst (λ (o : Option (ListView ℤ)). IfNone o (DifferenceLeaves c.args.constraints.now c.as_slice-2.result.now c.args.first)) c.in_default.is c.in_ok-multipliers.ensures.none in
    λ left within.
    difference_leaves c.args.constraints.now c.args.columns left c.args.pivots c.args.first (tableau_of c.args.table.now) c.in_ok-lows.lows.items c.requires.below c.requires.first c.requires.after c.requires.last c.requires.negative
    within values (subst (λ (l : List ℤ). DifferenceLeaves c.args.constraints.now l c.args.first) c.as_slice-2.ensures leaves)

pub returns-then-not-branch : goal.returns-then-not-branch
returns-then-not-branch c =
    let some = some_rows c.args.constraints.now c.args.columns c.args.pivots (tableau_of c.args.table.now) c.requires.below c.requires.after in
    let row = read_row c.args.table.now.rows.items 0 c.index-as_slice-0.result c.as_slice.result.now c.as_slice.ensures some c.index-as_slice-0.is in
    let values = subst (λ (r : SparseRow). AreValues r (c.args.first + length c.args.constraints.now + 1) c.in_ok-lows.lows.items) row c.in_ok-lows.ensures in
    let found = subst (λ (o : Option (ListView ℤ)). IfSome o (λ m. AreDifferences c.args.constraints.now c.as_slice-2.result.now c.args.first m.items)) c.in-Some.is c.in_ok-multipliers.ensures.some in
    let differences = subst (λ (l : List ℤ). AreDifferences c.args.constraints.now l c.args.first c.in-Some.multipliers.items) c.as_slice-2.ensures found in
    let leaves = subst (λ (l : List ℤ). ¬ AllProductsFit c.args.constraints.now c.args.columns l) c.as_slice-3.ensures (c.in_ok-stays_within.ensures.leaves c.if-not-branch.true) in
    λ left within.
    products_leave c.args.constraints.now c.args.columns left c.args.pivots c.args.first (tableau_of c.args.table.now) c.in_ok-lows.lows.items c.requires.below c.requires.first c.requires.after c.requires.last c.requires.negative
    within values c.in-Some.multipliers.items differences leaves

pub returns : goal.returns
returns c =
    let some = some_rows c.args.constraints.now c.args.columns c.args.pivots (tableau_of c.args.table.now) c.requires.below c.requires.after in
    let row = read_row c.args.table.now.rows.items 0 c.index-as_slice-0.result c.as_slice.result.now c.as_slice.ensures some c.index-as_slice-0.is in
    let values = subst (λ (r : SparseRow). AreValues r (c.args.first + length c.args.constraints.now + 1) c.in_ok-lows.lows.items) row c.in_ok-lows.ensures in
    let found = subst (λ (o : Option (ListView ℤ)). IfSome o (λ m. AreDifferences c.args.constraints.now c.as_slice-2.result.now c.args.first m.items)) c.in-Some.is c.in_ok-multipliers.ensures.some in
    let differences = subst (λ (l : List ℤ). AreDifferences c.args.constraints.now l c.args.first c.in-Some.multipliers.items) c.as_slice-2.ensures found in
    let fit = subst (AllProductsFit c.args.constraints.now c.args.columns) c.as_slice-3.ensures (c.in_ok-stays_within.ensures.within c.if-not-branch.false) in
    λ left within.
    refuted_by c.args.constraints.now c.args.columns left c.args.pivots c.args.first (tableau_of c.args.table.now) c.in_ok-lows.lows.items c.requires.below c.requires.first c.requires.after c.requires.last c.requires.negative
    within values c.in-Some.multipliers.items c.truncate.new.self.items differences fit c.truncate.ensures.items
