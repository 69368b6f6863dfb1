use Rattle.std.proofs.Common.{◌+◌, ◌∙◌, ap, refl, sym, subst, arith, rules, pos, ℤ, List, length, SFits, to_z, of_z}
use Rattle.std.proofs.Common.{◌+ℤ◌, ◌-ℤ◌}
use Rattle.std.specs.Int.{w128}
use Rattle.std.proofs.lemmas.Int.{to_z-of_z}
use Rattle.xm_model.specs.Lending.{refill-full}
use Rattle.xm_rows.specs.declared.row.Entry.{Entry}
use Rattle.xm_rows.specs.Row.{Fits128}
use Rattle.xm_lp.specs.Inner.Minus.{AreMinus, IsTopOf, TopFails}
use Rattle.xm_lp.specs.Lemmas.Tally.{AreAdded, AddingLeaves}
use Rattle.xm_lp.proofs.Faults.{out_of_memory}
use Rattle.xm_lp.proofs.Minusing.{IsTally, tally_more, constants_leave, columns_leave, tally_done, turned_total}
use Rattle.xm_lp.proofs.start.top_row.Goals as goal

pub returns-in_err-sums-clause-err : goal.returns-in_err-sums-clause-err
returns-in_err-sums-clause-err c = out_of_memory c.from_residual.result (TopFails c.args.rows.now c.args.first) c.from_residual.ensures.1 tt

pub returns-in_default-clause-err : goal.returns-in_default-clause-err
returns-in_default-clause-err c =
    let fits : SFits w128 c.constant.result = search rules in
    let constant = to_z w128 c.loop-row.constant-bits in (
      refl,
      constants_leave c.args.rows.now c.args.first c.loop-row.row-index c.loop-row.sums.items constant c.row-item.result c.loop-row.invariant c.loop-row-test.true c.row-item.is
          (subst (λ (z : ℤ). ¬ Fits128 (constant +ℤ z))
          (to_z-of_z w128 c.constant.result fits ∙ c.constant.ensures.value) c.in_default.ensures),
    )

pub returns-then-not-add_products-clause-err : goal.returns-then-not-add_products-clause-err
returns-then-not-add_products-clause-err c = (
  refl,
  columns_leave c.args.rows.now c.args.first c.loop-row.row-index c.loop-row.sums.items (to_z w128 c.loop-row.constant-bits) c.row-item.result c.loop-row.invariant c.loop-row-test.true
      c.row-item.is c.if-not-add_products.ensures.row
      (subst (λ (l : List ℤ). AddingLeaves l (pos 1) c.row-item.result.entries) c.as_mut_slice.ensures.value (c.if-not-add_products.ensures.leaves refl)),
)

pub loop-row-preserved : goal.loop-row-preserved
loop-row-preserved c =
    let t = c.loop-row.invariant in
    let fits : SFits w128 c.constant.result = search rules in
    let total : SFits w128 c.in-Some.total = search rules in
    let constant = to_z w128 c.loop-row.constant-bits in
    let sums = c.loop-row.sums.items in
    let same = to_z-of_z w128 c.constant.result fits ∙ c.constant.ensures.value in
    let added = subst (λ (l : List ℤ). AreAdded l (pos 1) c.row-item.result.entries c.add_products.new.sums) c.as_mut_slice.ensures.value (c.if-not-add_products.ensures.added refl) in
    let whole = refill-full (length sums) sums c.add_products.new.sums added.count in
    subst (λ (l : List ℤ). IsTally c.args.rows.now c.args.first (c.loop-row.row-index + 1) l (to_z w128 (of_z w128 c.in-Some.total))) (sym whole)
    (tally_more c.args.rows.now c.args.first c.loop-row.row-index sums c.add_products.new.sums constant (to_z w128 (of_z w128 c.in-Some.total)) c.row-item.result t c.loop-row-test.true c.row-item.is added
    (subst (λ (z : ℤ). Fits128 (constant +ℤ z)) same c.in-Some.ensures.0)
    (to_z-of_z w128 c.in-Some.total total ∙ c.in-Some.ensures.1 ∙ ap (λ (z : ℤ). constant +ℤ z) same))

pub returns-in_err-entries-clause-err : goal.returns-in_err-entries-clause-err
returns-in_err-entries-clause-err c = out_of_memory c.from_residual-in_err-entries.result (TopFails c.args.rows.now c.args.first) c.from_residual-in_err-entries.ensures.1 tt

pub returns-in_err-new-clause-err : goal.returns-in_err-new-clause-err
returns-in_err-new-clause-err c = out_of_memory c.from_residual-in_err-new.result (TopFails c.args.rows.now c.args.first) c.from_residual-in_err-new.ensures.1 tt

pub returns-clause-top : goal.returns-clause-top
returns-clause-top c =
    let t = c.loop-row.invariant in
    let constant = to_z w128 c.loop-row.constant-bits in
    let turned = to_z w128 (of_z w128 (pos 0 -ℤ constant)) in
    let fits = subst Fits128 (sym t.is) (t.fit_constants c.loop-row.row-index (omega arith)) in
    let m = subst (λ (l : List ℤ). AreMinus l c.args.objective c.in_ok-entries.entries.items) c.as_slice.ensures c.in_ok-entries.ensures in
    subst (IsTopOf c.args.rows.now c.args.first c.args.objective) (sym (c.in_ok-new.ensures.ok ∙ ap (λ (l : List Entry). record { entries = l; constant = turned }) c.as_slice-2.ensures))
    (tally_done c.args.rows.now c.args.first c.args.objective c.loop-row.row-index c.loop-row.sums.items constant turned c.in_ok-entries.entries.items t c.loop-row-test.false m
    (turned_total constant fits) c.requires fits)
