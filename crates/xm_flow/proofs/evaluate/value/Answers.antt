use Rattle.std.proofs.Common.{◌≡◌, ◌↔◌, ◌+◌, take, ℕ, ℤ, Option, None, IsSome, is_some, ap, ◌<◌, ◌^◌, sym, subst, pos, get_or, to_z, SFits, List, arith, rules}
use Rattle.std.specs.Int.{w128}
use Rattle.std.proofs.lemmas.Int.{to_z-of_z, to_z_pos}
use Rattle.xm_model.specs.Views.{content_at}
use Rattle.xm_rows.specs.declared.row.Entry.{Entry}
use Rattle.xm_rows.specs.Points.{StaysWithin}
use Rattle.xm_rows.specs.Lemmas.Sums.{IsSum, sum_more, sum_leaves}
use Rattle.xm_rows.specs.Row.{IsRising}
use Rattle.xm_rows.specs.Lemmas.Entries.{rising_at}
use Rattle.xm_flow.specs.Holding.{count_columns, count_value, point}
use Rattle.xm_flow.proofs.evaluate.value.Goals as goal

none_within : (r : Option ℤ) (es entries : List Entry) (x : ℕ → ℤ) → r ≡ None → es ≡ entries → ¬ StaysWithin es x → IsSome r ↔ StaysWithin entries x
none_within r es entries x is same never =
    (λ some. absurd (cc (ap is_some is)), λ stays. absurd (never (subst (λ (l : List Entry). StaysWithin l x) (sym same) stays)))

pub returns-in_err-total-clause-within : goal.returns-in_err-total-clause-within
returns-in_err-total-clause-within c =
    let es = c.entries-entry-items.result.now in
    let none : Entry = record { column = 0; value = pos 0 } in
    let e = get_or es c.loop-entry.entry-index none in
    let number = c.count_in-count.result in
    let fits : SFits w128 e.value = search rules in
    let small : number < 2 ^ 64 = search rules in
    let is : to_z w128 number ≡ pos number = to_z_pos w128 number (omega arith) in
    let term_fits : SFits w128 c.in_ok-term.term = search rules in
    let read = simp (to_z-of_z, is) at c.in_ok-term.ensures in
    let term = simp c.count_in-count.ensures at read in
    let leaves = simp to_z-of_z at c.in_err-total.ensures in
    none_within _ es c.args.invariant.now.row.entries (point (count_columns c.args.design.now) (count_value (content_at c.args.state.now.cells.items))) c.from_residual-in_err-total.ensures c.entries-entry-items.ensures.value
    (sum_leaves es c.loop-entry.entry-index none (point (count_columns c.args.design.now) (count_value (content_at c.args.state.now.cells.items))) _ c.in_ok-term.term c.loop-entry-test.true c.loop-entry.invariant.sum term.1 leaves)

pub loop-entry-preserved : goal.loop-entry-preserved
loop-entry-preserved c =
    let es = c.entries-entry-items.result.now in
    let none : Entry = record { column = 0; value = pos 0 } in
    let e = get_or es c.loop-entry.entry-index none in
    let number = c.count_in-count.result in
    let fits : SFits w128 e.value = search rules in
    let small : number < 2 ^ 64 = search rules in
    let is : to_z w128 number ≡ pos number = to_z_pos w128 number (omega arith) in
    let term_fits : SFits w128 c.in_ok-term.term = search rules in
    let total_fits : SFits w128 c.in_ok-total.total = search rules in
    let read = simp (to_z-of_z, is) at c.in_ok-term.ensures in
    let term = simp c.count_in-count.ensures at read in
    let total = simp to_z-of_z at c.in_ok-total.ensures in
    let point_at = point (count_columns c.args.design.now) (count_value (content_at c.args.state.now.cells.items)) in
    let summed : IsSum (take (c.loop-entry.entry-index + 1) es) point_at c.in_ok-total.total =
    sum_more es c.loop-entry.entry-index none point_at _ c.in_ok-term.term c.in_ok-total.total c.loop-entry-test.true c.loop-entry.invariant.sum term total in
    record {
      sum = subst (λ (n : ℤ). IsSum (take (c.loop-entry.entry-index + 1) es) point_at n) (sym (to_z-of_z w128 c.in_ok-total.total total_fits)) summed;
      reached = c.reach-reached.ensures.reached;
      low = λ k d above within.
          let rising : IsRising es = subst IsRising (sym c.entries-entry-items.ensures.value) c.entries-entry-items.ensures.row.rising in
          let next = rising_at es c.loop-entry.entry-index k none d rising (omega (arith, above)) within in
          omega (arith, next, c.reach-reached.ensures.low);
    }
