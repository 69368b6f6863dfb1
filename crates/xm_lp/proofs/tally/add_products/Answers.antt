use Rattle.std.proofs.Common.{◌+◌, take, sym, subst, arith, rules, List, get_or, pos, ℤ, SFits}
use Rattle.std.specs.Int.{w128}
use Rattle.std.proofs.lemmas.Int.{to_z-of_z}
use Rattle.xm_rows.specs.declared.row.Entry.{Entry}
use Rattle.xm_rows.specs.Row.{IsRising}
use Rattle.xm_lp.specs.Lemmas.Tally.{AddingLeaves, AreAdded}
use Rattle.xm_lp.proofs.Tallying.{added_more, added_passed, adding_leaves}
use Rattle.xm_lp.proofs.tally.add_products.Goals as goal
use Rattle.xm_lp.proofs.tally.add_products.Goals.{then-k-sums+in-Some, else-k-sums}

pub returns-in_default-clause-leaves : goal.returns-in_default-clause-leaves
returns-in_default-clause-leaves c =
    let es = c.entries-entry-items.result.now in
    let i = c.loop-entry.entry-index in
    let none : Entry = record { column = 0; value = pos 0 } in
    let rising = subst IsRising (sym c.entries-entry-items.ensures.value) c.entries-entry-items.ensures.row.rising in
    let m = c.ranges.multiplier in
    let value : SFits w128 (get_or es i none).value = search rules in
    let total : SFits w128 (get_or c.loop-entry.sums (get_or es i none).column (pos 0)) = search rules in
    let count = c.loop-entry.invariant.count in
    let below = c.if-k-sums.true in
    let leaves = simp to_z-of_z at c.in_default.ensures in
    let so_far = simp to_z-of_z at c.loop-entry.invariant in
    λ is. subst (AddingLeaves c.args.sums.now c.args.multiplier) c.entries-entry-items.ensures.value (adding_leaves c.args.sums.now c.loop-entry.sums c.args.multiplier es i none so_far rising c.loop-entry-test.true (omega (arith, count, below)) leaves)

pub loop-entry-preserved : goal.loop-entry-preserved
loop-entry-preserved c =
    let es = c.entries-entry-items.result.now in
    let i = c.loop-entry.entry-index in
    let none : Entry = record { column = 0; value = pos 0 } in
    let rising = subst IsRising (sym c.entries-entry-items.ensures.value) c.entries-entry-items.ensures.row.rising in
    let m = c.ranges.multiplier in
    let so_far = simp to_z-of_z at c.loop-entry.invariant in
    let count = c.loop-entry.invariant.count in
    let same = to_z-of_z w128 c.args.multiplier m in
    elim c.if-k-sums.branch [
      | then-k-sums+in-Some w ↦
          let value : SFits w128 (get_or es i none).value = search rules in
          let before : SFits w128 (get_or c.loop-entry.sums (get_or es i none).column (pos 0)) = search rules in
          let total : SFits w128 w.in-Some.total = search rules in
          let fits = simp to_z-of_z at w.in-Some.ensures in
          let set_is = simp to_z-of_z at w.sums-is in
          let below = w.if-k-sums.true in
          subst (λ (z : ℤ). AreAdded c.args.sums.now z (take (i + 1) es) c.if-k-sums.sums) (sym same)
          (added_more c.args.sums.now c.loop-entry.sums c.if-k-sums.sums c.args.multiplier w.in-Some.total es i none so_far rising c.loop-entry-test.true
          (omega (arith, count, below)) fits.0 fits.1 set_is)
      | else-k-sums w ↦
          let past = w.if-k-sums.false in
          subst (λ (z : ℤ). AreAdded c.args.sums.now z (take (i + 1) es) c.if-k-sums.sums) (sym same)
          (subst (λ (l : List ℤ). AreAdded c.args.sums.now c.args.multiplier (take (i + 1) es) l) (sym w.sums-is)
          (added_passed c.args.sums.now c.loop-entry.sums c.args.multiplier es i none so_far c.loop-entry-test.true (omega (arith, count, past))))
    ]
