use Rattle.std.proofs.Common.{ℕ, ◌+◌, ◌∙◌, ap, refl, sym, subst, arith, rules, pos, ℤ, ◌+ℤ◌, ◌*ℤ◌, List, get_or, length}
use Rattle.std.proofs.Common.{SFits, to_z, of_z}
use Rattle.std.specs.Int.{w128}
use Rattle.std.proofs.lemmas.Int.{to_z-of_z}
use Rattle.xm_model.specs.Lending.{refill-full}
use Rattle.xm_rows.specs.Row.{Fits128}
use Rattle.xm_lp.specs.Answer.{number_at}
use Rattle.xm_lp.specs.Lemmas.Tally.{AreAdded, AddingLeaves, SumFits}
use Rattle.xm_lp.proofs.Multiplying.{IsSummed, summed_none, summed_more, summed_all, constant_leaves, column_leaves}
use Rattle.xm_lp.proofs.answer.stays_within.Goals as goal

pub loop-i-init : goal.loop-i-init
loop-i-init c = summed_none c.args.constraints.now c.args.columns c.args.multipliers.now c.in_ok-sums.sums.items c.in_ok-sums.ensures

pub returns-in_default-clause-leaves : goal.returns-in_default-clause-leaves
returns-in_default-clause-leaves c =
    let fits : SFits w128 c.constant.result = search rules in
    let multiplier : SFits w128 (get_or c.args.multipliers.now c.loop-i.i (pos 0)) = search rules in
    let constant = to_z w128 c.loop-i.constant-bits in
    let leaves = simp to_z-of_z at c.in_default.ensures in
    λ no. constant_leaves c.args.constraints.now c.args.columns c.args.multipliers.now c.loop-i.sums.items c.loop-i.i constant c.index-constraints-i.result c.loop-i.invariant c.requires c.loop-i-test.true c.index-constraints-i.is
    (subst (λ (z : ℤ). ¬ SumFits constant (get_or c.args.multipliers.now c.loop-i.i (pos 0)) z) c.constant.ensures.value leaves)

pub add_products-requires : goal.add_products-requires
add_products-requires c = subst (λ (l : List ℤ). (k : ℕ) → Fits128 (number_at l k)) (sym c.as_mut_slice.ensures.value) c.loop-i.invariant.fit

pub returns-then-not-add_products-clause-leaves : goal.returns-then-not-add_products-clause-leaves
returns-then-not-add_products-clause-leaves c =
    let multiplier : SFits w128 (get_or c.args.multipliers.now c.loop-i.i (pos 0)) = search rules in
    let leaves = subst (λ (z : ℤ). AddingLeaves c.as_mut_slice.result.now z c.index-constraints-i.result.row.entries) (to_z-of_z w128 (get_or c.args.multipliers.now c.loop-i.i (pos 0)) multiplier)
    (c.if-not-add_products.ensures.leaves refl) in
    λ no. column_leaves c.args.constraints.now c.args.columns c.args.multipliers.now c.loop-i.sums.items c.loop-i.i (to_z w128 c.loop-i.constant-bits) c.index-constraints-i.result c.loop-i.invariant c.requires c.loop-i-test.true
    c.index-constraints-i.is
    (subst (λ (l : List ℤ). AddingLeaves l (get_or c.args.multipliers.now c.loop-i.i (pos 0)) c.index-constraints-i.result.row.entries) c.as_mut_slice.ensures.value leaves)

pub loop-i-preserved : goal.loop-i-preserved
loop-i-preserved c =
    let fits : SFits w128 c.constant.result = search rules in
    let total : SFits w128 c.in-Some.total = search rules in
    let m = get_or c.args.multipliers.now c.loop-i.i (pos 0) in
    let multiplier : SFits w128 (get_or c.args.multipliers.now c.loop-i.i (pos 0)) = search rules in
    let constant = to_z w128 c.loop-i.constant-bits in
    let sums = c.loop-i.sums.items in
    let es = c.index-constraints-i.result.row.entries in
    let added_lent = subst (λ (z : ℤ). AreAdded c.as_mut_slice.result.now z es c.add_products.new.sums) (to_z-of_z w128 m multiplier) (c.if-not-add_products.ensures.added refl) in
    let added = subst (λ (l : List ℤ). AreAdded l m es c.add_products.new.sums) c.as_mut_slice.ensures.value added_lent in
    let whole = refill-full (length sums) sums c.add_products.new.sums added.count in
    let some = simp to_z-of_z at c.in-Some.ensures in
    subst (λ (l : List ℤ). IsSummed c.args.constraints.now c.args.columns c.args.multipliers.now (c.loop-i.i + 1) l (to_z w128 (of_z w128 c.in-Some.total))) (sym whole)
    (summed_more c.args.constraints.now c.args.columns c.args.multipliers.now c.loop-i.i sums c.add_products.new.sums constant (to_z w128 (of_z w128 c.in-Some.total)) c.index-constraints-i.result c.loop-i.invariant c.requires
    c.loop-i-test.true c.index-constraints-i.is
    (subst (λ (z : ℤ). SumFits constant m z) c.constant.ensures.value some.0)
    (to_z-of_z w128 c.in-Some.total total ∙ some.1 ∙ ap (λ (z : ℤ). constant +ℤ (m *ℤ z)) c.constant.ensures.value) added)

pub returns-clause-within : goal.returns-clause-within
returns-clause-within c =
    let past = c.loop-i-test.false in
    let end = c.loop-i.auto.i-end in
    λ yes. summed_all c.args.constraints.now c.args.columns c.args.multipliers.now c.loop-i.sums.items c.loop-i.i (to_z w128 c.loop-i.constant-bits) c.loop-i.invariant c.requires (omega (arith, past, end))
