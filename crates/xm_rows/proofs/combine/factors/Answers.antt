use Rattle.std.proofs.Common.{◌≡◌, ℤ, pos, ◌-ℤ◌, ◌∙◌, neg_ℤ, to_z, of_z, SFits, arith, rules}
use Rattle.std.specs.Int.{w128}
use Rattle.std.proofs.lemmas.Int.{to_z-of_z, fits_signed_from_abs, ints}
use Rattle.xm_rows.specs.Row.{Fits128}
use Rattle.xm_rows.specs.Lemmas.Factors.{factors_up, factors_down}
use Rattle.xm_rows.proofs.combine.factors.Goals as goal

-- what the code's negation gives
turned : (q : ℤ) → Fits128 q → to_z w128 (of_z w128 (pos 0 -ℤ to_z w128 (of_z w128 q))) ≡ neg_ℤ q
turned q fits = let s : SFits w128 q = fits_signed_from_abs w128 q fits in omega (arith, ints)

pub returns-then-b-lt0 : goal.returns-then-b-lt0
returns-then-b-lt0 c =
    let a = c.ranges.a in let b = c.ranges.b in
    let divisor : SFits w128 c.common_divisor-divisor.result = search rules in
    let greatest = simp to_z-of_z at c.common_divisor-divisor.ensures.greatest in
    factors_down c.args.a c.args.b _ _ c.quotient-first.result c.quotient-second.result c.common_divisor-divisor.result (omega (arith, ints)) c.common_divisor-divisor.ensures.positive greatest
    (simp to_z-of_z at c.quotient-first.ensures.value) (simp to_z-of_z at c.quotient-second.ensures.value)
    (turned _ c.quotient-first.ensures.fits) (turned _ c.quotient-second.ensures.fits)

pub returns-else-b-lt0 : goal.returns-else-b-lt0
returns-else-b-lt0 c =
    let a = c.ranges.a in let b = c.ranges.b in
    let divisor : SFits w128 c.common_divisor-divisor.result = search rules in
    let first : SFits w128 c.quotient-first.result = search rules in
    let second : SFits w128 c.quotient-second.result = search rules in
    let greatest = simp to_z-of_z at c.common_divisor-divisor.ensures.greatest in
    factors_up c.args.a c.args.b _ _ c.common_divisor-divisor.result c.requires.nonzero (omega (arith, ints)) c.common_divisor-divisor.ensures.positive greatest
    (to_z-of_z w128 _ first ∙ (simp to_z-of_z at c.quotient-first.ensures.value)) (to_z-of_z w128 _ second ∙ (simp to_z-of_z at c.quotient-second.ensures.value))
