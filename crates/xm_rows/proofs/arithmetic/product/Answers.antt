use Rattle.std.proofs.Common.{ℤ, ◌<◌, ◌^◌, ◌*ℤ◌, SFits, unsigned_abs, ◌∙◌, arith, rules}
use Rattle.std.specs.Int.{w128}
use Rattle.std.proofs.lemmas.Int.{to_z-of_z, unsigned_abs-mul}
use Rattle.std.proofs.lemmas.Nat.{mul-lt}
use Rattle.xm_rows.specs.Row.{Fits128}
use Rattle.xm_rows.proofs.arithmetic.product.Goals as goal

-- the product of two small numbers fits
small_fits : (a b : ℤ) → (unsigned_abs a < 2 ^ 63) × (unsigned_abs b < 2 ^ 63) → Fits128 (a *ℤ b)
small_fits a b small =
    let below = mul-lt (unsigned_abs a) (unsigned_abs b) (2 ^ 63) (2 ^ 63) small.0 small.1 in
    let is = unsigned_abs-mul a b in
    omega (arith, below, is)

pub times-requires : goal.times-requires
times-requires c =
    let a = c.ranges.a in let b = c.ranges.b in
    let small = simp to_z-of_z at (c.are_small.ensures c.if-are_small.true) in
    simp to_z-of_z (small_fits c.args.a c.args.b small)

pub returns-then-are_small : goal.returns-then-are_small
returns-then-are_small c =
    let a = c.ranges.a in let b = c.ranges.b in
    let small = simp to_z-of_z at (c.are_small.ensures c.if-are_small.true) in
    let is = simp to_z-of_z at c.times.ensures in
    let whole : SFits w128 c.times.result = search rules in
    (small_fits c.args.a c.args.b small, to_z-of_z w128 c.times.result whole ∙ is)
