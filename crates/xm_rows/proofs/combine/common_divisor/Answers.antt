use Rattle.std.proofs.Common.{pos, arith}
use Rattle.std.specs.Int.{w128}
use Rattle.std.proofs.lemmas.Int.{to_z-of_z, to_z_pos, fits_signed_from_abs, ints}
use Rattle.xm_rows.specs.Lemmas.Factors.{gcd_positive, gcd_fits, gcd_of}
use Rattle.xm_rows.proofs.combine.common_divisor.Goals as goal

pub overflow_cast-result : goal.overflow_cast-result
overflow_cast-result c =
    let greatest = gcd_of _ _ _ _ _ _ _ c.unsigned_abs.ensures.value (to_z-of_z w128 c.args.a c.ranges.a) c.unsigned_abs-2.ensures.value (to_z-of_z w128 c.args.b c.ranges.b) c.gcd.ensures in
    fits_signed_from_abs w128 (pos c.gcd.result) (gcd_fits c.args.a c.args.b _ c.requires.nonzero c.requires.fits greatest)

pub returns : goal.returns
returns c =
    let greatest = gcd_of _ _ _ _ _ _ _ c.unsigned_abs.ensures.value (to_z-of_z w128 c.args.a c.ranges.a) c.unsigned_abs-2.ensures.value (to_z-of_z w128 c.args.b c.ranges.b) c.gcd.ensures in
    let some = gcd_positive c.args.a c.args.b _ c.requires.nonzero greatest in
    let is = to_z_pos w128 c.gcd.result (gcd_fits c.args.a c.args.b _ c.requires.nonzero c.requires.fits greatest) in
    record { greatest = rw is greatest; positive = rw is (omega (arith, ints)) }
