use Rattle.std.proofs.Common.{◌-◌, ◌<◌, ◌^◌, refl, arith}
use Rattle.std.proofs.lemmas.Nat.{and_le_l}
use Rattle.std.specs.Prelude.{bit_and}
use Rattle.xm_colours.proofs.Words.{first_missing, none_missing}
use Rattle.xm_colours.proofs.word.first_missing.Goals as goal

pub returns-then-missing-eq0-clause-none : goal.returns-then-missing-eq0-clause-none
returns-then-missing-eq0-clause-none c = none_missing c.args.word c.args.other _ c.ranges.other.fits refl c.if-missing-eq0.true

pub returns-else-missing-eq0-clause-some : goal.returns-else-missing-eq0-clause-some
returns-else-missing-eq0-clause-some c =
    let fits = c.ranges.word.fits in
    let most = and_le_l c.args.word (18446744073709551615 - c.args.other) in
    let small : bit_and c.args.word (18446744073709551615 - c.args.other) < 2 ^ 64 = omega arith in
    first_missing c.args.word c.args.other _ c.ranges.other.fits refl small c.if-missing-eq0.false
