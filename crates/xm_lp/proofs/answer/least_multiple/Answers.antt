use Rattle.std.proofs.Common.{◌*◌, ◌/◌, sym, subst, arith}
use Rattle.std.proofs.Math.Nat.{pos_of_dvd_of_pos}
use Rattle.xm_lp.specs.Inner.Multiple.{IsLeastMultiple}
use Rattle.xm_lp.proofs.Multiples.{least_multiple_is, one_least}
use Rattle.xm_lp.proofs.answer.least_multiple.Goals as goal

pub nonzero_div-a : goal.nonzero_div-a
nonzero_div-a c = pos_of_dvd_of_pos c.gcd.ensures.0 c.requires.first

pub returns-in_default-clause-none : goal.returns-in_default-clause-none
returns-in_default-clause-none c =
    let is = least_multiple_is c.args.a c.args.b c.gcd.result c.requires.first c.requires.second c.gcd.ensures in
    let leaves = c.in_default.ensures in
    λ m least. let same = one_least c.args.a c.args.b (c.args.a / c.gcd.result * c.args.b) m is least in grind (arith, same, leaves)

pub returns-then-multiple-clause-none : goal.returns-then-multiple-clause-none
returns-then-multiple-clause-none c =
    let is = least_multiple_is c.args.a c.args.b c.gcd.result c.requires.first c.requires.second c.gcd.ensures in
    let found = c.in-Some.ensures in
    let more = c.if-multiple.true in
    λ m least. let same = one_least c.args.a c.args.b (c.args.a / c.gcd.result * c.args.b) m is least in let e = found.1 in omega (arith, same, e, more)

pub returns-clause-some : goal.returns-clause-some
returns-clause-some c =
    let is = least_multiple_is c.args.a c.args.b c.gcd.result c.requires.first c.requires.second c.gcd.ensures in
    let found = c.in-Some.ensures in
    subst (IsLeastMultiple c.args.a c.args.b) (sym found.1) is
