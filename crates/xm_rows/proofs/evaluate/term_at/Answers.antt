use Rattle.std.proofs.Common.{◌≡◌, ◌<◌, ◌^◌, pos, get_or, to_z, SFits, arith, rules}
use Rattle.std.specs.Int.{w128}
use Rattle.std.proofs.lemmas.Int.{to_z-of_z, to_z_pos}
use Rattle.xm_rows.proofs.evaluate.term_at.Goals as goal

pub returns : goal.returns
returns c =
    let number = get_or c.args.point.now c.args.entry.column 0 in
    let fits : SFits w128 c.args.entry.value = search rules in
    let small : number < 2 ^ 64 = search rules in
    let is : to_z w128 number ≡ pos number = to_z_pos w128 number (omega arith) in
    simp (to_z-of_z, is) at c.product.ensures
