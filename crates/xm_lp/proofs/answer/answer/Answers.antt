use Rattle.std.proofs.Common.{◌∙◌, ap, arith, rules, SFits}
use Rattle.std.specs.Int.{w128}
use Rattle.std.proofs.lemmas.Int.{ints, to_z-of_z}
use Rattle.xm_rows.specs.Row.{SparseRow}
use Rattle.xm_lp.specs.Inner.Table.{tableau_of}
use Rattle.xm_lp.proofs.Ordering.{read_row}
use Rattle.xm_lp.proofs.Deciding.{some_rows}
use Rattle.xm_lp.proofs.Sound.{sound, never_positive}
use Rattle.xm_lp.proofs.answer.answer.Goals as goal

pub point-requires-clause-zero : goal.point-requires-clause-zero
point-requires-clause-zero c =
    let t = tableau_of c.args.table.now in
    let some = some_rows c.args.constraints.now c.args.columns c.args.pivots t c.requires.below c.requires.after in
    let row = read_row c.args.table.now.rows.items 0 c.index-as_slice-0.result c.as_slice.result.now c.as_slice.ensures some c.index-as_slice-0.is in
    let down = never_positive c.args.constraints.now c.args.columns c.requires.below t (sound c.args.constraints.now c.args.columns c.requires.below c.requires.after) in
    let fits : SFits w128 c.constant.result = search rules in
    let is = to_z-of_z w128 c.constant.result fits ∙ c.constant.ensures.value ∙ ap (λ (r : SparseRow). r.constant) row in
    let up = c.if-constant-lt0.false in
    omega (arith, ints, down, is, up)
