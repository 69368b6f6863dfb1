use Rattle.std.proofs.Common.{Option, subst}
use Rattle.xm_rows.specs.Row.{SparseRow}
use Rattle.xm_elim.specs.Inner.Places.{IsReplacement}
use Rattle.xm_elim.proofs.Replacing.{replaced_some}
use Rattle.xm_elim.proofs.replace.replace_one.Goals as goal

pub returns-in-Ok-Some-clause-ok : goal.returns-in-Ok-Some-clause-ok
returns-in-Ok-Some-clause-ok c =
    replaced_some c.args.column c.args.pivot c.args.p c.args.rows.now c.in-Ok-Some.row c.index-rows-p.result c.requires.p_within c.requires.pivot_within
    (subst (λ (o : Option SparseRow). IsReplacement c.args.column c.args.pivot c.args.p c.args.rows.now o) c.in-Ok-Some.field-0-is c.in-Ok-Some.ensures.ok)
