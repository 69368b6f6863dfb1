use Rattle.std.proofs.Common.{sym, subst, ◌∙◌, FitsSigned, to_z-of_z}
use Rattle.std.specs.Int.{w128}
use Rattle.xm_proof_reader.proofs.Texts.{parsed, unparsed}
use Rattle.xm_proof_reader.proofs.Rows.{fits_found}
use Rattle.xm_proof_reader.proofs.numbers.number_of.Goals as goal

pub returns-in_default-clause-exact : goal.returns-in_default-clause-exact
returns-in_default-clause-exact c = sym (unparsed c.args.text.now c.parse.result c.in_default.field-0 c.in_default.is c.parse.ensures.value.0)

pub returns-clause-fits : goal.returns-clause-fits
returns-clause-fits c =
    let is = c.in-Ok.ensures.value.0.1 in
    let fits : FitsSigned w128 c.in-Ok.number = subst (FitsSigned w128) (sym is) c.in-Ok.ensures.value.0.0.1 in
    fits_found c.args.text.now c.number_written.result (c.number_written.ensures ∙ sym (parsed c.args.text.now _ (to_z-of_z fits ∙ is)))

pub returns-clause-exact : goal.returns-clause-exact
returns-clause-exact c =
    let is = c.in-Ok.ensures.value.0.1 in
    let fits : FitsSigned w128 c.in-Ok.number = subst (FitsSigned w128) (sym is) c.in-Ok.ensures.value.0.0.1 in
    c.number_written.ensures ∙ sym (parsed c.args.text.now _ (to_z-of_z fits ∙ is))
