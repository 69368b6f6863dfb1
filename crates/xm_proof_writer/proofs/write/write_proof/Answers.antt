use Rattle.std.proofs.Common.{◌∙◌, ap, subst, sym, Some}
use Rattle.serde_json.specs.Data.{Data}
use Rattle.xm_netlist.specs.Valid.{IsPart}
use Rattle.xm_proof.specs.Argument.{argument_of}
use Rattle.xm_proof_reader.specs.Views.{known_of}
use Rattle.xm_proof_reader.specs.Reading.{proof_in}
use Rattle.xm_proof_writer.proofs.Standing.{is_part}
use Rattle.xm_proof_writer.proofs.Whole.{proof_again}
use Rattle.xm_proof_writer.proofs.write.write_proof.Goals as goal

pub returns-clause-again : goal.returns-clause-again
returns-clause-again c =
    let known = c.args.known.now in
    ap (λ (d : Data). proof_in (known_of known) (Some d)) c.in_ok-value.ensures
    ∙ proof_again known.design.now (known_of known).names c.is_designed.ensures.colours.rise c.colours.ensures.below (argument_of c.args.proof.now) c.requires

pub returns-clause-part : goal.returns-clause-part
returns-clause-part c = subst IsPart (sym c.in_ok-value.ensures) (is_part (known_of c.args.known.now) (argument_of c.args.proof.now))
