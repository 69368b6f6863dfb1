use Rattle.std.proofs.Common.{◌≡◌, ◌∙◌, ap, false, subst, sym}
use Rattle.serde_json.specs.Data.{Data}
use Rattle.serde_json.specs.View.{view}
use Rattle.serde_json.specs.Written.{compact_text, has_float}
use Rattle.xm_proof.specs.Argument.{argument_of}
use Rattle.xm_proof_reader.specs.Views.{known_of}
use Rattle.xm_proof_writer.proofs.Standing.{proof_stands}
use Rattle.xm_proof_writer.proofs.write.proof_text.Goals as goal

pub returns : goal.returns
returns c =
    let stands = (proof_stands (known_of c.args.known.now) (argument_of c.args.proof.now)).plain in
    let plain : has_float (view c.in_ok-value.value) ≡ false = subst (λ (d : Data). has_float d ≡ false) (sym c.in_ok-value.ensures) stands in
    c.in_ok-text.ensures.text plain ∙ ap compact_text c.in_ok-value.ensures
