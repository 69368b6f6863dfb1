use Rattle.std.proofs.Common.{◌∙◌, map, ap, sym, subst, inl, inr}
use Rattle.std.proofs.lemmas.Bool.{and_parts}
use Rattle.std.proofs.lemmas.Result.{IfOk-weaker}
use Rattle.clap.specs.Faults.{fault_of, is_simple_and_free}
use Rattle.clap.specs.Kinds.{HasKind}
use Rattle.clap.specs.Matches.{found_of}
use Rattle.clap.specs.Simple.{app_of, is_simple, matches_of}
use Rattle.clap.specs.Walk.{first_of}
use Rattle.clap.proofs.WalkLemmas.{first_value-rows}
use Rattle.xm_options.proofs.Answer.{refused_none, taken_values}
use Rattle.xm_options.proofs.Rules.{simple_command}
use Rattle.xm_options.proofs.read.read_plain.Goals as goal

pub returns-in-Ok : goal.returns-in-Ok
returns-in-Ok c =
    let options = c.args.options.now in
    let words = map (λ word. word.now) c.args.words.now in
    let built_as = c.in_ok-command.ensures in
    let simple = ap is_simple_and_free built_as ∙ simple_command options in
    let rows = (c.in-Ok.ensures.matches (and_parts (is_simple (app_of c.in_ok-command.command)) _ simple).0).0 in
    IfOk-weaker c.values_of.result _ _ (λ values is.
    is ∙ taken_values options words _ c.requires (sym (ap (λ a. fault_of a words) built_as) ∙ c.in-Ok.ensures.kinds simple)
    (λ name. first_value-rows (found_of c.in-Ok.matches) name ∙ ap (first_of name) (rows ∙ ap (λ a. matches_of a words) built_as))) c.values_of.ensures

pub returns : goal.returns
returns c =
    let options = c.args.options.now in
    let words = map (λ word. word.now) c.args.words.now in
    let built_as = c.in_ok-command.ensures in
    let simple = ap is_simple_and_free built_as ∙ simple_command options in
    let kinds = c.in-Err.ensures.kinds simple in
    refused_none options words (λ passes.
    elim (subst (λ kinds. HasKind kinds c.in-Err.error) (ap (λ a. fault_of a words) built_as ∙ passes) kinds) [
      | inl memory ↦ c.in_default.not-OutOfMemory (c.kind.ensures ∙ memory)
      | inr among ↦ among
    ])
