use Rattle.std.proofs.Common.{◌≡◌, ◌∙◌, ap, sym, subst, rules, false}
use Rattle.std.specs.Str.{IsUtf8}
use Rattle.xm_options.specs.Inner.Words.{is_dashes, is_plain}
use Rattle.xm_options.proofs.Plain.{not_text, plain_text}
use Rattle.xm_options.proofs.read.plain_word.Goals as goal

pub returns-else-eq : goal.returns-else-eq
returns-else-eq c =
    let same : c.in-Ok.text.now ≡ c.args.word.now.items = c.in-Ok.ensures.cases.0 ∙ c.as_bytes.ensures in
    let whole : is_dashes c.in-Ok.text.now ≡ false = search rules in
    (plain_text c.args.word.now.items (subst IsUtf8 c.as_bytes.ensures c.in-Ok.ensures.cases.1) (ap is_dashes (sym same) ∙ whole), same)

pub returns-in-Err : goal.returns-in-Err
returns-in-Err c = ap is_plain (sym c.as_bytes.ensures) ∙ not_text c.as_bytes.result.now c.in-Err.ensures.cases.0
