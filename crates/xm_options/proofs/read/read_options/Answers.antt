use Rattle.std.proofs.Common.{◌∙◌, map, ap}
use Rattle.std.specs.List.{list_any}
use Rattle.std.proofs.lemmas.Result.{IfOk-weaker}
use Rattle.xm_options.specs.Inner.Words.{is_dashes}
use Rattle.xm_options.proofs.Plain.{no_dashes, not_plain_none}
use Rattle.xm_options.proofs.Values.{each, within}
use Rattle.xm_options.proofs.read.read_options.Goals as goal

pub read_plain-requires : goal.read_plain-requires
read_plain-requires c =
    let plain = rw c.in-Some.is at c.in_ok-plain.ensures in
    ap (λ texts. list_any is_dashes (map (λ word. word.now) texts)) c.deref.ensures.value ∙ ap (list_any is_dashes) plain.1 ∙ no_dashes c.args.words.now plain.0

pub returns-in-None-clause-exact : goal.returns-in-None-clause-exact
returns-in-None-clause-exact c = let plain = rw c.in-None.is at c.in_ok-plain.ensures in not_plain_none c.args.options.now c.args.words.now plain

pub returns-in-Some-clause-each : goal.returns-in-Some-clause-each
returns-in-Some-clause-each c =
    IfOk-weaker c.read_plain.result _ _ (λ answer is. each c.args.options.now _ answer is) c.read_plain.ensures

pub returns-in-Some-clause-within : goal.returns-in-Some-clause-within
returns-in-Some-clause-within c =
    IfOk-weaker c.read_plain.result _ _ (λ answer is. within c.args.options.now _ answer is) c.read_plain.ensures
