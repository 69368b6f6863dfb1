use Rattle.std.proofs.Common.{◌≡◌, Option, subst, sym, true}
use Rattle.std.specs.Prelude.{IfNone, IfSome}
use Rattle.xm_lits.specs.Inference.{inference_of}
use Rattle.xm_lits.specs.declared.literal.Lit.{Lit}
use Rattle.xm_search.proofs.Choices.{choice_of}
use Rattle.xm_search.proofs.Looks.{answered}
use Rattle.xm_search.specs.Inner.Choosing.{IsChosen, IsPick, all_answered}
use Rattle.xm_search.specs.declared.choosing.Pick.{Pick}
use Rattle.xm_search.proofs.choosing.best_rule.Goals as goal

pub returns-in_ok-take_rule-in-Some-clause-some : goal.returns-in_ok-take_rule-in-Some-clause-some
returns-in_ok-take_rule-in-Some-clause-some c =
    let it = c.args.design.now in
    let path = c.args.path.now in
    let taken = c.in_ok-take_rule-in-Some in
    let pick : IsPick it path c.in-Some.pick = subst (λ (o : Option Pick). IfSome o (IsPick it path)) c.in-Some.is c.in_ok-pick.ensures.some in
    let rule = inference_of taken.field-0.rule in
    subst (λ (l : Lit). IsChosen it path l rule) (sym taken.ensures.on) (choice_of it path c.in-Some.pick rule pick taken.ensures.at)

pub returns-in-None-clause-none : goal.returns-in-None-clause-none
returns-in-None-clause-none c =
    let it = c.args.design.now in
    let path = c.args.path.now in
    answered it path (subst (λ (o : Option Pick). IfNone o (all_answered it path path ≡ true)) c.in-None.is c.in_ok-pick.ensures.none)
