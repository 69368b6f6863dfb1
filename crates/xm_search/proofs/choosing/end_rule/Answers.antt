use Rattle.std.proofs.Common.{◌≡◌, [], Option, Some, subst, sym, false, ◌∙◌}
use Rattle.std.specs.Prelude.{IfNone, IfSome}
use Rattle.xm_lits.specs.Inference.{Inference, inference_of, rules_of}
use Rattle.xm_lits.specs.declared.literal.Lit.{Lit}
use Rattle.xm_search.proofs.Choices.{choice_of}
use Rattle.xm_search.proofs.Looks.{go_on}
use Rattle.xm_search.specs.Inner.Choosing.{IsChosen, IsLast, IsPick, any_last}
use Rattle.xm_search.specs.declared.choosing.Pick.{Pick}
use Rattle.xm_search.proofs.choosing.end_rule.Goals as goal

pub returns-in_ok-take_rule-in-Some-clause-some : goal.returns-in_ok-take_rule-in-Some-clause-some
returns-in_ok-take_rule-in-Some-clause-some c =
    let it = c.args.design.now in
    let path = c.args.path.now in
    let taken = c.in_ok-take_rule-in-Some in
    let p = c.in-Some.pick in
    let pick : IsPick it path p × IsLast (rules_of it p.on) p.place =
    subst (λ (o : Option Pick). IfSome o (λ q. IsPick it path q × IsLast (rules_of it q.on) q.place)) c.in-Some.is c.in_ok-pick.ensures.some in
    let rule = inference_of taken.field-0.rule in
    let same : Some pick.1.0 ≡ Some rule = sym pick.1.1.0 ∙ taken.ensures.at in
    let one : pick.1.0 ≡ rule = cc in (
      subst (λ (l : Lit). IsChosen it path l rule) (sym taken.ensures.on) (choice_of it path p rule pick.0 taken.ensures.at),
      subst (λ (r : Inference). r.alternatives ≡ []) one pick.1.1.1,
    )

pub returns-in-None-clause-none : goal.returns-in-None-clause-none
returns-in-None-clause-none c =
    let it = c.args.design.now in
    let path = c.args.path.now in
    go_on it path (subst (λ (o : Option Pick). IfNone o (any_last it path ≡ false)) c.in-None.is c.in_ok-pick.ensures.none)
