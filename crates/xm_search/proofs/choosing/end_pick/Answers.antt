use Rattle.std.proofs.Common.{ℕ, get_or, Option, subst}
use Rattle.std.specs.Prelude.{IfSome}
use Rattle.std.proofs.lemmas.Option.{slice_get-get_or}
use Rattle.xm_lits.specs.Inference.{rules_of}
use Rattle.xm_lits.specs.declared.literal.Lit.TheVariants.{Stuck}
use Rattle.xm_search.proofs.Choices.{last_fresh}
use Rattle.xm_search.proofs.Looks.{on_at}
use Rattle.xm_search.specs.Inner.Choosing.{IsLast}
use Rattle.xm_search.proofs.choosing.end_pick.Goals as goal

pub returns-in-Some-clause-some : goal.returns-in-Some-clause-some
returns-in-Some-clause-some c =
    let path = c.args.path.now in
    let i = c.loop-on.on-index in
    let on = get_or path i (Stuck 0) in
    let rules = rules_of c.args.design.now on in
    let last : IsLast rules c.in-Some.place = subst (λ (o : Option ℕ). IfSome o (IsLast rules)) c.in-Some.is c.in_ok-place.ensures.some in
    (record { here = on_at path i on (slice_get-get_or path i (Stuck 0) c.loop-on-test.true); fresh = last_fresh path rules c.in-Some.place last }, last)
