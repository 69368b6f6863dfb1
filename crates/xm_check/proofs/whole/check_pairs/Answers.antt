use Rattle.std.proofs.Common.{◌≡◌, Bool, length, ap, sym, ◌∙◌, subst}
use Rattle.xm_check.proofs.Pairing.{goal_breaks, goals_pass, lits_of}
use Rattle.xm_check.specs.Inner.Marked.{AreMarks}
use Rattle.xm_model.specs.Lending.{refill-full}
use Rattle.xm_model.specs.Steps.{check}
use Rattle.xm_proof.specs.declared.verdict.ProofPath.TheVariants as place
use Rattle.xm_proof.specs.declared.verdict.Reason.TheVariants as reason
use Rattle.xm_check.proofs.whole.check_pairs.Goals as goal

pub returns-in-Some : goal.returns-in-Some
returns-in-Some c = goal_breaks c.args.design.now c.args.goals.now (place.Goal c.in-Some.k, reason.Goal) c.in-Some.ensures.some

pub returns-in-Ok-true : goal.returns-in-Ok-true
returns-in-Ok-true c =
    let it = c.args.design.now in
    let goals = c.args.goals.now in
    let size : length c.mark_goals.new.marks ≡ length c.in-Ok.marks.items = c.mark_goals.auto.marks ∙ ap length c.as_mut_slice.ensures.value in
    let kept = c.as_slice.ensures ∙ refill-full (length c.in-Ok.marks.items) c.in-Ok.marks.items c.mark_goals.new.marks size in
    let all = c.in-Ok-true.ensures (lits_of goals) (subst (AreMarks it.net.channels (lits_of goals)) (sym kept) c.in_default-mark_goals.ensures.marked) in
    goals_pass it goals c.in-Ok-true.field-0 c.in_default-mark_goals.ensures.none all ∙ ap (λ (b : Bool). check b (place.Goals, reason.Missing)) c.in-Ok-true.field-0-test

pub returns-in-Ok-false : goal.returns-in-Ok-false
returns-in-Ok-false c =
    let it = c.args.design.now in
    let goals = c.args.goals.now in
    let size : length c.mark_goals.new.marks ≡ length c.in-Ok.marks.items = c.mark_goals.auto.marks ∙ ap length c.as_mut_slice.ensures.value in
    let kept = c.as_slice.ensures ∙ refill-full (length c.in-Ok.marks.items) c.in-Ok.marks.items c.mark_goals.new.marks size in
    let all = c.in-Ok-false.ensures (lits_of goals) (subst (AreMarks it.net.channels (lits_of goals)) (sym kept) c.in_default-mark_goals.ensures.marked) in
    goals_pass it goals c.in-Ok-false.field-0 c.in_default-mark_goals.ensures.none all ∙ ap (λ (b : Bool). check b (place.Goals, reason.Missing)) c.in-Ok-false.field-0-test
