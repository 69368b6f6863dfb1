use Rattle.std.proofs.Common.{◌≡◌, ◌∙◌, refl, sym, subst}
use Rattle.std.proofs.lemmas.Result.{IfOk-weaker}
use Rattle.xm_model.specs.Next.{next}
use Rattle.xm_model.specs.Views.{choice_at}
use Rattle.xm_parts.specs.Changing.{CanChange, IsWithinCapacities}
use Rattle.xm_parts.specs.Kept.{label_at}
use Rattle.xm_parts.specs.Projection.{Row, projection}
use Rattle.xm_parts.specs.Rows.{row_of}
use Rattle.xm_parts.specs.declared.row.PartRow.{PartRow}
use Rattle.xm_tests.proofs.suites.part_runs.row_on.Goals as goal

pub changed-requires-clause-newer : goal.changed-requires-clause-newer
changed-requires-clause-newer c =
    let it = c.args.design.now in let net = it.net in let label = label_at c.args.parts.now.labels in
    let at = c.requires.cycle.0 in let later = next net at.state at.frame in
    let made = (c.one_frame.ensures net it.order later (choice_at net.prims c.args.choices.now) c.is_designed.ensures.net c.is_designed.ensures.order).0 in
    let is : row_of c.part_step.new.out ≡ projection net label c.args.p later made.0 = c.part_step.ensures.step at (choice_at net.prims c.args.choices.now) made.0 (λ i m has is inside. refl) made.1 in
    let fitting = c.fits_next.ensures net it.order at.state at.choices at.frame c.is_designed.ensures.net c.is_designed.ensures.order c.requires.cycle.1 c.requires.cycle.2 at.is_frame in (
      subst (λ (r : Row). CanChange (row_of c.args.row.now) r) (sym is)
          (subst (λ (r : Row). CanChange r (projection net label c.args.p later made.0)) (sym at.row_is) (c.change_law.ensures net label c.args.p at.state at.frame made.0 c.requires.cycle.1)),
      subst (λ (r : Row). IsWithinCapacities net r) (sym is) (c.capacity_law.ensures net label c.args.p later made.0 fitting),
    )

pub returns-clause-step : goal.returns-clause-step
returns-clause-step c at φ frame =
    let net = c.args.design.now.net in let label = label_at c.args.parts.now.labels in
    let is = c.part_step.ensures.step at (choice_at net.prims c.args.choices.now) φ (λ i m has inside lies. refl) frame in
    IfOk-weaker c.changed.result (λ (made : PartRow). row_of made ≡ row_of c.part_step.new.out) (λ (made : PartRow). row_of made ≡ projection net label c.args.p (next net at.state at.frame) φ) (λ made same. same ∙ is) c.changed.ensures.row
