use Rattle.std.proofs.Common.{◌<◌, All, pos, refl, subst}
use Rattle.std.proofs.lemmas.List.{take_all}
use Rattle.std.proofs.lemmas.List.Elements.{All-more}
use Rattle.xm_flow.specs.declared.invariant.Part.{Part}
use Rattle.xm_check.proofs.lemmas.are_parts.Goals as goal

pub loop-part-preserved : goal.loop-part-preserved
loop-part-preserved c =
    let none : Part = record { flow = 0; factor = pos 0 } in
    All-more (λ (x : Part). x.flow < c.args.rows) c.args.parts.now c.loop-part.part-index none c.loop-part-test.true c.loop-part.invariant c.if-part-rows.false

pub returns : goal.returns
returns c = (
  λ _. subst (All (λ (x : Part). x.flow < c.args.rows)) (take_all c.loop-part.part-index c.args.parts.now c.loop-part-test.false) c.loop-part.invariant,
  λ _. refl,
)
