use Rattle.std.proofs.Common.{ap, length, ◌∙◌}
use Rattle.xm_lits.specs.Inference.{inference_of}
use Rattle.xm_lits.specs.declared.inference.Rule.{Rule}
use Rattle.xm_search.proofs.Choices.{at_map, no_alternatives}
use Rattle.xm_search.proofs.choosing.end_place.Goals as goal

pub returns-then-is_empty-clause-some : goal.returns-then-is_empty-clause-some
returns-then-is_empty-clause-some c =
    let r = c.index-rules-k.result in
    let none = ap (λ (x : Rule). length x.alternatives.items) c.index-rules-k.is ∙ c.is_empty.ensures.0 c.if-is_empty.true in
    (inference_of r, (at_map c.args.rules.now c.loop-k.k r c.loop-k-test.true c.index-rules-k.is, no_alternatives r none))
