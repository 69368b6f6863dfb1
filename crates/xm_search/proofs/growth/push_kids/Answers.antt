use Rattle.std.proofs.Common.{◌++◌, [], List, ap, ◌∙◌}
use Rattle.xm_lits.specs.declared.literal.Lit.{Lit}
use Rattle.xm_search.proofs.Growing.{kids_next}
use Rattle.xm_search.specs.Inner.Growing.{stacked}
use Rattle.xm_search.proofs.growth.push_kids.Goals as goal

pub loop-i-preserved : goal.loop-i-preserved
loop-i-preserved c =
    kids_next c.args.path.now c.args.alternatives.now c.loop-i.i (stacked c.args.leaves.now.items []) c.loop-i.leaves.items c.push.new.self.items c.index-alternatives-count.result c.in_ok-kid.kid
    c.loop-i-test.true c.index-alternatives-count.is (c.in_ok-kid.ensures ∙ ap (λ (l : List Lit). c.args.path.now ++ l) c.as_slice.ensures) c.in_ok-push.ensures.ok c.loop-i.invariant
