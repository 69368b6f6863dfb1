use Rattle.std.proofs.Common.{◌+◌, ◌*◌, ◌++◌, ◌∷◌, [], List, Bool, true, subst, sym}
use Rattle.std.specs.Prelude.{slice_set}
use Rattle.xm_check.proofs.Marking.{marked_more}
use Rattle.xm_check.proofs.goals.mark_goal.Goals as goal
use Rattle.xm_check.specs.Inner.Marked.{AreMarks}
use Rattle.xm_lits.specs.declared.literal.Lit.{Lit}

pub returns-else-not-is_pair-clause-marked : goal.returns-else-not-is_pair-clause-marked
returns-else-not-is_pair-clause-marked c before are fresh =
    subst (λ (marks : List Bool). AreMarks c.args.design.now.net.channels (before ++ c.args.goal.now ∷ []) marks) (sym c.mark.ensures.marked)
    (subst (λ (l : Lit). AreMarks c.args.design.now.net.channels (before ++ l ∷ []) (slice_set c.args.marks.now (64 * c.in-Dead.channel + c.in-Dead.colour) true)) (sym c.in-Dead.is)
    (marked_more c.args.design.now.net.channels before c.args.marks.now c.in-Dead.channel c.in-Dead.colour are
    (c.is_pair.ensures.channel c.if-not-is_pair.false) (c.is_pair.ensures.colour c.if-not-is_pair.false)))
