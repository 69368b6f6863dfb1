use Rattle.std.proofs.Common.{◌≡◌, List}
use Rattle.xm_check.proofs.goals.all_marked.Given as goal
use Rattle.xm_check.specs.Inner.Marked.{AreMarks}
use Rattle.xm_colours.specs.Family.{colours_at}
use Rattle.xm_colours.specs.Pairs.{pairs}
use Rattle.xm_lits.specs.declared.literal.Lit.{Lit}
use Rattle.xm_proof.specs.Valid.{all_goals}

abbrev pub invariant-loop-channel : goal.invariant-loop-channel
invariant-loop-channel l =
    (before : List Lit) → AreMarks l.design.net.channels before l.marks
    → all_goals before (pairs (colours_at l.design.colours) l.design.net.channels) ≡ all_goals before (pairs (colours_at l.design.colours) l.channel)
