use Rattle.std.proofs.Common.{◌≡◌, ◌+◌, ◌++◌, ◌∷◌, [], ◌∙◌, ap, sym, subst, take}
use Rattle.xm_elim.specs.Inner.Places.{lowered}
use Rattle.xm_elim.proofs.Parting.{lowered_all, lowered_more, lowered_passed}
use Rattle.xm_elim.proofs.part.over_packets.Goals as goal
use Rattle.xm_elim.proofs.part.over_packets.Goals.{then-entry-base+in_ok-push, else-entry-base}

pub loop-entry-preserved : goal.loop-entry-preserved
loop-entry-preserved c =
    elim c.if-entry-base.branch [
      | then-entry-base+in_ok-push w ↦
          lowered_more c.args.moves c.args.base _ c.loop-entry.entry-index _ c.loop-entry.entries.items c.if-entry-base.entries.items c.loop-entry-test.true c.loop-entry.invariant
          w.if-entry-base.true (ap (λ l. l.items) w.entries-is ∙ w.in_ok-push.ensures.ok ∙ ap (λ e. c.loop-entry.entries.items ++ e ∷ []) w.lower.ensures)
      | else-entry-base w ↦
          subst (λ l. l.items ≡ lowered c.args.moves c.args.base (take (c.loop-entry.entry-index + 1) c.entries-entry-items.result.now)) (sym w.entries-is)
          (lowered_passed c.args.moves c.args.base _ c.loop-entry.entry-index _ c.loop-entry.entries.items c.loop-entry-test.true c.loop-entry.invariant w.if-entry-base.false)
    ]

pub returns : goal.returns
returns c =
    lowered_all c.args.moves c.args.base _ c.args.row.now.entries c.loop-entry.entry-index c.loop-entry.entries.items c.loop-entry-test.false c.entries-entry-items.ensures.value
    c.loop-entry.invariant
