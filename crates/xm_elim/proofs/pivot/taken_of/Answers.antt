use Rattle.std.proofs.Common.{◌+◌, ◌∙◌, take, ap, subst, sym}
use Rattle.xm_elim.specs.Inner.Columns.{AreTakenOf}
use Rattle.xm_elim.proofs.Looking.{never}
use Rattle.xm_elim.proofs.Placing.{at_index, taken_all, taken_more, taken_none, taken_passed}
use Rattle.xm_elim.proofs.pivot.taken_of.Goals as goal
use Rattle.xm_elim.proofs.pivot.taken_of.Goals.{then-is_taken+in_ok-push, else-is_taken}

pub loop-p-init : goal.loop-p-init
loop-p-init c = taken_none c.args.rows.now c.args.column _ c.truncate.ensures.items

pub loop-p-preserved : goal.loop-p-preserved
loop-p-preserved c =
    elim c.if-is_taken.branch [
      | then-is_taken+in_ok-push w ↦
          taken_more c.args.rows.now c.args.column c.args.given.now c.loop-p.p-index c.loop-p.places.items c.if-is_taken.places.items c.loop-p-test.true c.requires
          (ap (λ l. l.items) w.places-is ∙ w.in_ok-push.ensures.ok) c.loop-p.invariant
      | else-is_taken w ↦
          subst (λ l. AreTakenOf c.args.rows.now c.args.column (take (c.loop-p.p-index + 1) c.args.given.now) l.items) (sym w.places-is)
          (taken_passed c.args.rows.now c.args.column c.args.given.now c.loop-p.p-index c.loop-p.places.items c.index-rows-p.result c.loop-p-test.true
          (at_index c.args.rows.now _ c.index-rows-p.result (c.requires c.loop-p.p-index 0 c.loop-p-test.true) c.index-rows-p.is)
          (λ taken. never c.is_taken.result (c.is_taken.ensures.1 taken) w.if-is_taken.false) c.loop-p.invariant)
    ]

pub returns : goal.returns
returns c = taken_all c.args.rows.now c.args.column c.args.given.now c.loop-p.p-index c.loop-p.places.items c.loop-p-test.false c.loop-p.invariant
