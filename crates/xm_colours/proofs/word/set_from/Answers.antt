use Rattle.xm_colours.proofs.Words.{from_more, from_past}
use Rattle.xm_colours.proofs.word.set_from.Goals as goal
use Rattle.xm_colours.proofs.word.set_from.Goals.{else-colour-lt64, then-colour-lt64}

pub loop-colour-preserved : goal.loop-colour-preserved
loop-colour-preserved c = elim c.if-colour-lt64.branch [
  | then-colour-lt64 w ↦ rw w.word-is (from_more c.loop-colour.word c.args.colours.now c.loop-colour.colour-index c.loop-colour-test.true c.loop-colour.invariant w.with-word.result w.with-word.ensures.same w.with-word.ensures.others)
  | else-colour-lt64 w ↦ rw w.word-is (from_past c.loop-colour.word c.args.colours.now c.loop-colour.colour-index c.loop-colour-test.true c.loop-colour.invariant w.if-colour-lt64.false)
]
