use Rattle.xm_trace.proofs.RoundAdded.{few_shown, had_more}
use Rattle.xm_trace.proofs.run_text.RunText.add.Goals as goal

pub count_moves-requires-clause-room : goal.count_moves-requires-clause-room
count_moves-requires-clause-room c = few_shown _ _ c.self.view_is _ _ c.as_mut_slice.result.now c.requires.follows c.as_mut_slice.ensures.value

pub returns-clause-had : goal.returns-clause-had
returns-clause-had c φ follows =
    had_more _ _ c.self.view_is φ _ _ c.as_slice.result.now c.as_mut_slice.result.now c.count_moves.new.sums follows c.as_mut_slice.ensures.value c.as_slice.ensures c.count_moves.auto.sums c.count_moves.ensures
