use Rattle.std.proofs.Common.{sym, ◌∙◌}
use Rattle.xm_model.specs.Views.{signals_of}
use Rattle.xm_step.proofs.Going.{neither_moves, none_passed, passed_as}
use Rattle.xm_step.proofs.advance.advance_queue_at.Goals as goal

pub returns-then-has_one_move-clause-passed : goal.returns-then-has_one_move-clause-passed
returns-then-has_one_move-clause-passed g c = passed_as _ _ _ _ _ _ c.pass_any.ensures.passed c.moved_in-leaves.ensures c.moved_in-comes.ensures

pub returns-then-has_one_move-clause-told : goal.returns-then-has_one_move-clause-told
returns-then-has_one_move-clause-told g c = λ none.
    let still = c.pass_any.ensures.told none in
    (sym c.moved_in-leaves.ensures ∙ still.0, sym c.moved_in-comes.ensures ∙ still.1)

pub returns-clause-passed : goal.returns-clause-passed
returns-clause-passed g c =
    let none = neither_moves (signals_of c.args.wires.now) c.args.queue.out c.args.queue.input _ c.has_one_move.ensures c.if-has_one_move.false in
    passed_as _ _ _ _ _ _ (sym (none_passed _)) (sym none.0) (sym none.1)

pub returns-clause-told : goal.returns-clause-told
returns-clause-told g c = λ told.
    neither_moves (signals_of c.args.wires.now) c.args.queue.out c.args.queue.input _ c.has_one_move.ensures c.if-has_one_move.false
