use Rattle.std.proofs.Common.{◌<◌, List, subst, sym, length}
use Rattle.xm_board.proofs.Rounding.{board_rounded}
use Rattle.xm_board.specs.Core.{AllDone}
use Rattle.xm_board.specs.Inner.Rounds.{AreCleared}
use Rattle.xm_board.specs.Run.{Boarded}
use Rattle.xm_model.specs.Lending.{refill-full}
use Rattle.xm_model.specs.ListView.{ListView}
use Rattle.xm_tape.specs.Taped.{cycles_of}
use Rattle.xm_trace.specs.declared.trace.Move.{Move}
use Rattle.xm_board.proofs.board.Board.next_round.Goals as goal

pub invariant_of-self : goal.invariant_of-self
invariant_of-self c =
    let b = c.self.inside in
    let all = subst (λ (x : Boarded). AllDone x.core) (sym c.self.view_is) c.requires.done in
    let within : c.args.target < cycles_of b.tape.now = subst (λ (x : Boarded). c.args.target < cycles_of x.run.tape) (sym c.self.view_is) c.requires.within in
    let cleared : AreCleared b.moves.items c.clear_all.new.moves = subst (λ (l : List (ListView Move)). AreCleared l c.clear_all.new.moves) c.as_mut_slice.ensures.value c.clear_all.ensures in
    let full = refill-full (length b.moves.items) b.moves.items c.clear_all.new.moves cleared.whole in
    board_rounded b.design.now b.tape.now b.parts.now b.core _ b.floor b.logs.items b.moves.items _ b.far.items b.newest.items c.args.target all within
    (subst (λ (l : List (ListView Move)). AreCleared b.moves.items l) (sym full) cleared) c.next_round.ensures c.self.invariant
