use Rattle.std.proofs.Common.{sym, subst}
use Rattle.xm_board.proofs.Keeping.{board_kept}
use Rattle.xm_board.specs.Core.{Core}
use Rattle.xm_board.specs.Inner.Standing.{IsBoard}
use Rattle.std.proofs.Common.{true}
use Rattle.xm_board.proofs.board.Board.stop.Goals as goal

pub invariant_of-self : goal.invariant_of-self
invariant_of-self c =
    let it = c.self.inside in
    subst (λ (d : Core). IsBoard it.design.now it.tape.now it.parts.now d it.floor it.logs.items it.moves.items it.far.items it.newest.items) (sym c.stop.ensures)
    (board_kept it.design.now it.tape.now it.parts.now it.core it.floor it.logs.items it.moves.items it.far.items it.newest.items it.core.out true (λ p is. is) c.self.invariant)
