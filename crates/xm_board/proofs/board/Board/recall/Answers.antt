use Rattle.std.proofs.Common.{sym, subst, ◌≡◌, true, false, ◌∙◌}
use Rattle.std.specs.Prelude.{replicate}
use Rattle.xm_board.proofs.Keeping.{board_kept}
use Rattle.xm_board.proofs.Standing.{nothing_out}
use Rattle.xm_board.specs.Core.{Core}
use Rattle.xm_board.specs.Inner.Standing.{IsBoard}
use Rattle.xm_board.proofs.board.Board.recall.Goals as goal

pub invariant_of-self : goal.invariant_of-self
invariant_of-self c =
    let it = c.self.inside in
    subst (λ (d : Core). IsBoard it.design.now it.tape.now it.parts.now d it.floor it.logs.items it.moves.items it.far.items it.newest.items) (sym c.recall.ensures)
    (board_kept it.design.now it.tape.now it.parts.now it.core it.floor it.logs.items it.moves.items it.far.items it.newest.items (replicate it.core.count false) it.core.stopped (λ p is. absurd (let no : false ≡ true = sym (nothing_out it.core.count p) ∙ is in cc)) c.self.invariant)
