use Rattle.std.proofs.Common.{◌<◌, List, length, get_or, ap, sym, subst, arith}
use Rattle.xm_board.proofs.Keeping.{lent_at}
use Rattle.xm_board.proofs.Lending.{changes_lent}
use Rattle.xm_board.specs.Run.{AreChanges, Boarded}
use Rattle.xm_parts.specs.declared.changes.Change.{Change}
use Rattle.xm_board.proofs.board.Board.changes.Goals as goal

pub returns : goal.returns
returns c floor is_floor =
    let b = c.self.inside in
    let ys = c.as_slice.result.now in let p = c.args.p in
    let inside : p < length b.logs.items = (let w = c.self.invariant.logs_are.whole in let n = ap (λ (x : Boarded). x.core.count) c.self.view_is in let h = c.requires in omega arith) in
    let at = lent_at b.logs.items ys p c.index-as_slice-p.result c.as_slice.ensures inside in
    subst (λ (l : List Change). AreChanges c.args.self.now p floor l) (sym c.as_slice-2.ensures) (changes_lent b.design.now b.tape.now b.parts.now b.core b.floor b.logs.items b.moves.items b.far.items b.newest.items p (get_or ys p c.index-as_slice-p.result) c.self.invariant at c.args.self.now c.self.view_is floor is_floor)
