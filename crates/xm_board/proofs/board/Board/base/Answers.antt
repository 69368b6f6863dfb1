use Rattle.std.proofs.Common.{◌<◌, length, get_or, ap, arith}
use Rattle.xm_board.proofs.Keeping.{lent_at}
use Rattle.xm_board.proofs.Lending.{base_lent}
use Rattle.xm_board.specs.Run.{Boarded}
use Rattle.xm_board.proofs.board.Board.base.Goals as goal

pub returns : goal.returns
returns c floor s φ is_floor named =
    let b = c.self.inside in
    let ys = c.as_slice.result.now in let p = c.args.p in
    let inside : p < length b.logs.items = (let w = c.self.invariant.logs_are.whole in let n = ap (λ (x : Boarded). x.core.count) c.self.view_is in let h = c.requires in omega arith) in
    let at = lent_at b.logs.items ys p c.index-as_slice-p.result c.as_slice.ensures inside in
    base_lent b.design.now b.tape.now b.parts.now b.core b.floor b.logs.items b.moves.items b.far.items b.newest.items p (get_or ys p c.index-as_slice-p.result) c.self.invariant at c.args.self.now c.self.view_is floor s φ is_floor named
