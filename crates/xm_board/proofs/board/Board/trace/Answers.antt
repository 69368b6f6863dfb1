use Rattle.std.proofs.Common.{◌≡◌, ◌+◌, ◌-◌, ℕ, suc, length, ap, ap₂, sym, subst, ◌∙◌, arith}
use Rattle.xm_board.proofs.Traced.{first_before, traced}
use Rattle.xm_board.specs.Core.{AllDone}
use Rattle.xm_board.specs.Run.{Boarded}
use Rattle.xm_board.proofs.board.Board.trace.Goals as goal

pub overflow_add-to : goal.overflow_add-to
overflow_add-to c =
    let early = c.self.invariant.set_up.target in let n = c.cycles-cycles.ensures.number in let r = c.cycles-cycles.type_inv in let t = c.target-to.ensures in
    omega arith

pub merged-requires-clause-design : goal.merged-requires-clause-design
merged-requires-clause-design c = c.self.invariant.set_up.design_is

pub merged-requires-clause-whole : goal.merged-requires-clause-whole
merged-requires-clause-whole c = ap length c.as_slice-all.ensures ∙ (c.self.invariant.moves_are.whole ∙ c.self.invariant.set_up.count)

pub merged-requires-clause-order : goal.merged-requires-clause-order
merged-requires-clause-order c =
    let b = c.self.inside in
    let h = first_before b.design.now b.tape.now b.parts.now b.core b.floor b.logs.items b.moves.items b.far.items b.newest.items c.self.invariant c.is_core.ensures in
    let f = c.first-from.ensures in let t = c.target-to.ensures in
    omega arith

pub returns-clause-cycles : goal.returns-clause-cycles
returns-clause-cycles c =
    let next : c.target-to.result + 1 ≡ suc c.self.inside.core.target = (let t = c.target-to.ensures in omega arith) in
    ap₂ (λ (i j : ℕ). j - i) c.first-from.ensures next ∙ ap (λ (x : Boarded). suc x.core.target - x.core.first) c.self.view_is

pub returns-clause-moves : goal.returns-clause-moves
returns-clause-moves c =
    let b = c.self.inside in
    let done = subst (λ (x : Boarded). AllDone x.core) (sym c.self.view_is) c.requires in
    let next : c.target-to.result + 1 ≡ suc b.core.target = (let t = c.target-to.ensures in omega arith) in
    traced b.design.now b.tape.now b.parts.now b.core b.floor b.logs.items b.moves.items b.far.items b.newest.items c.self.invariant done c.args.self.now c.self.view_is
    c.as_slice-all.result.now c.first-from.result (c.target-to.result + 1) c.in_ok-moves.moves.items c.as_slice-all.ensures c.first-from.ensures next c.in_ok-moves.ensures
