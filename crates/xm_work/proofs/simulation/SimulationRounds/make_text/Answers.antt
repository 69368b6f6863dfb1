use Rattle.std.proofs.Common.{◌≡◌, ◌≤◌, ◌-◌, ℕ, suc, List, subst, arith}
use Rattle.xm_work.proofs.Telling.{follows, follows_some, lines_made, told_on}
use Rattle.xm_work.specs.Rounds.{lines}
use Rattle.xm_work.specs.Simulating.{AreLines, Simulating}
use Rattle.xm_work.proofs.simulation.SimulationRounds.make_text.Goals as goal

pub add-requires-clause-follows : goal.add-requires-clause-follows
add-requires-clause-follows c =
    let b = c.self.inside in
    let it : Simulating = record { whole = b.whole; board = b.board; floor = b.floor; text = b.text; lines = b.lines.items } in
    let trace = c.in_ok-trace in
    follows_some it c.self.invariant (omega (arith, c.if-cycles-target.false)) trace.trace.cycles trace.trace.moves.items
    trace.ensures.cycles trace.ensures.moves c.rounds_follow.ensures c.is_designed.ensures
    (let n = c.cycles-cycles.ensures.number in omega arith)

pub invariant_of-self-2 : goal.invariant_of-self-2
invariant_of-self-2 c =
    let b = c.self.inside in
    let it : Simulating = record { whole = b.whole; board = b.board; floor = b.floor; text = b.text; lines = b.lines.items } in
    let trace = c.in_ok-trace in
    let early : b.text.cycles ≤ b.board.core.target = omega (arith, c.if-cycles-target.false) in
    let made = c.in_ok-self-inside in
    told_on it c.self.invariant early trace.trace.cycles trace.trace.moves.items trace.ensures.cycles trace.ensures.moves
    c.add.new.self made.field-0.items made.ensures.channels made.ensures.colours made.ensures.cycles
    (λ s φ run. made.ensures.had φ (follows it c.self.invariant early trace.trace.cycles trace.trace.moves.items
    trace.ensures.cycles trace.ensures.moves s φ run))

pub returns-clause-text : goal.returns-clause-text
returns-clause-text c =
    let b = c.self.inside in
    let it : Simulating = record { whole = b.whole; board = b.board; floor = b.floor; text = b.text; lines = b.lines.items } in
    let trace = c.in_ok-trace in
    let early : b.text.cycles ≤ b.board.core.target = omega (arith, c.if-cycles-target.false) in
    let made = c.in_ok-self-inside in
    subst (λ (v : Simulating). (line : ℕ → List ℕ) → AreLines v.whole line
    → made.field-0.items ≡ lines line v.text.cycles (suc v.board.core.target - v.text.cycles)) c.self.view_is
    (lines_made it c.self.invariant early trace.trace.cycles trace.trace.moves.items trace.ensures.cycles
    trace.ensures.moves made.field-0.items
    (λ s φ run. made.ensures.text φ (follows it c.self.invariant early trace.trace.cycles trace.trace.moves.items
    trace.ensures.cycles trace.ensures.moves s φ run)))
