use Rattle.std.proofs.Common.{◌≡◌, ◌++◌, List, map, length, take, subst, sym, arith}
use Rattle.std.proofs.lemmas.List.{take_all}
use Rattle.xm_flow.specs.Inner.Building.{AreTerms, term, unit_of}
use Rattle.xm_flow.specs.FlowRows.{Moves, Term, columns}
use Rattle.xm_flow.proofs.Terming.{in_get, map_more}
use Rattle.xm_flow.proofs.terms.push_moves.Goals as goal

pub push_move-requires-clause-colour : goal.push_move-requires-clause-colour
push_move-requires-clause-colour c = rw (← c.requires.set) (in_get c.args.set.now c.loop-i.i 0 c.loop-i-test.true)

pub loop-i-preserved : goal.loop-i-preserved
loop-i-preserved c left made =
    subst (λ (l : List Term). AreTerms (columns c.args.design.now) l c.push_move.new.terms.items)
    (sym (map_more (λ d. term (unit_of c.args.sign) (Moves c.args.c d)) left c.args.set.now c.loop-i.i 0 c.loop-i-test.true))
    (c.in_ok-push_move.ensures (left ++ map (λ d. term (unit_of c.args.sign) (Moves c.args.c d)) (take c.loop-i.i c.args.set.now)) (c.loop-i.invariant left made))

pub returns : goal.returns
returns c left made =
    let end : c.loop-i.i ≡ length c.args.set.now = omega arith in
    let whole : take c.loop-i.i c.args.set.now ≡ c.args.set.now = take_all _ _ (omega arith) in
    rw whole at (c.loop-i.invariant left made)
