use Rattle.std.proofs.Common.{◌≡◌, ◌++◌, List, map, take, subst, sym, arith}
use Rattle.std.proofs.lemmas.List.{take_all}
use Rattle.xm_flow.specs.Inner.Building.{AreTerms}
use Rattle.xm_flow.specs.FlowRows.{Moves, Term, columns, minus, taken_to}
use Rattle.xm_flow.proofs.Terming.{in_get, taken_more}
use Rattle.xm_flow.proofs.terms.push_taken.Goals as goal

pub push_image-requires-clause-colour : goal.push_image-requires-clause-colour
push_image-requires-clause-colour c = rw (← c.requires.set) (in_get c.args.set.now c.loop-i.i 0 c.loop-i-test.true)

pub loop-i-preserved : goal.loop-i-preserved
loop-i-preserved c left made =
    subst (λ (l : List Term). AreTerms (columns c.args.design.now) l c.push_image.new.terms.items)
    (sym (taken_more (λ d. minus (Moves c.args.c d)) left c.args.table.now c.args.e c.args.set.now c.loop-i.i 0 c.loop-i-test.true))
    (c.in_ok-push_image.ensures (left ++ map (λ d. minus (Moves c.args.c d)) (taken_to c.args.table.now c.args.e (take c.loop-i.i c.args.set.now))) (c.loop-i.invariant left made))

pub returns : goal.returns
returns c left made =
    let whole : take c.loop-i.i c.args.set.now ≡ c.args.set.now = take_all _ _ (omega arith) in
    rw whole at (c.loop-i.invariant left made)
