use Rattle.std.proofs.Common.{◌≡◌, ◌++◌, ◌-◌, List, take, reverse, map, sym, ap, ◌∙◌, subst, arith}
use Rattle.xm_check.proofs.Going.{popped}
use Rattle.xm_check.specs.Inner.Gives.{Gives}
use Rattle.xm_check.specs.Inner.Walking.{next_test, paths_of}
use Rattle.xm_check.specs.declared.trees.Walk.{Walk}
use Rattle.xm_lits.specs.declared.literal.Lit.{Lit}
use Rattle.xm_flow.specs.ValidLemma as lemmas
use Rattle.xm_proof.specs.Argument as argument
use Rattle.xm_proof.specs.declared.proof.Goal.{Goal}
use Rattle.xm_check.proofs.trees.check_next.Goals as goal

pub check_here-requires-clause-nested : goal.check_here-requires-clause-nested
check_here-requires-clause-nested c =
    let count = c.in_ok-count.ensures in let long = c.len.ensures in let some = c.if-count-eq0.false in
    let made : c.extend.new.path.items ≡ take c.remove-base.result.base c.args.walk.path.items ++ c.remove-base.result.lits.items = c.in_ok-extend.ensures ∙ ap (λ (p : List Lit). p ++ c.as_slice.result.now) c.truncate.ensures.items ∙ ap (λ (ls : List Lit). take c.remove-base.result.base c.args.walk.path.items ++ ls) c.as_slice.ensures in
    (popped c.args.walk.path.items c.extend.new.path.items c.args.walk.left.items c.remove-base.new.self.items (c.in_ok-count.count - 1) c.remove-base.result c.requires.walk (omega arith) (omega arith) c.remove-base.ensures.item c.remove-base.ensures.items made).1

pub returns-clause-verdict : goal.returns-clause-verdict
returns-clause-verdict c =
    let count = c.in_ok-count.ensures in let long = c.len.ensures in let some = c.if-count-eq0.false in
    let made : c.extend.new.path.items ≡ take c.remove-base.result.base c.args.walk.path.items ++ c.remove-base.result.lits.items = c.in_ok-extend.ensures ∙ ap (λ (p : List Lit). p ++ c.as_slice.result.now) c.truncate.ensures.items ∙ ap (λ (ls : List Lit). take c.remove-base.result.base c.args.walk.path.items ++ ls) c.as_slice.ensures in
    let next = (popped c.args.walk.path.items c.extend.new.path.items c.args.walk.left.items c.remove-base.new.self.items (c.in_ok-count.count - 1) c.remove-base.result c.requires.walk (omega arith) (omega arith) c.remove-base.ensures.item c.remove-base.ensures.items made).0 in
    subst (λ (ps : List (List Lit)). Gives (λ (walk : Walk). paths_of walk.path.items (reverse walk.left.items)) c.check_here.result (next_test c.args.given.now.design.now (map lemmas.lemma_of c.args.given.now.lemmas.now) (map (λ (goal : Goal). goal.lit) c.args.given.now.before.now) (argument.step_of c.args.node.now) ps)) (sym next) c.check_here.ensures.verdict
