use Rattle.std.proofs.Common.{◌≡◌, List, Option, length, subst, sym, false}
use Rattle.std.proofs.lemmas.List.{length-map}
use Rattle.std.specs.Prelude.{IfSome}
use Rattle.xm_lits.specs.Inference.{inference_of}
use Rattle.xm_lits.specs.declared.literal.Lit.{Lit}
use Rattle.xm_model.specs.ListView.{ListView}
use Rattle.xm_proof.specs.Argument.{step_of}
use Rattle.xm_proof.specs.declared.proof.Node.{Node}
use Rattle.xm_search.proofs.Choices.{if_none}
use Rattle.xm_search.proofs.Looks.{no_goal_on, rule_ends, undecided}
use Rattle.xm_search.specs.Inner.Choosing.{AllGoOn, IsLastChoice}
use Rattle.xm_search.specs.Inner.Looking.{EndsPath, any_goal}
use Rattle.xm_search.specs.declared.choosing.Chosen.{Chosen}
use Rattle.xm_search.proofs.look.ending.Goals as goal

pub returns-in-Some-clause-some : goal.returns-in-Some-clause-some
returns-in-Some-clause-some c = λ lemmas.
    let it = c.args.design.now in
    subst (λ (o : Option Node). IfSome o (λ n. EndsPath it lemmas c.args.before.now c.args.path.now.items (step_of n))) c.in-Some.is (c.in_ok-node.ensures.some lemmas c.args.before.now)

pub returns-in_ok-split_node-in-Some-2-clause-some : goal.returns-in_ok-split_node-in-Some-2-clause-some
returns-in_ok-split_node-in-Some-2-clause-some c = λ lemmas.
    let it = c.args.design.now in
    let before = c.args.before.now in
    let path = c.args.path.now.items in
    let chosen = c.in-Some-2.chosen in
    let consistent = if_none c.in_ok-node.field-0 c.in_ok-node.ensures.none c.in_default.is in
    let no_goal = no_goal_on path before (subst (λ (p : List Lit). any_goal p before ≡ false) c.as_slice.ensures c.in_default-cited.ensures.none) in
    let both = subst (λ (p : List Lit). IsLastChoice it p chosen) c.as_slice-2.ensures
    (subst (λ (o : Option Chosen). IfSome o (IsLastChoice it c.as_slice-2.result.now)) c.in-Some-2.is c.in_ok-chosen.ensures.some) in
    let whole = length-map chosen.rule.alternatives.items (λ (a : ListView Lit). a.items) in
    subst (EndsPath it lemmas before path) (sym c.in_ok-split_node-in-Some-2.ensures)
    (rule_ends it lemmas before path chosen.on (inference_of chosen.rule) (length chosen.rule.alternatives.items) both.0 both.1 whole consistent no_goal)

pub returns-in-None-clause-none : goal.returns-in-None-clause-none
returns-in-None-clause-none c =
    let it = c.args.design.now in
    let before = c.args.before.now in
    let path = c.args.path.now.items in
    let consistent = if_none c.in_ok-node.field-0 c.in_ok-node.ensures.none c.in_default.is in
    let none = subst (λ (p : List Lit). any_goal p before ≡ false) c.as_slice.ensures c.in_default-cited.ensures.none in
    undecided it before path consistent none
    (subst (AllGoOn it) c.as_slice-2.ensures (if_none c.in_ok-chosen.field-0 c.in_ok-chosen.ensures.none c.in-None.is))
