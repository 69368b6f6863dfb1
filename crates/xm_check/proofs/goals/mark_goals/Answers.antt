use Rattle.std.proofs.Common.{◌≡◌, ◌&&◌, not, true, ℕ, suc, ◌+◌, [], ◌∷◌, ◌++◌, List, ap, drop, drop-cons, get_or, map, subst, sym, take, ◌∙◌, add-one}
use Rattle.std.proofs.lemmas.List.{map-append}
use Rattle.xm_check.proofs.Marking.{goal_passed, take_on}
use Rattle.xm_check.proofs.goals.mark_goals.Goals as goal
use Rattle.xm_check.specs.Break.{goals_test}
use Rattle.xm_check.specs.Inner.Marked.{AreMarks}
use Rattle.xm_lits.specs.Paths.{is_on_path}
use Rattle.xm_lits.specs.declared.literal.Lit.{Lit}
use Rattle.xm_proof.specs.Valid.{is_dead_pair}
use Rattle.xm_proof.specs.declared.proof.Goal.{Goal}

pub loop-k-preserved : goal.loop-k-preserved
loop-k-preserved c =
    let it = c.args.design.now in
    let goals = c.args.goals.now in
    let k = c.loop-k.k in
    let item = get_or goals k c.index-goals-k.result in
    let lits : List Goal → List Lit = λ gs. map (λ (goal : Goal). goal.lit) gs in
    let before = lits (take k goals) in
    let more : lits (take (k + 1) goals) ≡ before ++ item.lit ∷ [] =
    ap (λ (n : ℕ). lits (take n goals)) (add-one k) ∙ ap lits (take_on goals k c.index-goals-k.result c.loop-k-test.true)
    ∙ map-append (λ (goal : Goal). goal.lit) (take k goals) (item ∷ []) in
    let fresh : (is_dead_pair it item.lit && not (is_on_path before item.lit)) ≡ true =
    sym (c.mark_goal.ensures.fresh before c.loop-k.invariant.marks) ∙ c.if-not-mark_goal.false in
    record {
      marks = subst (λ (ls : List Lit). AreMarks it.net.channels ls c.mark_goal.new.marks) (sym more)
          (c.mark_goal.ensures.marked before c.loop-k.invariant.marks c.if-not-mark_goal.false);
      same =
          c.loop-k.invariant.same
          ∙ ap (λ (gs : List Goal). goals_test it before k (lits gs)) (drop-cons goals k c.index-goals-k.result c.loop-k-test.true)
          ∙ goal_passed it before k item.lit (lits (drop (suc k) goals)) fresh
          ∙ ap (λ (ls : List Lit). goals_test it ls (k + 1) (lits (drop (suc k) goals))) (sym more)
          ∙ ap (λ (n : ℕ). goals_test it (lits (take (k + 1) goals)) (k + 1) (lits (drop n goals))) (sym (add-one k));
    }
