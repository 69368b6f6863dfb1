use Rattle.std.proofs.Common.{◌≡◌, ◌++◌, ◌∷◌, [], ℕ, List, append_assoc, get_or, map, sym, ◌∙◌, ap, take}
use Rattle.std.proofs.lemmas.List.{append-nil, take_more}
use Rattle.xm_colours.specs.Family.{colours_at}
use Rattle.xm_lits.specs.declared.literal.Lit.{Lit}
use Rattle.xm_lits.specs.declared.literal.Lit.TheVariants.{Dead}
use Rattle.xm_search.specs.GoalOrder.{goals_of}
use Rattle.xm_search.proofs.order.goals_by.Goals as goal

goals_push : (colours : ℕ → List ℕ) (cs : List ℕ) (c : ℕ) → goals_of colours (cs ++ c ∷ []) ≡ goals_of colours cs ++ map (λ d. Dead c d) (colours c)
goals_push colours [] c = append-nil (map (λ (d : ℕ). Dead c d) (colours c))
goals_push colours (x ∷ cs) c =
    ap (λ (ls : List Lit). map (λ (d : ℕ). Dead x d) (colours x) ++ ls) (goals_push colours cs c)
    ∙ sym (append_assoc (map (λ (d : ℕ). Dead x d) (colours x)) (goals_of colours cs) (map (λ (d : ℕ). Dead c d) (colours c)))

pub loop-channel-preserved : goal.loop-channel-preserved
loop-channel-preserved c =
    let colours = colours_at c.args.design.now.colours in
    let list = c.args.channels.now in
    let n = c.loop-channel.channel-index in
    c.in_ok-push_goals.ensures ∙ ap (λ (ls : List Lit). ls ++ map (λ (d : ℕ). Dead (get_or list n 0) d) (colours (get_or list n 0))) c.loop-channel.invariant
    ∙ sym (goals_push colours (take n list) (get_or list n 0)) ∙ ap (goals_of colours) (sym (take_more list n 0 c.loop-channel-test.true))
