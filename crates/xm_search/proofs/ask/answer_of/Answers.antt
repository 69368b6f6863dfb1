use Rattle.std.proofs.Common.{ℕ, ℤ, ◌++◌, List, ap, arith, sym, subst, ◌∙◌}
use Rattle.xm_lp.specs.Right.{IsRight, Refutes}
use Rattle.xm_lp.specs.Rule.{Follows, HasMultipliers}
use Rattle.xm_lp.specs.declared.decision.Decision.{Decision}
use Rattle.std.specs.Prelude.{Ok, length}
use Rattle.xm_proof.specs.Valid.{Closes}
use Rattle.xm_proof.specs.declared.proof.Item.{Item}
use Rattle.xm_search.specs.Inner.Fitting.{FitsItems}
use Rattle.xm_search.specs.Inner.Taken.{all_taken, lows_taken}
use Rattle.xm_search.proofs.Closing.{closes, items_fit}
use Rattle.xm_search.proofs.Naming.{Pair, all_below, names_count}
use Rattle.xm_search.proofs.ask.answer_of.Goals as goal

pub decide-requires-clause-below : goal.decide-requires-clause-below
decide-requires-clause-below c = let pairs = c.requires.pairs in rw (ap length pairs) (all_below c.args.design.now c.requires.named.0 c.requires.named.1.0 c.args.bounds.now c.requires.named.1.1)

pub sum_items-requires-clause-multipliers : goal.sum_items-requires-clause-multipliers
sum_items-requires-clause-multipliers c =
    let names = names_count c.args.design.now c.requires.named.0 c.requires.named.1.0 c.args.bounds.now c.requires.named.1.1 in
    let right = subst (λ (d : Decision). IsRight c.args.bounds.now.cons.items (length c.args.pairs.now) (Ok d)) c.in-Ok-Infeasible.field-0-is c.in-Ok-Infeasible.ensures.right in
    ap length c.as_slice-times.ensures ∙ right.count ∙ sym names ∙ sym (ap length c.as_slice-names.ensures)

pub returns-in_ok-items-in-Ok-Infeasible-clause-closes : goal.returns-in_ok-items-in-Ok-Infeasible-clause-closes
returns-in_ok-items-in-Ok-Infeasible-clause-closes c = λ lemmas path are.
    let it = c.args.design.now in
    let right = subst (λ (d : Decision). IsRight c.args.bounds.now.cons.items (length c.args.pairs.now) (Ok d)) c.in-Ok-Infeasible.field-0-is c.in-Ok-Infeasible.ensures.right in
    let rule = subst (λ (d : Decision). Follows c.args.bounds.now.cons.items (length c.args.pairs.now) c.args.left (Ok d)) c.in-Ok-Infeasible.field-0-is c.in-Ok-Infeasible.ensures.rule in
    let names = c.as_slice-names.ensures in
    let made = closes it c.is_designed.ensures lemmas path c.args.bounds.now.items.items c.args.bounds.now.cons.items c.in-Ok-Infeasible.multipliers.items c.in-Ok-Infeasible.lows.items c.args.left
    c.in-Ok-Infeasible.pivots are.all
    (subst (λ (n : ℕ). Refutes c.args.bounds.now.cons.items n c.in-Ok-Infeasible.multipliers.items c.in-Ok-Infeasible.lows.items) (ap length c.requires.pairs) right)
    (subst (λ (n : ℕ). HasMultipliers c.args.bounds.now.cons.items n c.args.left c.in-Ok-Infeasible.pivots c.in-Ok-Infeasible.multipliers.items c.in-Ok-Infeasible.lows.items) (ap length c.requires.pairs) rule) in
    let same = ap (λ (l : List Item). all_taken l c.as_slice-times.result.now ++ lows_taken c.args.pairs.now c.as_slice.result.now) c.as_slice-names.ensures
    ∙ ap (λ (l : List ℤ). all_taken c.args.bounds.now.items.items l ++ lows_taken c.args.pairs.now c.as_slice.result.now) c.as_slice-times.ensures
    ∙ ap (λ (l : List ℤ). all_taken c.args.bounds.now.items.items c.in-Ok-Infeasible.multipliers.items ++ lows_taken c.args.pairs.now l) c.as_slice.ensures
    ∙ ap (λ (l : List Pair). all_taken c.args.bounds.now.items.items c.in-Ok-Infeasible.multipliers.items ++ lows_taken l c.in-Ok-Infeasible.lows.items) c.requires.pairs in
    subst (λ (l : List Item). Closes it lemmas path l) (sym (c.in_ok-items-in-Ok-Infeasible.ensures ∙ same)) made

pub returns-in_ok-items-in-Ok-Infeasible-clause-fits : goal.returns-in_ok-items-in-Ok-Infeasible-clause-fits
returns-in_ok-items-in-Ok-Infeasible-clause-fits c =
    let cons = c.args.bounds.now.cons.items in
    let pairs = c.args.pairs.now in
    let names = names_count c.args.design.now c.requires.named.0 c.requires.named.1.0 c.args.bounds.now c.requires.named.1.1 in
    let right = subst (λ (d : Decision). IsRight cons (length pairs) (Ok d)) c.in-Ok-Infeasible.field-0-is c.in-Ok-Infeasible.ensures.right in
    let rule = subst (λ (d : Decision). Follows cons (length pairs) c.args.left (Ok d)) c.in-Ok-Infeasible.field-0-is c.in-Ok-Infeasible.ensures.rule in
    let same = ap (λ (l : List Item). all_taken l c.as_slice-times.result.now ++ lows_taken pairs c.as_slice.result.now) c.as_slice-names.ensures
    ∙ ap (λ (l : List ℤ). all_taken c.args.bounds.now.items.items l ++ lows_taken pairs c.as_slice.result.now) c.as_slice-times.ensures
    ∙ ap (λ (l : List ℤ). all_taken c.args.bounds.now.items.items c.in-Ok-Infeasible.multipliers.items ++ lows_taken pairs l) c.as_slice.ensures in
    subst FitsItems (sym (c.in_ok-items-in-Ok-Infeasible.ensures ∙ same))
    (items_fit c.args.bounds.now.items.items cons pairs c.in-Ok-Infeasible.multipliers.items c.in-Ok-Infeasible.lows.items c.args.left c.in-Ok-Infeasible.pivots
    names (omega arith) c.requires.few right rule)
