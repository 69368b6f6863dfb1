use Rattle.std.proofs.Common.{List, get_or, pos, arith, subst, sym, ◌∙◌, ap}
use Rattle.xm_lp.specs.declared.decision.Con.{Con}
use Rattle.xm_proof.specs.declared.proof.Item.{Item}
use Rattle.xm_proof.specs.declared.proof.Item.TheVariants as item
use Rattle.xm_search.specs.Inner.Named.{Names}
use Rattle.xm_search.proofs.Naming.{named_at}
use Rattle.xm_search.proofs.near.push_shared.Goals as goal

pub returns-clause-named : goal.returns-clause-named
returns-clause-named c = λ it lemmas path from are.
    let b = c.args.shared.now in
    let i = c.args.i in
    let none = item.Lemma 0 (pos 0) in
    let con = c.index-cons-i.result in
    let here = c.requires.here in
    let count = c.requires.count in
    let at = named_at it lemmas path b i none con (omega arith) here from in
    let there = subst (λ (x : Con). Names it lemmas path (get_or b.items.items i none) x) (sym (c.index-cons-i.is ∙ ap (λ (l : List Con). get_or l i con) c.as_slice-cons.ensures)) at in
    c.push_copy.ensures.named it lemmas path (subst (λ (l : List Item). Names it lemmas path (get_or l i none) con) (sym c.as_slice-items.ensures) there) are
