use Rattle.std.proofs.Common.{◌≤◌, ℕ, Some, ap, get_or, subst, sym, ◌∙◌}
use Rattle.std.proofs.lemmas.Option.{slice_get-get_or}
use Rattle.xm_lits.specs.declared.literal.Lit.{Lit}
use Rattle.xm_lits.specs.declared.literal.Lit.TheVariants.{Stuck}
use Rattle.xm_proof.specs.Lemmas.Refuting.{lit_from}
use Rattle.xm_search.proofs.Citing.{stands_later}
use Rattle.xm_search.proofs.ends.place_of.Goals as goal

pub loop-k-init : goal.loop-k-init
loop-k-init c =
    let lit = c.args.lit.now in
    stands_later c.earliest_of-k.result c.args.before.now lit
    (λ k at. subst (λ (n : ℕ). n ≤ k) (sym c.earliest_of-k.ensures) (c.requires.earliest k lit at))

pub returns-then-are_same-clause-some : goal.returns-then-are_same-clause-some
returns-then-are_same-clause-some c =
    let before = c.args.before.now in
    let k = c.loop-k.k in
    slice_get-get_or before k (Stuck 0) c.loop-k-test.true
    ∙ ap (λ (l : Lit). Some l) (lit_from (get_or before k (Stuck 0)) c.args.lit.now (sym c.are_same.ensures ∙ c.if-are_same.true))
