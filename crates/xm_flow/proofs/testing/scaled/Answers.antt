use Rattle.std.proofs.Common.{rules, SFits, ◌-◌, ◌∙◌, ◌*ℤ◌, ℤ, nat_lt, pos, subst, sym, ap}
use Rattle.std.specs.Int.{w128}
use Rattle.std.proofs.lemmas.Bool.{cond-false, le-ltb}
use Rattle.std.proofs.lemmas.Int.{to_z-of_z}
use Rattle.xm_flow.specs.ValidLemma.{lemma_of}
use Rattle.xm_flow.proofs.Made.{scaled_fits}
use Rattle.xm_rows.specs.Row.{Fits128, coefficient}
use Rattle.xm_flow.proofs.testing.scaled.Goals as goal

pub overflow_mul-result : goal.overflow_mul-result
overflow_mul-result c =
    let scale : SFits w128 c.args.it.now.scale = search rules in
    let value : SFits w128 c.value_at.result = search rules in
    let fits : Fits128 (c.args.it.now.scale *ℤ c.value_at.result) =
    subst (λ (z : ℤ). Fits128 (c.args.it.now.scale *ℤ z)) (sym c.value_at.ensures.value)
    (scaled_fits (lemma_of c.args.it.now) (c.args.column - c.args.moves) c.entries-row.ensures.row.rising c.requires) in
    rw (to_z-of_z w128 c.args.it.now.scale scale, to_z-of_z w128 c.value_at.result value) (search rules)

pub returns : goal.returns
returns c =
    let scale : SFits w128 c.args.it.now.scale = search rules in
    let value : SFits w128 c.value_at.result = search rules in
    let fits : Fits128 (c.args.it.now.scale *ℤ c.value_at.result) =
    subst (λ (z : ℤ). Fits128 (c.args.it.now.scale *ℤ z)) (sym c.value_at.ensures.value)
    (scaled_fits (lemma_of c.args.it.now) (c.args.column - c.args.moves) c.entries-row.ensures.row.rising c.requires) in
    let product : SFits w128 (c.args.it.now.scale *ℤ c.value_at.result) = search rules in
    rw (to_z-of_z w128 c.args.it.now.scale scale, to_z-of_z w128 c.value_at.result value, to_z-of_z w128 (c.args.it.now.scale *ℤ c.value_at.result) product)
    (ap (λ (z : ℤ). c.args.it.now.scale *ℤ z) c.value_at.ensures.value
    ∙ sym (cond-false (nat_lt c.args.column c.args.moves) (pos 0) (c.args.it.now.scale *ℤ coefficient c.args.it.now.row.entries (c.args.column - c.args.moves))
    (le-ltb c.args.column c.args.moves c.if-column-moves.false)))
