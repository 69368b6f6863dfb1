use Rattle.std.proofs.Common.{rules, SFits, ◌≡◌, ◌∙◌, ◌*ℤ◌, ℤ, ap, subst, sym, to_z}
use Rattle.std.specs.Int.{w128}
use Rattle.std.proofs.lemmas.Int.{to_z-of_z}
use Rattle.xm_flow.specs.ValidLemma.{lemma_of}
use Rattle.xm_flow.proofs.Made.{made, parts_met}
use Rattle.xm_rows.specs.Row.{Fits128}
use Rattle.xm_flow.proofs.testing.is_made.Goals as goal

pub returns : goal.returns
returns c =
    let it = lemma_of c.args.it.now in
    let total : SFits w128 c.args.total = search rules in
    let scale : SFits w128 it.scale = search rules in
    let constant : SFits w128 c.constant.result = search rules in
    let fits : Fits128 (it.scale *ℤ c.constant.result) =
    subst (λ (z : ℤ). Fits128 (it.scale *ℤ z)) (sym c.constant.ensures.value) c.requires.scaled.constant in
    let product : SFits w128 (it.scale *ℤ c.constant.result) = search rules in
    let read = ap (to_z w128) c.if-total-it.false in
    let same = simp to_z-of_z at read in
    let total_is : c.args.total ≡ it.scale *ℤ it.row.constant = same ∙ ap (λ (z : ℤ). it.scale *ℤ z) c.constant.ensures.value in (
      λ met. made c.args.n c.args.moves c.args.counts c.args.flow.now it c.args.slots.now c.args.total c.requires.weighed c.requires.positive c.requires.places c.requires.counts total_is
          (c.row_met.ensures.0 c.if-not-row_met.false) (c.parts_met.ensures.0 met),
      λ valid. c.parts_met.ensures.1 (parts_met c.args.n c.args.moves c.args.counts c.args.flow.now it c.args.slots.now c.args.total c.requires.weighed c.requires.within valid),
    )
