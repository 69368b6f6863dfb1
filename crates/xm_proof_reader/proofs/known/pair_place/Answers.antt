use Rattle.std.proofs.Common.{◌≡◌, ℕ, Some, None, slice_get, sym, subst, ◌∙◌}
use Rattle.xm_colours.specs.Family.{colours_at}
use Rattle.xm_model.specs.Membership.{IsIn}
use Rattle.xm_proof_reader.specs.Inner.Outputs.{output_of}
use Rattle.xm_proof_reader.specs.Lemmas.Pairs.{placed, unplaced}
use Rattle.xm_proof_reader.proofs.known.pair_place.Goals as goal

pub returns-in_default : goal.returns-in_default
returns-in_default c =
    let it = c.args.design.now in
    let none : output_of (slice_get it.net.prims c.args.q) ≡ None = sym c.queue_output.ensures ∙ c.in_default.is in
    sym (unplaced (colours_at it.colours) it.net.prims c.args.q c.args.d (λ out some inside. absurd cc))

pub returns-then-not-has : goal.returns-then-not-has
returns-then-not-has c =
    let it = c.args.design.now in
    let has = rw c.colours.ensures.value at c.has.ensures in
    let found : output_of (slice_get it.net.prims c.args.q) ≡ Some c.in-Some.out = sym c.queue_output.ensures ∙ c.in-Some.is in
    let lacks = c.if-not-has.true in
    sym (unplaced (colours_at it.colours) it.net.prims c.args.q c.args.d (λ out some inside.
    let same : out ≡ c.in-Some.out = cc in
    let passes = has.1 (subst (λ (n : ℕ). IsIn (colours_at it.colours n) c.args.d) same inside) in
    absurd cc))

pub returns : goal.returns
returns c =
    let it = c.args.design.now in
    sym (placed (colours_at it.colours) it.net.prims c.args.q c.args.d c.queue_pair.result c.is_designed.ensures.colours.rise c.queue_pair.ensures)
