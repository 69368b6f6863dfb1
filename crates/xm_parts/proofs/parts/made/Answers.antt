use Rattle.std.proofs.Common.{◌≡◌, ℕ, Some, arith, slice_get}
use Rattle.xm_parts.specs.Given.{IsCount}
use Rattle.xm_parts.specs.Kept.{IsPartOf, label_at}
use Rattle.xm_parts.specs.declared.part.Part.{Part}
use Rattle.xm_parts.proofs.parts.made.Goals as goal

pub invariant_of-result : goal.invariant_of-result
invariant_of-result c =
    let same : c.as_slice-listed.result.now ≡ c.args.labels.items = c.as_slice-listed.ensures in
    let counted : IsCount c.args.labels.items c.count_of.result = rw same at c.count_of.ensures.count in
    let each : (p : ℕ) (part : Part) → slice_get c.in_ok-parts.parts.items p ≡ Some part → IsPartOf c.args.design.now (label_at c.args.labels.items) p part = rw same at c.in_ok-parts.ensures.each in
    let count = c.in_ok-parts.ensures.count in
    let few = c.count_of.ensures.few in
    let whole = c.requires.whole in
    rw c.of.ensures (record {
      designed = c.net-net.ensures.design;
      whole = whole;
      few = omega arith;
      partition = c.requires.partition;
      below = λ d inside. (let b = counted.below d (omega arith) in omega arith);
      each = each;
    })
