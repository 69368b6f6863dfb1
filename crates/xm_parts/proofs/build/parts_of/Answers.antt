use Rattle.std.proofs.Common.{ℕ, length-append, arith}
use Rattle.xm_parts.proofs.Pushing.{push_each}
use Rattle.xm_parts.specs.Kept.{IsPartOf, label_at}
use Rattle.xm_parts.specs.declared.part.Part.{Part}
use Rattle.xm_parts.proofs.build.parts_of.Goals as goal

pub loop-p-preserved : goal.loop-p-preserved
loop-p-preserved c = record {
  whole = rw c.in_ok-push.ensures.ok (simp length-append (let w = c.loop-p.invariant.whole in omega arith));
  each = rw c.in_ok-push.ensures.ok (push_each (λ (p : ℕ) (part : Part). IsPartOf c.args.design.now (label_at c.args.labels.now) p part) c.loop-p.made.items _ c.loop-p.p c.loop-p.invariant.whole c.loop-p.invariant.each c.in_ok-part_of.ensures);
}
