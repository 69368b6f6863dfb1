use Rattle.std.proofs.Common.{◌<◌, ℕ, get_or, arith, sym, ◌∙◌, inl, inr}
use Rattle.std.proofs.lemmas.Bool.{cases_lt}
use Rattle.xm_parts.proofs.Splitting.{raised_below}
use Rattle.xm_parts.proofs.given.count_of.Goals as goal

pub loop-c-preserved : goal.loop-c-preserved
loop-c-preserved c =
    let f = λ (d : ℕ). get_or c.args.labels.now d 0 in
    let small : f c.loop-c.c < 64 = c.requires.labels c.loop-c.c 0 c.loop-c-test.true in
    let up = c.raised-count.ensures.up in let past = c.raised-count.ensures.past in let few = c.loop-c.invariant.few in
    record {
      below = raised_below f c.loop-c.c c.loop-c.count c.raised-count.result up past c.loop-c.invariant.below;
      few = elim c.raised-count.ensures.either [ inl e ↦ omega arith | inr e ↦ omega arith ];
      none = λ h. absurd (omega arith);
      reached = λ h. elim c.raised-count.ensures.either [
        | inr e ↦ (c.loop-c.c, omega arith, sym e)
        | inl e ↦ elim (cases_lt 0 c.loop-c.c) [
          | inl some ↦ (let r = c.loop-c.invariant.reached some in (r.0, (let w = r.1 in omega arith), r.2 ∙ sym e))
          | inr none ↦ absurd (let zero_now = c.loop-c.invariant.none (omega arith) in omega arith)
        ]
      ];
    }
