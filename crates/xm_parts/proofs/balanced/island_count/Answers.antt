use Rattle.std.proofs.Common.{◌≤◌, ℕ, get_or, arith, inl, inr}
use Rattle.std.proofs.lemmas.Bool.{cases_lt}
use Rattle.xm_parts.proofs.Splitting.{raised_below}
use Rattle.xm_parts.proofs.balanced.island_count.Goals as goal

-- an island is one of those before it or the next
pub raised-count-requires : goal.raised-count-requires
raised-count-requires c =
    let f = λ (d : ℕ). get_or c.args.islands.now d 0 in
    elim (cases_lt c.loop-c.count (f c.loop-c.c)) [
      | inl past ↦ absurd (let d = c.requires.in_order c.loop-c.c c.loop-c.count c.loop-c-test.true past in let b = c.loop-c.invariant.below d.0 d.1 in let e = d.2 in omega arith)
      | inr next ↦ (let few = c.loop-c.invariant.few in let all = c.requires.few in let inside = c.loop-c-test.true in omega arith)
    ]

pub loop-c-preserved : goal.loop-c-preserved
loop-c-preserved c =
    let f = λ (d : ℕ). get_or c.args.islands.now d 0 in
    let up = c.raised-count.ensures.up in let past = c.raised-count.ensures.past in let few = c.loop-c.invariant.few in
    let next : f c.loop-c.c ≤ c.loop-c.count = elim (cases_lt c.loop-c.count (f c.loop-c.c)) [
      | inl past ↦ absurd (let d = c.requires.in_order c.loop-c.c c.loop-c.count c.loop-c-test.true past in let b = c.loop-c.invariant.below d.0 d.1 in let e = d.2 in omega arith)
      | inr not_past ↦ omega arith
    ] in
    record {
      below = raised_below f c.loop-c.c c.loop-c.count c.raised-count.result up past c.loop-c.invariant.below;
      few = elim c.raised-count.ensures.either [ inl e ↦ omega arith | inr e ↦ omega arith ];
      reached = λ j h. elim (cases_lt j c.loop-c.count) [
        | inl less ↦ (let r = c.loop-c.invariant.reached j less in (r.0, (let w = r.1 in omega arith), r.2))
        | inr more ↦ (c.loop-c.c, omega arith, elim c.raised-count.ensures.either [ inl e ↦ absurd (omega arith) | inr e ↦ omega arith ])
      ];
    }

pub returns-clause-numbered : goal.returns-clause-numbered
returns-clause-numbered c = record {
  below = λ d inside. c.loop-c.invariant.below d (let end = c.loop-c-test.false in let upto = c.loop-c.auto.c-end in omega arith);
  reached = λ j h. (let r = c.loop-c.invariant.reached j h in let upto = c.loop-c.auto.c-end in (r.0, (let w = r.1 in omega arith), r.2));
}
