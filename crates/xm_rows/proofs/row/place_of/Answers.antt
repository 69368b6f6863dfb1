use Rattle.std.proofs.Common.{◌≡◌, ℕ, ◌+◌, ◌-◌, ◌/◌, ◌<◌, ◌≤◌, inl, inr, List, length, get_or, pos, ap, subst, arith}
use Rattle.std.proofs.lemmas.Bool.{cases_lt}
use Rattle.std.proofs.lemmas.List.{get_or_default}
use Rattle.xm_rows.specs.declared.row.Entry.{Entry}
use Rattle.xm_rows.specs.Lemmas.Entries.{rising_at}
use Rattle.xm_rows.specs.Row.{IsRising}
use Rattle.xm_rows.proofs.row.place_of.Goals as goal

up_to : (es : List Entry) (k m : ℕ) (d e : Entry) (column : ℕ) → IsRising es → m < length es → (get_or es m e).column < column → k ≤ m → (get_or es k d).column < column
up_to es k m d e column up within low below =
    elim (cases_lt k m) [
      | inl less ↦ let more = rising_at es k m d e up less within in omega (arith, more, low)
      | inr past ↦
          let same : m ≡ k = omega arith in
          subst (λ (n : ℕ). (get_or es n d).column < column) same
          (let read = ap (λ (x : Entry). x.column) (get_or_default es m d e within) in omega (arith, read, low))
    ]

from_on : (es : List Entry) (k m : ℕ) (d e : Entry) (column : ℕ) → IsRising es → k < length es → column ≤ (get_or es m e).column → m ≤ k → column ≤ (get_or es k d).column
from_on es k m d e column up within high past =
    elim (cases_lt m k) [
      | inl less ↦ let more = rising_at es m k e d up less within in omega (arith, more, high)
      | inr below ↦
          let same : m ≡ k = omega arith in
          subst (λ (n : ℕ). column ≤ (get_or es n d).column) same
          (let read = ap (λ (x : Entry). x.column) (get_or_default es m d e (omega arith)) in omega (arith, read, high))
    ]

pub loop-low-preserved-then-entries-middle : goal.loop-low-preserved-then-entries-middle
loop-low-preserved-then-entries-middle c =
    let less = c.loop-low-test.true in
    let order = c.loop-low.invariant.order in
    let within = c.loop-low.invariant.within in
    record {
      order = omega (arith, less);
      within = c.loop-low.invariant.within;
      below = λ k d zero lt. up_to c.args.entries.now k (c.loop-low.low + (c.loop-low.high - c.loop-low.low) / 2) d (record { column = 0; value = pos 0 }) c.args.column c.requires
          (omega (arith, less, within)) c.if-entries-middle.true (omega (arith, lt));
      above = c.loop-low.invariant.above;
    }

pub loop-low-preserved : goal.loop-low-preserved
loop-low-preserved c =
    let less = c.loop-low-test.true in
    let within = c.loop-low.invariant.within in
    record {
      order = omega arith;
      within = omega (arith, less, within);
      below = c.loop-low.invariant.below;
      above = λ k d past lt. from_on c.args.entries.now k (c.loop-low.low + (c.loop-low.high - c.loop-low.low) / 2) d (record { column = 0; value = pos 0 }) c.args.column c.requires
          lt c.if-entries-middle.false past;
    }
