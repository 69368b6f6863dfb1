use Rattle.std.proofs.Common.{◌≡◌, ◌<◌, ℕ, length, get_or}
use Rattle.xm_parts.specs.Inner.Grouped.{is_least}
use Rattle.xm_parts.specs.Kept.{label_at}
use Rattle.xm_parts.specs.Passing.{place}
use Rattle.xm_parts.proofs.islands_of.numbers.Given as goal

abbrev pub invariant-loop-c : goal.invariant-loop-c
invariant-loop-c l = record {
  whole : length l.made.items ≡ l.c;
  next : l.next ≡ place (is_least (label_at l.labels)) l.c;
  each : (k : ℕ) → k < l.c → get_or l.made.items k 0 ≡ place (is_least (label_at l.labels)) (get_or l.labels k 0);
}
