use Rattle.std.proofs.Common.{◌≡◌, ◌<◌, ◌≤◌, ℕ, suc, get_or}
use Rattle.xm_parts.proofs.given.count_of.Given as goal

abbrev pub invariant-loop-c : goal.invariant-loop-c
invariant-loop-c l = record {
  below : (d : ℕ) → d < l.c → get_or l.labels d 0 < l.count;
  few : l.count ≤ 64;
  none : l.c ≡ 0 → l.count ≡ 0;
  reached : 0 < l.c → (d : ℕ) × (d < l.c) × (suc (get_or l.labels d 0) ≡ l.count);
}
