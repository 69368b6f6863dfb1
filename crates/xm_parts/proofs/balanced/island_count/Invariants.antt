use Rattle.std.proofs.Common.{◌≡◌, ◌<◌, ◌≤◌, ℕ, get_or}
use Rattle.xm_parts.proofs.balanced.island_count.Given as goal

abbrev pub invariant-loop-c : goal.invariant-loop-c
invariant-loop-c l = record {
  below : (d : ℕ) → d < l.c → get_or l.islands d 0 < l.count;
  few : l.count ≤ l.c;
  reached : (j : ℕ) → j < l.count → (d : ℕ) × (d < l.c) × (get_or l.islands d 0 ≡ j);
}
