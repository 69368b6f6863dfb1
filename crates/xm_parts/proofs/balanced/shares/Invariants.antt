use Rattle.std.proofs.Common.{◌≡◌, ◌<◌, ◌*◌, ◌/◌, ℕ, length, get_or}
use Rattle.xm_parts.proofs.balanced.shares.Given as goal

abbrev pub invariant-loop-c : goal.invariant-loop-c
invariant-loop-c l = record {
  whole : length l.labels.items ≡ l.c;
  small : (d : ℕ) → d < l.c → get_or l.labels.items d 0 < 64;
  label : (d : ℕ) → d < l.c → get_or l.labels.items d 0 ≡ get_or l.islands d 0 * l.parts / l.count;
}
