-- The counts that a caller takes of a run, and when each is due.
use Rattle.std.specs.Prelude.{◌≡◌, ℕ, ◌-◌, ◌*◌, ◌/◌, ◌<◌, ◌≤◌, ◌==◌, if◌then◌else◌, List, length, slice_get, Some}

-- the least cycle of the i-th of w counts over n cycles: they are spread over the run, and the last is at its end
abbrev pub least_cycle : ℕ → ℕ → ℕ → ℕ
least_cycle w n i = if w == 1 then n - 1 else i * (n - 1) / (w - 1)

-- the first of w counts over n cycles: snapshots of the run r, each at a cycle from its least one on; their cycles
-- never fall, and none is past `seen`; there are no more than w
pub record AreCounts {N S : Type 0} (is_of : N → S → Type 0) (cycle_of : S → ℕ) (w n : ℕ) (r : N) (seen : ℕ)
    (counts : List S) : Type 0 where
  pub few : length counts ≤ w
  pub each : (i : ℕ) (s : S) → slice_get counts i ≡ Some s → is_of r s
  pub due : (i : ℕ) (s : S) → slice_get counts i ≡ Some s → least_cycle w n i ≤ cycle_of s
  pub seen_all : (i : ℕ) (s : S) → slice_get counts i ≡ Some s → cycle_of s ≤ seen
  pub rise : (i j : ℕ) (s t : S) → i < j → slice_get counts i ≡ Some s → slice_get counts j ≡ Some t
      → cycle_of s ≤ cycle_of t

-- of w counts over n cycles none that is due at the cycle is missing
abbrev pub NoneMissing : {S : Type 0} → ℕ → ℕ → ℕ → List S → Type 0
NoneMissing w n cycle counts = (i : ℕ) → i < w → least_cycle w n i ≤ cycle → i < length counts
