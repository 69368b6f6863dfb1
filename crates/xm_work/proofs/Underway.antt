-- A simulation between two rounds.
use Rattle.std.specs.Prelude.{◌≡◌, ℕ, ◌<◌, ◌≤◌, List}
use Rattle.std.specs.declared.option.Option.{Option}
use Rattle.std.specs.Io.KnownBytes.{Appends}
use Rattle.xm_work.specs.Rounds.{lines}

-- the run is that of n cycles with which it began, its round ends with the cycle `last`, and what was appended is the
-- text of the cycles before `next`
pub record IsUnderway {W : Type 0} (has_lines : W → (ℕ → List ℕ) → Type 0) (begun now : W) (n last end next : ℕ)
    (before after : Option (List ℕ)) : Type 0 where
  pub whole : now ≡ begun
  pub within : last < n
  pub target : end ≡ last
  pub later : next ≤ last
  pub written : (line : ℕ → List ℕ) → has_lines begun line → Appends before after (lines line 0 next)
