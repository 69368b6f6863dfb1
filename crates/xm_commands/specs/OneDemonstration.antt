-- A size and a seed have one demonstration.
use Rattle.std.specs.Prelude.{◌≡◌, ℕ, List}
use Rattle.xm_commands.specs.Demonstrating.{IsDemonstration}

-- whatever run of the tape is taken, the text is the same
abbrev pub OneDemonstration : Type 0
OneDemonstration = (size seed : ℕ) (text other : List ℕ) → IsDemonstration size seed text
    → IsDemonstration size seed other → text ≡ other
