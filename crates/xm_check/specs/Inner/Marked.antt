-- Marks of pairs: colour d of channel c has its mark at place 64 * c + d.
use Rattle.std.specs.Prelude.{◌≡◌, ℕ, ◌+◌, ◌*◌, ◌<◌, ◌&&◌, List, [], ◌∷◌, Bool, false, true, length, slice_index_or}
use Rattle.xm_lits.specs.Paths.{is_on_path}
use Rattle.xm_lits.specs.declared.literal.Lit.{Lit}
use Rattle.xm_lits.specs.declared.literal.Lit.TheVariants.{Dead}

-- marked are the pairs that these literals say are dead
pub record AreMarks (channels : ℕ) (before : List Lit) (marks : List Bool) : Type 0 where
  pub whole : length marks ≡ 64 * channels
  pub marked : (c d : ℕ) → c < channels → d < 64
      → slice_index_or marks (64 * c + d) false ≡ is_on_path before (Dead c d)

-- each of these colours of the channel has its mark
abbrev pub are_marked_at : List Bool → ℕ → List ℕ → Bool
are_marked_at marks c [] = true
are_marked_at marks c (d ∷ ds) = slice_index_or marks (64 * c + d) false && are_marked_at marks c ds
