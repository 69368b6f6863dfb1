-- The text of a run each of whose cycles is a dot.
use Rattle.std.specs.Prelude.{◌≡◌, ℕ, List, [], ◌∷◌}

-- the text of each cycle is a dot (46)
abbrev pub IsDot : (ℕ → List ℕ) → Type 0
IsDot line = (t : ℕ) → line t ≡ 46 ∷ []
