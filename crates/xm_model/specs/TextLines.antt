-- Words of printed texts.
use Rattle.std.specs.Prelude.{ℕ, List, [], ◌∷◌, ◌++◌, slice_index_or}

-- ended by a newline
abbrev pub line : List ℕ → List ℕ
line text = text ++ 10 ∷ []

-- the name with this number
abbrev pub name_at : List (List ℕ) → ℕ → List ℕ
name_at names i = slice_index_or names i []
