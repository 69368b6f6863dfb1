-- Paths into a JSON value: member names and list places, joined by dots.
use Rattle.std.specs.Prelude.{ℕ, List, ◌∷◌, ◌++◌, decimal}

-- a path is its bytes
abbrev pub Path : Type 0
Path = List ℕ

-- a path one member, or one place of a list, further down
abbrev pub member_of : Path → List ℕ → Path
member_of path name = path ++ 46 ∷ name

abbrev pub place_of : Path → ℕ → Path
place_of path i = path ++ 46 ∷ decimal i
