-- The words that clap may be given.
use Rattle.std.specs.Prelude.{ℕ, ◌&&◌, Bool, not, List, [], ◌∷◌}
use Rattle.std.specs.Str.{bytes_eq, is_utf8}

-- two dashes (45) alone
abbrev pub is_dashes : List ℕ → Bool
is_dashes word = bytes_eq word (45 ∷ 45 ∷ [])

-- a text, and not the two dashes
abbrev pub is_plain : List ℕ → Bool
is_plain word = is_utf8 word && not (is_dashes word)
