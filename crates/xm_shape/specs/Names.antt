-- Names: their form, and the numbers that stand for them.
use Rattle.std.specs.Prelude.{ℕ, suc, List, [], ◌∷◌, ◌++◌, Bool, ◌&&◌, ◌||◌, ◌==◌, nat_lt, nat_le, length, if◌then◌else◌}
use Rattle.std.specs.List.{list_all, list_any}
use Rattle.std.specs.Str.{bytes_eq}

-- a name is its bytes
abbrev pub Name : Type 0
Name = List ℕ

-- A-Z, a-z, 0-9 and _
abbrev pub is_word_byte : ℕ → Bool
is_word_byte c =
    (nat_le 65 c && nat_le c 90) || (nat_le 97 c && nat_le c 122) || (nat_le 48 c && nat_le c 57) || (c == 95)

-- these and the dot
abbrev pub is_name_byte : ℕ → Bool
is_name_byte c = is_word_byte c || (c == 46)

-- 1 to 32 of these bytes
abbrev pub is_name : Name → Bool
is_name n = nat_lt 0 (length n) && nat_le (length n) 32 && list_all is_name_byte n

-- a colour's name has no dot
abbrev pub is_colour_name : Name → Bool
is_colour_name n = nat_lt 0 (length n) && nat_le (length n) 32 && list_all is_word_byte n

-- the name is among these
abbrev pub is_among : List Name → Name → Bool
is_among names n = list_any (bytes_eq n) names

-- the names in the order of their first uses, after those that were seen
abbrev pub first_uses : List Name → List Name → List Name
first_uses seen [] = seen
first_uses seen (n ∷ ns) = first_uses (if is_among seen n then seen else seen ++ n ∷ []) ns

-- the number of a name: its place among the names (their count, where it is none of them)
abbrev pub number_in : List Name → Name → ℕ
number_in [] n = 0
number_in (m ∷ ms) n = if bytes_eq n m then 0 else suc (number_in ms n)
