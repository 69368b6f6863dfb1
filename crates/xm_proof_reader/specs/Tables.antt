-- Tables of names.
use Rattle.std.specs.Prelude.{◌≡◌, ℕ, List, String}
use Rattle.std.specs.HashMap.{HashMap, get_by_text}
use Rattle.std.specs.Str.{IsUtf8}
use Rattle.xm_proof_reader.specs.Known.{place_from}

-- each text is found at its first place
abbrev pub IsTable : {Y S : Type 0} → List (List ℕ) → HashMap (String Y) ℕ S → Type 0
IsTable names places = (q : List ℕ) → IsUtf8 q → get_by_text places q ≡ place_from 0 names q
