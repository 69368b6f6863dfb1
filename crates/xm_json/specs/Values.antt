-- The value at a path has its form. A step of reading gives what it reads, or the path of the first value that has not
-- its form.
use Rattle.std.specs.Prelude.{ℕ, List, [], ◌∷◌, nat_le, option_and_then, Result, Ok}
use Rattle.serde_json.specs.Data.{Data, Items, no_items, item}
use Rattle.serde_json.specs.Find.{as_array, as_number, as_str, as_u64}
use Rattle.xm_model.specs.Steps.{◌>>=◌, check, demand, each}
use Rattle.xm_json.specs.Path.{Path, place_of}

abbrev pub list_of : Items → List Data
list_of no_items = []
list_of (item d ds) = d ∷ list_of ds

abbrev pub text_at : Path → Data → Result (List ℕ) Path
text_at path d = demand (as_str d) path

-- a whole number is one that is written without sign, fraction and exponent, below 2^64
abbrev pub number_at : Path → Data → Result ℕ Path
number_at path d = demand (option_and_then as_u64 (as_number d)) path

-- one of at most so much
abbrev pub small_number_at : ℕ → Path → Data → Result ℕ Path
small_number_at greatest path d = do
  n ← number_at path d
  _ ← check (nat_le n greatest) path
  Ok n

abbrev pub list_at : Path → Data → Result (List Data) Path
list_at path d = do
  items ← demand (as_array d) path
  Ok (list_of items)

-- the items of the list at path are texts
unfoldable pub texts_in : Path → List Data → Result (List (List ℕ)) Path
texts_in path items = each (λ i x. text_at (place_of path i) x) items

unfoldable pub texts_at : Path → Data → Result (List (List ℕ)) Path
texts_at path d = do
  items ← list_at path d
  texts_in path items
