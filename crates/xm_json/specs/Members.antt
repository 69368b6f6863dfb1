-- The members of an object, which are there and have their form, and no others.
use Rattle.std.specs.Prelude.{ℕ, List, Bool, true, ◌&&◌, ⊤, Option, Some, None, Result, Ok}
use Rattle.std.specs.List.{list_any}
use Rattle.std.specs.Str.{bytes_eq}
use Rattle.serde_json.specs.Data.{Data, Members, no_members, member}
use Rattle.serde_json.specs.Find.{as_object, get}
use Rattle.xm_model.specs.Steps.{◌>>=◌, check, demand}
use Rattle.xm_json.specs.Path.{Path, member_of}
use Rattle.xm_json.specs.Values.{list_at, number_at, small_number_at, text_at, texts_at}

-- the member k of d, whose path is given and which has to be there
abbrev pub required : {A : Type 0} → (Path → Data → Result A Path) → Path → List ℕ → Data → Result A Path
required form path k d = demand (get k d) path >>= form path

-- its value, or the default where it is missing
abbrev pub form_or : {A : Type 0} → (Data → Result A Path) → A → Option Data → Result A Path
form_or form default None = Ok default
form_or form default (Some d) = form d

abbrev pub optional : {A : Type 0} → (Path → Data → Result A Path) → A → Path → List ℕ → Data → Result A Path
optional form default path k d = form_or (form path) default (get k d)

-- a member of the object at path
unfoldable pub text_member : Path → List ℕ → Data → Result (List ℕ) Path
text_member path k d = required text_at (member_of path k) k d

unfoldable pub number_member : Path → List ℕ → Data → Result ℕ Path
number_member path k d = required number_at (member_of path k) k d

unfoldable pub small_number_member : ℕ → Path → List ℕ → Data → Result ℕ Path
small_number_member greatest path k d = required (small_number_at greatest) (member_of path k) k d

unfoldable pub list_member : Path → List ℕ → Data → Result (List Data) Path
list_member path k d = required list_at (member_of path k) k d

unfoldable pub texts_member : Path → List ℕ → Data → Result (List (List ℕ)) Path
texts_member path k d = required texts_at (member_of path k) k d

-- each member has one of these names
abbrev pub has_only : List (List ℕ) → Members → Bool
has_only names no_members = true
has_only names (member k d ms) = list_any (bytes_eq k) names && has_only names ms

-- the object d at path has no other members
unfoldable pub only : Path → List (List ℕ) → Data → Result ⊤ Path
only path names d = do
  ms ← demand (as_object d) path
  check (has_only names ms) path
