-- Which tape a value is, or which fault comes first.
use Rattle.std.specs.Prelude.{ℕ, ◌+◌, ◌-◌, ◌*◌, ◌^◌, List, [], ◌∷◌, Bool, ◌||◌, length, is_some, nat_le, nat_lt, if◌then◌else◌, ⊤, Option, Result, Ok, codes}
use Rattle.serde_json.specs.Data.{Data}
use Rattle.serde_json.specs.Find.{get, as_object}
use Rattle.xm_json.specs.Gives.{told_as}
use Rattle.xm_json.specs.Members.{list_member, only, small_number_member, texts_member}
use Rattle.xm_json.specs.Path.{Path, member_of}
use Rattle.xm_json.specs.Values.{texts_in}
use Rattle.xm_model.specs.Net.{Network}
use Rattle.xm_model.specs.Steps.{◌>>=◌, check, demand, each_from}
use Rattle.xm_model.specs.declared.state.Choice.{Choice}
use Rattle.xm_tape.specs.Draws.{seeded_rows}
use Rattle.xm_tape.specs.Fault.{Fault, tape_limit, tape_shape}
use Rattle.xm_tape.specs.Marks.{row_at}
use Rattle.xm_tape.specs.Sizes.{most_cycles, most_cycles_by_channels}
use Rattle.xm_tape.specs.Taped.{Taped}

-- ---- shape

-- the path of a tape
abbrev pub tape : Path
tape = codes "tape"

-- a tape in one of its three forms, with its rows as texts
pub data Draft : Type 0 where
  written : (rows : List (List ℕ)) → Draft
  repeating : (stem cycle : List (List ℕ)) (times : ℕ) → Draft
  seeded : (cycles seed : ℕ) → Draft

unfoldable pub written_in : Data → Result Draft Path
written_in d = do
  rows ← texts_member tape (codes "rows") d
  _ ← only tape (codes "rows" ∷ []) d
  Ok (written rows)

-- the length of the cycle is tested before its places
unfoldable pub cycle_in : Data → Result (List (List ℕ)) Path
cycle_in d = do
  items ← list_member tape (codes "cycle") d
  _ ← check (nat_lt (length items) (2 ^ 31)) (member_of tape (codes "cycle"))
  texts_in (member_of tape (codes "cycle")) items

unfoldable pub repeating_in : Data → Result Draft Path
repeating_in d = do
  stem ← texts_member tape (codes "stem") d
  cycle ← cycle_in d
  times ← small_number_member (2 ^ 32 - 1) tape (codes "times") d
  _ ← only tape (codes "cycle" ∷ codes "stem" ∷ codes "times" ∷ []) d
  Ok (repeating stem cycle times)

unfoldable pub seeded_in : Data → Result Draft Path
seeded_in d = do
  cycles ← small_number_member (2 ^ 32 - 1) tape (codes "cycles") d
  seed ← small_number_member (2 ^ 64 - 1) tape (codes "seed") d
  _ ← only tape (codes "cycles" ∷ codes "seed" ∷ []) d
  Ok (seeded cycles seed)

abbrev pub has : List ℕ → Data → Bool
has k d = is_some (get k d)

-- which form is tested hangs on the members that there are
unfoldable pub form_in : Data → Result Draft Path
form_in d =
    if has (codes "rows") d then written_in d
    else (if has (codes "stem") d || (has (codes "cycle") d || has (codes "times") d) then repeating_in d
    else seeded_in d)

unfoldable pub draft_in : Option Data → Result Draft Path
draft_in value = do
  d ← demand value tape
  _ ← demand (as_object d) tape
  form_in d

-- ---- limits: the cycles, and then the cycles times the channels

abbrev pub cycles_drafted : Draft → ℕ
cycles_drafted (written rows) = length rows
cycles_drafted (repeating stem cycle times) = length stem + times * length cycle
cycles_drafted (seeded cycles seed) = cycles

abbrev pub check_limits : ℕ → ℕ → Result ⊤ Fault
check_limits cycles channels = do
  _ ← check (nat_le cycles most_cycles) (tape_limit cycles)
  check (nat_le (cycles * channels) most_cycles_by_channels) (tape_limit (cycles * channels))

-- ---- rows, from row t on

abbrev pub rows_from : Network → ℕ → List (List ℕ) → Result (List (List Choice)) Fault
rows_from net t texts = each_from (row_at net.prims) t texts

-- the rows of the stem, and then those of the cycle
unfoldable pub taped_in : Network → Draft → Result Taped Fault
taped_in net (written rows) = do
  stem ← rows_from net 0 rows
  Ok (record { stem = stem; cycle = []; times = 0 })
taped_in net (repeating stem cycle times) = do
  first ← rows_from net 0 stem
  again ← rows_from net (length stem) cycle
  Ok (record { stem = first; cycle = again; times = times })
taped_in net (seeded cycles seed) = Ok (record { stem = seeded_rows net.prims cycles seed; cycle = []; times = 0 })

-- shape, limits, rows
unfoldable pub tape_in : Network → Option Data → Result Taped Fault
tape_in net value = do
  draft ← told_as tape_shape (draft_in value)
  _ ← check_limits (cycles_drafted draft) net.channels
  taped_in net draft
