-- Which proof a value is, or the path of its first break.
use Rattle.std.specs.Prelude.{ℕ, suc, ◌+◌, ◌-◌, ◌^◌, List, [], ◌∷◌, Bool, true, false, ◌&&◌, not, nat_lt, length, is_some, if◌then◌else◌, Option, Some, None, option_and_then, Result, Ok, Err, codes, ℤ, pos}
use Rattle.std.specs.Ordering.{int_eq}
use Rattle.std.specs.Str.{bytes_eq}
use Rattle.serde_json.specs.Data.{Data}
use Rattle.serde_json.specs.Find.{as_bool, as_object, as_str, get}
use Rattle.xm_flow.specs.ValidLemma.{Lemma}
use Rattle.xm_flow.specs.declared.invariant.Part.{Part}
use Rattle.xm_json.specs.Members.{list_member, only, required, small_number_member}
use Rattle.xm_json.specs.Path.{Path, member_of, place_of}
use Rattle.xm_json.specs.Values.{list_at, small_number_at, text_at}
use Rattle.xm_lits.specs.declared.inference.RuleName.{RuleName}
use Rattle.xm_lits.specs.declared.inference.RuleName.TheVariants.{P0, S1, S2, S3, S4, S5, S6, P1, P2, P3, P4, O1, O2, O3, O4, O5, O6, I2, I3, I4, I5, I6, I7}
use Rattle.xm_lits.specs.declared.literal.Lit.{Lit}
use Rattle.xm_lits.specs.declared.literal.Lit.TheVariants.{Stuck, Dead, Idle, Full, Has, Lacks}
use Rattle.xm_model.specs.Steps.{◌>>=◌, check, demand, each}
use Rattle.xm_proof.specs.Argument.{Argument, Cite, Clash, Eager, Open, Refutation, Split, Step, Sum}
use Rattle.xm_proof.specs.Form.{are_trees}
use Rattle.xm_proof.specs.OfNet.{has_via}
use Rattle.xm_proof.specs.declared.proof.Item.{Item}
use Rattle.xm_proof.specs.declared.proof.Item.TheVariants as item
use Rattle.xm_rows.specs.declared.row.Entry.{Entry}
use Rattle.xm_proof_reader.specs.Known.{Known, channel_named, colour_named, pair_from, queue_named}
use Rattle.xm_proof_reader.specs.Numbers.{number_of}

-- ---- numbers, lists and names

-- a number, which is written as a decimal text
abbrev pub number_at : Path → Data → Result ℤ Path
number_at path d = demand (option_and_then number_of (as_str d)) path

unfoldable pub number_member : Path → List ℕ → Data → Result ℤ Path
number_member path k d = required number_at (member_of path k) k d

-- a place of a list, or a count, is a whole number below 2^32
abbrev pub most_places : ℕ
most_places = 2 ^ 32 - 1

-- a list of fewer than 2^32 items
unfoldable pub items_at : Path → Data → Result (List Data) Path
items_at path d = do
  items ← list_at path d
  _ ← check (nat_lt (length items) (2 ^ 32)) path
  Ok items

unfoldable pub items_member : Path → List ℕ → Data → Result (List Data) Path
items_member path k d = required items_at (member_of path k) k d

abbrev pub channel_at : Known → Path → Data → Result ℕ Path
channel_at known path d = demand (option_and_then (channel_named known) (as_str d)) path

abbrev pub colour_at : Known → Path → Data → Result ℕ Path
colour_at known path d = demand (option_and_then (colour_named known) (as_str d)) path

abbrev pub queue_at : Known → Path → Data → Result ℕ Path
queue_at known path d = demand (option_and_then (queue_named known) (as_str d)) path

-- ---- literals

-- of two items: a word and a channel or a queue
unfoldable pub short_literal : Known → Path → Data → Data → Result Lit Path
short_literal known path first second = do
  word ← text_at path first
  if bytes_eq word (codes "Stuck") then (do
    c ← channel_at known (place_of path 1) second
    Ok (Stuck c))
      else (if bytes_eq word (codes "Full") then (do
        q ← queue_at known (place_of path 1) second
        Ok (Full q))
      else Err path)

-- a channel and a colour, after the word
unfoldable pub channel_and_colour : Known → Path → Data → Data → Result (ℕ × ℕ) Path
channel_and_colour known path first second = do
  c ← channel_at known (place_of path 1) first
  d ← colour_at known (place_of path 2) second
  Ok (c, d)

-- a queue and a colour, from a place on
unfoldable pub queue_and_colour : Known → Path → ℕ → Data → Data → Result (ℕ × ℕ) Path
queue_and_colour known path place first second = do
  q ← queue_at known (place_of path place) first
  d ← colour_at known (place_of path (place + 1)) second
  Ok (q, d)

abbrev pub pair_literal : (ℕ → ℕ → Lit) → ℕ × ℕ → Result Lit Path
pair_literal literal pair = Ok (literal pair.0 pair.1)

-- of three: a word, a channel or a queue, and a colour
unfoldable pub long_literal : Known → Path → Data → Data → Data → Result Lit Path
long_literal known path first second third = do
  word ← text_at path first
  if bytes_eq word (codes "Dead") then channel_and_colour known path second third >>= pair_literal Dead
      else (if bytes_eq word (codes "Idle") then channel_and_colour known path second third >>= pair_literal Idle
      else (if bytes_eq word (codes "Has") then queue_and_colour known path 1 second third >>= pair_literal Has
      else (if bytes_eq word (codes "Lacks") then queue_and_colour known path 1 second third >>= pair_literal Lacks
      else Err path)))

abbrev pub literal_of_items : Known → Path → List Data → Result Lit Path
literal_of_items known path [] = Err path
literal_of_items known path (word ∷ []) = Err path
literal_of_items known path (word ∷ a ∷ []) = short_literal known path word a
literal_of_items known path (word ∷ a ∷ d ∷ []) = long_literal known path word a d
literal_of_items known path (word ∷ a ∷ d ∷ further ∷ more) = Err path

unfoldable pub literal_at : Known → Path → Data → Result Lit Path
literal_at known path d = do
  items ← list_at path d
  literal_of_items known path items

unfoldable pub literal_member : Known → Path → List ℕ → Data → Result Lit Path
literal_member known path k d = required (literal_at known) (member_of path k) k d

-- ---- items of a sum

-- of three: a word, a lemma's place, a queue or a literal, and a number
unfoldable pub short_item : Known → Path → Data → Data → Data → Result Item Path
short_item known path first second third = do
  word ← text_at path first
  if bytes_eq word (codes "lemma") then (do
    k ← small_number_at most_places (place_of path 1) second
    n ← number_at (place_of path 2) third
    Ok (item.Lemma k n))
      else (if bytes_eq word (codes "cap") then (do
        q ← queue_at known (place_of path 1) second
        n ← number_at (place_of path 2) third
        Ok (item.Cap q n))
      else (if bytes_eq word (codes "path") then (do
        l ← literal_at known (place_of path 1) second
        n ← number_at (place_of path 2) third
        Ok (item.Path l n))
      else Err path))

-- of four: a word, a queue, a colour and a number
unfoldable pub long_item : Known → Path → Data → Data → Data → Data → Result Item Path
long_item known path first second third fourth = do
  word ← text_at path first
  if bytes_eq word (codes "low") then (do
    pair ← queue_and_colour known path 1 second third
    n ← number_at (place_of path 3) fourth
    Ok (item.Low pair.0 pair.1 n))
      else Err path

abbrev pub item_of_items : Known → Path → List Data → Result Item Path
item_of_items known path [] = Err path
item_of_items known path (word ∷ []) = Err path
item_of_items known path (word ∷ a ∷ []) = Err path
item_of_items known path (word ∷ a ∷ b ∷ []) = short_item known path word a b
item_of_items known path (word ∷ a ∷ b ∷ n ∷ []) = long_item known path word a b n
item_of_items known path (word ∷ a ∷ b ∷ n ∷ further ∷ more) = Err path

unfoldable pub item_at : Known → Path → Data → Result Item Path
item_at known path d = do
  items ← list_at path d
  item_of_items known path items

-- ---- nodes

unfoldable pub rule_of : List ℕ → Option RuleName
rule_of text =
    if bytes_eq text (codes "P0") then Some P0
    else (if bytes_eq text (codes "S1") then Some S1
    else (if bytes_eq text (codes "S2") then Some S2
    else (if bytes_eq text (codes "S3") then Some S3
    else (if bytes_eq text (codes "S4") then Some S4
    else (if bytes_eq text (codes "S5") then Some S5
    else (if bytes_eq text (codes "S6") then Some S6
    else (if bytes_eq text (codes "P1") then Some P1
    else (if bytes_eq text (codes "P2") then Some P2
    else (if bytes_eq text (codes "P3") then Some P3
    else (if bytes_eq text (codes "P4") then Some P4
    else (if bytes_eq text (codes "O1") then Some O1
    else (if bytes_eq text (codes "O2") then Some O2
    else (if bytes_eq text (codes "O3") then Some O3
    else (if bytes_eq text (codes "O4") then Some O4
    else (if bytes_eq text (codes "O5") then Some O5
    else (if bytes_eq text (codes "O6") then Some O6
    else (if bytes_eq text (codes "I2") then Some I2
    else (if bytes_eq text (codes "I3") then Some I3
    else (if bytes_eq text (codes "I4") then Some I4
    else (if bytes_eq text (codes "I5") then Some I5
    else (if bytes_eq text (codes "I6") then Some I6
    else (if bytes_eq text (codes "I7") then Some I7 else None))))))))))))))))))))))

abbrev pub rule_at : Path → Data → Result RuleName Path
rule_at path d = demand (option_and_then rule_of (as_str d)) path

unfoldable pub split_via : Known → Path → RuleName → Lit → ℕ → Data → Result Step Path
split_via known path rule on kids d = do
  via ← required (colour_at known) (member_of path (codes "via")) (codes "via") d
  _ ← only path (codes "kids" ∷ codes "on" ∷ codes "rule" ∷ codes "via" ∷ []) d
  Ok (Split rule on (Some via) kids)

unfoldable pub split_plain : Path → RuleName → Lit → ℕ → Data → Result Step Path
split_plain path rule on kids d = do
  _ ← only path (codes "kids" ∷ codes "on" ∷ codes "rule" ∷ []) d
  Ok (Split rule on None kids)

unfoldable pub split_in : Known → Path → Data → Result Step Path
split_in known path d = do
  kids ← small_number_member most_places path (codes "kids") d
  on ← literal_member known path (codes "on") d
  rule ← required rule_at (member_of path (codes "rule")) (codes "rule") d
  if has_via rule then split_via known path rule on kids d else split_plain path rule on kids d

-- one literal, or two
abbrev pub clash_of_items : Known → Path → List Data → Result Step Path
clash_of_items known path [] = Err path
clash_of_items known path (one ∷ []) = do
  l ← literal_at known (place_of path 0) one
  Ok (Clash l None)
clash_of_items known path (one ∷ other ∷ []) = do
  l ← literal_at known (place_of path 0) one
  m ← literal_at known (place_of path 1) other
  Ok (Clash l (Some m))
clash_of_items known path (one ∷ other ∷ further ∷ more) = Err path

unfoldable pub clash_in : Known → Path → Data → Result Step Path
clash_in known path d = do
  items ← list_member path (codes "clash") d
  step ← clash_of_items known (member_of path (codes "clash")) items
  _ ← only path (codes "clash" ∷ []) d
  Ok step

unfoldable pub eager_in : Known → Path → Data → Result Step Path
eager_in known path d = do
  c ← required (channel_at known) (member_of path (codes "eager")) (codes "eager") d
  _ ← only path (codes "eager" ∷ []) d
  Ok (Eager c)

unfoldable pub cite_in : Path → Data → Result Step Path
cite_in path d = do
  place ← small_number_member most_places path (codes "cite") d
  _ ← only path (codes "cite" ∷ []) d
  Ok (Cite place)

abbrev pub is_true : Option Bool → Bool
is_true None = false
is_true (Some b) = b

unfoldable pub open_in : Path → Data → Result Step Path
open_in path d = do
  value ← demand (get (codes "open") d) (member_of path (codes "open"))
  _ ← check (is_true (as_bool value)) (member_of path (codes "open"))
  _ ← only path (codes "open" ∷ []) d
  Ok Open

unfoldable pub sum_items : Known → Path → Data → Result (List Item) Path
sum_items known path d = do
  values ← items_member path (codes "sum") d
  each (λ i x. item_at known (place_of (member_of path (codes "sum")) i) x) values

unfoldable pub sum_in : Known → Path → Data → Result Step Path
sum_in known path d = do
  items ← sum_items known path d
  _ ← only path (codes "sum" ∷ []) d
  Ok (Sum items)

abbrev pub has : List ℕ → Data → Bool
has k d = is_some (get k d)

-- the form of a node is that of the first of these members that it has
unfoldable pub node_at : Known → Path → Data → Result Step Path
node_at known path d =
    if has (codes "cite") d then cite_in path d
    else (if has (codes "clash") d then clash_in known path d
    else (if has (codes "eager") d then eager_in known path d
    else (if has (codes "kids") d then split_in known path d
    else (if has (codes "open") d then open_in path d
    else (if has (codes "sum") d then sum_in known path d
    else Err path)))))

-- ---- goals

unfoldable pub steps_in : Known → Path → Data → Result (List Step) Path
steps_in known path d = do
  values ← items_member path (codes "tree") d
  each (λ i x. node_at known (place_of (member_of path (codes "tree")) i) x) values

-- the list is tested to be one tree after its nodes
unfoldable pub tree_in : Known → Path → Data → Result (List Step) Path
tree_in known path d = do
  steps ← steps_in known path d
  _ ← check (are_trees 1 steps) (member_of path (codes "tree"))
  Ok steps

unfoldable pub goal_at : Known → Path → Data → Result Refutation Path
goal_at known path d = do
  _ ← demand (as_object d) path
  lit ← literal_member known path (codes "goal") d
  steps ← tree_in known path d
  _ ← only path (codes "goal" ∷ codes "tree" ∷ []) d
  Ok (record { lit = lit; steps = steps })

-- ---- lemmas

-- a step for each item, with its place and with what the item before gave
abbrev pub each_after : {A B : Type 0} → (Option B → ℕ → A → Result B Path) → Option B → ℕ → List A
    → Result (List B) Path
each_after f before i [] = Ok []
each_after f before i (x ∷ xs) = do
  y ← f before i x
  ys ← each_after f (Some y) (suc i) xs
  Ok (y ∷ ys)

-- a flow row's place and its factor
abbrev pub part_of_items : Path → List Data → Result Part Path
part_of_items path [] = Err path
part_of_items path (a ∷ []) = Err path
part_of_items path (a ∷ b ∷ []) = do
  flow ← small_number_at most_places (place_of path 0) a
  factor ← number_at (place_of path 1) b
  Ok (record { flow = flow; factor = factor })
part_of_items path (a ∷ b ∷ further ∷ more) = Err path

abbrev pub rises_to : Option Part → Part → Bool
rises_to None part = true
rises_to (Some before) part = nat_lt before.flow part.flow

unfoldable pub part_at : Path → Option Part → Data → Result Part Path
part_at path before d = do
  items ← list_at path d
  part ← part_of_items path items
  _ ← check (rises_to before part) path
  Ok part

-- a queue, a colour that makes a queue pair with it, and a number; its column is the place of the queue pair
unfoldable pub term_in : Known → Path → Data → Data → Data → Result Entry Path
term_in known path first second third = do
  pair ← queue_and_colour known path 0 first second
  column ← demand (pair_from 0 known.pairs pair.0 pair.1) (place_of path 1)
  value ← number_at (place_of path 2) third
  Ok (record { column = column; value = value })

abbrev pub term_of_items : Known → Path → List Data → Result Entry Path
term_of_items known path [] = Err path
term_of_items known path (a ∷ []) = Err path
term_of_items known path (a ∷ b ∷ []) = Err path
term_of_items known path (a ∷ b ∷ c ∷ []) = term_in known path a b c
term_of_items known path (a ∷ b ∷ c ∷ further ∷ more) = Err path

-- the entry is of a later column, and not 0
abbrev pub follows : Option Entry → Entry → Bool
follows None entry = not (int_eq entry.value (pos 0))
follows (Some before) entry = nat_lt before.column entry.column && not (int_eq entry.value (pos 0))

unfoldable pub term_at : Known → Path → Option Entry → Data → Result Entry Path
term_at known path before d = do
  items ← list_at path d
  entry ← term_of_items known path items
  _ ← check (follows before entry) path
  Ok entry

unfoldable pub rows_in : Path → Data → Result (List Part) Path
rows_in path d = do
  values ← items_member path (codes "rows") d
  each_after (λ before i x. part_at (place_of (member_of path (codes "rows")) i) before x) None 0 values

unfoldable pub terms_in : Known → Path → Data → Result (List Entry) Path
terms_in known path d = do
  values ← items_member path (codes "terms") d
  each_after (λ before i x. term_at known (place_of (member_of path (codes "terms")) i) before x) None 0 values

unfoldable pub lemma_at : Known → Path → Data → Result Lemma Path
lemma_at known path d = do
  _ ← demand (as_object d) path
  constant ← number_member path (codes "constant") d
  parts ← rows_in path d
  scale ← number_member path (codes "scale") d
  entries ← terms_in known path d
  _ ← only path (codes "constant" ∷ codes "rows" ∷ codes "scale" ∷ codes "terms" ∷ []) d
  Ok (record { row = record { entries = entries; constant = constant }; scale = scale; parts = parts })

-- ---- proofs

-- the path of a proof
abbrev pub proof : Path
proof = codes "proof"

unfoldable pub lemmas_in : Known → Data → Result (List Lemma) Path
lemmas_in known d = do
  values ← items_member proof (codes "lemmas") d
  each (λ i x. lemma_at known (place_of (member_of proof (codes "lemmas")) i) x) values

unfoldable pub goals_in : Known → Data → Result (List Refutation) Path
goals_in known d = do
  values ← items_member proof (codes "goals") d
  each (λ i x. goal_at known (place_of (member_of proof (codes "goals")) i) x) values

-- the lemmas are read before the goals
unfoldable pub object_in : Known → Data → Result Argument Path
object_in known d = do
  lemmas ← lemmas_in known d
  goals ← goals_in known d
  _ ← only proof (codes "goals" ∷ codes "lemmas" ∷ []) d
  Ok (record { lemmas = lemmas; goals = goals })

unfoldable pub proof_in : Known → Option Data → Result Argument Path
proof_in known value = do
  d ← demand value proof
  _ ← demand (as_object d) proof
  object_in known d
