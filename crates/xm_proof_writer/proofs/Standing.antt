-- The value of a proof can stand in a document: it is not deep, and its numbers are whole.
use Rattle.std.specs.Fmt.{signed_decimal}
use Rattle.std.specs.Prelude.{codes}
use Rattle.std.proofs.Common.{◌≡◌, ◌≤◌, ℕ, suc, Some, None, List, [], ◌∷◌, true, false, map, refl, arith}
use Rattle.serde_json.specs.Data.{Data, Members, depth, items_depth, members_depth, array, boolean, member, no_members, number, object, string, unsigned}
use Rattle.serde_json.specs.View.{items_of}
use Rattle.serde_json.specs.Written.{has_float, items_have_float, members_have_float}
use Rattle.xm_flow.specs.ValidLemma.{Lemma}
use Rattle.xm_flow.specs.declared.invariant.Part.{Part}
use Rattle.xm_json.specs.WholeNumbers.{has_whole, items_have_whole, members_have_whole}
use Rattle.xm_lits.specs.declared.literal.Lit.{Lit}
use Rattle.xm_lits.specs.declared.literal.Lit.TheVariants.{Dead, Full, Has, Idle, Lacks, Stuck}
use Rattle.xm_netlist.specs.Valid.{IsPart}
use Rattle.xm_proof.specs.Argument.{Argument, Cite, Clash, Eager, Open, Refutation, Split, Step, Sum}
use Rattle.xm_proof.specs.declared.proof.Item.{Item}
use Rattle.xm_proof.specs.declared.proof.Item.TheVariants as item
use Rattle.xm_proof_reader.specs.Known.{Known}
use Rattle.xm_model.specs.TextLines.{name_at}
use Rattle.xm_proof_writer.specs.Writing.{colour_data, goal_data, item_data, lemma_data, list_data, literal_data, number_data, pair_at, part_data, place_data, proof_data, queue_data, step_data, term_data}
use Rattle.xm_rows.specs.declared.row.Entry.{Entry}

-- the value nests at most n levels, and has whole numbers alone
pub record Stands (n : ℕ) (d : Data) : Type 0 where
  pub low : depth d ≤ n
  pub whole : has_whole d ≡ true
  pub plain : has_float d ≡ false

abbrev EachStands : ℕ → List Data → Type 0
EachStands n [] = Unit {0}
EachStands n (d ∷ ds) = Stands n d × EachStands n ds

abbrev MembersStand : ℕ → Members → Type 0
MembersStand n no_members = Unit {0}
MembersStand n (member k d ms) = Stands n d × MembersStand n ms

items_low : (n : ℕ) (ds : List Data) → EachStands n ds → items_depth (items_of ds) ≤ n
items_low n [] all = omega arith
items_low n (d ∷ ds) all = let here = all.0.low in let rest = items_low n ds all.1 in omega arith

items_whole : (n : ℕ) (ds : List Data) → EachStands n ds → items_have_whole (items_of ds) ≡ true
items_whole n [] all = refl
items_whole n (d ∷ ds) all = rw (all.0.whole) (items_whole n ds all.1)

items_plain : (n : ℕ) (ds : List Data) → EachStands n ds → items_have_float (items_of ds) ≡ false
items_plain n [] all = refl
items_plain n (d ∷ ds) all = rw (all.0.plain) (items_plain n ds all.1)

members_low : (n : ℕ) (ms : Members) → MembersStand n ms → members_depth ms ≤ n
members_low n no_members all = omega arith
members_low n (member k d ms) all = let here = all.0.low in let rest = members_low n ms all.1 in omega arith

members_whole : (n : ℕ) (ms : Members) → MembersStand n ms → members_have_whole ms ≡ true
members_whole n no_members all = refl
members_whole n (member k d ms) all = rw (all.0.whole) (members_whole n ms all.1)

members_plain : (n : ℕ) (ms : Members) → MembersStand n ms → members_have_float ms ≡ false
members_plain n no_members all = refl
members_plain n (member k d ms) all = rw (all.0.plain) (members_plain n ms all.1)

string_stands : (n : ℕ) (s : List ℕ) → Stands n (string s)
string_stands n s = record { low = omega arith; whole = refl; plain = refl }

place_stands : (n k : ℕ) → Stands n (number (unsigned k))
place_stands n k = record { low = omega arith; whole = refl; plain = refl }

list_stands : (n : ℕ) (ds : List Data) → EachStands n ds → Stands (suc n) (list_data ds)
list_stands n ds all = record {
  low = (let low = items_low n ds all in omega arith);
  whole = items_whole n ds all;
  plain = items_plain n ds all;
}

object_stands : (n : ℕ) (ms : Members) → MembersStand n ms → Stands (suc n) (object ms)
object_stands n ms all = record {
  low = (let low = members_low n ms all in omega arith);
  whole = members_whole n ms all;
  plain = members_plain n ms all;
}

each_mapped : {A : Type 0} (n : ℕ) (f : A → Data) → ((x : A) → Stands n (f x)) → (xs : List A) → EachStands n (map f xs)
each_mapped n f each [] = tt
each_mapped n f each (x ∷ xs) = (each x, each_mapped n f each xs)

module _ (known : Known) where
  -- a list of a word and a name, and of a word and two
  two_stand : (n : ℕ) (word name : List ℕ) → Stands (suc n) (list_data (string word ∷ string name ∷ []))
  two_stand n word name = list_stands n (string word ∷ string name ∷ []) (string_stands n word, (string_stands n name, tt))

  three_stand : (n : ℕ) (word name other : List ℕ) → Stands (suc n) (list_data (string word ∷ string name ∷ string other ∷ []))
  three_stand n word name other =
      list_stands n (string word ∷ string name ∷ string other ∷ []) (string_stands n word, (string_stands n name, (string_stands n other, tt)))

  literal_stands : (n : ℕ) (l : Lit) → Stands (suc n) (literal_data known l)
  literal_stands n (Stuck c) = two_stand n (codes "Stuck") (name_at known.names.channels c)
  literal_stands n (Dead c d) = three_stand n (codes "Dead") (name_at known.names.channels c) (name_at known.names.colours d)
  literal_stands n (Idle c d) = three_stand n (codes "Idle") (name_at known.names.channels c) (name_at known.names.colours d)
  literal_stands n (Full q) = two_stand n (codes "Full") (name_at known.names.prims q)
  literal_stands n (Has q d) = three_stand n (codes "Has") (name_at known.names.prims q) (name_at known.names.colours d)
  literal_stands n (Lacks q d) = three_stand n (codes "Lacks") (name_at known.names.prims q) (name_at known.names.colours d)

  item_stands : (i : Item) → Stands 2 (item_data known i)
  item_stands (item.Lemma k n) =
      list_stands 1 (string (codes "lemma") ∷ place_data k ∷ number_data n ∷ []) (string_stands 1 (codes "lemma"), (place_stands 1 k, (string_stands 1 (signed_decimal n), tt)))
  item_stands (item.Cap q n) = three_stand 1 (codes "cap") (name_at known.names.prims q) (signed_decimal n)
  item_stands (item.Low q d n) =
      list_stands 1 (string (codes "low") ∷ queue_data known q ∷ colour_data known d ∷ number_data n ∷ [])
      (string_stands 1 (codes "low"), (string_stands 1 (name_at known.names.prims q), (string_stands 1 (name_at known.names.colours d), (string_stands 1 (signed_decimal n), tt))))
  item_stands (item.Path l n) =
      list_stands 1 (string (codes "path") ∷ literal_data known l ∷ number_data n ∷ []) (string_stands 1 (codes "path"), (literal_stands 0 l, (string_stands 1 (signed_decimal n), tt)))

  step_stands : (s : Step) → Stands 4 (step_data known s)
  step_stands (Split name on None kids) = object_stands 3 _ (place_stands 3 kids, (literal_stands 2 on, (string_stands 3 _, tt)))
  step_stands (Split name on (Some d) kids) = object_stands 3 _ (place_stands 3 kids, (literal_stands 2 on, (string_stands 3 _, (string_stands 3 _, tt))))
  step_stands (Clash one None) = object_stands 3 _ (list_stands 2 (literal_data known one ∷ []) (literal_stands 1 one, tt), tt)
  step_stands (Clash one (Some other)) = object_stands 3 _ (list_stands 2 (literal_data known one ∷ literal_data known other ∷ []) (literal_stands 1 one, (literal_stands 1 other, tt)), tt)
  step_stands (Eager c) = object_stands 3 _ (string_stands 3 _, tt)
  step_stands (Sum items) = object_stands 3 _ (list_stands 2 (map (item_data known) items) (each_mapped 2 (item_data known) item_stands items), tt)
  step_stands (Cite place) = object_stands 3 _ (place_stands 3 place, tt)
  step_stands Open = object_stands 3 _ (record { low = omega arith; whole = refl; plain = refl }, tt)

  goal_stands : (g : Refutation) → Stands 6 (goal_data known g)
  goal_stands g = object_stands 5 _ (literal_stands 4 g.lit, (list_stands 4 (map (step_data known) g.steps) (each_mapped 4 (step_data known) step_stands g.steps), tt))

  part_stands : (p : Part) → Stands 4 (part_data p)
  part_stands p = list_stands 3 (place_data p.flow ∷ number_data p.factor ∷ []) (place_stands 3 p.flow, (string_stands 3 (signed_decimal p.factor), tt))

  term_stands : (e : Entry) → Stands 4 (term_data known e)
  term_stands e = three_stand 3 (name_at known.names.prims (pair_at known e.column).0) (name_at known.names.colours (pair_at known e.column).1) (signed_decimal e.value)

  lemma_stands : (l : Lemma) → Stands 6 (lemma_data known l)
  lemma_stands l =
      object_stands 5 _ (
        string_stands 5 _,
        (
          list_stands 4 (map part_data l.parts) (each_mapped 4 part_data part_stands l.parts),
          (
            string_stands 5 _,
            (list_stands 4 (map (term_data known) l.row.entries) (each_mapped 4 (term_data known) term_stands l.row.entries), tt),
          ),
        ),
      )

  pub proof_stands : (p : Argument) → Stands 8 (proof_data known p)
  unfolding proof_data
  proof_stands p =
      object_stands 7 _ (
        list_stands 6 (map (goal_data known) p.goals) (each_mapped 6 (goal_data known) goal_stands p.goals),
        (list_stands 6 (map (lemma_data known) p.lemmas) (each_mapped 6 (lemma_data known) lemma_stands p.lemmas), tt),
      )

  pub is_part : (p : Argument) → IsPart (proof_data known p)
  is_part p = let stands = proof_stands p in record { shallow = (let low = stands.low in omega arith); whole = stands.whole }
