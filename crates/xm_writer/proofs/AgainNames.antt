-- Names and the numbers that stand for them.
use Rattle.std.proofs.Common.{◌≡◌, ℕ, zero, suc, ◌<◌, ◌≤◌, Bool, true, false, cond, List, [], ◌∷◌, ◌++◌, length, map, take, Some, refl, sym, ap, ap₂, ◌∙◌, arith, inl, inr}
use Rattle.std.specs.Prelude.{◌||◌, not, nat_eq}
use Rattle.std.specs.List.{All, list_any, slice_get}
use Rattle.std.specs.Str.{bytes_eq}
use Rattle.std.proofs.Math.Seq.{take-suc}
use Rattle.std.proofs.lemmas.Bool.{and_parts, cases_eq, eq-eqb, false_from_ne_true, ne_eqb, not-true}
use Rattle.std.proofs.lemmas.List.{map_push, take_all}
use Rattle.std.proofs.lemmas.List.Elements.{All-head, All-push, All-tail}
use Rattle.std.proofs.lemmas.Option.{slice_get-get_or}
use Rattle.xm_model.specs.TextLines.{name_at}
use Rattle.xm_shape.specs.Lemmas.Equal.{same_bytes, same_names, swapped}
use Rattle.xm_shape.specs.Names.{Name, first_uses, is_among, number_in}
use Rattle.xm_netlist.specs.Numbered.{numbers_below}
use Rattle.xm_netlist.specs.Valid.{are_distinct, differ, first_numbers}
use Rattle.xm_writer.proofs.AgainLists.{any_at, none_at}

-- a name that stands at a later place is another
apart : (n : Name) (ns : List Name) (i : ℕ) (x : Name) → are_distinct (n ∷ ns) ≡ true → slice_get ns i ≡ Some x → bytes_eq x n ≡ false
apart n ns i x d e =
    let none = not-true (is_among ns n) ((and_parts (not (is_among ns n)) (are_distinct ns) d).0) in
    swapped n x (none_at (bytes_eq n) ns i x e none)

rest_distinct : (n : Name) (ns : List Name) → are_distinct (n ∷ ns) ≡ true → are_distinct ns ≡ true
rest_distinct n ns d = (and_parts (not (is_among ns n)) (are_distinct ns) d).1

pub distinct_before : (names : List Name) (i : ℕ) (x : Name) → are_distinct names ≡ true → slice_get names i ≡ Some x → is_among (take i names) x ≡ false
distinct_before [] i x d e = absurd cc
distinct_before (n ∷ ns) zero x d e = refl
distinct_before (n ∷ ns) (suc i) x d e = rw (apart n ns i x d e, distinct_before ns i x (rest_distinct n ns d) e) refl

pub number_at_place : (names : List Name) (i : ℕ) (x : Name) → are_distinct names ≡ true → slice_get names i ≡ Some x → number_in names x ≡ i
number_at_place [] i x d e = absurd cc
number_at_place (n ∷ ns) zero x d e = let s : x ≡ n = cc in rw (s, same_bytes n) refl
number_at_place (n ∷ ns) (suc i) x d e = rw (apart n ns i x d e, number_at_place ns i x (rest_distinct n ns d) e) refl

pub name_is : (names : List Name) (i : ℕ) → i < length names → slice_get names i ≡ Some (name_at names i)
name_is names i lt = slice_get-get_or names i [] lt

pub number_again : (names : List Name) (i : ℕ) → are_distinct names ≡ true → i < length names → number_in names (name_at names i) ≡ i
number_again names i d lt = number_at_place names i (name_at names i) d (name_is names i lt)

pub is_known : (names : List Name) (i : ℕ) → i < length names → is_among names (name_at names i) ≡ true
is_known names i lt = any_at (bytes_eq (name_at names i)) names i (name_at names i) (name_is names i lt) (same_bytes (name_at names i))

-- ---- names differ as their numbers do

pub names_differ : (names : List Name) (i j : ℕ) → are_distinct names ≡ true → i < length names → j < length names → bytes_eq (name_at names i) (name_at names j) ≡ nat_eq i j
names_differ names i j d li lj =
    elim (cases_eq i j) [
      | inl same ↦ rw (same, same_bytes (name_at names j)) (sym (eq-eqb j j refl))
      | inr other ↦
          false_from_ne_true (bytes_eq (name_at names i) (name_at names j)) (λ t. other (sym (number_again names i d li) ∙ ap (number_in names) (same_names (name_at names i) (name_at names j) t) ∙ number_again names j d lj)) ∙ sym (ne_eqb i j other)
    ]

module _ (names : List Name) (d : are_distinct names ≡ true) where
  among-map : (n : ℕ) (is : List ℕ) → n < length names → All (λ c. c < length names) is → is_among (map (name_at names) is) (name_at names n) ≡ list_any (nat_eq n) is
  among-map n [] lt all = refl
  among-map n (i ∷ is) lt all =
      ap₂ (λ (a b : Bool). a || b) (names_differ names n i d lt (All-head (λ c. c < length names) i is all)) (among-map n is lt (All-tail (λ c. c < length names) i is all))

  -- lists of numbers that differ are lists of names that differ
  pub distinct-map : (is : List ℕ) → All (λ c. c < length names) is → differ is ≡ true → are_distinct (map (name_at names) is) ≡ true
  distinct-map [] all e = refl
  distinct-map (i ∷ is) all e =
      let parts = and_parts (not (list_any (nat_eq i) is)) (differ is) e in
      rw (among-map i is (All-head (λ c. c < length names) i is all) (All-tail (λ c. c < length names) i is all), parts.0) (distinct-map is (All-tail (λ c. c < length names) i is all) parts.1)

  -- the order of first uses, by names and by numbers
  pub first_uses-map : (seen uses : List ℕ) → All (λ c. c < length names) seen → All (λ c. c < length names) uses → first_uses (map (name_at names) seen) (map (name_at names) uses) ≡ map (name_at names) (first_numbers seen uses)
  first_uses-map seen [] s u = refl
  first_uses-map seen (n ∷ ns) s u =
      let here = All-head (λ c. c < length names) n ns u in
      let later = All-tail (λ c. c < length names) n ns u in
      let old = first_uses-map seen ns s later in
      let new = first_uses-map (seen ++ n ∷ []) ns (All-push (λ c. c < length names) seen n s here) later in
      rw (among-map n seen here s, first_uses) (elim (list_any (nat_eq n) seen) as (λ b. first_uses (cond b (map (name_at names) seen) (map (name_at names) seen ++ name_at names n ∷ [])) (map (name_at names) ns) ≡ map (name_at names) (first_numbers (cond b seen (seen ++ n ∷ [])) ns)) [
        | true ↦ old
        | false ↦ ap (λ l. first_uses l (map (name_at names) ns)) (sym (map_push (name_at names) seen n)) ∙ new
      ])

first_names : (names : List Name) (k : ℕ) → k ≤ length names → map (name_at names) (numbers_below k) ≡ take k names
first_names names zero le = refl
first_names names (suc k) le = map_push (name_at names) (numbers_below k) k ∙ ap (λ (l : List Name). l ++ name_at names k ∷ []) (first_names names k (omega arith)) ∙ sym (take-suc names k [] (omega arith))

-- the names by all numbers are the names
pub all_names : (names : List Name) → map (name_at names) (numbers_below (length names)) ≡ names
all_names names = first_names names (length names) (omega arith) ∙ take_all (length names) names (omega arith)
