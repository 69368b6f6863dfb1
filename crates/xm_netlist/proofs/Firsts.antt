-- Names that are numbered by their first uses.
use Rattle.std.proofs.Common.{◌≡◌, ℕ, suc, zero, ◌<◌, ◌≤◌, Bool, true, false, cond, List, [], ◌∷◌, ◌++◌, length, map, take, Some, refl, sym, ap, ◌∙◌, append_assoc, append-nil, arith, inl, inr, true≢false}
use Rattle.std.specs.Prelude.{◌||◌, not, nat_eq, slice_get}
use Rattle.std.specs.List.{flat_map, list_all, list_any}
use Rattle.std.specs.Str.{bytes_eq}
use Rattle.std.proofs.lemmas.Bool.{and_from, and_parts, cases_lt, eq-eqb, ne_eqb, not-true, or_from, or_left, or_parts, or_right}
use Rattle.std.proofs.lemmas.List.{map-append}
use Rattle.std.proofs.lemmas.List.Folds.{list_all-append, list_any-append}
use Rattle.std.proofs.lemmas.Slice.Eq.{bytes_eq-Decides}
use Rattle.xm_shape.specs.NamedNet.{NamedPrimitive, channels_of}
use Rattle.xm_shape.specs.Lemmas.Equal.{same_bytes, same_names, swapped}
use Rattle.xm_shape.specs.Names.{Name, first_uses, is_among, number_in}
use Rattle.xm_netlist.specs.Numbered.{numbers_below, primitive_numbered}
use Rattle.xm_netlist.specs.Valid.{are_distinct, channel_uses, differ, first_numbers}
use Rattle.xm_netlist.proofs.Limited.{ports_numbered}

-- ---- the numbers of names

more_uses : (seen ns : List Name) → (rest : List Name) × (first_uses seen ns ≡ seen ++ rest)
more_uses seen [] = ([], sym (append-nil seen))
more_uses seen (n ∷ ns) =
    elim (is_among seen n) as (λ b. (rest : List Name) × (first_uses (cond b seen (seen ++ n ∷ [])) ns ≡ seen ++ rest)) [
      | true ↦ more_uses seen ns
      | false ↦ (let more = more_uses (seen ++ n ∷ []) ns in (n ∷ more.0, more.1 ∙ append_assoc seen (n ∷ []) more.0))
    ]

-- a name that was seen has its number among theirs
number_below : (seen rest : List Name) (n : Name) → is_among seen n ≡ true → number_in (seen ++ rest) n < length seen
number_below [] rest n among = absurd cc
number_below (m ∷ seen) rest n among =
    elim (bytes_eq n m) as (λ b. (b || is_among seen n) ≡ true → cond b 0 (suc (number_in (seen ++ rest) n)) < length (m ∷ seen)) [
      | true ↦ λ here. omega arith
      | false ↦ λ later. (let lt = number_below seen rest n later in omega arith)
    ] among

-- one that was not is numbered by their count
number_next : (seen rest : List Name) (n : Name) → is_among seen n ≡ false → number_in (seen ++ n ∷ rest) n ≡ length seen
number_next [] rest n none = rw (same_bytes n) refl
number_next (m ∷ seen) rest n none = let parts = or_parts (bytes_eq n m) (is_among seen n) none in rw (parts.0, number_next seen rest n parts.1) (omega arith)

is_below : (k m : ℕ) → k < m → list_any (nat_eq k) (numbers_below m) ≡ true
is_below k zero lt = absurd (omega arith)
is_below k (suc m) lt =
    list_any-append (nat_eq k) (numbers_below m) (m ∷ [])
    ∙ elim (cases_lt k m) [
      | inl less ↦ or_left _ _ (is_below k m less)
      | inr ge ↦ or_right (list_any (nat_eq k) (numbers_below m)) _ (or_left _ _ (eq-eqb k m (omega arith)))
    ]

is_not_below : (k m : ℕ) → m ≤ k → list_any (nat_eq k) (numbers_below m) ≡ false
is_not_below k zero le = refl
is_not_below k (suc m) le =
    list_any-append (nat_eq k) (numbers_below m) (m ∷ []) ∙ or_from _ _ (is_not_below k m (omega arith)) (or_from _ _ (ne_eqb k m (λ e. absurd (omega arith))) refl)

length_push : {X : Type 0} (xs : List X) (x : X) → length (xs ++ x ∷ []) ≡ suc (length xs)
length_push [] x = refl
length_push (y ∷ xs) x = ap suc (length_push xs x)

one_number : (seen : List ℕ) (k : ℕ) (ks : List ℕ) (b : Bool) → list_any (nat_eq k) seen ≡ b → first_numbers seen (k ∷ ks) ≡ first_numbers (cond b seen (seen ++ k ∷ [])) ks
one_number seen k ks b is = ap (λ (b : Bool). first_numbers (cond b seen (seen ++ k ∷ [])) ks) is

numbers_from : (all seen ns : List Name) → first_uses seen ns ≡ all → first_numbers (numbers_below (length seen)) (map (number_in all) ns) ≡ numbers_below (length all)
numbers_from all seen [] is_all = rw is_all refl
numbers_from all seen (n ∷ ns) is_all =
    elim (is_among seen n) as (λ b. is_among seen n ≡ b → first_uses (cond b seen (seen ++ n ∷ [])) ns ≡ all → first_numbers (numbers_below (length seen)) (map (number_in all) (n ∷ ns)) ≡ numbers_below (length all)) [
      | true ↦ λ among there. (
          let more = more_uses seen ns in
          let whole : all ≡ seen ++ more.0 = sym there ∙ more.1 in
          let lt : number_in all n < length seen = rw whole (number_below seen more.0 n among) in
          one_number (numbers_below (length seen)) (number_in all n) (map (number_in all) ns) true (is_below (number_in all n) (length seen) lt) ∙ numbers_from all seen ns there)
      | false ↦ λ none there. (
          let more = more_uses (seen ++ n ∷ []) ns in
          let whole : all ≡ seen ++ n ∷ more.0 = sym there ∙ more.1 ∙ append_assoc seen (n ∷ []) more.0 in
          let number : number_in all n ≡ length seen = rw whole (number_next seen more.0 n none) in
          let step = one_number (numbers_below (length seen)) (number_in all n) (map (number_in all) ns) false (is_not_below (number_in all n) (length seen) (omega arith)) in
          step ∙ rw number (rw (length_push seen n) at (numbers_from all (seen ++ n ∷ []) ns there)))
    ] refl is_all

pub numbered_by_uses : (uses : List Name) → first_numbers [] (map (number_in (first_uses [] uses)) uses) ≡ numbers_below (length (first_uses [] uses))
numbered_by_uses uses = numbers_from (first_uses [] uses) [] uses refl

pub uses_numbered : (channels colours : List Name) (primitives : List NamedPrimitive) → flat_map channel_uses (map (primitive_numbered channels colours) primitives) ≡ map (number_in channels) (flat_map channels_of primitives)
uses_numbered channels colours [] = refl
uses_numbered channels colours (primitive ∷ primitives) =
    rw (ports_numbered channels colours primitive.name primitive.kind, uses_numbered channels colours primitives) (sym (map-append (number_in channels) (channels_of primitive) (flat_map channels_of primitives)))

-- ---- the names by their first uses

pub formed_uses : (p : Name → Bool) (seen ns : List Name) → list_all p seen ≡ true → list_all p ns ≡ true → list_all p (first_uses seen ns) ≡ true
formed_uses p seen [] before these = before
formed_uses p seen (n ∷ ns) before these =
    let parts = and_parts (p n) (list_all p ns) these in
    elim (is_among seen n) as (λ b. list_all p (first_uses (cond b seen (seen ++ n ∷ [])) ns) ≡ true) [
      | true ↦ formed_uses p seen ns before parts.1
      | false ↦ formed_uses p (seen ++ n ∷ []) ns (list_all-append p seen (n ∷ []) ∙ and_from _ _ before (and_from _ _ parts.0 refl)) parts.1
    ]

distinct_more : (seen : List Name) (n : Name) → are_distinct seen ≡ true → is_among seen n ≡ false → are_distinct (seen ++ n ∷ []) ≡ true
distinct_more [] n before none = refl
distinct_more (m ∷ seen) n before none =
    let parts = and_parts (not (is_among seen m)) (are_distinct seen) before in
    let others = or_parts (bytes_eq n m) (is_among seen n) none in
    let away : is_among (seen ++ n ∷ []) m ≡ false = list_any-append (bytes_eq m) seen (n ∷ []) ∙ or_from _ _ (not-true (is_among seen m) parts.0) (or_from _ _ (swapped n m others.0) refl) in
    and_from (not (is_among (seen ++ n ∷ []) m)) _ (ap not away) (distinct_more seen n parts.1 others.1)

pub distinct_uses : (seen ns : List Name) → are_distinct seen ≡ true → are_distinct (first_uses seen ns) ≡ true
distinct_uses seen [] before = before
distinct_uses seen (n ∷ ns) before =
    elim (is_among seen n) as (λ b. is_among seen n ≡ b → are_distinct (first_uses (cond b seen (seen ++ n ∷ [])) ns) ≡ true) [
      | true ↦ λ among. distinct_uses seen ns before
      | false ↦ λ none. distinct_uses (seen ++ n ∷ []) ns (distinct_more seen n before none)
    ] refl

-- ---- names of which each is none of those before it

no_match : (m : Name) (ns : List Name) → ((i : ℕ) (n : Name) → slice_get ns i ≡ Some n → bytes_eq n m ≡ false) → is_among ns m ≡ false
no_match m [] others = refl
no_match m (n ∷ ns) others = or_from (bytes_eq m n) (is_among ns m) (swapped n m (others 0 n refl)) (no_match m ns (λ i x at. others (suc i) x at))

pub distinct_by : (names : List Name) → ((i : ℕ) (n : Name) → slice_get names i ≡ Some n → is_among (take i names) n ≡ false) → are_distinct names ≡ true
distinct_by [] new = refl
distinct_by (m ∷ ms) new =
    and_from (not (is_among ms m)) (are_distinct ms) (ap not (no_match m ms (λ i n at. (or_parts (bytes_eq n m) (is_among (take i ms) n) (new (suc i) n at)).0)))
    (distinct_by ms (λ i n at. (or_parts (bytes_eq n m) (is_among (take i ms) n) (new (suc i) n at)).1))

-- ---- different names have different numbers

same_number : (names : List Name) (n m : Name) → is_among names n ≡ true → number_in names n ≡ number_in names m → bytes_eq n m ≡ true
same_number [] n m among e = absurd cc
same_number (x ∷ xs) n m among e =
    elim (bytes_eq n x) as (λ b. bytes_eq n x ≡ b → (b || is_among xs n) ≡ true → cond b 0 (suc (number_in xs n)) ≡ number_in (x ∷ xs) m → bytes_eq n m ≡ true) [
      | true ↦ λ first here zeroth. elim (bytes_eq m x) as (λ b. bytes_eq m x ≡ b → 0 ≡ cond b 0 (suc (number_in xs m)) → bytes_eq n m ≡ true) [
        | true ↦ λ too z. (bytes_eq-Decides n m).1 (same_names n x first ∙ sym (same_names m x too))
        | false ↦ λ other z. absurd (omega arith)
      ] refl zeroth
      | false ↦ λ other later further. elim (bytes_eq m x) as (λ b. bytes_eq m x ≡ b → suc (number_in xs n) ≡ cond b 0 (suc (number_in xs m)) → bytes_eq n m ≡ true) [
        | true ↦ λ first z. absurd (omega arith)
        | false ↦ λ too z. same_number xs n m later (omega arith)
      ] refl further
    ] refl among e

none_equal : (names : List Name) (d : Name) (ds : List Name) → is_among names d ≡ true → is_among ds d ≡ false → list_any (nat_eq (number_in names d)) (map (number_in names) ds) ≡ false
none_equal names d [] among none = refl
none_equal names d (e ∷ ds) among none =
    let parts = or_parts (bytes_eq d e) (is_among ds d) none in
    or_from _ _ (ne_eqb (number_in names d) (number_in names e) (λ is. true≢false (sym (same_number names d e among is) ∙ parts.0))) (none_equal names d ds among parts.1)

pub differ_numbers : (names ds : List Name) → list_all (is_among names) ds ≡ true → are_distinct ds ≡ true → differ (map (number_in names) ds) ≡ true
differ_numbers names [] known distinct = refl
differ_numbers names (d ∷ ds) known distinct =
    let parts = and_parts (is_among names d) (list_all (is_among names) ds) known in
    let others = and_parts (not (is_among ds d)) (are_distinct ds) distinct in
    and_from (not (list_any (nat_eq (number_in names d)) (map (number_in names) ds))) _ (ap not (none_equal names d ds parts.0 (not-true (is_among ds d) others.0))) (differ_numbers names ds parts.1 others.1)
