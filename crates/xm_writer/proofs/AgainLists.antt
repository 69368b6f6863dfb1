-- Lists by their items, place by place.
use Rattle.std.proofs.Common.{◌≡◌, ℕ, zero, suc, ◌+◌, ◌<◌, Bool, true, false, List, [], ◌∷◌, ◌++◌, length, map, Some, Result, Ok, refl, sym, ap, ◌∙◌, subst, arith, inl, inr}
use Rattle.std.specs.Prelude.{⊤, nat_eq, slice_set, replicate}
use Rattle.std.specs.List.{All, AllByRecursion, list_all, list_any, slice_get}
use Rattle.std.proofs.Math.Bool.{or-true}
use Rattle.std.proofs.lemmas.Bool.{and_parts, cases_eq, ne_eqb, or_parts}
use Rattle.std.proofs.lemmas.List.{length-set, get_or-set_same, get_or-set_other}
use Rattle.std.proofs.lemmas.List.Elements.{All-cons, All-nil}
use Rattle.std.proofs.lemmas.Option.{get_or_from_slice_get, slice_get-get_or, slice_get_within}
use Rattle.xm_model.specs.Steps.{each_from}
use Rattle.xm_shape.specs.Fault.{Fault}
use Rattle.xm_json.specs.Holding.{each_holds_from}
use Rattle.xm_netlist.specs.Lemmas.Lengths.{length-numbers_below}
use Rattle.xm_netlist.specs.Numbered.{numbers_below, set_each}

-- each item passes its test
pub holds : {A : Type 0} (f : ℕ → A → Result ⊤ Fault) (i : ℕ) (xs : List A) → ((j k : ℕ) (x : A) → j ≡ i + k → slice_get xs k ≡ Some x → f j x ≡ Ok tt) → each_holds_from f i xs ≡ Ok tt
holds f i [] h = refl
holds f i (x ∷ xs) h = rw (h i 0 x (omega arith) refl) (holds f (suc i) xs (λ j k y e g. h j (suc k) y (omega arith) g))

-- each item is read as another
pub reads : {A B C E : Type 0} (f : ℕ → A → Result B E) (g : C → A) (h : C → B) (i : ℕ) (cs : List C) → ((j k : ℕ) (c : C) → j ≡ i + k → slice_get cs k ≡ Some c → f j (g c) ≡ Ok (h c)) → each_from f i (map g cs) ≡ Ok (map h cs)
reads f g h i [] e = refl
reads f g h i (c ∷ cs) e = rw (e i 0 c (omega arith) refl, reads f g h (suc i) cs (λ j k y s t. e j (suc k) y (omega arith) t)) refl

pub same_by_items : {X : Type 0} (xs ys : List X) → length xs ≡ length ys → ((k : ℕ) (y : X) → slice_get ys k ≡ Some y → slice_get xs k ≡ Some y) → xs ≡ ys
same_by_items [] [] e h = refl
same_by_items [] (y ∷ ys) e h = absurd (omega arith)
same_by_items (x ∷ xs) [] e h = absurd (omega arith)
same_by_items (x ∷ xs) (y ∷ ys) e h =
    let first : Some x ≡ Some y = h 0 y refl in
    let rest = same_by_items xs ys (omega arith) (λ k z g. h (suc k) z g) in cc

-- ---- tests of a list

pub any_at : {X : Type 0} (p : X → Bool) (xs : List X) (i : ℕ) (x : X) → slice_get xs i ≡ Some x → p x ≡ true → list_any p xs ≡ true
any_at p [] i x e t = absurd cc
any_at p (y ∷ ys) zero x e t = let same : p y ≡ true = (let s : y ≡ x = cc in rw s t) in rw same refl
any_at p (y ∷ ys) (suc i) x e t = rw (any_at p ys i x e t) (or-true (p y))

pub none_at : {X : Type 0} (p : X → Bool) (xs : List X) (i : ℕ) (x : X) → slice_get xs i ≡ Some x → list_any p xs ≡ false → p x ≡ false
none_at p [] i x e f = absurd cc
none_at p (y ∷ ys) zero x e f = let s : x ≡ y = cc in rw s ((or_parts (p y) (list_any p ys) f).0)
none_at p (y ∷ ys) (suc i) x e f = none_at p ys i x e ((or_parts (p y) (list_any p ys) f).1)

pub all_at : {X : Type 0} (p : X → Bool) (xs : List X) (i : ℕ) (x : X) → slice_get xs i ≡ Some x → list_all p xs ≡ true → p x ≡ true
all_at p [] i x e f = absurd cc
all_at p (y ∷ ys) zero x e f = let s : x ≡ y = cc in rw s ((and_parts (p y) (list_all p ys) f).0)
all_at p (y ∷ ys) (suc i) x e f = all_at p ys i x e ((and_parts (p y) (list_all p ys) f).1)

pub every_at : {X : Type 0} (P : X → Type 0) (xs : List X) (i : ℕ) (x : X) → slice_get xs i ≡ Some x → All P xs → P x
every_at P xs i x e all = subst P (get_or_from_slice_get xs i x x e) (all i x (slice_get_within xs i x e))

pub by_places : {X : Type 0} (P : X → Type 0) (xs : List X) → ((i : ℕ) (x : X) → slice_get xs i ≡ Some x → P x) → All P xs
by_places P [] h = All-nil P
by_places P (x ∷ xs) h = All-cons P x xs (h 0 x refl) (by_places P xs (λ i y e. h (suc i) y e))

-- ---- a list in which items have set their places

set_here : {X : Type 0} (xs : List X) (i : ℕ) (x : X) → i < length xs → slice_get (slice_set xs i x) i ≡ Some x
set_here {X} xs i x lt =
    let long : i < length (slice_set xs i x) = omega (arith, length-set xs i x) in
    slice_get-get_or (slice_set xs i x) i x long ∙ ap (λ (y : X). Some y) (get_or-set_same xs i x x lt)

set_elsewhere : {X : Type 0} (xs : List X) (j i : ℕ) (x : X) → i < length xs → (i ≡ j → ⊥) → slice_get (slice_set xs j x) i ≡ slice_get xs i
set_elsewhere {X} xs j i x lt other =
    let long : i < length (slice_set xs j x) = omega (arith, length-set xs j x) in
    slice_get-get_or (slice_set xs j x) i x long ∙ ap (λ (y : X). Some y) (get_or-set_other xs j i x x other) ∙ sym (slice_get-get_or xs i x lt)

-- the items whose place is i all have the value v, and where there are none it stood there before
pub set_each_at : {A X : Type 0} (place : A → ℕ) (value : A → X) (items : List A) (xs : List X) (i : ℕ) (v : X) → i < length xs → ((k : ℕ) (a : A) → slice_get items k ≡ Some a → place a ≡ i → value a ≡ v)
    → (list_any (λ a. nat_eq (place a) i) items ≡ false → slice_get xs i ≡ Some v) → slice_get (set_each place value items xs) i ≡ Some v
set_each_at place value [] xs i v lt all before = before refl
set_each_at place value (a ∷ rest) xs i v lt all before =
    let long : i < length (slice_set xs (place a) (value a)) = omega (arith, length-set xs (place a) (value a)) in
    set_each_at place value rest (slice_set xs (place a) (value a)) i v long (λ k b e s. all (suc k) b e s)
    (λ none. elim (cases_eq (place a) i) [
      | inl here ↦ let value_is = all 0 a refl here in rw (here, value_is) (set_here xs i v lt)
      | inr other ↦ set_elsewhere xs (place a) i (value a) lt (λ e. other (sym e)) ∙ before (rw (ne_eqb (place a) i other, none) refl)
    ])

-- ---- lists that are known by their items

get_front : {X : Type 0} (xs ys : List X) (i : ℕ) (x : X) → slice_get xs i ≡ Some x → slice_get (xs ++ ys) i ≡ Some x
get_front [] ys i x e = absurd cc
get_front (z ∷ xs) ys zero x e = e
get_front (z ∷ xs) ys (suc i) x e = get_front xs ys i x e

get_end : {X : Type 0} (xs : List X) (y : X) → slice_get (xs ++ y ∷ []) (length xs) ≡ Some y
get_end [] y = refl
get_end (x ∷ xs) y = get_end xs y

pub number_below : (n i : ℕ) → i < n → slice_get (numbers_below n) i ≡ Some i
number_below zero i lt = absurd (omega arith)
number_below (suc n) i lt =
    elim (cases_eq i n) [
      | inl here ↦ rw here (let e = get_end (numbers_below n) n in rw (length-numbers_below n) at e)
      | inr other ↦ get_front (numbers_below n) (n ∷ []) i i (number_below n i (omega arith))
    ]

pub get-replicate : {X : Type 0} (n : ℕ) (x : X) (i : ℕ) → i < n → slice_get (replicate n x) i ≡ Some x
get-replicate zero x i lt = absurd (omega arith)
get-replicate (suc n) x zero lt = refl
get-replicate (suc n) x (suc i) lt = get-replicate n x i (omega arith)

pub at_recursion : {X : Type 0} (P : X → Type 0) (xs : List X) (i : ℕ) (x : X) → slice_get xs i ≡ Some x → AllByRecursion P xs → P x
at_recursion P [] i x e all = absurd cc
at_recursion P (y ∷ ys) zero x e all = let s : y ≡ x = cc in subst P s all.0
at_recursion P (y ∷ ys) (suc i) x e all = at_recursion P ys i x e all.1
