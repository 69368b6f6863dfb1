-- Words as sets.
use Rattle.std.proofs.Common.{◌≡◌, ◌≢◌, ◌↔◌, ℕ, zero, suc, ◌+◌, ◌-◌, ◌<◌, ◌≤◌, ◌==◌, Bool, true, false, cond, List, [], ◌∷◌, ◌++◌, Some, length, slice_get, refl, sym, ◌∙◌, ap, subst, inl, inr, arith, length-append, add-one, eq-eqb, eqb-true, take, get_or, ◌*◌, ◌%◌, ◌^◌, w64}
use Rattle.std.proofs.lemmas.Bool.{cases_Bool, cases_eq, cases_lt, eqb-false, ne_eqb}
use Rattle.std.proofs.lemmas.List.{append-nil, take_more}
use Rattle.std.proofs.lemmas.Nat.Bits.{bit_at-lt, bit_at-trailing_zeros, bit_at-zero, bit_at_and, bit_at_not, bit_at_set_other, bit_at_set_same}
use Rattle.std.specs.Int.{bit_at, bit_not, trailing_zeros}
use Rattle.std.specs.Prelude.{bit_and, bit_or, min}
use Rattle.xm_colours.proofs.Among.{in_either, in_from, in_left, in_right, in_where, is_in, where_in}
use Rattle.xm_colours.specs.Family.{Rises}
use Rattle.xm_colours.specs.Inner.Refusing.{IsFirstMissing, IsWithin}
use Rattle.xm_colours.specs.Inner.Words.{holds, set_below, set_of}
use Rattle.xm_model.specs.Membership.{IsIn}

set_tells : (word n d : ℕ) → IsIn (set_below word n) d → (d < n) × (holds word d ≡ true)
set_tells word zero d h = absurd h
set_tells word (suc n) d h = elim (in_either d (set_below word n) (cond (holds word n) (n ∷ []) []) h) [
  | inl i ↦ let r = set_tells word n d i in let below = r.0 in (omega arith, r.1)
  | inr i ↦ let r = in_where (holds word n) n d i in let same = r.1 in (omega arith, subst (λ (k : ℕ). holds word k ≡ true) same r.0)
]

set_has : (word n d : ℕ) → d < n → holds word d ≡ true → IsIn (set_below word n) d
set_has word zero d below h = absurd (omega arith)
set_has word (suc n) d below h = elim (cases_eq d n) [
  | inl same ↦ in_right d (set_below word n) (cond (holds word n) (n ∷ []) []) (subst (λ (k : ℕ). IsIn (cond (holds word n) (n ∷ []) []) k) (sym same) (where_in (holds word n) n (subst (λ (k : ℕ). holds word k ≡ true) same h)))
  | inr apart ↦ in_left d (set_below word n) (cond (holds word n) (n ∷ []) []) (set_has word n d (omega arith) h)
]

rises_on : (xs : List ℕ) (n : ℕ) → Rises xs → ((d : ℕ) → IsIn xs d → d < n) → Rises (xs ++ n ∷ [])
rises_on [] n h below = tt
rises_on (x ∷ []) n h below = (below x (inl refl), tt)
rises_on (x ∷ y ∷ ys) n h below = (h.0, rises_on (y ∷ ys) n h.1 (λ d i. below d (inr i)))

rises_last : (b : Bool) (xs : List ℕ) (n : ℕ) → Rises xs → ((d : ℕ) → IsIn xs d → d < n) → Rises (xs ++ cond b (n ∷ []) [])
rises_last true xs n h below = rises_on xs n h below
rises_last false [] n h below = tt
rises_last false (x ∷ xs) n h below = subst Rises (sym (append-nil (x ∷ xs))) h

set_rises : (word n : ℕ) → Rises (set_below word n)
set_rises word zero = tt
set_rises word (suc n) = rises_last (holds word n) (set_below word n) n (set_rises word n) (λ d i. (set_tells word n d i).0)

length_last : (b : Bool) (n : ℕ) → length (cond b (n ∷ []) []) ≡ cond b 1 0
length_last true n = refl
length_last false n = refl

pub count_more : (word n : ℕ) → length (set_below word (n + 1)) ≡ length (set_below word n) + cond (holds word n) 1 0
count_more word n = rw add-one (simp length-append (rw (length_last (holds word n) n) refl))

last_below : (b : Bool) → cond b 1 0 ≤ 1
last_below true = omega arith
last_below false = omega arith

pub count_le : (word n : ℕ) → length (set_below word n) ≤ n
count_le word zero = omega arith
count_le word (suc n) =
    let rest = count_le word n in
    let more = count_more word n in
    let one = last_below (holds word n) in
    let all : length (set_below word (n + 1)) ≤ n + 1 = omega arith in
    rw add-one at all

get_left : (xs ys : List ℕ) (k d : ℕ) → slice_get xs k ≡ Some d → slice_get (xs ++ ys) k ≡ Some d
get_left [] ys k d e = absurd cc
get_left (x ∷ xs) ys zero d e = e
get_left (x ∷ xs) ys (suc k) d e = get_left xs ys k d e

get_right : (xs ys : List ℕ) (d : ℕ) → slice_get ys 0 ≡ Some d → slice_get (xs ++ ys) (length xs) ≡ Some d
get_right [] ys d e = e
get_right (x ∷ xs) ys d e = get_right xs ys d e

get_last : (b : Bool) (n : ℕ) → b ≡ true → slice_get (cond b (n ∷ []) []) 0 ≡ Some n
get_last true n e = refl
get_last false n e = absurd cc

-- a colour stands behind those that are less
set_place : (word n d : ℕ) → d < n → holds word d ≡ true → slice_get (set_below word n) (length (set_below word d)) ≡ Some d
set_place word zero d below h = absurd (omega arith)
set_place word (suc n) d below h = elim (cases_eq d n) [
  | inl same ↦ subst (λ (k : ℕ). slice_get (set_below word (suc n)) (length (set_below word k)) ≡ Some k) (sym same)
      (get_right (set_below word n) (cond (holds word n) (n ∷ []) []) n (get_last (holds word n) n (subst (λ (k : ℕ). holds word k ≡ true) same h)))
  | inr apart ↦ get_left (set_below word n) (cond (holds word n) (n ∷ []) []) _ d (set_place word n d (omega arith) h)
]

-- a word with one more colour
module _ (word new d : ℕ) (before : holds word d ≡ false) (after : holds new d ≡ true) (others : (e : ℕ) → e ≢ d → holds new e ≡ holds word e) where
  counts_below : (n : ℕ) → n ≤ d → set_below new n ≡ set_below word n
  counts_below zero h = refl
  counts_below (suc n) h =
      let rest = counts_below n (omega arith) in
      let here = others n (λ e. absurd (omega arith)) in
      rw (rest, here) refl

  counts_more : (n : ℕ) → d < n → length (set_below new n) ≡ length (set_below word n) + 1
  counts_more zero h = absurd (omega arith)
  counts_more (suc n) h =
      let old_count = count_more word n in
      let new_count = count_more new n in
      let all : length (set_below new (n + 1)) ≡ length (set_below word (n + 1)) + 1 = elim (cases_eq d n) [
        | inl same ↦
            let rest = ap length (counts_below n (omega arith)) in
            let was : holds word n ≡ false = subst (λ (k : ℕ). holds word k ≡ false) same before in
            let is : holds new n ≡ true = subst (λ (k : ℕ). holds new k ≡ true) same after in
            let a : length (set_below new (n + 1)) ≡ length (set_below new n) + 1 = new_count ∙ rw is refl in
            let b : length (set_below word (n + 1)) ≡ length (set_below word n) + 0 = old_count ∙ rw was refl in
            omega arith
        | inr apart ↦
            let rest = counts_more n (omega arith) in
            let here = others n (λ e. apart (sym e)) in
            let a : length (set_below new (n + 1)) ≡ length (set_below new n) + cond (holds word n) 1 0 = new_count ∙ rw here refl in
            omega arith
      ] in
      rw add-one at all

-- the whole set
pub of_tells : (word d : ℕ) → IsIn (set_of word) d → (d < 64) × (holds word d ≡ true)
unfolding set_of
of_tells word d h = set_tells word 64 d (in_from (set_below word 64) d h)

pub of_has : (word d : ℕ) → d < 64 → holds word d ≡ true → IsIn (set_of word) d
unfolding set_of
of_has word d below h = is_in (set_below word 64) d (set_has word 64 d below h)

pub of_rises : (word : ℕ) → Rises (set_of word)
unfolding set_of
of_rises word = set_rises word 64

pub of_count : (word n : ℕ) → n ≡ 64 → length (set_below word n) ≡ length (set_of word)
unfolding set_of
of_count word n e = rw e refl

pub of_place : (word d : ℕ) → d < 64 → holds word d ≡ true → slice_get (set_of word) (length (set_below word d)) ≡ Some d
unfolding set_of
of_place word d below h = set_place word 64 d below h

pub of_le : (word : ℕ) → length (set_of word) ≤ 64
unfolding set_of
of_le word = count_le word 64

pub of_more : (word new d : ℕ) → d < 64 → holds word d ≡ false → holds new d ≡ true → ((e : ℕ) → e ≢ d → holds new e ≡ holds word e) → length (set_of new) ≡ length (set_of word) + 1
unfolding set_of
of_more word new d below before after others = counts_more word new d before after others 64 below

-- the word that the code makes
pub with_same : (word d : ℕ) → d < 64 → holds (bit_or word (1 * 2 ^ d % 2 ^ 64)) d ≡ true
with_same word d below = eq-eqb _ 1 (bit_at_set_same w64 word d below)

pub with_other : (word d e : ℕ) → d < 64 → e ≢ d → holds (bit_or word (1 * 2 ^ d % 2 ^ 64)) e ≡ holds word e
with_other word d e below apart = ap (λ n. n == 1) (bit_at_set_other w64 word d below e apart)

pub zero_holds : (d : ℕ) → holds 0 d ≡ false
zero_holds d = ne_eqb (bit_at 0 d) 1 (λ e. let none = bit_at-zero d in absurd (omega arith))

-- the empty set
none_below : (n : ℕ) → set_below 0 n ≡ []
none_below zero = refl
none_below (suc n) = rw (none_below n, zero_holds n) refl

pub of_none : set_of 0 ≡ []
unfolding set_of
of_none = none_below 64

-- a set that is made of a list
module _ (word : ℕ) (xs : List ℕ) (i : ℕ) (inside : i < length xs) (so : (d : ℕ) → d < 64 → (holds word d ≡ true) ↔ IsIn (take i xs) d) where
  more : take (i + 1) xs ≡ take i xs ++ get_or xs i 0 ∷ []
  more = take_more xs i 0 inside

  pub from_more : (new : ℕ) → holds new (get_or xs i 0) ≡ true → ((e : ℕ) → e ≢ get_or xs i 0 → holds new e ≡ holds word e) → (d : ℕ) → d < 64 → (holds new d ≡ true) ↔ IsIn (take (i + 1) xs) d
  from_more new same others d below = rw more (
    λ h. elim (cases_eq d (get_or xs i 0)) [
      | inl e ↦ in_right d (take i xs) (get_or xs i 0 ∷ []) (inl (sym e))
      | inr apart ↦ in_left d (take i xs) (get_or xs i 0 ∷ []) ((so d below).0 (sym (others d apart) ∙ h))
    ],
    λ h. elim (cases_eq d (get_or xs i 0)) [
      | inl e ↦ subst (λ (k : ℕ). holds new k ≡ true) (sym e) same
      | inr apart ↦ elim (in_either d (take i xs) (get_or xs i 0 ∷ []) h) [
        | inl j ↦ others d apart ∙ (so d below).1 j
        | inr j ↦ elim j [ inl e ↦ absurd (apart (sym e)) | inr j ↦ absurd j ]
      ]
    ],
  )

  pub from_past : 64 ≤ get_or xs i 0 → (d : ℕ) → d < 64 → (holds word d ≡ true) ↔ IsIn (take (i + 1) xs) d
  from_past past d below = rw more (
    λ h. in_left d (take i xs) (get_or xs i 0 ∷ []) ((so d below).0 h),
    λ h. elim (in_either d (take i xs) (get_or xs i 0 ∷ []) h) [
      | inl j ↦ (so d below).1 j
      | inr j ↦ elim j [ inl e ↦ absurd (omega arith) | inr j ↦ absurd j ]
    ],
  )

-- what the first word has and the other lacks
module _ (word other missing : ℕ) (fits : other < 2 ^ 64) (is : missing ≡ bit_and word (bit_not w64 other)) where
  bit : (e : ℕ) → e < 64 → bit_at missing e ≡ min (bit_at word e) (1 - bit_at other e)
  bit e below = ap (λ n. bit_at n e) is ∙ bit_at_and word (bit_not w64 other) e ∙ ap (min (bit_at word e)) (bit_at_not w64 other e fits below)

  is_missing : (e : ℕ) → e < 64 → holds word e ≡ true → holds other e ≡ false → bit_at missing e ≡ 1
  is_missing e below h g =
      let one : bit_at word e ≡ 1 = eqb-true (bit_at word e) 1 h in
      let none : bit_at other e ≡ 0 = let small = bit_at-lt other e in let apart = eqb-false (bit_at other e) 1 g in omega arith in
      bit e below ∙ rw (one, none) refl

  pub none_missing : missing ≡ 0 → IsWithin word other
  none_missing none d below h = elim (cases_Bool (holds other d)) [
    | inl yields ↦ yields
    | inr fails ↦ let one = is_missing d below h fails in let zero_bit = ap (λ n. bit_at n d) none ∙ bit_at-zero d in absurd (omega arith)
  ]

  pub first_missing : missing < 2 ^ 64 → (missing ≡ 0 → ⊥) → IsFirstMissing word other (trailing_zeros w64 missing)
  first_missing small some =
      let r = bit_at-trailing_zeros w64 missing (omega arith) small in
      let both = sym (bit (trailing_zeros w64 missing) r.0) ∙ r.1 in
      let a = bit_at-lt word (trailing_zeros w64 missing) in
      let b = bit_at-lt other (trailing_zeros w64 missing) in
      record {
        below = r.0;
        has = eq-eqb _ 1 (omega arith);
        lacks = ne_eqb _ 1 (λ e. absurd (omega arith));
        first = λ e below h g. elim (cases_lt e (trailing_zeros w64 missing)) [
          | inl less ↦ let one = is_missing e below h g in let none = r.2 e less in absurd (omega arith)
          | inr least ↦ least
        ];
      }
