-- Sums are known by their touched columns.
use Rattle.std.proofs.Common.{◌≡◌, ℕ, zero, suc, ◌<◌, Option, Some, None, List, [], ◌∷◌, ◌++◌, Bool, true, false, map, length, set, refl, sym, ◌∙◌, ap, subst, arith, inl, inr, pos, ℤ, replicate, int_eq}
use Rattle.std.specs.Prelude.{All, ◌⊎◌}
use Rattle.std.proofs.lemmas.Bool.{and_parts, and_from, cases_eq, cases_lt}
use Rattle.std.proofs.lemmas.Bool.Decides.{Decides-int_eq}
use Rattle.std.proofs.lemmas.List.{append_assoc, append-nil, ext_get_or, get_or-replicate, get_or-set_other, get_or-set_same, get_or_past, length-replicate, length-set}
use Rattle.std.proofs.lemmas.List.Elements.{All-head, All-nil, All-push, All-tail}
use Rattle.xm_check.proofs.Adding.{none_stays}
use Rattle.xm_check.specs.Inner.Touched.{AreTouched, cleared, number_at, zero_at}
use Rattle.xm_model.specs.Membership.{IsIn}
use Rattle.xm_proof.specs.Sums.{add_entries, all_zero, plus_product, put}
use Rattle.xm_rows.specs.declared.row.Entry.{Entry}

both_ways : (a b : Bool) → (a ≡ true → b ≡ true) → (b ≡ true → a ≡ true) → a ≡ b
both_ways true b f g = sym (f refl)
both_ways false true f g = g refl
both_ways false false f g = refl

-- the columns but for the touched ones
abbrev pub Rest : List ℕ → List ℤ → Type 0
Rest ts cs = (k : ℕ) → (number_at cs k ≡ pos 0) ⊎ IsIn ts k

dropped : (t : ℕ) (ts : List ℕ) (cs : List ℤ) → Rest (t ∷ ts) cs → number_at cs t ≡ pos 0 → Rest ts cs
dropped t ts cs rest here k = elim (rest k) [
  | inl z ↦ inl z
  | inr m ↦ elim m [
    | inl same ↦ inl (ap (number_at cs) (sym same) ∙ here)
    | inr more ↦ inr more
  ]
]

-- all zero, in both forms
zeros : (ts : List ℕ) (cs : List ℤ) → Rest ts cs → zero_at cs ts ≡ true → (k : ℕ) → number_at cs k ≡ pos 0
zeros [] cs rest h k = elim (rest k) [ inl z ↦ z | inr m ↦ absurd m ]
zeros (t ∷ ts) cs rest h k =
    let both = and_parts (int_eq (number_at cs t) (pos 0)) (zero_at cs ts) h in
    zeros ts cs (dropped t ts cs rest ((Decides-int_eq (number_at cs t) (pos 0)).0 both.0)) both.1 k

all_from : (cs : List ℤ) → ((k : ℕ) → number_at cs k ≡ pos 0) → all_zero cs ≡ true
all_from [] h = refl
all_from (z ∷ zs) h = and_from (int_eq z (pos 0)) (all_zero zs) ((Decides-int_eq z (pos 0)).1 (h 0)) (all_from zs (λ k. h (suc k)))

all_at : (cs : List ℤ) → all_zero cs ≡ true → (k : ℕ) → number_at cs k ≡ pos 0
all_at [] h k = refl
all_at (z ∷ zs) h zero = (Decides-int_eq z (pos 0)).0 (and_parts (int_eq z (pos 0)) (all_zero zs) h).0
all_at (z ∷ zs) h (suc k) = all_at zs (and_parts (int_eq z (pos 0)) (all_zero zs) h).1 k

zero_from : (ts : List ℕ) (cs : List ℤ) → ((k : ℕ) → number_at cs k ≡ pos 0) → zero_at cs ts ≡ true
zero_from [] cs h = refl
zero_from (t ∷ ts) cs h = and_from (int_eq (number_at cs t) (pos 0)) (zero_at cs ts) ((Decides-int_eq (number_at cs t) (pos 0)).1 (h t)) (zero_from ts cs h)

pub zero_is : (ts : List ℕ) (cs : List ℤ) → AreTouched ts cs → zero_at cs ts ≡ all_zero cs
zero_is ts cs touched = both_ways (zero_at cs ts) (all_zero cs) (λ h. all_from cs (zeros ts cs touched.rest h)) (λ h. zero_from ts cs (all_at cs h))

-- what is 0 everywhere
is_zeros : (cs : List ℤ) → ((k : ℕ) → number_at cs k ≡ pos 0) → cs ≡ replicate (length cs) (pos 0)
is_zeros cs h = ext_get_or (pos 0) cs (replicate (length cs) (pos 0)) (sym (length-replicate (length cs) (pos 0))) (λ k in'. h k ∙ sym (get_or-replicate (length cs) k (pos 0) (pos 0) in'))

zeroed : (t : ℕ) (ts : List ℕ) (cs : List ℤ) → Rest (t ∷ ts) cs → t < length cs → Rest ts (set cs t (pos 0))
zeroed t ts cs rest h k = elim (cases_eq k t) [
  | inl same ↦ inl (ap (number_at (set cs t (pos 0))) same ∙ get_or-set_same cs t (pos 0) (pos 0) h)
  | inr differ ↦ elim (rest k) [
    | inl z ↦ inl (get_or-set_other cs t k (pos 0) (pos 0) differ ∙ z)
    | inr m ↦ elim m [ inl same ↦ absurd (differ (sym same)) | inr more ↦ inr more ]
  ]
]

clear_rest : (ts : List ℕ) (cs : List ℤ) → All (λ k. k < length cs) ts → Rest ts cs → cleared ts cs ≡ replicate (length cs) (pos 0)
clear_rest [] cs within rest = is_zeros cs (λ k. elim (rest k) [ inl z ↦ z | inr m ↦ absurd m ])
clear_rest (t ∷ ts) cs within rest =
    let long = length-set cs t (pos 0) in
    let first = All-head (λ k. k < length cs) t ts within in
    clear_rest ts (set cs t (pos 0)) (subst (λ (n : ℕ). All (λ k. k < n) ts) (sym long) (All-tail (λ k. k < length cs) t ts within)) (zeroed t ts cs rest first)
    ∙ ap (λ (n : ℕ). replicate n (pos 0)) long

pub clear_is : (ts : List ℕ) (cs : List ℤ) → AreTouched ts cs → cleared ts cs ≡ replicate (length cs) (pos 0)
clear_is ts cs touched = clear_rest ts cs touched.within touched.rest

pub none_touched : (n : ℕ) → AreTouched [] (replicate n (pos 0))
none_touched n = record {
  within = All-nil (λ k. k < length (replicate n (pos 0)));
  rest = λ k. inl (elim (cases_lt k n) [
    | inl low ↦ get_or-replicate n k (pos 0) (pos 0) low
    | inr high ↦ get_or_past (replicate n (pos 0)) k (pos 0) (let e = length-replicate n (pos 0) in omega (arith, e))
  ]);
}

last_in : (ts : List ℕ) (t : ℕ) → IsIn (ts ++ t ∷ []) t
last_in [] t = inl refl
last_in (x ∷ ts) t = inr (last_in ts t)

still_in : (ts : List ℕ) (t k : ℕ) → IsIn ts k → IsIn (ts ++ t ∷ []) k
still_in [] t k inside = absurd inside
still_in (x ∷ ts) t k (inl same) = inl same
still_in (x ∷ ts) t k (inr more) = inr (still_in ts t k more)

put_touched : (ts : List ℕ) (cs : List ℤ) (t : ℕ) (z : ℤ) → t < length cs → AreTouched ts cs → AreTouched (ts ++ t ∷ []) (set cs t z)
put_touched ts cs t z h touched =
    let long = length-set cs t z in
    record {
      within = subst (λ (n : ℕ). All (λ k. k < n) (ts ++ t ∷ [])) (sym long) (All-push (λ k. k < length cs) ts t touched.within h);
      rest = λ k. elim (cases_eq k t) [
        | inl same ↦ inr (subst (λ (j : ℕ). IsIn (ts ++ t ∷ []) j) (sym same) (last_in ts t))
        | inr differ ↦ elim (touched.rest k) [
          | inl nothing ↦ inl (get_or-set_other cs t k z (pos 0) differ ∙ nothing)
          | inr m ↦ inr (still_in ts t k m)
        ]
      ];
    }

one_touches : (factor : ℤ) (e : Entry) (es : List Entry) (ts : List ℕ) (cs after : List ℤ) → All (λ (x : Entry). x.column < length cs) (e ∷ es) → AreTouched ts cs → (o : Option ℤ) →
    add_entries factor es (put cs e.column o) ≡ Some after →
    ((us : List ℕ) (ds : List ℤ) → All (λ (x : Entry). x.column < length ds) es → AreTouched us ds → add_entries factor es (Some ds) ≡ Some after → AreTouched (us ++ map (λ (x : Entry). x.column) es) after) →
    AreTouched (ts ++ e.column ∷ map (λ (x : Entry). x.column) es) after
one_touches factor e es ts cs after within touched None h next = let none = none_stays factor es in cc
one_touches factor e es ts cs after within touched (Some z) h next =
    let long = length-set cs e.column z in
    let here = All-head (λ (x : Entry). x.column < length cs) e es within in
    let rest = subst (λ (n : ℕ). All (λ (x : Entry). x.column < n) es) (sym long) (All-tail (λ (x : Entry). x.column < length cs) e es within) in
    let whole = next (ts ++ e.column ∷ []) (set cs e.column z) rest (put_touched ts cs e.column z here touched) h in
    subst (λ (us : List ℕ). AreTouched us after) (append_assoc ts (e.column ∷ []) (map (λ (x : Entry). x.column) es)) whole

-- a row touches the columns of its entries
pub row_touches : (factor : ℤ) (es : List Entry) (ts : List ℕ) (cs after : List ℤ) → All (λ (e : Entry). e.column < length cs) es → AreTouched ts cs → add_entries factor es (Some cs) ≡ Some after →
    AreTouched (ts ++ map (λ (e : Entry). e.column) es) after
row_touches factor [] ts cs after within touched h =
    let same : cs ≡ after = cc in
    subst (λ (us : List ℕ). AreTouched us after) (sym (append-nil ts)) (subst (λ (ds : List ℤ). AreTouched ts ds) same touched)
row_touches factor (e ∷ es) ts cs after within touched h =
    one_touches factor e es ts cs after within touched (plus_product (number_at cs e.column) factor e.value) h
    (λ us ds w t g. row_touches factor es us ds after w t g)

-- by two answers
