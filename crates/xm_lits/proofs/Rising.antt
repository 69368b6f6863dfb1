-- The numbers of a list that rises, up to a number.
use Rattle.std.proofs.Common.{zero, suc, length, get_or, ◌≡◌, ℕ, nat_eq, not, slice_index, subst, ◌+◌, ◌<◌, ◌≤◌, Bool}
use Rattle.std.proofs.Common.{true, false, cond, nat_lt, List, [], ◌∷◌, ◌++◌, refl, sym, ap, ◌∙◌, inl, inr, arith}
use Rattle.std.proofs.lemmas.Bool.{cases_lt, cond-false, cond-true, lt-ltb, le-ltb}
use Rattle.std.proofs.lemmas.List.{append-nil}
use Rattle.xm_colours.specs.Family.{Rises}
use Rattle.std.specs.Prelude.{IsTrue, ◌↔◌}
use Rattle.std.specs.Prelude.{◌⊎◌}
use Rattle.std.proofs.lemmas.Bool.{ltb-false, ltb-true}
use Rattle.xm_model.specs.Membership.{IsIn, times}
use Rattle.std.proofs.lemmas.Bool.{cases_Bool, cases_eq, eq-eqb, ne_eqb}
use Rattle.xm_lits.specs.Inference.{has_colour, taken_to, with_colour, without}

-- those below d
abbrev pub up_to : ℕ → List ℕ → List ℕ
up_to d [] = []
up_to d (x ∷ xs) = cond (nat_lt x d) (x ∷ up_to d xs) (up_to d xs)

up_to-below : (d x : ℕ) (xs : List ℕ) → x < d → up_to d (x ∷ xs) ≡ x ∷ up_to d xs
up_to-below d x xs h = cond-true (nat_lt x d) (x ∷ up_to d xs) (up_to d xs) (lt-ltb x d h)

up_to-above : (d x : ℕ) (xs : List ℕ) → d ≤ x → up_to d (x ∷ xs) ≡ up_to d xs
up_to-above d x xs h = cond-false (nat_lt x d) (x ∷ up_to d xs) (up_to d xs) (le-ltb x d h)

pub up_to-none : (d : ℕ) (xs : List ℕ) → ((e : ℕ) → IsIn xs e → d ≤ e) → up_to d xs ≡ []
up_to-none d [] h = refl
up_to-none d (x ∷ xs) h = up_to-above d x xs (h x (inl refl)) ∙ up_to-none d xs (λ e inside. h e (inr inside))

pub up_to-all : (d : ℕ) (xs : List ℕ) → ((e : ℕ) → IsIn xs e → e < d) → up_to d xs ≡ xs
up_to-all d [] h = refl
up_to-all d (x ∷ xs) h = up_to-below d x xs (h x (inl refl)) ∙ ap (λ (l : List ℕ). x ∷ l) (up_to-all d xs (λ e inside. h e (inr inside)))

above : (x : ℕ) (ys : List ℕ) → Rises (x ∷ ys) → (d : ℕ) → IsIn ys d → x < d
above x [] rise d inside = absurd inside
above x (y ∷ ys) rise d (inl same) = let low = rise.0 in omega arith
above x (y ∷ ys) rise d (inr rest) = let low = rise.0 in let further = above y ys rise.1 d rest in omega arith

rises_on : (x : ℕ) (ys : List ℕ) → Rises (x ∷ ys) → Rises ys
rises_on x [] rise = tt
rises_on x (y ∷ ys) rise = rise.1

-- one more number, which is in the list, or not
pub up_to-in : (d : ℕ) (xs : List ℕ) → Rises xs → IsIn xs d → up_to (d + 1) xs ≡ up_to d xs ++ d ∷ []
up_to-in d [] rise inside = absurd inside
up_to-in d (x ∷ xs) rise (inl same) =
    let now = up_to-below (d + 1) x xs (omega arith) in
    let before = up_to-above d x xs (omega arith) in
    let none = up_to-none (d + 1) xs (λ e inside. let low = above x xs rise e inside in omega arith) in
    let none_before = up_to-none d xs (λ e inside. let low = above x xs rise e inside in omega arith) in
    rw (now, before, none, none_before, same) refl
up_to-in d (x ∷ xs) rise (inr rest) =
    let low = above x xs rise d rest in
    let now = up_to-below (d + 1) x xs (omega arith) in
    let before = up_to-below d x xs low in
    rw (now, before) (ap (λ (l : List ℕ). x ∷ l) (up_to-in d xs (rises_on x xs rise) rest))

pub up_to-out : (d : ℕ) (xs : List ℕ) → (IsIn xs d → ⊥) → up_to (d + 1) xs ≡ up_to d xs
up_to-out d [] out = refl
up_to-out d (x ∷ xs) out = elim (cases_lt x d) [
  | inl low ↦ up_to-below (d + 1) x xs (omega arith) ∙ ap (λ (l : List ℕ). x ∷ l) (up_to-out d xs (λ h. out (inr h))) ∙ sym (up_to-below d x xs low)
  | inr high ↦
      let differs : x ≡ d → ⊥ = λ e. out (inl e) in
      up_to-above (d + 1) x xs (omega arith) ∙ up_to-out d xs (λ h. out (inr h)) ∙ sym (up_to-above d x xs high)
]

-- those below d go on with d, where it is in the list
pub goes_on : (test : Bool) (d : ℕ) (xs before after : List ℕ) → Rises xs → (IsTrue test ↔ IsIn xs d) →
    before ≡ up_to d xs → after ≡ before ++ cond test (d ∷ []) [] → after ≡ up_to (d + 1) xs
goes_on true d xs before after rise tells so_far last = last ∙ ap (λ (l : List ℕ). l ++ d ∷ []) so_far ∙ sym (up_to-in d xs rise (tells.0 refl))
goes_on false d xs before after rise tells so_far last =
    let out : IsIn xs d → ⊥ = λ inside. (let h = tells.1 inside in cc) in
    last ∙ append-nil before ∙ so_far ∙ sym (up_to-out d xs out)

-- the colours and one more
pub with_all : (d : ℕ) (xs : List ℕ) (e : ℕ) → IsIn (with_colour d xs) e → (d ≡ e) ⊎ IsIn xs e
with_all d [] e (inl same) = inl same
with_all d [] e (inr none) = absurd none
with_all d (x ∷ xs) e inside =
    elim (cases_eq x d) [
      | inl hit ↦ inr (subst (λ (l : List ℕ). IsIn l e) (cond-true (nat_eq x d) (x ∷ xs) _ (eq-eqb x d hit)) inside)
      | inr miss ↦ (let there = subst (λ (l : List ℕ). IsIn l e) (cond-false (nat_eq x d) (x ∷ xs) _ (ne_eqb x d miss)) inside in elim (cases_Bool (nat_lt d x)) [
        | inl low ↦ subst (λ (l : List ℕ). IsIn l e) (cond-true (nat_lt d x) (d ∷ x ∷ xs) (x ∷ with_colour d xs) low) there
        | inr high ↦ elim (let more = subst (λ (l : List ℕ). IsIn l e) (cond-false (nat_lt d x) (d ∷ x ∷ xs) (x ∷ with_colour d xs) high) there in more) [
          | inl same ↦ inr (inl same)
          | inr rest ↦ elim (with_all d xs e rest) [ inl is ↦ inl is | inr is ↦ inr (inr is) ]
        ]
      ])
    ]

rises_from : (x : ℕ) (ys : List ℕ) → ((d : ℕ) → IsIn ys d → x < d) → Rises ys → Rises (x ∷ ys)
rises_from x [] low rise = tt
rises_from x (y ∷ ys) low rise = (low y (inl refl), rise)

pub with_rises : (d : ℕ) (xs : List ℕ) → Rises xs → Rises (with_colour d xs)
with_rises d [] rise = tt
with_rises d (x ∷ xs) rise =
    elim (cases_eq x d) [
      | inl hit ↦ rw (cond-true (nat_eq x d) (x ∷ xs) _ (eq-eqb x d hit)) rise
      | inr miss ↦ rw (cond-false (nat_eq x d) (x ∷ xs) _ (ne_eqb x d miss)) (elim (cases_Bool (nat_lt d x)) [
        | inl low ↦ rw (cond-true (nat_lt d x) (d ∷ x ∷ xs) (x ∷ with_colour d xs) low) (ltb-true d x low, rise)
        | inr high ↦ rw (cond-false (nat_lt d x) (d ∷ x ∷ xs) (x ∷ with_colour d xs) high)
            (rises_from x (with_colour d xs) (λ e inside. elim (with_all d xs e inside) [
              | inl same ↦ (let least = ltb-false d x high in omega arith)
              | inr rest ↦ above x xs rise e rest
            ]) (with_rises d xs (rises_on x xs rise)))
      ])
    ]

pub without-append : (d : ℕ) (xs : List ℕ) (x : ℕ) →
    without d (xs ++ x ∷ []) ≡ without d xs ++ cond (not (nat_eq x d)) (x ∷ []) []
without-append d [] x = one (nat_eq x d) where
  one : (b : Bool) → cond b [] (x ∷ []) ≡ cond (not b) (x ∷ []) []
  one true = refl
  one false = refl
without-append d (y ∷ ys) x = more (nat_eq y d) (without-append d ys x) where
  more : (b : Bool) → without d (ys ++ x ∷ []) ≡ without d ys ++ cond (not (nat_eq x d)) (x ∷ []) [] →
      cond b (without d (ys ++ x ∷ [])) (y ∷ without d (ys ++ x ∷ [])) ≡ cond b (without d ys) (y ∷ without d ys) ++ cond (not (nat_eq x d)) (x ∷ []) []
  more true rest = rest
  more false rest = ap (λ (l : List ℕ). y ∷ l) rest

pub taken_to-append : (table : List ℕ) (d : ℕ) (xs : List ℕ) (x : ℕ) →
    taken_to table d (xs ++ x ∷ []) ≡ taken_to table d xs ++ cond (nat_eq (slice_index table x) d) (x ∷ []) []
taken_to-append table d [] x = refl
taken_to-append table d (y ∷ ys) x = more (nat_eq (slice_index table y) d) (taken_to-append table d ys x) where
  more : (b : Bool) →
      taken_to table d (ys ++ x ∷ []) ≡ taken_to table d ys ++ cond (nat_eq (slice_index table x) d) (x ∷ []) [] →
      cond b (y ∷ taken_to table d (ys ++ x ∷ [])) (taken_to table d (ys ++ x ∷ [])) ≡ cond b (y ∷ taken_to table d ys) (taken_to table d ys) ++ cond (nat_eq (slice_index table x) d) (x ∷ []) []
  more true rest = ap (λ (l : List ℕ). y ∷ l) rest
  more false rest = rest

pub in_with : (d : ℕ) (xs : List ℕ) (e : ℕ) → (d ≡ e) ⊎ IsIn xs e → IsIn (with_colour d xs) e
in_with d [] e (inl same) = inl same
in_with d [] e (inr none) = absurd none
in_with d (x ∷ xs) e is =
    elim (cases_eq x d) [
      | inl hit ↦ rw (cond-true (nat_eq x d) (x ∷ xs) _ (eq-eqb x d hit)) (elim is [ inl same ↦ inl (hit ∙ same) | inr rest ↦ rest ])
      | inr miss ↦ rw (cond-false (nat_eq x d) (x ∷ xs) _ (ne_eqb x d miss)) (elim (cases_Bool (nat_lt d x)) [
        | inl low ↦ rw (cond-true (nat_lt d x) (d ∷ x ∷ xs) (x ∷ with_colour d xs) low) is
        | inr high ↦ rw (cond-false (nat_lt d x) (d ∷ x ∷ xs) (x ∷ with_colour d xs) high) (elim is [
          | inl same ↦ inr (in_with d xs e (inl same))
          | inr rest ↦ elim rest [ inl first ↦ inl first | inr more ↦ inr (in_with d xs e (inr more)) ]
        ])
      ])
    ]

pub in_at : (xs : List ℕ) (k d : ℕ) → k < length xs → IsIn xs (get_or xs k d)
in_at [] k d h = absurd (omega arith)
in_at (x ∷ xs) zero d h = inl refl
in_at (x ∷ xs) (suc k) d h = inr (in_at xs k d (omega arith))

pub has_from : (ds : List ℕ) (d : ℕ) → IsIn ds d → has_colour ds d ≡ true
has_from ds d inside = lt-ltb 0 (times d ds) (some ds inside) where
  some : (ds : List ℕ) → IsIn ds d → 0 < times d ds
  some [] inside = absurd inside
  some (x ∷ xs) (inl same) = rw (eq-eqb x d same) (omega arith)
  some (x ∷ xs) (inr more) = let rest = some xs more in omega (arith, rest)

pub lacks_from : (ds : List ℕ) (d : ℕ) → (IsIn ds d → ⊥) → has_colour ds d ≡ false
lacks_from ds d out = le-ltb 0 (times d ds) (none ds out) where
  none : (ds : List ℕ) → (IsIn ds d → ⊥) → times d ds ≤ 0
  none [] out = omega arith
  none (x ∷ xs) out =
      let rest = none xs (λ h. out (inr h)) in
      let miss : nat_eq x d ≡ false = ne_eqb x d (λ same. out (inl same)) in
      rw miss (omega (arith, rest))

pub told_by : (test : Bool) (ds : List ℕ) (d : ℕ) → (IsTrue test ↔ IsIn ds d) → test ≡ has_colour ds d
told_by true ds d tells = sym (has_from ds d (tells.0 refl))
told_by false ds d tells = sym (lacks_from ds d (λ inside. let h = tells.1 inside in cc))
