-- Which alternative holds.
use Rattle.std.proofs.Common.{◌≡◌, ◌≢◌, ℕ, suc, ◌≤◌, Some, None, List, [], ◌∷◌, map, slice_get, slice_index, nat_eq}
use Rattle.std.proofs.Common.{nat_lt, cond, refl, sym, ◌∙◌, ap, subst, inl, inr, arith}
use Rattle.std.proofs.lemmas.Bool.{cases_Bool, cases_eq, eq-eqb, ne_eqb, cond-true, cond-false}
use Rattle.xm_lits.proofs.Forever.{AllHold, SomeHolds}
use Rattle.xm_lits.specs.Inference.{idle_where, one_of, taken_to, with_colour, without}
use Rattle.xm_lits.specs.declared.literal.Lit.{Lit}
use Rattle.xm_lits.specs.declared.literal.Lit.TheVariants.{Idle}
use Rattle.xm_model.specs.Component.{Content}
use Rattle.xm_model.specs.Net.{Network}
use Rattle.xm_model.specs.Membership.{IsIn, times}
use Rattle.xm_model.specs.Signals.{Signals}
use Rattle.xm_lits.proofs.Repeat

module _ (net : Network) (s : ℕ → ℕ → Content) (φ : ℕ → Signals) where
  pub some_one : (f : ℕ → List Lit) (ds : List ℕ) (e : ℕ) → IsIn ds e → AllHold net s φ (f e) →
      SomeHolds net s φ (one_of f ds)
  some_one f [] e inside holds = absurd inside
  some_one f (d ∷ ds) e inside holds =
      elim inside [ inl same ↦ inl (subst (λ (x : ℕ). AllHold net s φ (f x)) (sym same) holds) | inr rest ↦ inr (some_one f ds e rest holds) ]

  pub all_idle : (c : ℕ) (ds : List ℕ) → ((t : ℕ) → (φ t).offer c ≡ None) → AllHold net s φ (map (λ d. Idle c d) ds)
  all_idle c [] none = tt
  all_idle c (d ∷ ds) none = (λ t here. let quiet = none t in cc, all_idle c ds none)

  pub all_idle_of : (c : ℕ) (ds : List ℕ) → ((d : ℕ) → IsIn ds d → Repeat.Idle c d φ) →
      AllHold net s φ (map (λ d. Idle c d) ds)
  all_idle_of c [] none = tt
  all_idle_of c (d ∷ ds) none = (none d (inl refl), all_idle_of c ds (λ x h. none x (inr h)))

  pub where_idle : (c d : ℕ) (ds : List ℕ) → Repeat.Idle c d φ → AllHold net s φ (idle_where c d ds)
  where_idle c d ds idle = elim (cases_Bool (nat_lt 0 (times d ds))) [
    | inl some ↦ rw (cond-true (nat_lt 0 (times d ds)) (Idle c d ∷ []) [] some) (idle, tt)
    | inr none ↦ rw (cond-false (nat_lt 0 (times d ds)) (Idle c d ∷ []) [] none) tt
  ]

pub in_taken_to : (table : List ℕ) (d x : ℕ) (xs : List ℕ) → IsIn xs x → slice_index table x ≡ d →
    IsIn (taken_to table d xs) x
in_taken_to table d x [] inside maps = inside
in_taken_to table d x (y ∷ ys) inside maps =
    elim (cases_eq (slice_index table y) d) [
      | inl hit ↦
          rw (cond-true (nat_eq (slice_index table y) d) (y ∷ taken_to table d ys) (taken_to table d ys) (eq-eqb (slice_index table y) d hit))
          (elim inside [ inl same ↦ inl same | inr rest ↦ inr (in_taken_to table d x ys rest maps) ])
      | inr miss ↦
          rw (cond-false (nat_eq (slice_index table y) d) (y ∷ taken_to table d ys) (taken_to table d ys) (ne_eqb (slice_index table y) d miss))
          (elim inside [ inl same ↦ absurd (miss (ap (slice_index table) same ∙ maps)) | inr rest ↦ in_taken_to table d x ys rest maps ])
    ]

pub taken_to_maps : (table : List ℕ) (d x : ℕ) (xs : List ℕ) → IsIn (taken_to table d xs) x → slice_index table x ≡ d
taken_to_maps table d x [] inside = absurd inside
taken_to_maps table d x (y ∷ ys) inside =
    elim (cases_eq (slice_index table y) d) [
      | inl hit ↦
          elim (rw (cond-true (nat_eq (slice_index table y) d) (y ∷ taken_to table d ys) (taken_to table d ys) (eq-eqb (slice_index table y) d hit)) at inside)
          [ inl same ↦ ap (slice_index table) (sym same) ∙ hit | inr rest ↦ taken_to_maps table d x ys rest ]
      | inr miss ↦
          taken_to_maps table d x ys (rw (cond-false (nat_eq (slice_index table y) d) (y ∷ taken_to table d ys) (taken_to table d ys) (ne_eqb (slice_index table y) d miss)) at inside)
    ]

pub in_without : (d x : ℕ) (xs : List ℕ) → IsIn xs x → x ≢ d → IsIn (without d xs) x
in_without d x [] inside differs = inside
in_without d x (y ∷ ys) inside differs =
    elim (cases_eq y d) [
      | inl hit ↦
          rw (cond-true (nat_eq y d) (without d ys) (y ∷ without d ys) (eq-eqb y d hit))
          (elim inside [ inl same ↦ absurd (differs (sym same ∙ hit)) | inr rest ↦ in_without d x ys rest differs ])
      | inr miss ↦
          rw (cond-false (nat_eq y d) (without d ys) (y ∷ without d ys) (ne_eqb y d miss))
          (elim inside [ inl same ↦ inl same | inr rest ↦ inr (in_without d x ys rest differs) ])
    ]

pub in_with_itself : (d : ℕ) (xs : List ℕ) → IsIn (with_colour d xs) d
in_with_itself d [] = inl refl
in_with_itself d (y ∷ ys) =
    elim (cases_eq y d) [
      | inl hit ↦ rw (cond-true (nat_eq y d) (y ∷ ys) _ (eq-eqb y d hit)) (inl hit)
      | inr miss ↦ rw (cond-false (nat_eq y d) (y ∷ ys) _ (ne_eqb y d miss)) (elim (cases_Bool (nat_lt d y)) [
        | inl low ↦ rw (cond-true (nat_lt d y) (d ∷ y ∷ ys) (y ∷ with_colour d ys) low) (inl refl)
        | inr high ↦ rw (cond-false (nat_lt d y) (d ∷ y ∷ ys) (y ∷ with_colour d ys) high) (inr (in_with_itself d ys))
      ])
    ]

pub in_with_other : (d x : ℕ) (xs : List ℕ) → IsIn xs x → IsIn (with_colour d xs) x
in_with_other d x [] inside = absurd inside
in_with_other d x (y ∷ ys) inside =
    elim (cases_eq y d) [
      | inl hit ↦ rw (cond-true (nat_eq y d) (y ∷ ys) _ (eq-eqb y d hit)) inside
      | inr miss ↦ rw (cond-false (nat_eq y d) (y ∷ ys) _ (ne_eqb y d miss)) (elim (cases_Bool (nat_lt d y)) [
        | inl low ↦ rw (cond-true (nat_lt d y) (d ∷ y ∷ ys) (y ∷ with_colour d ys) low) (inr inside)
        | inr high ↦ rw (cond-false (nat_lt d y) (d ∷ y ∷ ys) (y ∷ with_colour d ys) high) (elim inside [ inl same ↦ inl same | inr rest ↦ inr (in_with_other d x ys rest) ])
      ])
    ]

pub times_none : (d : ℕ) (ps : List ℕ) → ((j : ℕ) → slice_get ps j ≢ Some d) → times d ps ≡ 0
times_none d [] none = refl
times_none d (p ∷ ps) none =
    let rest = times_none d ps (λ j. none (suc j)) in
    let differs : p ≢ d = λ same. none 0 (ap Some same) in
    let test : cond (nat_eq p d) 1 0 ≡ 0 = cond-false {A = ℕ} (nat_eq p d) 1 0 (ne_eqb p d differs) in
    omega (arith, rest, test)

pub times_head : (d : ℕ) (ps : List ℕ) → slice_get ps 0 ≡ Some d → 1 ≤ times d ps
times_head d [] here = cc
times_head d (p ∷ ps) here =
    let same : p ≡ d = cc in
    let test : cond (nat_eq p d) 1 0 ≡ 1 = cond-true {A = ℕ} (nat_eq p d) 1 0 (eq-eqb p d same) in
    omega (arith, test)
