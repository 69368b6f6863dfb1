-- Where a literal stands among goals, and on which path a goal is.
use Rattle.std.proofs.Common.{◌≡◌, ℕ, suc, zero, ◌+◌, ◌<◌, ◌≤◌, List, [], ◌∷◌, Option, Some, Bool, false, true, length, drop, take, get_or, refl, sym, ◌∙◌, ap, subst, arith, inl, inr, slice_get, add-one}
use Rattle.std.specs.Prelude.{◌||◌, IfNone, None}
use Rattle.std.proofs.lemmas.Bool.{cases_Bool, or_parts}
use Rattle.std.proofs.Math.Seq.{drop-cons}
use Rattle.xm_lits.specs.Paths.{are_same, is_on_path}
use Rattle.xm_lits.specs.declared.literal.Lit.{Lit}
use Rattle.xm_proof.specs.Lemmas.Refuting.{lit_from}
use Rattle.xm_search.proofs.Looks.{same_lit}
use Rattle.xm_search.specs.Inner.Looking.{any_goal}
use Rattle.xm_search.specs.Inner.Places.{AreEarliest}

both_false : (a b : Bool) → a ≡ false → b ≡ false → (a || b) ≡ false
both_false a b f g = ap (λ (x : Bool). x || b) f ∙ g

-- one that is not the same as another
other_way : (l m : Lit) → are_same l m ≡ false → are_same m l ≡ false
other_way l m differs =
    elim (cases_Bool (are_same m l)) [
      | inl same ↦ absurd (let again = subst (λ (x : Lit). are_same x m ≡ true) (lit_from m l same) (same_lit m) in cc)
      | inr other ↦ other
    ]

-- what is on none of these is not there from the other side
first_off : (x : Lit) (xs ys : List Lit) → any_goal (x ∷ xs) ys ≡ false → is_on_path ys x ≡ false
first_off x xs [] none = refl
first_off x xs (y ∷ ys) none =
    let both = or_parts (is_on_path (x ∷ xs) y) (any_goal (x ∷ xs) ys) none in
    let here = or_parts (are_same x y) (is_on_path xs y) both.0 in
    both_false (are_same y x) (is_on_path ys x) (other_way x y here.0) (first_off x xs ys both.1)

rest_off : (x : Lit) (xs ys : List Lit) → any_goal (x ∷ xs) ys ≡ false → any_goal xs ys ≡ false
rest_off x xs [] none = refl
rest_off x xs (y ∷ ys) none =
    let both = or_parts (is_on_path (x ∷ xs) y) (any_goal (x ∷ xs) ys) none in
    let here = or_parts (are_same x y) (is_on_path xs y) both.0 in
    both_false (is_on_path xs y) (any_goal xs ys) here.1 (rest_off x xs ys both.1)

pub turned_round : (xs ys : List Lit) → any_goal xs ys ≡ false → any_goal ys xs ≡ false
turned_round [] ys none = refl
turned_round (x ∷ xs) ys none =
    both_false (is_on_path ys x) (any_goal ys xs) (first_off x xs ys none) (turned_round xs ys (rest_off x xs ys none))

pub none_if : {X : Type 0} {P : Type 0} (o : Option X) → (o ≡ None → P) → IfNone o P
none_if None f = f refl
none_if (Some x) f = tt

-- one more literal is none of the goals
pub goal_next : (before path : List Lit) (i : ℕ) (d : Lit) → i < length path → is_on_path before (get_or path i d) ≡ false →
    any_goal before path ≡ any_goal before (drop i path) → any_goal before path ≡ any_goal before (drop (i + 1) path)
goal_next before path i d within none so_far =
    so_far ∙ ap (any_goal before) (drop-cons path i d within)
    ∙ ap (λ (b : Bool). b || any_goal before (drop (suc i) path)) none
    ∙ ap (λ (n : ℕ). any_goal before (drop n path)) (sym (add-one i))

-- a literal that does not stand before a place
pub stands_later : (n : ℕ) (goals : List Lit) (l : Lit) → ((k : ℕ) → slice_get goals k ≡ Some l → n ≤ k) → is_on_path goals l ≡ is_on_path (drop n goals) l
stands_later zero goals l later = refl
stands_later (suc n) [] l later = refl
stands_later (suc n) (g ∷ goals) l later =
    let rest = stands_later n goals l (λ k at. let far = later (suc k) at in omega arith) in
    elim (cases_Bool (are_same g l)) [
      | inl same ↦ absurd (let far = later zero (ap (λ (x : Lit). Some x) (lit_from g l same)) in omega arith)
      | inr other ↦ ap (λ (b : Bool). b || is_on_path goals l) other ∙ rest
    ]

front_at : (n : ℕ) (goals : List Lit) (k : ℕ) (g : Lit) → slice_get (take n goals) k ≡ Some g → slice_get goals k ≡ Some g
front_at zero goals k g at = cc
front_at (suc n) [] k g at = cc
front_at (suc n) (x ∷ goals) zero g at = at
front_at (suc n) (x ∷ goals) (suc k) g at = front_at n goals k g at

-- what is noted for goals holds of the first of them
pub earliest_front : (n : ℕ) (goals : List Lit) (earliest : List ℕ) → AreEarliest goals earliest → AreEarliest (take n goals) earliest
earliest_front n goals earliest all = λ k g at. all k g (front_at n goals k g at)
