-- Colours listed from the least on, and counted.
use Rattle.std.proofs.Common.{◌≡◌, ◌≢◌, ℕ, ◌+◌, ◌<◌, ◌≤◌, inl, inr, List, [], ◌∷◌, ◌++◌, length, get_or, take, cond, nat_eq, nat_lt, slice_get, Some, refl, subst, sym, ◌∙◌, ap, arith, All}
use Rattle.std.proofs.lemmas.Bool.{cases_lt, cond-false, cond-true, lt-ltb, le-ltb}
use Rattle.std.proofs.lemmas.List.{take_more}
use Rattle.std.proofs.lemmas.List.Elements.{All-cons, All-nil}
use Rattle.xm_colours.specs.Family.{Rises, colours_at}
use Rattle.xm_model.specs.Membership.{IsIn, times}
use Rattle.xm_colours.specs.Lemmas.Rising.{above, rises_on}

-- the first of rising colours, up to n
abbrev pub below : List ℕ → ℕ → List ℕ
below [] n = []
below (x ∷ xs) n = cond (nat_lt x n) (x ∷ below xs n) []

below_high : (ds : List ℕ) (n : ℕ) → ((d : ℕ) → IsIn ds d → n ≤ d) → below ds n ≡ []
below_high [] n high = refl
below_high (x ∷ xs) n high = cond-false (nat_lt x n) (x ∷ below xs n) [] (le-ltb x n (high x (inl refl)))

pub below_none : (ds : List ℕ) → below ds 0 ≡ []
below_none ds = below_high ds 0 (λ d h. omega arith)

low_step : (x : ℕ) (xs : List ℕ) (n : ℕ) → x < n → below (x ∷ xs) n ≡ x ∷ below xs n
low_step x xs n low = cond-true (nat_lt x n) (x ∷ below xs n) [] (lt-ltb x n low)

pub below_more : (ds : List ℕ) (n : ℕ) → Rises ds → IsIn ds n → below ds (n + 1) ≡ below ds n ++ n ∷ []
below_more [] n rise inside = absurd inside
below_more (x ∷ xs) n rise (inl same) =
    let now = low_step x xs (n + 1) (omega arith) in
    let rest = below_high xs (n + 1) (λ d h. let high = above x xs rise d h in omega arith) in
    let none : below (x ∷ xs) n ≡ [] = cond-false (nat_lt x n) (x ∷ below xs n) [] (le-ltb x n (omega arith)) in
    now ∙ ap (λ (l : List ℕ). x ∷ l) rest ∙ ap (λ (k : ℕ). k ∷ []) same ∙ ap (λ (l : List ℕ). l ++ n ∷ []) (sym none)
below_more (x ∷ xs) n rise (inr inside) =
    let low = above x xs rise n inside in
    low_step x xs (n + 1) (omega arith) ∙ ap (λ (l : List ℕ). x ∷ l) (below_more xs n (rises_on x xs rise) inside) ∙ ap (λ (l : List ℕ). l ++ n ∷ []) (sym (low_step x xs n low))

pub below_same : (ds : List ℕ) (n : ℕ) → (IsIn ds n → ⊥) → below ds (n + 1) ≡ below ds n
below_same [] n none = refl
below_same (x ∷ xs) n none =
    elim (cases_lt x n) [
      | inl low ↦ low_step x xs (n + 1) (omega arith) ∙ ap (λ (l : List ℕ). x ∷ l) (below_same xs n (λ h. none (inr h))) ∙ sym (low_step x xs n low)
      | inr high ↦
          let other : x ≢ n = λ h. none (inl h) in
          cond-false (nat_lt x (n + 1)) (x ∷ below xs (n + 1)) [] (le-ltb x (n + 1) (omega arith)) ∙ sym (cond-false (nat_lt x n) (x ∷ below xs n) [] (le-ltb x n high))
    ]

pub below_all : (ds : List ℕ) (n : ℕ) → ((d : ℕ) → IsIn ds d → d < n) → below ds n ≡ ds
below_all [] n low = refl
below_all (x ∷ xs) n low = low_step x xs n (low x (inl refl)) ∙ ap (λ (l : List ℕ). x ∷ l) (below_all xs n (λ d h. low d (inr h)))

times-push : (d : ℕ) (xs : List ℕ) (x : ℕ) → times d (xs ++ x ∷ []) ≡ times d xs + cond (nat_eq x d) 1 0
times-push d [] x = omega arith
times-push d (y ∷ ys) x = let rest = times-push d ys x in omega arith

pub times_more : (d : ℕ) (xs : List ℕ) (i e : ℕ) → i < length xs → times d (take (i + 1) xs) ≡ times d (take i xs) + cond (nat_eq (get_or xs i e) d) 1 0
times_more d xs i e within = ap (times d) (take_more xs i e within) ∙ times-push d (take i xs) (get_or xs i e)

pub all_in : (P : ℕ → Type 0) (xs : List ℕ) → ((d : ℕ) → IsIn xs d → P d) → All P xs
all_in P [] h = All-nil P
all_in P (x ∷ xs) h = All-cons P x xs (h x (inl refl)) (all_in P xs (λ d i. h d (inr i)))

-- a colour stands behind all lower ones
pub below_place : (ds : List ℕ) (n : ℕ) → Rises ds → IsIn ds n → slice_get ds (length (below ds n)) ≡ Some n
below_place [] n rise inside = absurd inside
below_place (x ∷ xs) n rise (inl same) =
    let none : below (x ∷ xs) n ≡ [] = cond-false (nat_lt x n) (x ∷ below xs n) [] (le-ltb x n (omega arith)) in
    ap (λ (l : List ℕ). slice_get (x ∷ xs) (length l)) none ∙ ap Some same
below_place (x ∷ xs) n rise (inr inside) =
    let low = above x xs rise n inside in
    ap (λ (l : List ℕ). slice_get (x ∷ xs) (length l)) (low_step x xs n low) ∙ below_place xs n (rises_on x xs rise) inside

-- a colour of a set, and the set by another name
pub inside : (sets others : List (List ℕ)) (c d : ℕ) → sets ≡ others → IsIn (colours_at sets c) d → IsIn (colours_at others c) d
inside sets others c d is h = subst (λ (s : List (List ℕ)). IsIn (colours_at s c) d) is h
