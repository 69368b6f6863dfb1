-- Lists made by a map, and parts of lists.
use Rattle.std.proofs.Common.{◌≡◌, ℕ, zero, suc, inl, inr, List, [], ◌∷◌, ◌++◌, ◌<◌, length, map, slice_get, Some, refl, subst, arith, All}
use Rattle.std.proofs.lemmas.List.Elements.{All-cons, All-nil, All-head, All-tail}
use Rattle.xm_model.specs.Membership.{IsIn}

pub all_mapped : {X : Type 0} (P : X → Type 0) (f : ℕ → X) (ds : List ℕ) → ((d : ℕ) → IsIn ds d → P (f d)) → All P (map f ds)
all_mapped P f [] h = All-nil P
all_mapped P f (d ∷ ds) h = All-cons P (f d) (map f ds) (h d (inl refl)) (all_mapped P f ds (λ e i. h e (inr i)))

pub all_append : {X : Type 0} (P : X → Type 0) (xs ys : List X) → All P xs → All P ys → All P (xs ++ ys)
all_append P [] ys p q = q
all_append P (x ∷ xs) ys p q = All-cons P x (xs ++ ys) (All-head P x xs p) (all_append P xs ys (All-tail P x xs p) q)

pub all_at : {X : Type 0} (P : X → Type 0) (xs : List X) (i : ℕ) (x : X) → All P xs → slice_get xs i ≡ Some x → P x
all_at P [] i x all at = cc
all_at P (y ∷ ys) zero x all at = let is : y ≡ x = cc in subst P is (All-head P y ys all)
all_at P (y ∷ ys) (suc i) x all at = all_at P ys i x (All-tail P y ys all) at

pub all_from : {X : Type 0} (P : X → Type 0) (xs : List X) → ((i : ℕ) (x : X) → slice_get xs i ≡ Some x → P x) → All P xs
all_from P [] h = All-nil P
all_from P (x ∷ xs) h = All-cons P x xs (h 0 x refl) (all_from P xs (λ i. h (suc i)))

-- each place of a list has an item
pub there : {X : Type 0} (xs : List X) (i : ℕ) → i < length xs → (x : X) × (slice_get xs i ≡ Some x)
there [] i within = absurd (omega arith)
there (x ∷ xs) zero within = (x, refl)
there (x ∷ xs) (suc i) within = there xs i (omega arith)

-- and so has a list of the same length
pub same_place : {X Y : Type 0} (xs : List X) (ys : List Y) (i : ℕ) (x : X) → length xs ≡ length ys → slice_get xs i ≡ Some x
    → (y : Y) × (slice_get ys i ≡ Some y)
same_place [] ys i x same at = cc
same_place (x ∷ xs) [] i y same at = absurd (omega arith)
same_place (x ∷ xs) (y ∷ ys) zero z same at = (y, refl)
same_place (x ∷ xs) (y ∷ ys) (suc i) z same at = same_place xs ys i z (omega arith) at
