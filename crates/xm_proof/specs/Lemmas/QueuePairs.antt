-- Lemmas: the queue pairs stand in order, and each is of a queue with a colour of its output.
use Rattle.std.specs.Prelude.{◌≡◌, ◌⊎◌, ℕ, zero, suc, ◌+◌, ◌<◌, ◌≤◌, List, [], ◌∷◌, ◌++◌, Some, Option, map, slice_get, refl}
use Rattle.std.proofs.Common.{ap, arith, inl, inr, subst, sym}
use Rattle.xm_colours.specs.Family.{Rises}
use Rattle.xm_colours.specs.Lemmas.Rising.{above, rises_on}
use Rattle.xm_colours.specs.Pairs.{queue_pairs, queue_pairs_at}
use Rattle.xm_model.specs.Component.{Component, Fork, Function, Join, Merge, Queue, Sink, Source, Switch}
use Rattle.xm_model.specs.Membership.{IsIn}

abbrev pub Pair : Type 0
Pair = ℕ × ℕ

-- by queue and then colour
abbrev pub IsBelow : Pair → Pair → Type 0
IsBelow a b = (a.0 < b.0) ⊎ ((a.0 ≡ b.0) × (a.1 < b.1))

abbrev pub Ordered : List Pair → Type 0
Ordered [] = Unit {0}
Ordered (p ∷ ps) = ((x : Pair) → IsIn ps x → IsBelow p x) × Ordered ps

pub in_cases : (x : Pair) (xs ys : List Pair) → IsIn (xs ++ ys) x → IsIn xs x ⊎ IsIn ys x
in_cases x [] ys inside = inr inside
in_cases x (y ∷ xs) ys (inl same) = inl (inl same)
in_cases x (y ∷ xs) ys (inr more) = elim (in_cases x xs ys more) [ inl a ↦ inl (inr a) | inr b ↦ inr b ]

in_block : (p : ℕ) (ds : List ℕ) (x : Pair) → IsIn (map (λ d. (p, d)) ds) x → (x.0 ≡ p) × IsIn ds x.1
in_block p [] x inside = absurd inside
in_block p (d ∷ ds) x (inl same) = (ap (λ (y : Pair). y.0) (sym same), inl (ap (λ (y : Pair). y.1) same))
in_block p (d ∷ ds) x (inr more) = let rest = in_block p ds x more in (rest.0, inr rest.1)

in_pairs : (colours : ℕ → List ℕ) (p : ℕ) (m : Component) (x : Pair) → IsIn (queue_pairs_at colours p m) x → x.0 ≡ p
in_pairs colours p (Source out cs mode) x inside = absurd inside
in_pairs colours p (Sink input mode) x inside = absurd inside
in_pairs colours p (Queue input out capacity initial) x inside = (in_block p (colours out) x inside).0
in_pairs colours p (Function input out table) x inside = absurd inside
in_pairs colours p (Fork input a b ta tb) x inside = absurd inside
in_pairs colours p (Join a b out pass) x inside = absurd inside
in_pairs colours p (Switch input a b to_a) x inside = absurd inside
in_pairs colours p (Merge a b out) x inside = absurd inside

from_on : (colours : ℕ → List ℕ) (p : ℕ) (ms : List Component) (x : Pair) → IsIn (queue_pairs colours p ms) x → p ≤ x.0
from_on colours p [] x inside = absurd inside
from_on colours p (m ∷ ms) x inside = elim (in_cases x (queue_pairs_at colours p m) (queue_pairs colours (suc p) ms) inside) [
  | inl here ↦ (let same = in_pairs colours p m x here in omega arith)
  | inr more ↦ (let low = from_on colours (suc p) ms x more in omega arith)
]

-- a pair of a queue has one of its colours
pub colour_of : (colours : ℕ → List ℕ) (p i d input out capacity : ℕ) (initial : List ℕ) (ms : List Component) → slice_get ms i ≡ Some (Queue input out capacity initial) → (x : Pair) → x.0 ≡ p + i →
    IsIn (queue_pairs colours p ms) x → IsIn (colours out) x.1
colour_of colours p i d input out capacity initial [] at x same inside = absurd inside
colour_of colours p zero d input out capacity initial (m ∷ ms) at x same inside =
    let is : m ≡ Queue input out capacity initial = cc in
    elim (in_cases x (queue_pairs_at colours p m) (queue_pairs colours (suc p) ms) inside) [
      | inl here ↦ (let there = subst (λ (n : Component). IsIn (queue_pairs_at colours p n) x) is here in (in_block p (colours out) x there).1)
      | inr more ↦ (let low = from_on colours (suc p) ms x more in absurd (omega arith))
    ]
colour_of colours p (suc i) d input out capacity initial (m ∷ ms) at x same inside =
    elim (in_cases x (queue_pairs_at colours p m) (queue_pairs colours (suc p) ms) inside) [
      | inl here ↦ (let e = in_pairs colours p m x here in absurd (omega arith))
      | inr more ↦ colour_of colours (suc p) i d input out capacity initial ms at x (let e = same in omega arith) more
    ]

block_ordered : (p : ℕ) (ds : List ℕ) → Rises ds → Ordered (map (λ d. (p, d)) ds)
block_ordered p [] rise = tt
block_ordered p (d ∷ ds) rise =
    ((λ x inside. let here = in_block p ds x inside in inr (sym here.0, above d ds rise x.1 here.1)), block_ordered p ds (rises_on d ds rise))

append_ordered : (xs ys : List Pair) → Ordered xs → Ordered ys → ((x y : Pair) → IsIn xs x → IsIn ys y → IsBelow x y) → Ordered (xs ++ ys)
append_ordered [] ys a b across = b
append_ordered (x ∷ xs) ys a b across = (
  (λ z inside. elim (in_cases z xs ys inside) [ inl l ↦ a.0 z l | inr r ↦ across x z (inl refl) r ]),
  append_ordered xs ys a.1 b (λ u v i j. across u v (inr i) j),
)

pairs_at_ordered : (colours : ℕ → List ℕ) (p : ℕ) (m : Component) → ((c : ℕ) → Rises (colours c)) → Ordered (queue_pairs_at colours p m)
pairs_at_ordered colours p (Source out cs mode) rise = tt
pairs_at_ordered colours p (Sink input mode) rise = tt
pairs_at_ordered colours p (Queue input out capacity initial) rise = block_ordered p (colours out) (rise out)
pairs_at_ordered colours p (Function input out table) rise = tt
pairs_at_ordered colours p (Fork input a b ta tb) rise = tt
pairs_at_ordered colours p (Join a b out pass) rise = tt
pairs_at_ordered colours p (Switch input a b to_a) rise = tt
pairs_at_ordered colours p (Merge a b out) rise = tt

pub pairs_ordered : (colours : ℕ → List ℕ) (p : ℕ) (ms : List Component) → ((c : ℕ) → Rises (colours c)) → Ordered (queue_pairs colours p ms)
pairs_ordered colours p [] rise = tt
pairs_ordered colours p (m ∷ ms) rise =
    append_ordered (queue_pairs_at colours p m) (queue_pairs colours (suc p) ms) (pairs_at_ordered colours p m rise) (pairs_ordered colours (suc p) ms rise)
    (λ x y i j. let same = in_pairs colours p m x i in let low = from_on colours (suc p) ms y j in inl (omega arith))

-- the component is a queue, and d a colour of its output
pub record IsColourOf (colours : ℕ → List ℕ) (m : Option Component) (d : ℕ) : Type 0 where
  pub input : ℕ
  pub out : ℕ
  pub capacity : ℕ
  pub initial : List ℕ
  pub queue : m ≡ Some (Queue input out capacity initial)
  pub colour : IsIn (colours out) d

at_queue : (colours : ℕ → List ℕ) (p : ℕ) (m : Component) (x : Pair) → IsIn (queue_pairs_at colours p m) x → IsColourOf colours (Some m) x.1
at_queue colours p (Source out cs mode) x inside = absurd inside
at_queue colours p (Sink input mode) x inside = absurd inside
at_queue colours p (Queue input out capacity initial) x inside =
    record { input = input; out = out; capacity = capacity; initial = initial; queue = refl; colour = (in_block p (colours out) x inside).1 }
at_queue colours p (Function input out table) x inside = absurd inside
at_queue colours p (Fork input a b ta tb) x inside = absurd inside
at_queue colours p (Join a b out pass) x inside = absurd inside
at_queue colours p (Switch input a b to_a) x inside = absurd inside
at_queue colours p (Merge a b out) x inside = absurd inside

-- a queue pair is that
pub of_a_queue : (colours : ℕ → List ℕ) (p : ℕ) (ms : List Component) (x : Pair) → IsIn (queue_pairs colours p ms) x
    → (i : ℕ) × (x.0 ≡ p + i) × IsColourOf colours (slice_get ms i) x.1
of_a_queue colours p [] x inside = absurd inside
of_a_queue colours p (m ∷ ms) x inside = elim (in_cases x (queue_pairs_at colours p m) (queue_pairs colours (suc p) ms) inside) [
  | inl here ↦ (let same = in_pairs colours p m x here in (0, omega arith, at_queue colours p m x here))
  | inr more ↦ (let found = of_a_queue colours (suc p) ms x more in let same = found.1 in (suc found.0, omega arith, found.2))
]

pub below_apart : (a x : Pair) (q d : ℕ) → a.0 ≡ q → a.1 ≡ d → IsBelow a x → x.0 ≡ q → x.1 ≡ d → ⊥
below_apart a x q d s t (inl low) u v = omega arith
below_apart a x q d s t (inr both) u v = let low = both.1 in omega arith

pub below_apart_back : (a x : Pair) (q d : ℕ) → x.0 ≡ q → x.1 ≡ d → IsBelow a x → a.0 ≡ q → a.1 ≡ d → ⊥
below_apart_back a x q d s t (inl low) u v = omega arith
below_apart_back a x q d s t (inr both) u v = let low = both.1 in omega arith

pub in_at : (ps : List Pair) (r : ℕ) (x : Pair) → slice_get ps r ≡ Some x → IsIn ps x
in_at [] r x h = cc
in_at (p ∷ ps) zero x h = let same : p ≡ x = cc in inl same
in_at (p ∷ ps) (suc r) x h = inr (in_at ps r x h)
