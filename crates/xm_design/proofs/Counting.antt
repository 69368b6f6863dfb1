-- Numbers that are counted primitive by primitive.
use Rattle.std.proofs.Common.{◌≡◌, ℕ, zero, suc, ◌+◌, ◌*◌, ◌<◌, ◌≤◌, List, [], ◌∷◌, ◌++◌, length, map, get_or, slice_get, refl, ap, sym, ◌∙◌, arith, cond, Bool, true, false, Some, option_map, add-one, inl, inr}
use Rattle.std.proofs.lemmas.Bool.Decides.{eqb_tells}
use Rattle.std.proofs.lemmas.List.{length-map}
use Rattle.std.proofs.lemmas.Option.{slice_get-map, slice_get_within}
use Rattle.xm_colours.specs.Family.{Rises}
use Rattle.xm_colours.specs.Pairs.{queue_pairs, queue_pairs_at}
use Rattle.xm_design.specs.Numbers.{AreNumbers, ArePairsBelow, pairs_below, total_below}
use Rattle.xm_model.specs.Component.{Component, Fork, Function, Join, Merge, Queue, Sink, Source, Switch}
use Rattle.xm_model.specs.Views.{is_oracle, oracles_below}
use Rattle.xm_order.specs.Lemmas.Items.{get-append_right, get-append_within, get-push_last}

-- ---- one more number

longer : (xs : List ℕ) (x : ℕ) → length (xs ++ x ∷ []) ≡ length xs + 1
longer [] x = refl
longer (y ∷ ys) x = let rest = longer ys x in omega (arith, rest)

pub numbers_more : (number : ℕ → ℕ) (i v : ℕ) (ns : List ℕ) → AreNumbers number i ns → v ≡ number i → AreNumbers number (i + 1) (ns ++ v ∷ [])
numbers_more number i v ns before is = record {
  whole = omega (arith, longer ns v, before.whole);
  at = λ k h. elim (eqb_tells k i) [
    | inl t ↦ (let place : k ≡ length ns = t.1 ∙ sym before.whole in ap (λ j. slice_get (ns ++ v ∷ []) j) place ∙ get-push_last ns v ∙ ap Some (is ∙ ap number (sym t.1)))
    | inr t ↦ (let less : k < i = omega arith in get-append_within ns (v ∷ []) k (omega (arith, less, before.whole)) ∙ before.at k less)
  ];
}

pub numbers_none : (number : ℕ → ℕ) (ns : List ℕ) → ns ≡ [] → AreNumbers number 0 ns
numbers_none number ns e = record { whole = ap length e; at = λ k h. absurd (omega arith) }

-- ---- weights

pub total_none : (weight : Component → ℕ) (ms : List Component) → total_below weight ms 0 ≡ 0
total_none weight [] = refl
total_none weight (m ∷ ms) = refl

total_next : (weight : Component → ℕ) (ms : List Component) (p : ℕ) (m : Component) → slice_get ms p ≡ Some m → total_below weight ms (suc p) ≡ total_below weight ms p + weight m
total_next weight [] p m there = absurd cc
total_next weight (x ∷ ms) zero m there = let same : weight x ≡ weight m = ap weight (let e : x ≡ m = cc in e) in omega (arith, same, total_none weight ms)
total_next weight (x ∷ ms) (suc p) m there = let rest = total_next weight ms p m there in omega (arith, rest)

-- one more primitive
pub total_more : (weight : Component → ℕ) (ms : List Component) (p : ℕ) (m : Component) → slice_get ms p ≡ Some m → total_below weight ms (p + 1) ≡ total_below weight ms p + weight m
total_more weight ms p m there = rw add-one (total_next weight ms p m there)

-- what chooses weighs one
oracles_total : (ms : List Component) (p : ℕ) → oracles_below ms p ≡ total_below (λ m. cond (is_oracle m) 1 0) ms p
oracles_total [] p = refl
oracles_total (m ∷ ms) zero = refl
oracles_total (m ∷ ms) (suc p) = let rest = oracles_total ms p in omega (arith, rest)

pub oracles_none : (ms : List Component) → oracles_below ms 0 ≡ 0
oracles_none ms = oracles_total ms 0 ∙ total_none (λ m. cond (is_oracle m) 1 0) ms

pub oracles_more : (ms : List Component) (p : ℕ) (m : Component) → slice_get ms p ≡ Some m → oracles_below ms (p + 1) ≡ oracles_below ms p + cond (is_oracle m) 1 0
oracles_more ms p m there =
    let more = total_more (λ n. cond (is_oracle n) 1 0) ms p m there in
    let now = oracles_total ms p in
    let then = oracles_total ms (p + 1) in
    omega (arith, more, now, then)

at_most : (b : Bool) → cond b 1 0 ≤ 1
at_most true = omega arith
at_most false = omega arith

pub oracles_few : (ms : List Component) (p : ℕ) → oracles_below ms p ≤ p
oracles_few [] p = omega arith
oracles_few (x ∷ ms) zero = omega arith
oracles_few (x ∷ ms) (suc p) = let rest = oracles_few ms p in let one = at_most (is_oracle x) in omega (arith, rest, one)

-- what holds up to p, and of the next, holds up to the next
pub few_more : (f : ℕ → ℕ) (p : ℕ) → ((k : ℕ) → k ≤ p → f k ≤ 64 * k) → f (p + 1) ≤ 64 * (p + 1) → (k : ℕ) → k ≤ p + 1 → f k ≤ 64 * k
few_more f p before next k h = elim (eqb_tells k (p + 1)) [
  | inl t ↦ (let same : f k ≡ f (p + 1) = ap f t.1 in omega (arith, same, next, t.1))
  | inr t ↦ before k (omega arith)
]

-- ---- the number of a queue pair

-- how many pairs a primitive has does not hang on its number
same_count : (colours : ℕ → List ℕ) (p q : ℕ) (m : Component) → length (queue_pairs_at colours p m) ≡ length (queue_pairs_at colours q m)
same_count colours p q (Source out cs mode) = refl
same_count colours p q (Sink input mode) = refl
same_count colours p q (Queue input out capacity initial) = length-map (colours out) (λ d. (p, d)) ∙ sym (length-map (colours out) (λ d. (q, d)))
same_count colours p q (Function input out table) = refl
same_count colours p q (Fork input a b ta tb) = refl
same_count colours p q (Join a b out pass) = refl
same_count colours p q (Switch input a b to_a) = refl
same_count colours p q (Merge a b out) = refl

pub pair_at : (colours : ℕ → List ℕ) (ms : List Component) (p q k d : ℕ) (input out capacity : ℕ) (initial : List ℕ) → slice_get ms q ≡ Some (Queue input out capacity initial) → slice_get (colours out) k ≡ Some d →
    slice_get (queue_pairs colours p ms) (pairs_below colours ms q + k) ≡ Some (p + q, d)
pair_at colours [] p q k d input out capacity initial has at = absurd cc
pair_at colours (m ∷ ms) p zero k d input out capacity initial has at =
    let same : m ≡ Queue input out capacity initial = cc in
    let within = slice_get_within (colours out) k d at in
    let pair : ℕ → ℕ × ℕ = λ e. (p, e) in
    let long = length-map (colours out) pair in
    let front : slice_get (queue_pairs colours p (Queue input out capacity initial ∷ ms)) k ≡ slice_get (map pair (colours out)) k = get-append_within (map pair (colours out)) (queue_pairs colours (suc p) ms) k (omega (arith, within, long)) in
    let here : slice_get (map pair (colours out)) k ≡ Some (pair d) = slice_get-map pair (colours out) k ∙ ap (option_map pair) at in
    let start : 0 + k ≡ k = omega arith in
    let first : p + 0 ≡ p = omega arith in
    rw (same, start, first) (front ∙ here)
pair_at colours (m ∷ ms) p (suc q) k d input out capacity initial has at =
    let rest = pair_at colours ms (suc p) q k d input out capacity initial has at in
    let count = same_count colours 0 p m in
    ap (slice_get (queue_pairs_at colours p m ++ queue_pairs colours (suc p) ms)) (let e : (length (queue_pairs_at colours 0 m) + pairs_below colours ms q) + k ≡ length (queue_pairs_at colours p m) + (pairs_below colours ms q + k) = omega (arith, count) in e)
    ∙ get-append_right (queue_pairs_at colours p m) (queue_pairs colours (suc p) ms) _ (pairs_below colours ms q + k) refl
    ∙ rest ∙ ap (λ j. Some (j, d)) (let e : suc p + q ≡ p + suc q = omega arith in e)

-- ---- a place in a list that rises is at most the number there

rises_from : (x : ℕ) (xs : List ℕ) → Rises (x ∷ xs) → (k d : ℕ) → slice_get (x ∷ xs) k ≡ Some d → x + k ≤ d
rises_from x xs rise zero d at = let same : x ≡ d = cc in omega arith
rises_from x [] rise (suc k) d at = absurd cc
rises_from x (y ∷ ys) rise (suc k) d at = let rest = rises_from y ys rise.1 k d at in let low = rise.0 in omega (arith, rest, low)

pub place_low : (xs : List ℕ) → Rises xs → (k d : ℕ) → slice_get xs k ≡ Some d → k ≤ d
place_low [] rise k d at = absurd cc
place_low (x ∷ xs) rise k d at = let far = rises_from x xs rise k d at in omega (arith, far)

some_read : (xs : List ℕ) (q v : ℕ) → slice_get xs q ≡ Some v → get_or xs q 0 ≡ v
some_read [] q v e = absurd cc
some_read (x ∷ xs) zero v e = cc
some_read (x ∷ xs) (suc q) v e = some_read xs q v e

-- what the code reads is the number of pairs below
pub base_is : (colours : ℕ → List ℕ) (prims : List Component) (read numbers : List ℕ) (q : ℕ) → read ≡ numbers → ArePairsBelow colours prims numbers → q < length prims → get_or read q 0 ≡ pairs_below colours prims q
base_is colours prims read numbers q same are within =
    let there : slice_get read q ≡ Some (pairs_below colours prims q) = ap (λ l. slice_get l q) same ∙ are.below.at q within in
    some_read read q (pairs_below colours prims q) there
