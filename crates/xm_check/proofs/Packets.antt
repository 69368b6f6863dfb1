-- What rows over queue pairs give where the columns are the counts of a state.
use Rattle.std.proofs.Common.{◌≡◌, ◌≢◌, ℕ, zero, suc, ◌+◌, ◌<◌, ◌≤◌, Option, Some, None, List, [], ◌∷◌, ◌++◌, map, slice_get, Bool, true, false, nat_eq, cond, refl, sym, ◌∙◌, ap, subst, arith, inl, inr, pos, ℤ, ◌+ℤ◌, ◌*ℤ◌}
use Rattle.std.proofs.lemmas.Bool.{and_from, and_parts, cases_Bool, cond-true, cond-false, eq-eqb, eqb-true, ne_eqb}
use Rattle.std.proofs.lemmas.Int.{ints}
use Rattle.std.proofs.Math.IntN.{*ℤ-zero}
use Rattle.xm_check.proofs.Counts.{total_count}
use Rattle.xm_colours.specs.Pairs.{queue_pairs, queue_pairs_at}
use Rattle.xm_model.specs.Component.{Component, Content, Fork, Function, Join, Merge, Queue, Sink, Source, Switch}
use Rattle.xm_model.specs.Membership.{IsIn}
use Rattle.xm_model.specs.Run.{count}
use Rattle.xm_model.specs.Signals.{packets_in}
use Rattle.xm_rows.specs.Lemmas.Integers.{distrib}
use Rattle.xm_proof.specs.Tests.{entries_where, entry, of_pair, of_queue}
use Rattle.xm_rows.specs.Row.{left_side}
use Rattle.xm_rows.specs.declared.row.Entry.{Entry}

module _ (s : ℕ → Content) where
  abbrev pub count_or : Option (ℕ × ℕ) → ℤ
  count_or None = pos 0
  count_or (Some pair) = pos (count s pair.0 pair.1)

  -- the counts of the pairs that pass the test, together
  abbrev pub sum_where : (ℕ × ℕ → Bool) → List (ℕ × ℕ) → ℕ
  sum_where test [] = 0
  sum_where test (pair ∷ rest) = cond (test pair) (count s pair.0 pair.1) 0 + sum_where test rest

  one_more : (b : Bool) (v : ℤ) (j n m : ℕ) (es : List Entry) (y : ℕ → ℤ) → y j ≡ pos n → left_side es y ≡ v *ℤ pos m →
      left_side (cond b (entry j v ∷ es) es) y ≡ v *ℤ pos (cond b n 0 + m)
  one_more true v j n m es y here rest =
      let sum : pos (n + m) ≡ pos n +ℤ pos m = omega (arith, ints) in
      let first : v *ℤ y j ≡ v *ℤ pos n = ap (λ z. v *ℤ z) here in
      let whole : v *ℤ pos (n + m) ≡ v *ℤ (pos n +ℤ pos m) = ap (λ z. v *ℤ z) sum in
      let parted = distrib v (pos n) (pos m) in
      omega (arith, ints)
  one_more false v j n m es y here rest = rest ∙ ap (λ (k : ℕ). v *ℤ pos k) (let e : m ≡ 0 + m = omega arith in e)

  pub where_value : (test : ℕ × ℕ → Bool) (v : ℤ) (j : ℕ) (rest : List (ℕ × ℕ)) (y : ℕ → ℤ) → ((i : ℕ) → y (j + i) ≡ count_or (slice_get rest i)) →
      left_side (entries_where test v j rest) y ≡ v *ℤ pos (sum_where test rest)
  where_value test v j [] y at = sym (*ℤ-zero v)
  where_value test v j (pair ∷ rest) y at =
      let e : j + 0 ≡ j = omega arith in
      one_more (test pair) v j (count s pair.0 pair.1) (sum_where test rest) (entries_where test v (suc j) rest) y (ap y (sym e) ∙ at 0)
      (where_value test v (suc j) rest y (λ i. ap y (let f : suc j + i ≡ j + suc i = omega arith in f) ∙ at (suc i)))

  sum-append : (test : ℕ × ℕ → Bool) (xs ys : List (ℕ × ℕ)) → sum_where test (xs ++ ys) ≡ sum_where test xs + sum_where test ys
  sum-append test [] ys = omega arith
  sum-append test (x ∷ xs) ys = let rest = sum-append test xs ys in omega (arith, rest)

  both : (b : Bool) (x y : ℕ) → cond b x 0 + cond b y 0 ≡ cond b (x + y) 0
  both true x y = refl
  both false x y = omega arith

  nothing : (b : Bool) (n : ℕ) → n ≡ cond b n n
  nothing true n = refl
  nothing false n = refl

  -- the pairs of one primitive
  block : (q p : ℕ) (ds : List ℕ) → sum_where (of_queue q) (map (λ d. (p, d)) ds) ≡ cond (nat_eq p q) (total_count ds (packets_in (s p))) 0
  block q p [] = nothing (nat_eq p q) 0
  block q p (d ∷ ds) =
      let rest = block q p ds in
      ap (λ (n : ℕ). cond (nat_eq p q) (count s p d) 0 + n) rest ∙ both (nat_eq p q) (count s p d) (total_count ds (packets_in (s p)))

  elsewhere : (colours : ℕ → List ℕ) (q p : ℕ) (m : Component) → p ≢ q → sum_where (of_queue q) (queue_pairs_at colours p m) ≡ 0
  elsewhere colours q p (Source out cs mode) differ = refl
  elsewhere colours q p (Sink input mode) differ = refl
  elsewhere colours q p (Queue input out capacity initial) differ = block q p (colours out) ∙ cond-false {A = ℕ} (nat_eq p q) (total_count (colours out) (packets_in (s p))) 0 (ne_eqb p q differ)
  elsewhere colours q p (Function input out table) differ = refl
  elsewhere colours q p (Fork input a b ta tb) differ = refl
  elsewhere colours q p (Join a b out pass) differ = refl
  elsewhere colours q p (Switch input a b to_a) differ = refl
  elsewhere colours q p (Merge a b out) differ = refl

  above : (colours : ℕ → List ℕ) (q p : ℕ) (ms : List Component) → q < p → sum_where (of_queue q) (queue_pairs colours p ms) ≡ 0
  above colours q p [] h = refl
  above colours q p (m ∷ ms) h =
      let first = elsewhere colours q p m (λ same. let e = same in absurd (omega arith)) in
      let rest = above colours q (suc p) ms (omega arith) in
      sum-append (of_queue q) (queue_pairs_at colours p m) (queue_pairs colours (suc p) ms) ∙ omega (arith, first, rest)

  -- the packets of a queue, by colour
  pub all_of_queue : (colours : ℕ → List ℕ) (p i input out capacity : ℕ) (initial : List ℕ) (ms : List Component) → slice_get ms i ≡ Some (Queue input out capacity initial) →
      sum_where (of_queue (p + i)) (queue_pairs colours p ms) ≡ total_count (colours out) (packets_in (s (p + i)))
  all_of_queue colours p i input out capacity initial [] at = cc
  all_of_queue colours p zero input out capacity initial (m ∷ ms) at =
      let same : m ≡ Queue input out capacity initial = cc in
      let e : p + 0 ≡ p = omega arith in
      let first : sum_where (of_queue p) (queue_pairs_at colours p m) ≡ total_count (colours out) (packets_in (s p)) =
      ap (λ (x : Component). sum_where (of_queue p) (queue_pairs_at colours p x)) same ∙ block p p (colours out) ∙ cond-true {A = ℕ} (nat_eq p p) (total_count (colours out) (packets_in (s p))) 0 (eq-eqb p p refl) in
      let rest = above colours p (suc p) ms (omega arith) in
      rw e (sum-append (of_queue p) (queue_pairs_at colours p m) (queue_pairs colours (suc p) ms) ∙ omega (arith, first, rest))
  all_of_queue colours p (suc i) input out capacity initial (m ∷ ms) at =
      let e : suc p + i ≡ p + suc i = omega arith in
      let first = elsewhere colours (p + suc i) p m (λ same. let f = same in absurd (omega arith)) in
      let rest = subst (λ (q : ℕ). sum_where (of_queue q) (queue_pairs colours (suc p) ms) ≡ total_count (colours out) (packets_in (s q))) e (all_of_queue colours (suc p) i input out capacity initial ms at) in
      sum-append (of_queue (p + suc i)) (queue_pairs_at colours p m) (queue_pairs colours (suc p) ms) ∙ omega (arith, first, rest)

  -- a colour of which there are none adds nothing
  pub none_of_pair : (q d : ℕ) (pairs : List (ℕ × ℕ)) → count s q d ≡ 0 → sum_where (of_pair q d) pairs ≡ 0
  none_of_pair q d [] none = refl
  none_of_pair q d (pair ∷ rest) none =
      let more = none_of_pair q d rest none in
      elim (cases_Bool (of_pair q d pair)) [
        | inl hit ↦
            let same = and_parts (nat_eq pair.0 q) (nat_eq pair.1 d) hit in
            let x = eqb-true pair.0 q same.0 in let y = eqb-true pair.1 d same.1 in
            let here : count s pair.0 pair.1 ≡ 0 = ap (λ (r : ℕ). count s r pair.1) x ∙ ap (λ (e : ℕ). count s q e) y ∙ none in
            omega (arith, cond-true {A = ℕ} (of_pair q d pair) (count s pair.0 pair.1) 0 hit, here, more)
        | inr miss ↦ omega (arith, cond-false {A = ℕ} (of_pair q d pair) (count s pair.0 pair.1) 0 miss, more)
      ]

  -- a queue pair adds its count
  pub some_of_pair : (q d : ℕ) (pairs : List (ℕ × ℕ)) → IsIn {X = ℕ × ℕ} pairs (q, d) → count s q d ≤ sum_where (of_pair q d) pairs
  some_of_pair q d [] inside = absurd inside
  some_of_pair q d (pair ∷ rest) (inl same) =
      let x : pair.0 ≡ q = ap (λ (p : ℕ × ℕ). p.0) same in let y : pair.1 ≡ d = ap (λ (p : ℕ × ℕ). p.1) same in
      let hit = and_from (nat_eq pair.0 q) (nat_eq pair.1 d) (eq-eqb pair.0 q x) (eq-eqb pair.1 d y) in
      let here : count s pair.0 pair.1 ≡ count s q d = ap (λ (r : ℕ). count s r pair.1) x ∙ ap (λ (e : ℕ). count s q e) y in
      omega (arith, cond-true {A = ℕ} (of_pair q d pair) (count s pair.0 pair.1) 0 hit, here)
  some_of_pair q d (pair ∷ rest) (inr more) = let least = some_of_pair q d rest more in omega (arith, least)

pub in_map : (p d : ℕ) (ds : List ℕ) → IsIn ds d → IsIn {X = ℕ × ℕ} (map (λ e. (p, e)) ds) (p, d)
in_map p d [] inside = absurd inside
in_map p d (e ∷ ds) (inl same) = inl (ap (λ (x : ℕ). (p, x)) same)
in_map p d (e ∷ ds) (inr more) = inr (in_map p d ds more)

pub in_left : (x : ℕ × ℕ) (xs ys : List (ℕ × ℕ)) → IsIn xs x → IsIn (xs ++ ys) x
in_left x [] ys inside = absurd inside
in_left x (y ∷ xs) ys (inl same) = inl same
in_left x (y ∷ xs) ys (inr more) = inr (in_left x xs ys more)

pub in_right : (x : ℕ × ℕ) (xs ys : List (ℕ × ℕ)) → IsIn ys x → IsIn (xs ++ ys) x
in_right x [] ys inside = inside
in_right x (y ∷ xs) ys inside = inr (in_right x xs ys inside)

pub is_pair : (colours : ℕ → List ℕ) (p i d input out capacity : ℕ) (initial : List ℕ) (ms : List Component) → slice_get ms i ≡ Some (Queue input out capacity initial) → IsIn (colours out) d →
    IsIn {X = ℕ × ℕ} (queue_pairs colours p ms) (p + i, d)
is_pair colours p i d input out capacity initial [] at inside = cc
is_pair colours p zero d input out capacity initial (m ∷ ms) at inside =
    let same : Queue input out capacity initial ≡ m = cc in
    let e : p ≡ p + 0 = omega arith in
    in_left (p + 0, d) (queue_pairs_at colours p m) (queue_pairs colours (suc p) ms)
    (subst (λ (x : Component). IsIn {X = ℕ × ℕ} (queue_pairs_at colours p x) (p + 0, d)) same (subst (λ (q : ℕ). IsIn {X = ℕ × ℕ} (map (λ x. (p, x)) (colours out)) (q, d)) e (in_map p d (colours out) inside)))
is_pair colours p (suc i) d input out capacity initial (m ∷ ms) at inside =
    let e : suc p + i ≡ p + suc i = omega arith in
    in_right (p + suc i, d) (queue_pairs_at colours p m) (queue_pairs colours (suc p) ms)
    (subst (λ (q : ℕ). IsIn {X = ℕ × ℕ} (queue_pairs colours (suc p) ms) (q, d)) e (is_pair colours (suc p) i d input out capacity initial ms at inside))
