-- A refutation by multipliers and lows closes the path.
use Rattle.std.proofs.Common.{◌≡◌, ◌≢◌, ℕ, zero, suc, ◌+◌, ◌<◌, ◌^◌, Some, List, [], ◌∷◌, ◌++◌, length, take, Bool, true, false, ◌&&◌, cond, inl, inr, refl, sym, ◌∙◌, ap, subst, arith, pos, negsuc, ℤ, ◌+ℤ◌, ◌*ℤ◌, ◌≤ℤ◌, neg_ℤ, unsigned_abs, int_eq, slice_get, eq-eqb, ne_eqb, length-append, ◌≤◌, All}
use Rattle.std.specs.Prelude.{nat_eq}
use Rattle.std.proofs.lemmas.Bool.{cases_Bool, cases_eq, cond-true, cond-false, lt-ltb}
use Rattle.std.proofs.lemmas.Bool.Decides.{Decides-int_eq}
use Rattle.std.proofs.lemmas.Int.{ints}
use Rattle.std.proofs.lemmas.List.{get_or-replicate, length-replicate}
use Rattle.std.proofs.lemmas.List.Elements.{All-append, All-cons, All-nil}
use Rattle.std.proofs.Math.IntN.{*ℤ-zero}
use Rattle.std.proofs.Math.Seq.{take-length}
use Rattle.xm_colours.specs.Family.{colours_at}
use Rattle.xm_design.specs.Designed.{Designed, IsDesigned}
use Rattle.xm_flow.specs.ValidLemma.{Lemma}
use Rattle.xm_lits.specs.Inference.{has_colour}
use Rattle.xm_lits.specs.declared.literal.Lit.{Lit}
use Rattle.xm_lp.specs.Answer.{weighted}
use Rattle.xm_lp.specs.Right.{Refutes}
use Rattle.xm_lp.specs.Rule.{HasMultipliers}
use Rattle.xm_lp.specs.Start.{constant_of, in_column}
use Rattle.xm_lp.specs.declared.decision.Con.{Con}
use Rattle.xm_model.specs.Component.{Queue}
use Rattle.xm_model.specs.Membership.{IsIn, times}
use Rattle.xm_proof.specs.Lemmas.QueuePairs.{Ordered, Pair, below_apart, below_apart_back, in_at, of_a_queue, pairs_ordered}
use Rattle.xm_proof.specs.Sums.{Sums, all_zero, no_sums}
use Rattle.xm_proof.specs.Tests.{entries_where, entry, is_queue_pair, low_row, of_pair, only_where, queue_columns}
use Rattle.xm_proof.specs.Valid.{AddUp, Closes, has_sign, item_row, multiplier}
use Rattle.xm_proof.specs.declared.proof.Item.{Item}
use Rattle.xm_proof.specs.declared.proof.Item.TheVariants as item
use Rattle.xm_rows.specs.Lemmas.Integers.{times_one}
use Rattle.xm_rows.specs.Row.{Fits128, IsRow, SparseRow, coefficient}
use Rattle.xm_rows.specs.declared.row.Entry.{Entry}
use Rattle.xm_search.specs.Inner.Fitting.{FitsItems}
use Rattle.xm_search.specs.Inner.Named.{AllNamed}
use Rattle.xm_search.specs.Inner.Taken.{all_taken, lows_taken, taken}
use Rattle.xm_search.proofs.Summing.{Fitting, Holds, Totals, all_added, number, row_added, up_append}

-- the numbers in the columns from j on
num_from : ℕ → List ℤ → ℕ → ℤ
num_from j [] k = pos 0
num_from j (z ∷ zs) k = cond (nat_eq j k) z (pos 0) +ℤ num_from (suc j) zs k

num_below : (j : ℕ) (zs : List ℤ) (k : ℕ) → k < j → num_from j zs k ≡ pos 0
unfolding num_from
num_below j [] k low = refl
num_below j (z ∷ zs) k low =
    let rest = num_below (suc j) zs k (omega arith) in
    let other : nat_eq j k ≡ false = ne_eqb j k (λ same. absurd (omega arith)) in
    rw (other, rest) refl

num_at : (j : ℕ) (zs : List ℤ) (i k : ℕ) → k ≡ j + i → num_from j zs k ≡ number zs i
unfolding num_from
num_at j [] i k at = refl
num_at j (z ∷ zs) zero k at =
    let rest = num_below (suc j) zs k (omega arith) in
    let here : nat_eq j k ≡ true = eq-eqb j k (omega arith) in
    rw (here, rest) (let e : z +ℤ pos 0 ≡ z = omega (arith, ints) in e)
num_at j (z ∷ zs) (suc i) k at =
    let rest = num_at (suc j) zs i k (omega arith) in
    let other : nat_eq j k ≡ false = ne_eqb j k (λ same. absurd (omega arith)) in
    rw (other, rest) (let e : pos 0 +ℤ number zs i ≡ number zs i = omega (arith, ints) in e)

fits_opposite : (a b : ℤ) → a +ℤ b ≡ pos 0 → Fits128 a → Fits128 b
fits_opposite a b none fits =
    let is : b ≡ neg_ℤ a = omega (arith, ints) in
    subst Fits128 (sym is) (subst (λ (n : ℕ). n < 2 ^ 127) (sym (same a)) fits)
  where
    same : (a : ℤ) → unsigned_abs (neg_ℤ a) ≡ unsigned_abs a
    same (pos zero) = refl
    same (pos (suc n)) = refl
    same (negsuc n) = refl

colour_in : (ds : List ℕ) (d : ℕ) → IsIn ds d → has_colour ds d ≡ true
colour_in ds d inside = lt-ltb 0 (times d ds) (some ds d inside)
  where
    some : (ds : List ℕ) (d : ℕ) → IsIn ds d → 0 < times d ds
    some [] d inside = absurd inside
    some (x ∷ xs) d (inl same) = let hit = eq-eqb x d same in rw hit (omega arith)
    some (x ∷ xs) d (inr more) = let rest = some xs d more in omega arith

-- a pair has one entry
none_where : (q d : ℕ) (v : ℤ) (j : ℕ) (ps : List Pair) → ((x : Pair) → IsIn ps x → x.0 ≡ q → x.1 ≡ d → ⊥) → entries_where (of_pair q d) v j ps ≡ []
none_where q d v j [] apart = refl
none_where q d v j (p ∷ ps) apart =
    let miss = differs q d p (apart p (inl refl)) in
    let rest = none_where q d v (suc j) ps (λ x i. apart x (inr i)) in
    rw (miss, rest) refl
  where
    differs : (q d : ℕ) (x : Pair) → (x.0 ≡ q → x.1 ≡ d → ⊥) → of_pair q d x ≡ false
    differs q d x apart = elim (cases_eq x.0 q) [
      | inl same ↦ (let hit = eq-eqb x.0 q same in let miss = ne_eqb x.1 d (apart same) in rw (hit, miss) refl)
      | inr other ↦ (let miss = ne_eqb x.0 q other in rw miss refl)
    ]

one_where : (q d r : ℕ) (v : ℤ) (j : ℕ) (ps : List Pair) → Ordered ps → slice_get ps r ≡ Some (q, d) → entries_where (of_pair q d) v j ps ≡ entry (j + r) v ∷ []
one_where q d r v j [] ordered at = cc
one_where q d zero v j (p ∷ ps) ordered at =
    let same : p ≡ (q, d) = cc in
    let x : p.0 ≡ q = ap (λ (y : Pair). y.0) same in
    let y : p.1 ≡ d = ap (λ (z : Pair). z.1) same in
    let one = eq-eqb p.0 q x in
    let two = eq-eqb p.1 d y in
    let rest = none_where q d v (suc j) ps (λ z i. below_apart p z q d x y (ordered.0 z i)) in
    let e : j ≡ j + 0 = omega arith in
    rw (one, two, rest) (ap (λ (k : ℕ). entry k v ∷ []) e)
one_where q d (suc r) v j (p ∷ ps) ordered at =
    let later = ordered.0 (q, d) (in_at ps r (q, d) at) in
    let rest = one_where q d r v (suc j) ps ordered.1 at in
    let e : suc j + r ≡ j + suc r = omega arith in
    skip (p.0) (p.1) (below_apart_back p (q, d) q d refl refl later) ∙ rest ∙ ap (λ (k : ℕ). entry k v ∷ []) e
  where
    skip : (x y : ℕ) → (x ≡ q → y ≡ d → ⊥) →
        cond (nat_eq x q && nat_eq y d) (entry j v ∷ entries_where (of_pair q d) v (suc j) ps) (entries_where (of_pair q d) v (suc j) ps) ≡ entries_where (of_pair q d) v (suc j) ps
    skip x y apart = elim (cases_eq x q) [
      | inl same ↦ (let hit = eq-eqb x q same in let miss = ne_eqb y d (apart same) in rw (hit, miss) refl)
      | inr other ↦ (let miss = ne_eqb x q other in rw miss refl)
    ]

one_row : ℕ → SparseRow
one_row j = record { entries = entry j (pos 1) ∷ []; constant = pos 0 }

is_one_row : (j : ℕ) → IsRow (record { entries = entry j (pos 1) ∷ []; constant = pos 0 })
is_one_row j = record {
  rising = tt;
  nonzero = All-cons (λ (e : Entry). e.value ≢ pos 0) (entry j (pos 1)) [] (λ same. absurd (omega (arith, ints))) (All-nil (λ (e : Entry). e.value ≢ pos 0));
  fit = All-cons (λ (e : Entry). Fits128 e.value) (entry j (pos 1)) [] (omega arith) (All-nil (λ (e : Entry). Fits128 e.value));
  constant_fits = omega arith;
}

-- what an entry of 1, taken so often, gives each column
one_times : (j k : ℕ) (z : ℤ) → z *ℤ coefficient (entry j (pos 1) ∷ []) k ≡ cond (nat_eq j k) z (pos 0)
one_times j k z = elim (cases_eq j k) [
  | inl same ↦ (let hit = eq-eqb j k same in rw hit (times_one z))
  | inr other ↦ (let miss = ne_eqb j k other in rw miss (*ℤ-zero z))
]

low_item : (it : Designed) → IsDesigned it → (lemmas : List Lemma) (path : List Lit) (j : ℕ) (p : Pair) (z : ℤ) → slice_get (queue_columns it) j ≡ Some p →
    item_row it lemmas path (item.Low p.0 p.1 z) ≡ Some (record { entries = entry j (pos 1) ∷ []; constant = pos 0 })
low_item it is lemmas path j p z at =
    let inside = in_at (queue_columns it) j p at in
    let found = of_a_queue (colours_at it.colours) 0 it.net.prims p inside in
    let place : p.0 ≡ found.0 = (let e = found.1 in omega arith) in
    let kind = found.2 in
    let there : slice_get it.net.prims p.0 ≡ Some (Queue kind.input kind.out kind.capacity kind.initial) = ap (slice_get it.net.prims) place ∙ kind.queue in
    let colour = colour_in (colours_at it.colours kind.out) p.1 kind.colour in
    let paired : is_queue_pair (colours_at it.colours) p.1 (slice_get it.net.prims p.0) ≡ true = ap (is_queue_pair (colours_at it.colours) p.1) there ∙ colour in
    let row = one_where p.0 p.1 j (pos 1) 0 (queue_columns it) (pairs_ordered (colours_at it.colours) 0 it.net.prims is.colours.rise) at in
    let e : 0 + j ≡ j = omega arith in
    let entries = row ∙ ap (λ (k : ℕ). entry k (pos 1) ∷ []) e in
    ap (λ (b : Bool). only_where b (Some (low_row it p.0 p.1))) paired ∙ ap (λ (es : List Entry). Some (record { entries = es; constant = pos 0 })) entries

natural : (z : ℤ) → pos 0 ≤ℤ z → has_sign (item.Low 0 0 z) ≡ true
natural (pos n) h = refl
natural (negsuc n) h = absurd (omega (arith, ints))

holds_as : (n : ℕ) (f g : ℕ → ℤ) (c d : ℤ) (s : Sums) → ((k : ℕ) → k < n → f k ≡ g k) → c ≡ d → Holds n f c s → Holds n g d s
holds_as n f g c d s same e holds = record { count = holds.count; each = λ k h. holds.each k h ∙ same k h; constant = holds.constant ∙ e }

module _ (it : Designed) (is : IsDesigned it) (lemmas : List Lemma) (path : List Lit) (n : ℕ) where
  record Lows (j : ℕ) (ps : List Pair) (zs : List ℤ) (f : ℕ → ℤ) (c : ℤ) : Type 0 where
    pub count : length zs ≡ length ps
    pub size : j + length ps ≡ n
    pub there : (r : ℕ) (p : Pair) → slice_get ps r ≡ Some p → slice_get (queue_columns it) (j + r) ≡ Some p
    pub now : (k : ℕ) → k < n → Fits128 (f k)
    pub sums : (k : ℕ) → k < n → Fits128 (f k +ℤ num_from j zs k)
    pub each : (i : ℕ) → i < length zs → Fits128 (number zs i)
    pub signs : (i : ℕ) → i < length zs → pos 0 ≤ℤ number zs i
    pub constant : Fits128 c

  lows_added : (j : ℕ) (ps : List Pair) (zs : List ℤ) (f : ℕ → ℤ) (c : ℤ) (s : Sums) → Holds n f c s → Lows j ps zs f c →
      Totals it lemmas path (lows_taken ps zs) n s (λ k. f k +ℤ num_from j zs k) c
  unfolding num_from
  lows_added j [] [] f c s holds lows =
      record { sums = s; up = refl; holds = holds_as n f (λ k. f k +ℤ pos 0) c c s (λ k h. omega (arith, ints)) refl holds }
  lows_added j [] (z ∷ zs) f c s holds lows = absurd (let e = lows.count in omega arith)
  lows_added j (p ∷ ps) [] f c s holds lows = absurd (let e = lows.count in omega arith)
  lows_added j (p ∷ ps) (z ∷ zs) f c s holds lows =
      let size = lows.size in
      let count = lows.count in
      let low : j < n = omega arith in
      let g : ℕ → ℤ = λ k. f k +ℤ cond (nat_eq j k) z (pos 0) in
      let here : (k : ℕ) → k < n → Fits128 (g k) = λ k h. elim (cases_eq j k) [
        | inl same ↦ (
            let none = num_below (suc j) zs k (omega arith) in
            let e : f k +ℤ (cond (nat_eq j k) z (pos 0) +ℤ num_from (suc j) zs k) ≡ g k = omega (arith, ints) in
            subst Fits128 e (lows.sums k h))
        | inr other ↦ (
            let miss = ne_eqb j k other in
            let e : f k ≡ f k +ℤ cond (nat_eq j k) z (pos 0) = rw miss (let d : f k ≡ f k +ℤ pos 0 = omega (arith, ints) in d) in
            subst Fits128 e (lows.now k h))
      ] in
      let later : Lows (suc j) ps zs g c = record {
        count = omega arith;
        size = omega arith;
        there = λ r x at. (let e : j + suc r ≡ suc j + r = omega arith in subst (λ (i : ℕ). slice_get (queue_columns it) i ≡ Some x) e (lows.there (suc r) x at));
        now = here;
        sums = λ k h. (let e : f k +ℤ (cond (nat_eq j k) z (pos 0) +ℤ num_from (suc j) zs k) ≡ g k +ℤ num_from (suc j) zs k = omega (arith, ints) in subst Fits128 e (lows.sums k h));
        each = λ i h. lows.each (suc i) (omega arith);
        signs = λ i h. lows.signs (suc i) (omega arith);
        constant = lows.constant;
      } in
      let whole : (k : ℕ) → g k +ℤ num_from (suc j) zs k ≡ f k +ℤ (cond (nat_eq j k) z (pos 0) +ℤ num_from (suc j) zs k) = λ k. omega (arith, ints) in
      elim (cases_Bool (int_eq z (pos 0))) [
        | inl none ↦ (
            let zero_times : z ≡ pos 0 = (Decides-int_eq z (pos 0)).0 none in
            let same : (k : ℕ) → k < n → f k ≡ g k = λ k h. (let e : cond (nat_eq j k) z (pos 0) ≡ pos 0 = either (nat_eq j k) z zero_times in omega (arith, ints)) in
            let rest = lows_added (suc j) ps zs g c s (holds_as n f g c c s same refl holds) later in
            record {
              sums = rest.sums;
              up = subst (λ (l : List Item). AddUp it lemmas path l s rest.sums) (sym (cond-true (int_eq z (pos 0)) (lows_taken ps zs) (item.Low p.0 p.1 z ∷ lows_taken ps zs) none)) rest.up;
              holds = holds_as n (λ k. g k +ℤ num_from (suc j) zs k) _ c c rest.sums (λ k h. whole k) refl rest.holds;
            })
        | inr some ↦ (
            let e : j + 0 ≡ j = omega arith in
            let at = subst (λ (i : ℕ). slice_get (queue_columns it) i ≡ Some p) e (lows.there 0 p refl) in
            let product : (k : ℕ) → k < n → Fits128 (z *ℤ coefficient (entry j (pos 1) ∷ []) k) = λ k h. subst Fits128 (sym (one_times j k z)) (either_fits (nat_eq j k) z (lows.each 0 (omega arith))) in
            let sum : (k : ℕ) → k < n → Fits128 (f k +ℤ (z *ℤ coefficient (entry j (pos 1) ∷ []) k)) = λ k h. subst (λ (x : ℤ). Fits128 (f k +ℤ x)) (sym (one_times j k z)) (here k h) in
            let nothing : z *ℤ pos 0 ≡ pos 0 = *ℤ-zero z in
            let one = row_added n z (record { entries = entry j (pos 1) ∷ []; constant = pos 0 }) (is_one_row j) (All-cons (λ (x : Entry). x.column < n) (entry j (pos 1)) [] low (All-nil (λ (x : Entry). x.column < n))) f c s holds product sum
            (subst Fits128 (sym nothing) (omega arith)) (subst Fits128 (let d : c ≡ c +ℤ (z *ℤ pos 0) = omega (arith, ints) in d) lows.constant) in
            let held = holds_as n (λ k. f k +ℤ (z *ℤ coefficient (entry j (pos 1) ∷ []) k)) g (c +ℤ (z *ℤ pos 0)) c one.0 (λ k h. ap (λ (x : ℤ). f k +ℤ x) (one_times j k z)) (omega (arith, ints)) one.2 in
            let rest = lows_added (suc j) ps zs g c one.0 held later in
            record {
              sums = rest.sums;
              up = subst (λ (l : List Item). AddUp it lemmas path l s rest.sums) (sym (cond-false (int_eq z (pos 0)) (lows_taken ps zs) (item.Low p.0 p.1 z ∷ lows_taken ps zs) some))
                  (record { entries = entry j (pos 1) ∷ []; constant = pos 0 }, (low_item it is lemmas path j p z at, (natural z (lows.signs 0 (omega arith)), (one.0, (one.1, rest.up)))));
              holds = holds_as n (λ k. g k +ℤ num_from (suc j) zs k) _ c c rest.sums (λ k h. whole k) refl rest.holds;
            })
      ] where
        either : (b : Bool) (z : ℤ) → z ≡ pos 0 → cond b z (pos 0) ≡ pos 0
        either true z none = none
        either false z none = refl

        either_fits : (b : Bool) (z : ℤ) → Fits128 z → Fits128 (cond b z (pos 0))
        either_fits true z fits = fits
        either_fits false z fits = omega arith

zero_all : (zs : List ℤ) → ((k : ℕ) → k < length zs → number zs k ≡ pos 0) → all_zero zs ≡ true
zero_all [] each = refl
zero_all (z ∷ zs) each =
    let here = (Decides-int_eq z (pos 0)).1 (each 0 (omega arith)) in
    let rest = zero_all zs (λ k h. each (suc k) (omega arith)) in
    rw (here, rest) refl

pub closes : (it : Designed) → IsDesigned it → (lemmas : List Lemma) (path : List Lit) (names : List Item) (cons : List Con) (ms lows : List ℤ) (left n : ℕ) →
    AllNamed it lemmas path names cons → Refutes cons (length (queue_columns it)) ms lows → HasMultipliers cons (length (queue_columns it)) left n ms lows →
    Closes it lemmas path (all_taken names ms ++ lows_taken (queue_columns it) lows)
closes it is lemmas path names cons ms lows left count named refutes has =
    let n = length (queue_columns it) in
    let zeros : ℕ → ℤ = λ k. pos 0 in
    let start = no_sums n in
    let begun : Holds n zeros (pos 0) start = record {
      count = length-replicate n (pos 0);
      each = λ k h. get_or-replicate n k (pos 0) (pos 0) h;
      constant = refl;
    } in
    let fitting : Fitting n zeros (pos 0) ms cons = record {
      products = λ i k within low. (has.fit.entries k low).products i within;
      product_constants = λ i within. has.fit.constants.products i within;
      sums = λ j k low. (let e : weighted (in_column k) (take j ms) cons ≡ pos 0 +ℤ weighted (in_column k) (take j ms) cons = omega (arith, ints) in subst Fits128 e ((has.fit.entries k low).sums j));
      sum_constants = λ j. (let e : weighted constant_of (take j ms) cons ≡ pos 0 +ℤ weighted constant_of (take j ms) cons = omega (arith, ints) in subst Fits128 e (has.fit.constants.sums j));
      signs = refutes.signs;
    } in
    let one = all_added it lemmas path n refl names cons ms refutes.count named zeros (pos 0) start begun fitting in
    let f : ℕ → ℤ = λ k. pos 0 +ℤ weighted (in_column k) ms cons in
    let c = pos 0 +ℤ weighted constant_of ms cons in
    let all = length ms in
    let taken : take all ms ≡ ms = all_of ms in
    let now : (k : ℕ) → k < n → Fits128 (f k) = λ k h. subst (λ (l : List ℤ). Fits128 (pos 0 +ℤ weighted (in_column k) l cons)) taken (fitting.sums all k h) in
    let low_count = refutes.low_count in
    let gone : (k : ℕ) → k < n → f k +ℤ num_from 0 lows k ≡ pos 0 = λ k h. (
    let a = refutes.gone k h in
    let e : k ≡ 0 + k = omega arith in
    let b = num_at 0 lows k k e in
    omega (arith, ints)) in
    let set : Lows it is lemmas path n 0 (queue_columns it) lows f c = record {
      count = low_count;
      size = omega arith;
      there = λ r p at. (let e : r ≡ 0 + r = omega arith in subst (λ (i : ℕ). slice_get (queue_columns it) i ≡ Some p) e at);
      now = now;
      sums = λ k h. subst Fits128 (sym (gone k h)) (omega arith);
      each = λ k h. (let e : f k +ℤ number lows k ≡ pos 0 = (let a = refutes.gone k (omega arith) in omega (arith, ints)) in fits_opposite (f k) (number lows k) e (now k (omega arith)));
      signs = λ k h. refutes.low_signs k (omega arith);
      constant = subst (λ (l : List ℤ). Fits128 (pos 0 +ℤ weighted constant_of l cons)) taken (fitting.sum_constants all);
    } in
    let two = lows_added it is lemmas path n 0 (queue_columns it) lows f c one.sums one.holds set in
    let positive = refutes.left in
    record {
      sums = two.sums;
      add_up = up_append it lemmas path (all_taken names ms) (lows_taken (queue_columns it) lows) start one.sums two.sums one.up two.up;
      nothing_left = zero_all two.sums.columns (λ k h. two.holds.each k (subst (λ (m : ℕ). k < m) two.holds.count h) ∙ gone k (subst (λ (m : ℕ). k < m) two.holds.count h));
      large = (let e = two.holds.constant in omega (arith, ints));
    }
  where
    all_of : (xs : List ℤ) → take (length xs) xs ≡ xs
    all_of [] = refl
    all_of (x ∷ xs) = ap (λ (l : List ℤ). x ∷ l) (all_of xs)

-- ---- numbers within bounds

abbrev FitsTimes : Item → Type 0
FitsTimes i = Fits128 (multiplier i)

cond_both : {X : Type 0} (P : X → Type 0) (b : Bool) (x y : X) → P x → P y → P (cond b x y)
cond_both P true x y one two = one
cond_both P false x y one two = two

taken_fits : (i : Item) (m : ℤ) → Fits128 m → FitsTimes (taken i m)
taken_fits (item.Lemma k n) m fits = fits
taken_fits (item.Cap q n) m fits = fits
taken_fits (item.Low q d n) m fits = fits
taken_fits (item.Path l n) m fits = fits

all_taken_fit : (is : List Item) (ms : List ℤ) → ((i : ℕ) → i < length ms → Fits128 (number ms i)) → All FitsTimes (all_taken is ms)
all_taken_fit [] ms each = All-nil FitsTimes
all_taken_fit (i ∷ is) [] each = All-nil FitsTimes
all_taken_fit (i ∷ is) (m ∷ ms) each =
    let rest = all_taken_fit is ms (λ k h. each (suc k) (omega arith)) in
    cond_both (All FitsTimes) (int_eq m (pos 0)) (all_taken is ms) (taken i m ∷ all_taken is ms) rest
    (All-cons FitsTimes (taken i m) (all_taken is ms) (taken_fits i m (each 0 (omega arith))) rest)

lows_taken_fit : (ps : List Pair) (zs : List ℤ) → ((k : ℕ) → k < length zs → Fits128 (number zs k)) → All FitsTimes (lows_taken ps zs)
lows_taken_fit [] zs each = All-nil FitsTimes
lows_taken_fit (p ∷ ps) [] each = All-nil FitsTimes
lows_taken_fit (p ∷ ps) (z ∷ zs) each =
    let rest = lows_taken_fit ps zs (λ k h. each (suc k) (omega arith)) in
    cond_both (All FitsTimes) (int_eq z (pos 0)) (lows_taken ps zs) (item.Low p.0 p.1 z ∷ lows_taken ps zs) rest
    (All-cons FitsTimes (item.Low p.0 p.1 z) (lows_taken ps zs) (each 0 (omega arith)) rest)

all_taken_few : (is : List Item) (ms : List ℤ) → length (all_taken is ms) ≤ length is
all_taken_few [] ms = omega arith
all_taken_few (i ∷ is) [] = omega arith
all_taken_few (i ∷ is) (m ∷ ms) =
    let rest = all_taken_few is ms in
    cond_both (λ (l : List Item). length l ≤ suc (length is)) (int_eq m (pos 0)) (all_taken is ms) (taken i m ∷ all_taken is ms) (omega arith) (omega arith)

lows_taken_few : (ps : List Pair) (zs : List ℤ) → length (lows_taken ps zs) ≤ length ps
lows_taken_few [] zs = omega arith
lows_taken_few (p ∷ ps) [] = omega arith
lows_taken_few (p ∷ ps) (z ∷ zs) =
    let rest = lows_taken_few ps zs in
    cond_both (λ (l : List Item). length l ≤ suc (length ps)) (int_eq z (pos 0)) (lows_taken ps zs) (item.Low p.0 p.1 z ∷ lows_taken ps zs) (omega arith) (omega arith)

-- multipliers are within bounds, and so is a low, which is opposite to a sum of them
pub items_fit : (names : List Item) (cons : List Con) (pairs : List Pair) (ms lows : List ℤ) (left n : ℕ) → length names ≡ length cons → length cons ≤ 1073741824 → length pairs < 1048576 →
    Refutes cons (length pairs) ms lows → HasMultipliers cons (length pairs) left n ms lows → FitsItems (all_taken names ms ++ lows_taken pairs lows)
items_fit names cons pairs ms lows left count same few few_pairs refutes has =
    let size = refutes.count in
    let low_size = refutes.low_count in
    let low_fits : (k : ℕ) → k < length lows → Fits128 (number lows k) = λ k h. (
    let within : k < length pairs = omega arith in
    let sum = subst (λ (l : List ℤ). Fits128 (weighted (in_column k) l cons)) (take-length ms) ((has.fit.entries k within).sums (length ms)) in
    fits_opposite (weighted (in_column k) ms cons) (number lows k) (refutes.gone k within) sum) in
    record {
      few =
          let one = all_taken_few names ms in let two = lows_taken_few pairs lows in let sum = length-append (all_taken names ms) (lows_taken pairs lows) in
          omega arith;
      times = All-append FitsTimes (all_taken names ms) (lows_taken pairs lows) (all_taken_fit names ms (λ i h. has.fit.each i (omega arith))) (lows_taken_fit pairs lows low_fits);
    }
