-- The literals of a candidate are a reading that meets no clash and no sum, so that no tree refutes its goal.
use Rattle.std.proofs.Common.{◌≡◌, ℕ, zero, suc, ◌+◌, ◌<◌, ◌≤◌, Option, Some, None, List, [], ◌∷◌, ◌++◌, map, length}
use Rattle.std.proofs.Common.{slice_get, Bool, true, false, ◌&&◌, ◌||◌, cond, refl, sym, ◌∙◌, ap, subst, arith, inl, inr, All}
use Rattle.std.proofs.Common.{pos, negsuc, ℤ, ◌+ℤ◌, ◌*ℤ◌, ◌≤ℤ◌, int_eq}
use Rattle.std.specs.Prelude.{replicate}
use Rattle.std.proofs.lemmas.Bool.{and_parts, cases_Bool, cond-true, or_cases}
use Rattle.std.proofs.lemmas.Bool.Decides.{Decides-int_eq}
use Rattle.std.proofs.lemmas.Int.{ints}
use Rattle.std.proofs.lemmas.List.{length-replicate}
use Rattle.std.proofs.Math.ListN.{get_or-eq_default}
use Rattle.std.proofs.lemmas.List.Elements.{All-cons, All-nil}
use Rattle.xm_design.specs.Designed.{Designed}
use Rattle.xm_flow.specs.ValidLemma.{Lemma}
use Rattle.xm_lits.specs.Clashes.{IsClash, all_idle, one_outside, two_opposed}
use Rattle.xm_lits.specs.Inference.{idle_all}
use Rattle.xm_lits.specs.Paths.{are_on_path, are_same, is_on_path}
use Rattle.xm_lits.specs.Repeating.{AllOf, SomeOf}
use Rattle.xm_lits.specs.declared.literal.Lit.{Lit}
use Rattle.xm_colours.specs.Family.{colours_at}
use Rattle.xm_lp.specs.Answer.{constraint_at, number_at}
use Rattle.xm_lp.specs.Right.{IsMet}
use Rattle.xm_lp.specs.declared.decision.Con.{Con}
use Rattle.xm_model.specs.Component.{Component}
use Rattle.xm_model.specs.Membership.{IsIn}
use Rattle.xm_proof.specs.Argument.{Refutation, literals}
use Rattle.xm_proof.specs.Lemmas.Integers.{scaled}
use Rattle.xm_proof.specs.Lemmas.Refuting.{IsReading, goal_fails, on_path_holds}
use Rattle.xm_proof.specs.Lemmas.Weighing.{EndsAt, row_value, value_from}
use Rattle.xm_proof.specs.Sums.{Sums, all_zero, is_natural, no_sums}
use Rattle.xm_proof.specs.Tests.{capacity_row, entries_where, entry, is_queue, literal_row, low_row, of_pair, only_where, queue_columns}
use Rattle.xm_proof.specs.Valid.{AddUp, Closes, GoalsRefuted, has_sign, item_row, lemma_row, multiplier, of_a_queue}
use Rattle.xm_proof.specs.declared.proof.Item.{Item}
use Rattle.xm_proof.specs.declared.proof.Item.TheVariants as item
use Rattle.xm_rows.specs.Lemmas.Integers.{crossed, distrib, one_times, times_one}
use Rattle.xm_rows.specs.Row.{SparseRow, left_side}
use Rattle.xm_rows.specs.declared.row.Entry.{Entry}
use Rattle.std.proofs.Math.IntN.{*ℤ-zero, zero-*ℤ}
use Rattle.xm_search.specs.Candidate.{IsCandidate}
use Rattle.xm_search.specs.CandidateLaw.{CandidatesExcludeTrees}
use Rattle.xm_search.specs.Constraints.{at_least, capacities, constraints, equation, said, said_by, said_row}
use Rattle.xm_search.specs.Trees.{has_alternative}
use Rattle.xm_search.proofs.Naming.{same_lit}

-- ---- lists

in_left : {X : Type 0} (xs ys : List X) (x : X) → IsIn xs x → IsIn (xs ++ ys) x
in_left [] ys x h = absurd h
in_left (y ∷ xs) ys x (inl same) = inl same
in_left (y ∷ xs) ys x (inr more) = inr (in_left xs ys x more)

in_right : {X : Type 0} (xs ys : List X) (x : X) → IsIn ys x → IsIn (xs ++ ys) x
in_right [] ys x h = h
in_right (y ∷ xs) ys x h = inr (in_right xs ys x h)

or_true : (b : Bool) → (b || true) ≡ true
or_true true = refl
or_true false = refl

-- a constraint of the list stands at some place
placed : (cs : List Con) (c : Con) → IsIn cs c → (i : ℕ) × (i < length cs) × (constraint_at cs i ≡ c)
placed [] c h = absurd h
placed (b ∷ cs) c (inl same) = (0, omega arith, same)
placed (b ∷ cs) c (inr more) = let at = placed cs c more in let low = at.1 in (suc at.0, omega arith, at.2)

-- ---- the constraints of literals

equation_in : (lemmas : List Lemma) (k : ℕ) (l : Lemma) → slice_get lemmas k ≡ Some l → IsIn (map equation lemmas) (equation l)
equation_in [] k l at = cc
equation_in (m ∷ ls) zero l at = inl (let same : m ≡ l = cc in ap equation same)
equation_in (m ∷ ls) (suc k) l at = inr (equation_in ls k l at)

module _ (it : Designed) where
  capacity_in : (p i : ℕ) (ms : List Component) → is_queue (slice_get ms i) ≡ true →
      IsIn (capacities it p ms) (at_least (capacity_row it (p + i)))
  capacity_in p i [] is = cc
  capacity_in p zero (m ∷ ms) is =
      let e : p ≡ p + 0 = omega arith in
      let C : List Con → Type 0 = λ cs. IsIn cs (at_least (capacity_row it (p + 0))) in
      subst C (sym (cond-true (is_queue (Some m)) (at_least (capacity_row it p) ∷ capacities it (suc p) ms) (capacities it (suc p) ms) is))
      (inl (ap (λ (q : ℕ). at_least (capacity_row it q)) e))
  capacity_in p (suc i) (m ∷ ms) is =
      let e : suc p + i ≡ p + suc i = omega arith in
      either (is_queue (Some m)) (at_least (capacity_row it p)) (capacities it (suc p) ms) (at_least (capacity_row it (p + suc i)))
      (subst (λ (q : ℕ). IsIn (capacities it (suc p) ms) (at_least (capacity_row it q))) e (capacity_in (suc p) i ms is))
    where
      either : (b : Bool) (x : Con) (xs : List Con) (y : Con) → IsIn xs y → IsIn (cond b (x ∷ xs) xs) y
      either true x xs y h = inr h
      either false x xs y h = h

  said_in : (lits : List Lit) (l : Lit) (row : SparseRow) → IsIn lits l → said_row it l ≡ Some row → IsIn (said it lits) (at_least row)
  said_in [] l row at is = absurd at
  said_in (m ∷ ms) l row (inl same) is =
      let here : said_row it m ≡ Some row = ap (said_row it) same ∙ is in
      in_left (said_by (said_row it m)) (said it ms) (at_least row)
      (subst (λ (o : Option SparseRow). IsIn (said_by o) (at_least row)) (sym here) (inl refl))
  said_in (m ∷ ms) l row (inr more) is = in_right (said_by (said_row it m)) (said it ms) (at_least row) (said_in ms l row more is)

-- a literal on a path stands in the list
on_path_in : (lits : List Lit) (l : Lit) → is_on_path lits l ≡ true → IsIn lits l
on_path_in lits l on = on_path_holds (IsIn lits) lits l on (all_in lits lits (λ m h. h)) where
  all_in : (ls ms : List Lit) → ((m : Lit) → IsIn ms m → IsIn ls m) → AllOf (IsIn ls) ms
  all_in ls [] each = tt
  all_in ls (m ∷ ms) each = (each m (inl refl), all_in ls ms (λ n h. each n (inr h)))

-- ---- sums at counts over a denominator

module _ (d : ℤ) (x : ℕ → ℤ) where
  zeros_value : (n k : ℕ) → value_from (replicate n (pos 0)) k x ≡ pos 0
  zeros_value zero k = refl
  zeros_value (suc n) k = let rest = zeros_value n (suc k) in let none = zero-*ℤ (x k) in omega (arith, ints)

  all_zero_value : (zs : List ℤ) (k : ℕ) → all_zero zs ≡ true → value_from zs k x ≡ pos 0
  all_zero_value [] k h = refl
  all_zero_value (z ∷ zs) k h =
      let both = and_parts (int_eq z (pos 0)) (all_zero zs) h in
      let rest = all_zero_value zs (suc k) both.1 in
      let none : z *ℤ x k ≡ pos 0 = ap (λ y. y *ℤ x k) ((Decides-int_eq z (pos 0)).0 both.0) ∙ zero-*ℤ (x k) in
      omega (arith, ints)

  -- each item, so often as it is taken, is a bound that the counts meet
  abbrev AreMet : Designed → List Lemma → List Lit → Type 0
  AreMet it lemmas path = (i : Item) (row : SparseRow) → item_row it lemmas path i ≡ Some row → has_sign i ≡ true →
      (multiplier i *ℤ (d *ℤ row.constant)) ≤ℤ (multiplier i *ℤ left_side row.entries x)

  sum_met : (it : Designed) (lemmas : List Lemma) (path : List Lit) → AreMet it lemmas path →
      (is : List Item) (s t : Sums) → EndsAt x (length s.columns) → AddUp it lemmas path is s t →
      ((d *ℤ t.constant) +ℤ value_from s.columns 0 x) ≤ℤ (value_from t.columns 0 x +ℤ (d *ℤ s.constant))
  sum_met it lemmas path met [] s t ends up =
      let e : d *ℤ s.constant ≡ d *ℤ t.constant = ap (λ (u : Sums). d *ℤ u.constant) up in
      let f : value_from s.columns 0 x ≡ value_from t.columns 0 x = ap (λ (u : Sums). value_from u.columns 0 x) up in
      omega (arith, ints)
  sum_met it lemmas path met (i ∷ is) s t ends up =
      let row = up.0 in
      let mid = up.1.1.1.0 in
      let added = row_value x (multiplier i) row s mid ends up.1.1.1.1.0 in
      let here = met i row up.1.0 up.1.1.0 in
      let rest = sum_met it lemmas path met is mid t (subst (EndsAt x) (sym added.0) ends) up.1.1.1.1.1 in
      let value = added.1 in
      let constant : d *ℤ mid.constant ≡ d *ℤ (s.constant +ℤ (multiplier i *ℤ row.constant)) = ap (λ (z : ℤ). d *ℤ z) added.2 in
      let parted = distrib d s.constant (multiplier i *ℤ row.constant) in
      let turned = crossed (multiplier i) d row.constant in
      omega (arith, ints)

  -- so a sum never closes
  no_sum_met : (it : Designed) (lemmas : List Lemma) (path : List Lit) (items : List Item) → pos 1 ≤ℤ d →
      EndsAt x (length (queue_columns it)) → AreMet it lemmas path → Closes it lemmas path items → ⊥
  no_sum_met it lemmas path items positive ends met closes =
      let n = length (queue_columns it) in
      let bound = sum_met it lemmas path met items (no_sums n) closes.sums
      (subst (EndsAt x) (sym (length-replicate n (pos 0))) ends) closes.add_up in
      let first = zeros_value n 0 in
      let last = all_zero_value closes.sums.columns 0 closes.nothing_left in
      let large = scaled d (pos 1) closes.sums.constant (omega (arith, ints)) closes.large in
      let one = times_one d in
      let none = *ℤ-zero d in
      absurd (omega (arith, ints))

  -- counts that are at least 0 add up to at least 0
  sum_natural : ((k : ℕ) → pos 0 ≤ℤ x k) → (test : ℕ × ℕ → Bool) (j : ℕ) (pairs : List (ℕ × ℕ)) →
      pos 0 ≤ℤ left_side (entries_where test (pos 1) j pairs) x
  sum_natural signs test j [] = omega (arith, ints)
  sum_natural signs test j (pair ∷ rest) =
      one_more (test pair) j (entries_where test (pos 1) (suc j) rest) (sum_natural signs test (suc j) rest) where
        one_more : (b : Bool) (j : ℕ) (es : List Entry) → pos 0 ≤ℤ left_side es x →
            pos 0 ≤ℤ left_side (cond b (entry j (pos 1) ∷ es) es) x
        one_more true j es h = let here = signs j in let one = one_times (x j) in omega (arith, ints)
        one_more false j es h = h

-- ---- a candidate

only_where_some : {A : Type 0} (b : Bool) (o : Option A) (x : A) → only_where b o ≡ Some x → (b ≡ true) × (o ≡ Some x)
only_where_some true o x h = (refl, h)
only_where_some false o x h = cc

natural_from : (z : ℤ) → is_natural z ≡ true → pos 0 ≤ℤ z
natural_from (pos n) h = omega (arith, ints)
natural_from (negsuc n) h = cc

module _ (it : Designed) (lemmas : List Lemma) (goal : Lit) (lits : List Lit) (d : ℤ) (counts : List ℤ)
    (is : IsCandidate it lemmas goal lits d counts) where
  -- the literal is one of the candidate
  abbrev Here : Lit → Type 0
  Here l = is_on_path lits l ≡ true

  abbrev x : ℕ → ℤ
  x = number_at counts

  met_in : (c : Con) → IsIn (constraints it lemmas lits) c → IsMet c d x
  met_in c at =
      let place = placed (constraints it lemmas lits) c at in
      subst (λ (b : Con). IsMet b d x) place.2 (is.met.met place.0 place.1)

  lemma_met : (k : ℕ) (m : ℤ) (row : SparseRow) (o : Option Lemma) → slice_get lemmas k ≡ o → lemma_row o ≡ Some row →
      (m *ℤ (d *ℤ row.constant)) ≤ℤ (m *ℤ left_side row.entries x)
  lemma_met k m row None at h = cc
  lemma_met k m row (Some l) at h =
      let met = met_in (equation l) (in_left (map equation lemmas ++ capacities it 0 it.net.prims) (said it lits) (equation l)
      (in_left (map equation lemmas) (capacities it 0 it.net.prims) (equation l) (equation_in lemmas k l at))) in
      let same : l.row ≡ row = cc in
      subst (λ (r : SparseRow). (m *ℤ (d *ℤ r.constant)) ≤ℤ (m *ℤ left_side r.entries x)) same
      (let e : m *ℤ left_side l.row.entries x ≡ m *ℤ (d *ℤ l.row.constant) = ap (λ (z : ℤ). m *ℤ z) (met.equal refl) in omega (arith, ints))

  capacity_met : (q : ℕ) → is_queue (slice_get it.net.prims q) ≡ true →
      (d *ℤ (capacity_row it q).constant) ≤ℤ left_side (capacity_row it q).entries x
  capacity_met q queue =
      let e : 0 + q ≡ q = omega arith in
      let there = subst (λ (k : ℕ). IsIn (capacities it 0 it.net.prims) (at_least (capacity_row it k))) e (capacity_in it 0 q it.net.prims queue) in
      (met_in (at_least (capacity_row it q)) (in_left (map equation lemmas ++ capacities it 0 it.net.prims) (said it lits) (at_least (capacity_row it q))
      (in_right (map equation lemmas) (capacities it 0 it.net.prims) (at_least (capacity_row it q)) there))).at_least

  low_met : (q e : ℕ) → (d *ℤ (low_row it q e).constant) ≤ℤ left_side (low_row it q e).entries x
  low_met q e = let sum = sum_natural d x is.met.signs (of_pair q e) 0 (queue_columns it) in let none = *ℤ-zero d in omega (arith, ints)

  literal_met : (l : Lit) (row : SparseRow) → Here l → of_a_queue it l ≡ true → literal_row it l ≡ Some row →
      (d *ℤ row.constant) ≤ℤ left_side row.entries x
  literal_met l row here of at =
      let says : said_row it l ≡ Some row = rw of at in
      (met_in (at_least row) (in_right (map equation lemmas ++ capacities it 0 it.net.prims) (said it lits) (at_least row)
      (said_in it lits l row (on_path_in lits l here) says))).at_least

  all_met : (path : List Lit) → AllOf Here path → AreMet d x it lemmas path
  all_met path all (item.Lemma k m) row at sign = lemma_met k m row (slice_get lemmas k) refl at
  all_met path all (item.Cap q m) row at sign =
      let there = only_where_some (is_queue (slice_get it.net.prims q)) (Some (capacity_row it q)) row at in
      let same : capacity_row it q ≡ row = cc in
      scaled m (d *ℤ row.constant) (left_side row.entries x) (natural_from m sign)
      (subst (λ (r : SparseRow). (d *ℤ r.constant) ≤ℤ left_side r.entries x) same (capacity_met q there.0))
  all_met path all (item.Low q e m) row at sign =
      let there = only_where_some _ (Some (low_row it q e)) row at in
      let same : low_row it q e ≡ row = cc in
      scaled m (d *ℤ row.constant) (left_side row.entries x) (natural_from m sign)
      (subst (λ (r : SparseRow). (d *ℤ r.constant) ≤ℤ left_side r.entries x) same (low_met q e))
  all_met path all (item.Path l m) row at sign =
      let there = only_where_some (is_on_path path l && of_a_queue it l) (literal_row it l) row at in
      let both = and_parts (is_on_path path l) (of_a_queue it l) there.0 in
      scaled m (d *ℤ row.constant) (left_side row.entries x) (natural_from m sign)
      (literal_met l row (on_path_holds Here path l both.0 all) both.1 there.1)

  ends : EndsAt x (length (queue_columns it))
  ends k h = get_or-eq_default counts (pos 0) (subst (λ (n : ℕ). n ≤ k) (sym is.met.count) h)

  all_here : (ls : List Lit) → AllOf Here ls → are_on_path lits ls ≡ true
  all_here [] all = refl
  all_here (l ∷ ls) all = rw (all.0) (all_here ls all.1)

  on_all : (ls : List Lit) → are_on_path lits ls ≡ true → AllOf Here ls
  on_all [] on = tt
  on_all (l ∷ ls) on = let both = and_parts (is_on_path lits l) (are_on_path lits ls) on in (both.0, on_all ls both.1)

  some_here : (alternatives : List (List Lit)) → has_alternative lits alternatives ≡ true → SomeOf Here alternatives
  some_here [] h = cc
  some_here (a ∷ others) h =
      elim (or_cases (are_on_path lits a) (has_alternative lits others) h)
      [ inl one ↦ inl (on_all a one) | inr rest ↦ inr (some_here others rest) ]

  no_clash : (ls : List Lit) → IsClash it ls → AllOf Here ls → ⊥
  no_clash ls clash all = let yes = all_here ls all in let not_all = is.consistent ls clash in cc

  reading : IsReading it lemmas Here
  reading = record {
    opposed_fail = λ l m h on_l on_m. no_clash (l ∷ m ∷ []) (two_opposed l m h) (on_l, (on_m, tt));
    outside_fails = λ l h on. no_clash (l ∷ []) (one_outside l h) (on, tt);
    offered_fails = λ c h all. no_clash (idle_all (colours_at it.colours) c) (all_idle c h) all;
    rule_holds = λ l r at on. some_here r.alternatives (is.answered l r on at);
    sum_fails = λ path items closes all. no_sum_met d x it lemmas path items (let positive = is.met.positive in omega (arith, ints)) ends (all_met path all) closes;
  }

  later : (m l : Lit) (ls : List Lit) → is_on_path ls l ≡ true → is_on_path (m ∷ ls) l ≡ true
  later m l ls on = rw on (or_true (are_same m l))

  not_here : (all gs : List Refutation) → GoalsRefuted it lemmas [] all →
      ((g : Lit) → is_on_path (literals gs) g ≡ true → is_on_path (literals all) g ≡ true) →
      All (λ g. is_on_path lits g.lit ≡ false) gs
  not_here all [] refuted among = All-nil (λ (g : Refutation). is_on_path lits g.lit ≡ false)
  not_here all (g ∷ gs) refuted among =
      All-cons (λ (r : Refutation). is_on_path lits r.lit ≡ false) g gs
      (elim (cases_Bool (is_on_path lits g.lit)) [
        | inl here ↦ absurd (goal_fails it lemmas Here reading [] all (λ k l at. absurd cc) refuted g.lit (among g.lit (rw (same_lit g.lit) refl)) here)
        | inr other ↦ other
      ])
      (not_here all gs refuted (λ l on. among l (later g.lit l (literals gs) on)))

pub candidates_exclude_trees : CandidatesExcludeTrees
candidates_exclude_trees it lemmas gs goal lits d counts refuted is =
    not_here it lemmas goal lits d counts is gs gs refuted (λ l on. on)
