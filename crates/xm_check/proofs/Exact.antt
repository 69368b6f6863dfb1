-- A proof has no break exactly where it is valid.
use Rattle.std.proofs.Common.{◌≡◌, ℕ, zero, suc, ◌+◌, Option, Some, None, Result, Ok, Err, List, [], ◌∷◌, ◌++◌, length, length-append, slice_get, All, Bool, true, false, not, ◌&&◌, nat_eq, refl, sym, ◌∙◌, ap, subst, arith, pos, negsuc, ℤ, ◌≤ℤ◌, ◌<◌, take, inl, inr}
use Rattle.std.specs.Prelude.{⊤}
use Rattle.std.proofs.lemmas.Int.{ints}
use Rattle.std.proofs.lemmas.List.Elements.{All-head, All-tail}
use Rattle.std.proofs.lemmas.Bool.{and_parts, cases_lt, eq-eqb, eqb-true}
use Rattle.xm_check.specs.Break.{IsFirstLemmaBreak, IsVerdict, LemmaBreaks, differs, goals_break, leaves, lemma_breaks, not_positive, out_of_range, valid, at_place, clash_test, goals_and_trees_test, goals_test, pairs_test, item_test, items_test, some_on_path, step_test, steps_test, sum_test, trees_test}
use Rattle.xm_check.specs.Laws.{OneVerdict}
use Rattle.xm_check.proofs.Same.{same_break_of, same_goals_and_trees}
use Rattle.xm_colours.specs.Family.{colours_at}
use Rattle.xm_design.specs.Designed.{Designed}
use Rattle.xm_flow.specs.ValidLemma.{Lemma}
use Rattle.xm_lits.specs.Clashes.{is_offered, are_opposed, is_outside}
use Rattle.xm_lits.specs.Inference.{idle_all, rules_of}
use Rattle.xm_lits.specs.declared.literal.Lit.{Lit}
use Rattle.xm_model.specs.Net.{Network}
use Rattle.xm_order.specs.declared.signal.Signal.{Signal}
use Rattle.xm_model.specs.Steps.{◌>>=◌, check, demand}
use Rattle.xm_proof.specs.Argument.{Argument, Cite, Clash, Eager, Open, Refutation, Split, Step, Sum, literals}
use Rattle.xm_proof.specs.Form.{are_trees, kids_of}
use Rattle.xm_proof.specs.Sums.{Sums, add_row, all_zero, is_positive, no_sums}
use Rattle.xm_lits.specs.Paths.{are_on_path, is_on_path}
use Rattle.xm_proof.specs.Tests.{find_rule, longer, move_columns, queue_columns}
use Rattle.xm_proof.specs.Valid.{AddUp, AllRefuted, AreGoals, AreLemmas, Cites, Clashes, Closes, GoalsRefuted, IsLemma, IsProof, Refutes, all_goals, has_sign, is_dead_pair, item_row, multiplier}
use Rattle.xm_rows.specs.Row.{SparseRow}
use Rattle.xm_proof.specs.declared.proof.Item.{Item}
use Rattle.xm_proof.specs.declared.verdict.ProofPath.{ProofPath}
use Rattle.xm_proof.specs.declared.verdict.ProofPath.TheVariants as place
use Rattle.xm_proof.specs.declared.verdict.Reason.{Reason}
use Rattle.xm_proof.specs.declared.verdict.Reason.TheVariants as reason
use Rattle.xm_proof.specs.declared.verdict.Verdict.{Verdict}
use Rattle.xm_proof.specs.declared.verdict.Verdict.TheVariants as verdict

not_true : (b : Bool) → not b ≡ true → b ≡ false
not_true true e = cc
not_true false e = refl

-- what goes on well began well
parts : {A B E : Type 0} (r : Result A E) (k : A → Result B E) (y : B) → (r >>= k) ≡ Ok y → (x : A) × ((r ≡ Ok x) × (k x ≡ Ok y))
parts (Ok x) k y h = (x, (refl, h))
parts (Err e) k y h = cc

checked : {E : Type 0} (b : Bool) (e : E) (x : ⊤) → check b e ≡ Ok x → b ≡ true
checked true e x h = refl
checked false e x h = cc

demanded : {A E : Type 0} (o : Option A) (e : E) (x : A) → demand o e ≡ Ok x → o ≡ Some x
demanded None e x h = cc
demanded (Some y) e x h = let same : y ≡ x = cc in ap Some same

placed : {A : Type 0} (p : ProofPath) (r : Result A Reason) (x : A) → at_place p r ≡ Ok x → r ≡ Ok x
placed p (Ok y) x h = let same : y ≡ x = cc in ap Ok same
placed p (Err e) x h = cc

pub positive_from : (z : ℤ) → is_positive z ≡ true → pos 1 ≤ℤ z
positive_from (pos zero) h = cc
positive_from (pos (suc n)) h = omega (arith, ints)
positive_from (negsuc n) h = cc

pub positive_to : (z : ℤ) → pos 1 ≤ℤ z → is_positive z ≡ true
positive_to (pos zero) h = absurd (omega (arith, ints))
positive_to (pos (suc n)) h = refl
positive_to (negsuc n) h = absurd (omega (arith, ints))

longer_count : (path : List Lit) (alternatives : List (List Lit)) → length (longer path alternatives) ≡ length alternatives
longer_count path [] = refl
longer_count path (a ∷ others) = ap suc (longer_count path others)

same_break : (r : Result ⊤ (ProofPath × Reason)) (x y : ProofPath × Reason) → r ≡ Err x → r ≡ Err y → x ≡ y
same_break (Ok t) x y e f = cc
same_break (Err z) x y e f = cc

module _ (it : Designed) where
  goals_valid : (before : List Lit) (k : ℕ) (ls : List Lit) (x : ⊤) → goals_test it before k ls ≡ Ok x → AreGoals it before ls
  goals_valid before k [] x h = tt
  goals_valid before k (l ∷ ls) x h =
      let a = parts (check (is_dead_pair it l && not (is_on_path before l)) (place.Goal k, reason.Goal)) _ x h in
      let both = and_parts (is_dead_pair it l) (not (is_on_path before l)) (checked _ (place.Goal k, reason.Goal) a.0 a.1.0) in
      (both.0, (not_true (is_on_path before l) both.1, goals_valid (before ++ l ∷ []) (suc k) ls x a.1.1))

  goals_unbroken : (before : List Lit) (k : ℕ) (ls : List Lit) → AreGoals it before ls → goals_test it before k ls ≡ Ok tt
  goals_unbroken before k [] are = refl
  goals_unbroken before k (l ∷ ls) are = rw (are.0, are.1.0) (goals_unbroken (before ++ l ∷ []) (suc k) ls are.1.1)

  module _ (lemmas : List Lemma) where
    items_valid : (path : List Lit) (is : List Item) (sums after : Sums) → items_test it lemmas path is sums ≡ Ok after → AddUp it lemmas path is sums after
    items_valid path [] sums after h = cc
    items_valid path (i ∷ is) sums after h =
        let a = parts (item_test it lemmas path i sums) _ after h in
        let b = parts (demand (item_row it lemmas path i) reason.Absent) _ a.0 a.1.0 in
        let c = parts (check (has_sign i) reason.Sign) _ a.0 b.1.1 in (
          b.0,
          (
            demanded (item_row it lemmas path i) reason.Absent b.0 b.1.0,
            (
              checked (has_sign i) reason.Sign c.0 c.1.0,
              (a.0, (demanded (add_row (multiplier i) b.0 sums) reason.Overflow a.0 c.1.1, items_valid path is a.0 after a.1.1)),
            ),
          ),
        )

    items_unbroken : (path : List Lit) (is : List Item) (sums after : Sums) → AddUp it lemmas path is sums after → items_test it lemmas path is sums ≡ Ok after
    items_unbroken path [] sums after up = ap Ok up
    items_unbroken path (i ∷ is) sums after up = rw (up.1.0, up.1.1.0, up.1.1.1.1.0) (items_unbroken path is up.1.1.1.0 after up.1.1.1.1.1)

    sum_valid : (path : List Lit) (items : List Item) (x : ⊤) → sum_test it lemmas path items ≡ Ok x → Closes it lemmas path items
    sum_valid path items x h =
        let a = parts (items_test it lemmas path items (no_sums (length (queue_columns it)))) _ x h in
        let b = parts (check (all_zero a.0.columns) reason.Nonzero) _ x a.1.1 in
        record {
          sums = a.0;
          add_up = items_valid path items (no_sums (length (queue_columns it))) a.0 a.1.0;
          nothing_left = checked (all_zero a.0.columns) reason.Nonzero b.0 b.1.0;
          large = positive_from a.0.constant (checked (is_positive a.0.constant) reason.Weak x b.1.1);
        }

    sum_unbroken : (path : List Lit) (items : List Item) → Closes it lemmas path items → sum_test it lemmas path items ≡ Ok tt
    sum_unbroken path items closes =
        rw (items_unbroken path items (no_sums (length (queue_columns it))) closes.sums closes.add_up, closes.nothing_left, positive_to closes.sums.constant closes.large) refl

    clash_valid : (path : List Lit) (l : Lit) (other : Option Lit) (x : ⊤) → clash_test it path l other ≡ Ok x → Clashes it path l other
    clash_valid path l None x h =
        let a = parts (check (is_on_path path l) reason.Absent) _ x h in
        (checked (is_on_path path l) reason.Absent a.0 a.1.0, checked (is_outside it l) reason.Clash x a.1.1)
    clash_valid path l (Some m) x h =
        let a = parts (check (is_on_path path l && is_on_path path m) reason.Absent) _ x h in
        let both = and_parts (is_on_path path l) (is_on_path path m) (checked _ reason.Absent a.0 a.1.0) in
        (both.0, (both.1, checked (are_opposed l m) reason.Clash x a.1.1))

    clash_unbroken : (path : List Lit) (l : Lit) (other : Option Lit) → Clashes it path l other → clash_test it path l other ≡ Ok tt
    clash_unbroken path l None are = rw (are.0, are.1) refl
    clash_unbroken path l (Some m) are = rw (are.0, are.1.0, are.1.1) refl

    cite_valid : (before path : List Lit) (k : ℕ) (o : Option Lit) → slice_get before k ≡ o → some_on_path path o ≡ true → Cites before path k
    cite_valid before path k None at h = cc
    cite_valid before path k (Some l) at h = record { goal = l; earlier = at; here = h }

    -- a step that passes its test leaves as many paths as it has kids
    step_valid : (before path : List Lit) (step : Step) (paths : List (List Lit)) → step_test it lemmas before path step ≡ Ok paths →
        Refutes it lemmas before path step paths × (length paths ≡ kids_of step)
    step_valid before path (Split name on via kids) paths h =
        let a = parts (check (is_on_path path on) reason.Absent) _ paths h in
        let b = parts (demand (find_rule (rules_of it on) name via) reason.Rule) _ paths a.1.1 in
        let c = parts (check (nat_eq (length b.0.alternatives) kids) reason.Alternatives) _ paths b.1.1 in
        let whole = eqb-true (length b.0.alternatives) kids (checked (nat_eq (length b.0.alternatives) kids) reason.Alternatives c.0 c.1.0) in
        let left : longer path b.0.alternatives ≡ paths = cc in (
          record {
            here = checked (is_on_path path on) reason.Absent a.0 a.1.0;
            rule = b.0;
            found = demanded (find_rule (rules_of it on) name via) reason.Rule b.0 b.1.0;
            whole = whole;
            left = left;
          },
          ap length (sym left) ∙ longer_count path b.0.alternatives ∙ whole,
        )
    step_valid before path (Clash l other) paths h =
        let a = parts (clash_test it path l other) _ paths h in
        let none : paths ≡ [] = cc in
        ((clash_valid path l other a.0 a.1.0, none), ap length none)
    step_valid before path (Eager c) paths h =
        let a = parts (check (are_on_path path (idle_all (colours_at it.colours) c)) reason.Absent) _ paths h in
        let b = parts (check (is_offered it c) reason.Clash) _ paths a.1.1 in
        let none : paths ≡ [] = cc in
        ((checked (are_on_path path (idle_all (colours_at it.colours) c)) reason.Absent a.0 a.1.0, (checked (is_offered it c) reason.Clash b.0 b.1.0, none)), ap length none)
    step_valid before path (Sum items) paths h =
        let a = parts (sum_test it lemmas path items) _ paths h in
        let none : paths ≡ [] = cc in
        ((sum_valid path items a.0 a.1.0, none), ap length none)
    step_valid before path (Cite k) paths h =
        let a = parts (check (some_on_path path (slice_get before k)) reason.Cite) _ paths h in
        let none : paths ≡ [] = cc in
        ((cite_valid before path k (slice_get before k) refl (checked (some_on_path path (slice_get before k)) reason.Cite a.0 a.1.0), none), ap length none)
    step_valid before path Open paths h = cc

    step_unbroken : (before path : List Lit) (step : Step) (paths : List (List Lit)) → Refutes it lemmas before path step paths → step_test it lemmas before path step ≡ Ok paths
    step_unbroken before path (Split name on via kids) paths is = rw (is.here, is.found, eq-eqb (length is.rule.alternatives) kids is.whole) (ap Ok is.left)
    step_unbroken before path (Clash l other) paths is = rw (clash_unbroken path l other is.0) (ap Ok (sym is.1))
    step_unbroken before path (Eager c) paths is = rw (is.0, is.1.0) (ap Ok (sym is.1.1))
    step_unbroken before path (Sum items) paths is = rw (sum_unbroken path items is.0) (ap Ok (sym is.1))
    step_unbroken before path (Cite k) paths is = rw (is.0.earlier) (rw (is.0.here) (ap Ok (sym is.1)))
    step_unbroken before path Open paths is = absurd is

    steps_valid : (before : List Lit) (k i : ℕ) (steps : List Step) (paths : List (List Lit)) (x : ⊤) → are_trees (length paths) steps ≡ true →
        steps_test it lemmas before k i steps paths ≡ Ok x → AllRefuted it lemmas before steps paths
    steps_valid before k i [] [] x trees h = tt
    steps_valid before k i [] (path ∷ paths) x trees h = absurd cc
    steps_valid before k i (step ∷ steps) [] x trees h = absurd cc
    steps_valid before k i (step ∷ steps) (path ∷ paths) x trees h =
        let a = parts (at_place (place.Node k i) (step_test it lemmas before path step)) _ x h in
        let b = step_valid before path step a.0 (placed (place.Node k i) (step_test it lemmas before path step) a.0 a.1.0) in
        let count : kids_of step + length paths ≡ length (a.0 ++ paths) = sym (length-append a.0 paths ∙ ap (λ (n : ℕ). n + length paths) b.1) in
        (a.0, (b.0, steps_valid before k (suc i) steps (a.0 ++ paths) x (subst (λ (n : ℕ). are_trees n steps ≡ true) count trees) a.1.1))

    steps_unbroken : (before : List Lit) (k i : ℕ) (steps : List Step) (paths : List (List Lit)) → AllRefuted it lemmas before steps paths → steps_test it lemmas before k i steps paths ≡ Ok tt
    steps_unbroken before k i [] [] all = refl
    steps_unbroken before k i [] (path ∷ paths) all = absurd all
    steps_unbroken before k i (step ∷ steps) [] all = absurd all
    steps_unbroken before k i (step ∷ steps) (path ∷ paths) all =
        rw (step_unbroken before path step all.0 all.1.0) (steps_unbroken before k (suc i) steps (all.0 ++ paths) all.1.1)

    trees_valid : (before : List Lit) (k : ℕ) (gs : List Refutation) (x : ⊤) → All (λ g. are_trees 1 g.steps ≡ true) gs → trees_test it lemmas before k gs ≡ Ok x → GoalsRefuted it lemmas before gs
    trees_valid before k [] x trees h = tt
    trees_valid before k (g ∷ gs) x trees h =
        let a = parts (steps_test it lemmas before k 0 g.steps ((g.lit ∷ []) ∷ [])) _ x h in
        let T : Refutation → Type 0 = λ f. are_trees 1 f.steps ≡ true in
        (steps_valid before k 0 g.steps ((g.lit ∷ []) ∷ []) a.0 (All-head T g gs trees) a.1.0, trees_valid (before ++ g.lit ∷ []) (suc k) gs x (All-tail T g gs trees) a.1.1)

    trees_unbroken : (before : List Lit) (k : ℕ) (gs : List Refutation) → GoalsRefuted it lemmas before gs → trees_test it lemmas before k gs ≡ Ok tt
    trees_unbroken before k [] all = refl
    trees_unbroken before k (g ∷ gs) all =
        rw (steps_unbroken before k 0 g.steps ((g.lit ∷ []) ∷ []) all.0) (trees_unbroken (before ++ g.lit ∷ []) (suc k) gs all.1)

  pub proof_valid : (rows : List SparseRow) (p : Argument) (x : ⊤) → All (λ g. are_trees 1 g.steps ≡ true) p.goals → AreLemmas it rows p.lemmas →
      goals_and_trees_test it p ≡ Ok x → IsProof it rows p
  proof_valid rows p x trees lemmas h =
      let a = parts (pairs_test it p.goals) _ x h in
      let b = parts (goals_test it [] 0 (literals p.goals)) _ a.0 a.1.0 in
      record {
        lemmas = lemmas;
        goals = goals_valid [] 0 (literals p.goals) b.0 b.1.0;
        complete = checked (all_goals (literals p.goals) (move_columns it)) (place.Goals, reason.Missing) a.0 b.1.1;
        refuted = trees_valid p.lemmas [] 0 p.goals x trees a.1.1;
      }

  proof_unbroken : (rows : List SparseRow) (p : Argument) → IsProof it rows p → goals_and_trees_test it p ≡ Ok tt
  proof_unbroken rows p is =
      rw (goals_unbroken [] 0 (literals p.goals) is.goals, is.complete) (trees_unbroken p.lemmas [] 0 p.goals is.refuted)

  -- a lemma that breaks is not valid
  unbroken : (rows : List SparseRow) (l : Lemma) (why : Reason) → LemmaBreaks it rows l why → IsLemma it rows l → ⊥
  unbroken rows l why (not_positive h) is = h is.valid.positive
  unbroken rows l why (out_of_range p h) is = h (record { places = is.valid.places; within = is.valid.within })
  unbroken rows l why (leaves p within h) is = h is.fits
  unbroken rows l why (differs p within fits h) is = h is.valid

  -- and for one reason
  one_reason : (rows : List SparseRow) (l : Lemma) (v w : Reason) → LemmaBreaks it rows l v → LemmaBreaks it rows l w → v ≡ w
  one_reason rows l v w (not_positive h) (not_positive g) = refl
  one_reason rows l v w (not_positive h) (out_of_range p g) = absurd (h p)
  one_reason rows l v w (not_positive h) (leaves p within g) = absurd (h p)
  one_reason rows l v w (not_positive h) (differs p within fits g) = absurd (h p)
  one_reason rows l v w (out_of_range p h) (not_positive g) = absurd (g p)
  one_reason rows l v w (out_of_range p h) (out_of_range q g) = refl
  one_reason rows l v w (out_of_range p h) (leaves q within g) = absurd (h within)
  one_reason rows l v w (out_of_range p h) (differs q within fits g) = refl
  one_reason rows l v w (leaves p within h) (not_positive g) = absurd (g p)
  one_reason rows l v w (leaves p within h) (out_of_range q g) = absurd (g within)
  one_reason rows l v w (leaves p within h) (leaves q inside g) = refl
  one_reason rows l v w (leaves p within h) (differs q inside fits g) = absurd (h fits)
  one_reason rows l v w (differs p within fits h) (not_positive g) = absurd (g p)
  one_reason rows l v w (differs p within fits h) (out_of_range q g) = refl
  one_reason rows l v w (differs p within fits h) (leaves q inside g) = absurd (g fits)
  one_reason rows l v w (differs p within fits h) (differs q inside more g) = refl

  pub lemma_at : (rows : List SparseRow) (ls : List Lemma) (k : ℕ) (l : Lemma) → AreLemmas it rows ls → slice_get ls k ≡ Some l → IsLemma it rows l
  lemma_at rows [] k l each at = absurd cc
  lemma_at rows (m ∷ ls) zero l each at = let same : m ≡ l = cc in subst (λ (y : Lemma). IsLemma it rows y) same each.0
  lemma_at rows (m ∷ ls) (suc k) l each at = lemma_at rows ls k l each.1 at

  all_valid : (rows : List SparseRow) (ls : List Lemma) (k : ℕ) (why : Reason) → IsFirstLemmaBreak it rows ls k why → AreLemmas it rows ls → ⊥
  all_valid rows ls k why first are = unbroken rows first.lemma why first.breaks (lemma_at rows ls k first.lemma are first.at)

  -- the first break is at one place
  not_before : (rows : List SparseRow) (ls : List Lemma) (j k : ℕ) (v w : Reason) → IsFirstLemmaBreak it rows ls j v → IsFirstLemmaBreak it rows ls k w → j < k → ⊥
  not_before rows ls j k v w first second below =
      unbroken rows first.lemma v first.breaks (lemma_at rows (take k ls) j first.lemma second.before (get_taken ls j k below ∙ first.at)) where
        get_taken : (xs : List Lemma) (i n : ℕ) → i < n → slice_get (take n xs) i ≡ slice_get xs i
        get_taken [] i zero h = absurd (omega arith)
        get_taken [] i (suc n) h = refl
        get_taken (x ∷ xs) i zero h = absurd (omega arith)
        get_taken (x ∷ xs) zero (suc n) h = refl
        get_taken (x ∷ xs) (suc i) (suc n) h = get_taken xs i n (omega arith)

  one_break : (rows : List SparseRow) (ls : List Lemma) (j k : ℕ) (v w : Reason) → IsFirstLemmaBreak it rows ls j v → IsFirstLemmaBreak it rows ls k w → (j ≡ k) × (v ≡ w)
  one_break rows ls j k v w first second =
      elim (cases_lt j k) [
        | inl below ↦ absurd (not_before rows ls j k v w first second below)
        | inr past ↦ elim (cases_lt k j) [
          | inl below ↦ absurd (not_before rows ls k j w v second first below)
          | inr same ↦
              let e : j ≡ k = omega arith in
              let at : slice_get ls k ≡ Some first.lemma = subst (λ (i : ℕ). slice_get ls i ≡ Some first.lemma) e first.at in
              let one : first.lemma ≡ second.lemma = (let both : Some first.lemma ≡ Some second.lemma = sym at ∙ second.at in cc) in
              (e, one_reason rows second.lemma v w (subst (λ (l : Lemma). LemmaBreaks it rows l v) one first.breaks) second.breaks)
        ]
      ]

module _ (net : Network) (colours : List (List ℕ)) (order later : List Signal) (rows : List SparseRow) (p : Argument) where
  abbrev it : Designed
  it = record { net = net; colours = colours; order = order }

  abbrev jt : Designed
  jt = record { net = net; colours = colours; order = later }

  one_of : (v w : Verdict) → IsVerdict it rows p v → IsVerdict jt rows p w → v ≡ w
  one_of v w (valid is) (valid also) = refl
  one_of v w (valid is) (lemma_breaks k why first) = absurd (all_valid it rows p.lemmas k why (same_break_of net colours later order rows p.lemmas k why first) is.lemmas)
  one_of v w (valid is) (goals_break at why are e) =
      absurd (let ok = proof_unbroken it rows p is in let same = same_goals_and_trees net colours order later p in cc)
  one_of v w (lemma_breaks k why first) (valid is) = absurd (all_valid jt rows p.lemmas k why (same_break_of net colours order later rows p.lemmas k why first) is.lemmas)
  one_of v w (lemma_breaks k why first) (lemma_breaks j wherefore second) =
      let one = one_break it rows p.lemmas k j why wherefore first (same_break_of net colours later order rows p.lemmas j wherefore second) in cc
  one_of v w (lemma_breaks k why first) (goals_break at wherefore are e) =
      absurd (all_valid jt rows p.lemmas k why (same_break_of net colours order later rows p.lemmas k why first) are)
  one_of v w (goals_break at why are e) (valid is) =
      absurd (let ok = proof_unbroken jt rows p is in let same = same_goals_and_trees net colours order later p in cc)
  one_of v w (goals_break at why are e) (lemma_breaks k wherefore first) =
      absurd (all_valid it rows p.lemmas k wherefore (same_break_of net colours later order rows p.lemmas k wherefore first) are)
  one_of v w (goals_break at why are e) (goals_break spot wherefore also f) =
      ap (λ (x : ProofPath × Reason). verdict.No x.0 x.1)
      (same_break (goals_and_trees_test it p) (at, why) (spot, wherefore) e (same_goals_and_trees net colours order later p ∙ f))

pub one_verdict : OneVerdict
one_verdict it jt rows p v w net colours is also =
    one_of it.net it.colours it.order jt.order rows p v w is
    (subst (λ (cs : List (List ℕ)). IsVerdict (record { net = it.net; colours = cs; order = jt.order }) rows p w) (sym colours)
    (subst (λ (n : Network). IsVerdict (record { net = n; colours = jt.colours; order = jt.order }) rows p w) (sym net) also))
