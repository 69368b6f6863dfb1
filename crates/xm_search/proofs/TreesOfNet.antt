-- What the trees of a search name is of the net.
use Rattle.std.proofs.Common.{◌≡◌, ℕ, ◌+◌, ◌<◌, ◌≤◌, ◌^◌, List, [], ◌∷◌, ◌++◌, All, Option, Some, None, Bool, true, false, length, refl, sym, ◌∙◌, ap, subst, arith, inl, inr, slice_get, length-append}
use Rattle.std.specs.Prelude.{cond, nat_eq, nat_lt}
use Rattle.std.proofs.lemmas.Bool.{and_parts, cases_Bool, cases_eq, cond-true, cond-false, eqb-true, ltb-true, ne_eqb, or_cases}
use Rattle.std.proofs.lemmas.List.{length-map}
use Rattle.std.proofs.lemmas.List.Elements.{All-append, All-cons, All-head, All-nil, All-tail}
use Rattle.std.proofs.lemmas.Option.{slice_get_within}
use Rattle.xm_colours.specs.Family.{colours_at}
use Rattle.xm_design.specs.Designed.{Designed, IsDesigned}
use Rattle.xm_flow.specs.ValidLemma.{Lemma}
use Rattle.xm_lits.specs.Clashes.{one_offers}
use Rattle.xm_lits.specs.Inference.{Inference, has_colour, rules_of}
use Rattle.xm_lits.specs.Paths.{are_same, is_on_path}
use Rattle.xm_lits.specs.declared.inference.RuleName.{RuleName}
use Rattle.xm_lits.specs.declared.inference.RuleName.TheVariants.{P0, S1, S2, S3, S4, S5, S6, P1, P2, P3, P4, O1, O2, O3, O4, O5, O6, I2, I3, I4, I5, I6, I7}
use Rattle.xm_lits.specs.declared.literal.Lit.{Lit}
use Rattle.xm_lits.specs.declared.literal.Lit.TheVariants.{Dead, Full, Has, Idle, Lacks, Stuck}
use Rattle.xm_model.specs.Component.{Component, Fork, Function, Join, Merge, Queue, Sink, Source, Switch}
use Rattle.xm_model.specs.Lemmas.ChannelEnds.{end_of}
use Rattle.xm_model.specs.Membership.{IsIn, times}
use Rattle.xm_model.specs.Net.{IsNet, Network, initiators, outputs}
use Rattle.xm_proof.specs.Argument.{Cite, Clash, Eager, Open, Refutation, Split, Step, Sum}
use Rattle.xm_proof.specs.Form.{kids_of}
use Rattle.xm_proof.specs.Lemmas.Refuting.{lit_from}
use Rattle.xm_proof.specs.OfNet.{IsColour, IsGoalOf, IsItemOf, IsLiteralOf, IsPlace, IsStepOf, IsViaOf, has_via}
use Rattle.xm_proof.specs.Sums.{Sums, no_sums}
use Rattle.xm_proof.specs.Tests.{find_rule, is_named, is_queue, is_queue_pair, longer, name_number, only_where, queue_columns, same_colour}
use Rattle.xm_proof.specs.Valid.{AddUp, AreGoals, is_dead_pair, item_row, lemma_row, multiplier, of_a_queue}
use Rattle.xm_proof.specs.declared.proof.Item.{Item}
use Rattle.xm_proof.specs.declared.proof.Item.TheVariants as item
use Rattle.xm_rows.specs.Row.{Fits128, SparseRow}
use Rattle.xm_search.proofs.OfNet.{IsRuleOf, rules_of_net}
use Rattle.xm_search.proofs.Steps.{is_channel}
use Rattle.xm_search.specs.Inner.Fitting.{FitsStep}
use Rattle.xm_search.specs.Trees.{AreTrees, IsStep, kids, left_by}

-- ---- names of rules

by_number : (n : RuleName) → has_via n ≡ nat_eq (name_number n) 19
by_number P0 = refl
by_number S1 = refl
by_number S2 = refl
by_number S3 = refl
by_number S4 = refl
by_number S5 = refl
by_number S6 = refl
by_number P1 = refl
by_number P2 = refl
by_number P3 = refl
by_number P4 = refl
by_number O1 = refl
by_number O2 = refl
by_number O3 = refl
by_number O4 = refl
by_number O5 = refl
by_number O6 = refl
by_number I2 = refl
by_number I3 = refl
by_number I4 = refl
by_number I5 = refl
by_number I6 = refl
by_number I7 = refl

same_via : (n m : RuleName) → name_number n ≡ name_number m → has_via n ≡ has_via m
same_via n m same = by_number n ∙ ap (λ (k : ℕ). nat_eq k 19) same ∙ sym (by_number m)

via_moved : (net : Network) (n m : RuleName) (v w : Option ℕ) → name_number n ≡ name_number m → same_colour v w ≡ true → IsViaOf net n v → IsViaOf net m w
via_moved net n m None None same colour is = sym (same_via n m same) ∙ is
via_moved net n m None (Some e) same colour is = cc
via_moved net n m (Some d) None same colour is = cc
via_moved net n m (Some d) (Some e) same colour is = (sym (same_via n m same) ∙ is.0, subst (IsColour net) (eqb-true d e colour) is.1)

-- the rule that is found has the name and colour by which it is looked for, and is of the net where all are
found_of_net : (net : Network) (rs : List Inference) (name : RuleName) (via : Option ℕ) (r : Inference) → find_rule rs name via ≡ Some r → All (IsRuleOf net) rs →
    IsViaOf net name via × IsRuleOf net r
found_of_net net [] name via r h all = cc
found_of_net net (x ∷ xs) name via r h all =
    elim (cases_Bool (is_named x name via)) [
      | inl hit ↦ (
          let e : Some x ≡ Some r = sym (cond-true _ (Some x) (find_rule xs name via) hit) ∙ h in
          let f : x ≡ r = cc in
          let is = All-head (IsRuleOf net) x xs all in
          let both = and_parts (nat_eq (name_number x.name) (name_number name)) (same_colour x.via via) hit in
          (via_moved net x.name name x.via via (eqb-true (name_number x.name) (name_number name) both.0) both.1 is.via, subst (IsRuleOf net) f is))
      | inr miss ↦ found_of_net net xs name via r (sym (cond-false _ (Some x) (find_rule xs name via) miss) ∙ h) (All-tail (IsRuleOf net) x xs all)
    ]

-- ---- colours, queues and sources

later : (b : Bool) (n : ℕ) → b ≡ false → 0 < cond b 1 0 + n → 0 < n
later true n miss h = cc
later false n miss h = omega arith

stands : (d : ℕ) (ds : List ℕ) → 0 < times d ds → IsIn ds d
stands d [] h = absurd (omega arith)
stands d (x ∷ xs) h =
    elim (cases_eq x d) [
      | inl same ↦ inl same
      | inr other ↦ inr (stands d xs (later (nat_eq x d) (times d xs) (ne_eqb x d other) h))
    ]

colour_from : (ds : List ℕ) (d : ℕ) → has_colour ds d ≡ true → IsIn ds d
colour_from ds d h = stands d ds (ltb-true 0 (times d ds) h)

only_true : {A : Type 0} (b : Bool) (o : Option A) (x : A) → only_where b o ≡ Some x → b ≡ true
only_true true o x h = refl
only_true false o x h = cc

pair_parts : (colours : ℕ → List ℕ) (d : ℕ) (o : Option Component) → is_queue_pair colours d o ≡ true → (is_queue o ≡ true) × ((c : ℕ) × IsIn (colours c) d)
pair_parts colours d None h = cc
pair_parts colours d (Some (Source out cs mode)) h = cc
pair_parts colours d (Some (Sink input mode)) h = cc
pair_parts colours d (Some (Queue input out capacity initial)) h = (refl, (out, colour_from (colours out) d h))
pair_parts colours d (Some (Function input out table)) h = cc
pair_parts colours d (Some (Fork input a b ta tb)) h = cc
pair_parts colours d (Some (Join a b out pass)) h = cc
pair_parts colours d (Some (Switch input a b to_a)) h = cc
pair_parts colours d (Some (Merge a b out)) h = cc

offered_at : (net : Network) → IsNet net → (c : ℕ) (ps : List ℕ) → initiators net.prims c ≡ ps → one_offers net ps ≡ true → c < net.channels
offered_at net is c [] e h = cc
offered_at net is c (p ∷ []) e h = let end = end_of outputs net.prims c p e in is_channel net end.primitive p c is end.there end.port
offered_at net is c (p ∷ q ∷ ps) e h = cc

-- ---- literals

on_path : (P : Lit → Type 0) (path : List Lit) (l : Lit) → is_on_path path l ≡ true → All P path → P l
on_path P [] l on all = cc
on_path P (m ∷ ms) l on all =
    elim (or_cases (are_same m l) (is_on_path ms l) on) [
      | inl same ↦ subst P (lit_from m l same) (All-head P m ms all)
      | inr rest ↦ on_path P ms l rest (All-tail P m ms all)
    ]

-- the colours are of the net
abbrev pub AreBelow : Designed → Type 0
AreBelow it = (c d : ℕ) → IsIn (colours_at it.colours c) d → d < it.net.colours

dead_of_net : (it : Designed) → AreBelow it → (l : Lit) → is_dead_pair it l ≡ true → IsLiteralOf it.net l
dead_of_net it below (Dead c d) h =
    let both = and_parts (nat_lt c it.net.channels) (has_colour (colours_at it.colours c) d) h in
    (ltb-true c it.net.channels both.0, below c d (colour_from (colours_at it.colours c) d both.1))
dead_of_net it below (Stuck c) h = cc
dead_of_net it below (Idle c d) h = cc
dead_of_net it below (Full q) h = cc
dead_of_net it below (Has q d) h = cc
dead_of_net it below (Lacks q d) h = cc

pub goals_of_net : (it : Designed) → AreBelow it → (before ls : List Lit) → AreGoals it before ls → All (IsLiteralOf it.net) ls
goals_of_net it below before [] are = All-nil (IsLiteralOf it.net)
goals_of_net it below before (l ∷ ls) are =
    All-cons (IsLiteralOf it.net) l ls (dead_of_net it below l are.0) (goals_of_net it below (before ++ l ∷ []) ls are.1.1)

-- ---- trees

longer_all : (P : Lit → Type 0) (path : List Lit) (ls : List (List Lit)) → All P path → All (All P) ls → All (All P) (longer path ls)
longer_all P path [] all more = All-nil (All P)
longer_all P path (a ∷ others) all more =
    All-cons (All P) (path ++ a) (longer path others) (All-append P path a all (All-head (All P) a others more)) (longer_all P path others all (All-tail (All P) a others more))

-- as many nodes stand right below a step as it leaves paths
pub kid_count : (it : Designed) (lemmas : List Lemma) (before path : List Lit) (s : Step) → IsStep it lemmas before path s → length (kids it path s) ≡ kids_of s
kid_count it lemmas before path (Split name on via count) is =
    ap length (ap (left_by path) is.0.found) ∙ length-map is.0.rule.alternatives (λ (a : List Lit). path ++ a) ∙ is.0.whole
kid_count it lemmas before path (Clash one other) is = refl
kid_count it lemmas before path (Eager c) is = refl
kid_count it lemmas before path (Sum items) is = refl
kid_count it lemmas before path (Cite k) is = refl
kid_count it lemmas before path Open is = refl

-- there are at least as many steps as paths
step_count : (it : Designed) (lemmas : List Lemma) (before : List Lit) (steps : List Step) (paths : List (List Lit)) → AreTrees it lemmas before steps paths → length paths ≤ length steps
step_count it lemmas before [] [] are = omega arith
step_count it lemmas before [] (p ∷ ps) are = absurd are
step_count it lemmas before (s ∷ steps) [] are = absurd are
step_count it lemmas before (s ∷ steps) (p ∷ ps) are =
    let rest = step_count it lemmas before steps (kids it p s ++ ps) are.1 in let size = length-append (kids it p s) ps in omega arith

module _ (it : Designed) (is : IsDesigned it) (below : AreBelow it) (lemmas : List Lemma) (few_lemmas : length lemmas < 2 ^ 32) (before : List Lit) (few : length before < 2 ^ 32) where
  abbrev Lits : List Lit → Type 0
  Lits ls = All (IsLiteralOf it.net) ls

  place_of_lemma : (k : ℕ) (row : SparseRow) → lemma_row (slice_get lemmas k) ≡ Some row → IsPlace k
  place_of_lemma k row h = at (slice_get lemmas k) refl h
    where
      at : (o : Option Lemma) → slice_get lemmas k ≡ o → lemma_row o ≡ Some row → IsPlace k
      at None e h = cc
      at (Some l) e h = let within = slice_get_within lemmas k l e in omega arith

  item_of_net : (path : List Lit) (i : Item) (row : SparseRow) → Lits path → item_row it lemmas path i ≡ Some row → Fits128 (multiplier i) → IsItemOf it.net i
  item_of_net path (item.Lemma k m) row known at fits = (place_of_lemma k row at, fits)
  item_of_net path (item.Cap q m) row known at fits = (only_true (is_queue (slice_get it.net.prims q)) _ row at, fits)
  item_of_net path (item.Low q d m) row known at fits =
      let parts = pair_parts (colours_at it.colours) d (slice_get it.net.prims q) (only_true (is_queue_pair (colours_at it.colours) d (slice_get it.net.prims q)) _ row at) in
      (parts.0, below parts.1.0 d parts.1.1, fits)
  item_of_net path (item.Path l m) row known at fits =
      let both = and_parts (is_on_path path l) (of_a_queue it l) (only_true _ _ row at) in (on_path (IsLiteralOf it.net) path l both.0 known, fits)

  items_of_net : (path : List Lit) (items : List Item) (first last : Sums) → Lits path → AddUp it lemmas path items first last → All (λ i. Fits128 (multiplier i)) items →
      All (IsItemOf it.net) items
  items_of_net path [] first last known up fits = All-nil (IsItemOf it.net)
  items_of_net path (i ∷ is) first last known up fits =
      All-cons (IsItemOf it.net) i is (item_of_net path i up.0 known up.1.0 (All-head (λ i. Fits128 (multiplier i)) i is fits))
      (items_of_net path is up.1.1.1.0 last known up.1.1.1.1.1 (All-tail (λ i. Fits128 (multiplier i)) i is fits))

  step_of_net : (path : List Lit) (s : Step) → Lits path → IsStep it lemmas before path s → FitsStep s → IsPlace (kids_of s) → IsStepOf it.net s
  step_of_net path (Split name on via count) known step fits small =
      let lit = on_path (IsLiteralOf it.net) path on step.0.here known in
      (lit, (found_of_net it.net (rules_of it on) name via step.0.rule step.0.found (rules_of_net it is.net below on lit)).0, small)
  step_of_net path (Clash l None) known step fits small = (on_path (IsLiteralOf it.net) path l step.0.0 known, tt)
  step_of_net path (Clash l (Some m)) known step fits small = (on_path (IsLiteralOf it.net) path l step.0.0 known, on_path (IsLiteralOf it.net) path m step.0.1.0 known)
  step_of_net path (Eager c) known step fits small = offered_at it.net is.net c (initiators it.net.prims c) refl step.1.0
  step_of_net path (Sum items) known step fits small = (fits.few, items_of_net path items (no_sums (length (queue_columns it))) step.0.sums known step.0.add_up fits.times)
  step_of_net path (Cite k) known step fits small = let within = slice_get_within before k step.0.goal step.0.earlier in omega arith
  step_of_net path Open known step fits small = tt

  kids_of_net : (path : List Lit) (s : Step) → Lits path → IsStep it lemmas before path s → All Lits (kids it path s)
  kids_of_net path (Split name on via count) known step =
      let lit = on_path (IsLiteralOf it.net) path on step.0.here known in
      let rule = (found_of_net it.net (rules_of it on) name via step.0.rule step.0.found (rules_of_net it is.net below on lit)).1 in
      subst (λ (o : Option Inference). All Lits (left_by path o)) (sym step.0.found) (longer_all (IsLiteralOf it.net) path step.0.rule.alternatives known rule.alternatives)
  kids_of_net path (Clash one other) known step = All-nil Lits
  kids_of_net path (Eager c) known step = All-nil Lits
  kids_of_net path (Sum items) known step = All-nil Lits
  kids_of_net path (Cite k) known step = All-nil Lits
  kids_of_net path Open known step = All-nil Lits

  trees_of_net : (steps : List Step) (paths : List (List Lit)) → All Lits paths → AreTrees it lemmas before steps paths → All FitsStep steps → length steps < 2 ^ 32 →
      All (IsStepOf it.net) steps
  trees_of_net [] paths known are fits small = All-nil (IsStepOf it.net)
  trees_of_net (s ∷ steps) [] known are fits small = absurd are
  trees_of_net (s ∷ steps) (p ∷ ps) known are fits small =
      let path = All-head Lits p ps known in
      let count = kid_count it lemmas before p s are.0 in
      let size = length-append (kids it p s) ps in
      let enough = step_count it lemmas before steps (kids it p s ++ ps) are.1 in
      All-cons (IsStepOf it.net) s steps (step_of_net p s path are.0 (All-head FitsStep s steps fits) (omega arith))
      (trees_of_net steps (kids it p s ++ ps) (All-append Lits (kids it p s) ps (kids_of_net p s path are.0) (All-tail Lits p ps known)) are.1 (All-tail FitsStep s steps fits) (omega arith))

  -- a goal of the net has a tree of the net
  pub goal_of_net : (g : Refutation) → IsLiteralOf it.net g.lit → AreTrees it lemmas before g.steps ((g.lit ∷ []) ∷ []) → All FitsStep g.steps → length g.steps < 2 ^ 32 → IsGoalOf it.net g
  goal_of_net g lit are fits small = record {
    lit = lit;
    steps = trees_of_net g.steps ((g.lit ∷ []) ∷ [])
        (All-cons Lits (g.lit ∷ []) [] (All-cons (IsLiteralOf it.net) g.lit [] lit (All-nil (IsLiteralOf it.net))) (All-nil Lits)) are fits small;
  }
