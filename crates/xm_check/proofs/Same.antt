-- The tests of a proof do not depend on the order of a design's signals.
use Rattle.std.proofs.Common.{◌≡◌, ℕ, suc, Option, Some, None, Result, Ok, Err, List, [], ◌∷◌, ◌++◌, length, take, Bool, ◌&&◌, not, refl, ◌∙◌, ap, ap₂}
use Rattle.std.specs.Prelude.{⊤}
use Rattle.xm_check.specs.Break.{IsFirstLemmaBreak, LemmaBreaks, at_place, clash_test, differs, goals_and_trees_test, goals_test, item_test, items_test, leaves, pairs_test, not_positive, out_of_range, step_test, steps_test, sum_test, trees_test}
use Rattle.xm_design.specs.Designed.{Designed}
use Rattle.xm_flow.specs.ValidLemma.{Lemma}
use Rattle.xm_lits.specs.Clashes.{is_outside}
use Rattle.xm_lits.specs.Paths.{is_on_path}
use Rattle.xm_lits.specs.declared.literal.Lit.{Lit}
use Rattle.xm_lits.specs.declared.literal.Lit.TheVariants.{Stuck, Dead, Idle, Full, Has, Lacks}
use Rattle.xm_model.specs.Net.{Network}
use Rattle.xm_model.specs.Steps.{◌>>=◌, check, demand}
use Rattle.xm_order.specs.declared.signal.Signal.{Signal}
use Rattle.xm_proof.specs.Argument.{Argument, Cite, Clash, Eager, Open, Refutation, Split, Step, Sum, literals}
use Rattle.xm_proof.specs.Sums.{Sums, add_row, all_zero, is_positive, no_sums}
use Rattle.xm_proof.specs.Tests.{literal_row, move_columns, only_where, queue_columns}
use Rattle.xm_proof.specs.Valid.{AreLemmas, IsLemma, all_goals, has_sign, is_dead_pair, item_row, multiplier, of_a_queue}
use Rattle.xm_proof.specs.declared.proof.Item.{Item}
use Rattle.xm_proof.specs.declared.proof.Item.TheVariants as item
use Rattle.xm_proof.specs.declared.verdict.ProofPath.{ProofPath}
use Rattle.xm_proof.specs.declared.verdict.ProofPath.TheVariants as place
use Rattle.xm_proof.specs.declared.verdict.Reason.{Reason}
use Rattle.xm_proof.specs.declared.verdict.Reason.TheVariants as reason
use Rattle.xm_rows.specs.Row.{SparseRow}

-- equal steps after equal steps
both : {A B E : Type 0} (r s : Result A E) (f g : A → Result B E) → r ≡ s → ((x : A) → f x ≡ g x) → (r >>= f) ≡ (s >>= g)
both (Ok x) (Ok y) f g same each = let is : x ≡ y = cc in ap f is ∙ each y
both (Ok x) (Err e) f g same each = cc
both (Err e) (Ok y) f g same each = cc
both (Err e) (Err d) f g same each = let is : e ≡ d = cc in ap Err is

abbrev no_more : ⊤ → Result (List (List Lit)) Reason
no_more x = Ok []

module _ (net : Network) (colours : List (List ℕ)) (order later : List Signal) where
  abbrev it : Designed
  it = record { net = net; colours = colours; order = order }

  abbrev jt : Designed
  jt = record { net = net; colours = colours; order = later }

  same_outside : (l : Lit) → is_outside it l ≡ is_outside jt l
  same_outside (Stuck c) = refl
  same_outside (Dead c d) = refl
  same_outside (Idle c d) = refl
  same_outside (Full q) = refl
  same_outside (Has q d) = refl
  same_outside (Lacks q d) = refl

  same_dead : (l : Lit) → is_dead_pair it l ≡ is_dead_pair jt l
  same_dead (Stuck c) = refl
  same_dead (Dead c d) = refl
  same_dead (Idle c d) = refl
  same_dead (Full q) = refl
  same_dead (Has q d) = refl
  same_dead (Lacks q d) = refl

  same_of_a_queue : (l : Lit) → of_a_queue it l ≡ of_a_queue jt l
  same_of_a_queue (Stuck c) = refl
  same_of_a_queue (Dead c d) = refl
  same_of_a_queue (Idle c d) = refl
  same_of_a_queue (Full q) = refl
  same_of_a_queue (Has q d) = refl
  same_of_a_queue (Lacks q d) = refl

  same_literal_row : (l : Lit) → literal_row it l ≡ literal_row jt l
  same_literal_row (Stuck c) = refl
  same_literal_row (Dead c d) = refl
  same_literal_row (Idle c d) = refl
  same_literal_row (Full q) = refl
  same_literal_row (Has q d) = refl
  same_literal_row (Lacks q d) = refl

  same_row : (lemmas : List Lemma) (path : List Lit) (i : Item) → item_row it lemmas path i ≡ item_row jt lemmas path i
  same_row lemmas path (item.Lemma k m) = refl
  same_row lemmas path (item.Cap q m) = refl
  same_row lemmas path (item.Low q d m) = refl
  same_row lemmas path (item.Path l m) =
      ap₂ (λ (b : Bool) (o : Option SparseRow). only_where (is_on_path path l && b) o) (same_of_a_queue l) (same_literal_row l)

  same_item : (lemmas : List Lemma) (path : List Lit) (i : Item) (sums : Sums) → item_test it lemmas path i sums ≡ item_test jt lemmas path i sums
  same_item lemmas path i sums =
      ap (λ (o : Option SparseRow). demand o reason.Absent >>= (λ (row : SparseRow). check (has_sign i) reason.Sign >>= (λ (_ : ⊤). demand (add_row (multiplier i) row sums) reason.Overflow)))
      (same_row lemmas path i)

  same_items : (lemmas : List Lemma) (path : List Lit) (is : List Item) (sums : Sums) → items_test it lemmas path is sums ≡ items_test jt lemmas path is sums
  same_items lemmas path [] sums = refl
  same_items lemmas path (i ∷ is) sums =
      both (item_test it lemmas path i sums) (item_test jt lemmas path i sums) (items_test it lemmas path is) (items_test jt lemmas path is) (same_item lemmas path i sums)
      (same_items lemmas path is)

  same_sum : (lemmas : List Lemma) (path : List Lit) (is : List Item) → sum_test it lemmas path is ≡ sum_test jt lemmas path is
  same_sum lemmas path is =
      ap (λ (r : Result Sums Reason). r >>= (λ (sums : Sums). check (all_zero sums.columns) reason.Nonzero >>= (λ (_ : ⊤). check (is_positive sums.constant) reason.Weak)))
      (same_items lemmas path is (no_sums (length (queue_columns it))))

  same_clash : (path : List Lit) (l : Lit) (other : Option Lit) → clash_test it path l other ≡ clash_test jt path l other
  same_clash path l None = ap (λ (b : Bool). check (is_on_path path l) reason.Absent >>= (λ (_ : ⊤). check b reason.Clash)) (same_outside l)
  same_clash path l (Some m) = refl

  same_step : (lemmas : List Lemma) (before path : List Lit) (step : Step) → step_test it lemmas before path step ≡ step_test jt lemmas before path step
  same_step lemmas before path (Split name on via kids) = refl
  same_step lemmas before path (Clash l other) =
      ap (λ (r : Result ⊤ Reason). r >>= no_more) (same_clash path l other)
  same_step lemmas before path (Eager c) = refl
  same_step lemmas before path (Sum items) =
      ap (λ (r : Result ⊤ Reason). r >>= no_more) (same_sum lemmas path items)
  same_step lemmas before path (Cite k) = refl
  same_step lemmas before path Open = refl

  same_steps : (lemmas : List Lemma) (before : List Lit) (k i : ℕ) (steps : List Step) (paths : List (List Lit)) →
      steps_test it lemmas before k i steps paths ≡ steps_test jt lemmas before k i steps paths
  same_steps lemmas before k i [] paths = refl
  same_steps lemmas before k i (step ∷ steps) [] = refl
  same_steps lemmas before k i (step ∷ steps) (path ∷ paths) =
      both (at_place (place.Node k i) (step_test it lemmas before path step)) (at_place (place.Node k i) (step_test jt lemmas before path step))
      (λ more. steps_test it lemmas before k (suc i) steps (more ++ paths)) (λ more. steps_test jt lemmas before k (suc i) steps (more ++ paths))
      (ap (at_place (place.Node k i)) (same_step lemmas before path step)) (λ more. same_steps lemmas before k (suc i) steps (more ++ paths))

  same_trees : (lemmas : List Lemma) (before : List Lit) (k : ℕ) (gs : List Refutation) → trees_test it lemmas before k gs ≡ trees_test jt lemmas before k gs
  same_trees lemmas before k [] = refl
  same_trees lemmas before k (g ∷ gs) =
      both (steps_test it lemmas before k 0 g.steps ((g.lit ∷ []) ∷ [])) (steps_test jt lemmas before k 0 g.steps ((g.lit ∷ []) ∷ []))
      (λ _. trees_test it lemmas (before ++ g.lit ∷ []) (suc k) gs) (λ _. trees_test jt lemmas (before ++ g.lit ∷ []) (suc k) gs)
      (same_steps lemmas before k 0 g.steps ((g.lit ∷ []) ∷ [])) (λ _. same_trees lemmas (before ++ g.lit ∷ []) (suc k) gs)

  same_goals : (before : List Lit) (k : ℕ) (ls : List Lit) → goals_test it before k ls ≡ goals_test jt before k ls
  same_goals before k [] = refl
  same_goals before k (l ∷ ls) =
      let fault : ProofPath × Reason = (place.Goal k, reason.Goal) in
      both (check (is_dead_pair it l && not (is_on_path before l)) fault) (check (is_dead_pair jt l && not (is_on_path before l)) fault)
      (λ _. goals_test it (before ++ l ∷ []) (suc k) ls) (λ _. goals_test jt (before ++ l ∷ []) (suc k) ls)
      (ap (λ (b : Bool). check (b && not (is_on_path before l)) fault) (same_dead l)) (λ _. same_goals (before ++ l ∷ []) (suc k) ls)

  same_pairs : (gs : List Refutation) → pairs_test it gs ≡ pairs_test jt gs
  same_pairs gs =
      ap (λ (r : Result ⊤ (ProofPath × Reason)). r >>= (λ (_ : ⊤). check (all_goals (literals gs) (move_columns it)) (place.Goals, reason.Missing)))
      (same_goals [] 0 (literals gs))

  pub same_goals_and_trees : (p : Argument) → goals_and_trees_test it p ≡ goals_and_trees_test jt p
  same_goals_and_trees p =
      both (pairs_test it p.goals) (pairs_test jt p.goals) (λ _. trees_test it p.lemmas [] 0 p.goals) (λ _. trees_test jt p.lemmas [] 0 p.goals) (same_pairs p.goals)
      (λ _. same_trees p.lemmas [] 0 p.goals)

  same_lemma : (rows : List SparseRow) (l : Lemma) → IsLemma it rows l → IsLemma jt rows l
  same_lemma rows l is = record { valid = is.valid; fits = is.fits }

  same_lemmas : (rows : List SparseRow) (ls : List Lemma) → AreLemmas it rows ls → AreLemmas jt rows ls
  same_lemmas rows [] are = tt
  same_lemmas rows (l ∷ ls) are = (same_lemma rows l are.0, same_lemmas rows ls are.1)

  same_reason : (rows : List SparseRow) (l : Lemma) (why : Reason) → LemmaBreaks it rows l why → LemmaBreaks jt rows l why
  same_reason rows l why (not_positive h) = not_positive h
  same_reason rows l why (out_of_range p h) = out_of_range p (λ is. h (record { places = is.places; within = is.within }))
  same_reason rows l why (leaves p within h) = leaves p (record { places = within.places; within = within.within }) h
  same_reason rows l why (differs p within fits h) = differs p (record { places = within.places; within = within.within }) fits h

  pub same_break_of : (rows : List SparseRow) (ls : List Lemma) (k : ℕ) (why : Reason) → IsFirstLemmaBreak it rows ls k why → IsFirstLemmaBreak jt rows ls k why
  same_break_of rows ls k why first = record {
    lemma = first.lemma;
    at = first.at;
    breaks = same_reason rows first.lemma why first.breaks;
    before = same_lemmas rows (take k ls) first.before;
  }
