-- The first break of a proof, in the order in which a checker goes: lemmas, goals, missing goals, and then the steps of
-- each goal. Each test has its reasons in order.
use Rattle.std.specs.Prelude.{◌≡◌, ◌<◌, ◌<ℤ◌, ◌&&◌, ◌++◌, ◌∷◌, [], ℕ, suc, pos, Bool, false, not, nat_eq, List, All}
use Rattle.std.specs.Prelude.{length, slice_get, take, Option, Some, None, Result, Ok, Err, ⊤}
use Rattle.xm_colours.specs.Family.{colours_at}
use Rattle.xm_design.specs.Designed.{Designed}
use Rattle.xm_flow.specs.Holding.{pair_count, queue_pair_count}
use Rattle.xm_flow.specs.ValidLemma.{IsValid, Lemma, TestFits}
use Rattle.xm_lits.specs.Clashes.{is_offered, are_opposed, is_outside}
use Rattle.xm_lits.specs.Inference.{idle_all, rules_of}
use Rattle.xm_lits.specs.declared.literal.Lit.{Lit}
use Rattle.xm_model.specs.Steps.{◌>>=◌, check, demand}
use Rattle.xm_proof.specs.Argument.{Argument, Cite, Clash, Eager, Open, Refutation, Split, Step, Sum, literals}
use Rattle.xm_proof.specs.Sums.{Sums, add_row, all_zero, is_positive, no_sums}
use Rattle.xm_lits.specs.Paths.{are_on_path, is_on_path}
use Rattle.xm_proof.specs.Tests.{find_rule, longer, move_columns, queue_columns}
use Rattle.xm_proof.specs.Valid.{AreLemmas, IsProof, all_goals, has_sign, is_dead_pair, item_row, multiplier}
use Rattle.xm_rows.specs.Row.{SparseRow}
use Rattle.xm_proof.specs.declared.proof.Item.{Item}
use Rattle.xm_proof.specs.declared.verdict.ProofPath.{ProofPath}
use Rattle.xm_proof.specs.declared.verdict.ProofPath.TheVariants as place
use Rattle.xm_proof.specs.declared.verdict.Reason.{Reason}
use Rattle.xm_proof.specs.declared.verdict.Reason.TheVariants as reason
use Rattle.xm_proof.specs.declared.verdict.Verdict.{Verdict}
use Rattle.xm_proof.specs.declared.verdict.Verdict.TheVariants as verdict

-- the places of the parts are those of flow rows, and the columns of the row those of queue pairs
pub record IsInRange (it : Designed) (rows : List SparseRow) (l : Lemma) : Type 0 where
  pub places : All (λ p. p.flow < length rows) l.parts
  pub within : All (λ e. e.column < queue_pair_count it) l.row.entries

-- why a lemma is not valid: the first of these reasons
pub data LemmaBreaks (it : Designed) (rows : List SparseRow) (l : Lemma) : Reason → Type 0 where
  not_positive : ¬ (pos 0 <ℤ l.scale) → LemmaBreaks it rows l reason.Scale
  out_of_range : pos 0 <ℤ l.scale → ¬ IsInRange it rows l → LemmaBreaks it rows l reason.Lemma
  leaves : pos 0 <ℤ l.scale → IsInRange it rows l → ¬ TestFits rows l → LemmaBreaks it rows l reason.Overflow
  differs : pos 0 <ℤ l.scale → IsInRange it rows l → TestFits rows l
      → ¬ IsValid (pair_count it) (queue_pair_count it) rows l → LemmaBreaks it rows l reason.Lemma

-- lemma k is the first that is not valid, for this reason
pub record IsFirstLemmaBreak (it : Designed) (rows : List SparseRow) (ls : List Lemma) (k : ℕ) (why : Reason) :
    Type 0 where
  pub lemma : Lemma
  pub at : slice_get ls k ≡ Some lemma
  pub breaks : LemmaBreaks it rows lemma why
  pub before : AreLemmas it rows (take k ls)

-- an item of a sum, and the sums with it
abbrev pub item_test : Designed → List Lemma → List Lit → Item → Sums → Result Sums Reason
item_test it lemmas path i sums = do
  row ← demand (item_row it lemmas path i) reason.Absent
  _ ← check (has_sign i) reason.Sign
  demand (add_row (multiplier i) row sums) reason.Overflow

abbrev pub items_test : Designed → List Lemma → List Lit → List Item → Sums → Result Sums Reason
items_test it lemmas path [] sums = Ok sums
items_test it lemmas path (i ∷ is) sums = do
  more ← item_test it lemmas path i sums
  items_test it lemmas path is more

abbrev pub sum_test : Designed → List Lemma → List Lit → List Item → Result ⊤ Reason
sum_test it lemmas path items = do
  sums ← items_test it lemmas path items (no_sums (length (queue_columns it)))
  _ ← check (all_zero sums.columns) reason.Nonzero
  check (is_positive sums.constant) reason.Weak

abbrev pub clash_test : Designed → List Lit → Lit → Option Lit → Result ⊤ Reason
clash_test it path l None = do
  _ ← check (is_on_path path l) reason.Absent
  check (is_outside it l) reason.Clash
clash_test it path l (Some m) = do
  _ ← check (is_on_path path l && is_on_path path m) reason.Absent
  check (are_opposed l m) reason.Clash

abbrev pub some_on_path : List Lit → Option Lit → Bool
some_on_path path None = false
some_on_path path (Some l) = is_on_path path l

-- a step on a path, and the paths that it leaves to refute
abbrev pub step_test : Designed → List Lemma → List Lit → List Lit → Step → Result (List (List Lit)) Reason
step_test it lemmas before path (Split name on via kids) = do
  _ ← check (is_on_path path on) reason.Absent
  rule ← demand (find_rule (rules_of it on) name via) reason.Rule
  _ ← check (nat_eq (length rule.alternatives) kids) reason.Alternatives
  Ok (longer path rule.alternatives)
step_test it lemmas before path (Clash l other) = do
  _ ← clash_test it path l other
  Ok []
step_test it lemmas before path (Eager c) = do
  _ ← check (are_on_path path (idle_all (colours_at it.colours) c)) reason.Absent
  _ ← check (is_offered it c) reason.Clash
  Ok []
step_test it lemmas before path (Sum items) = do
  _ ← sum_test it lemmas path items
  Ok []
step_test it lemmas before path (Cite k) = do
  _ ← check (some_on_path path (slice_get before k)) reason.Cite
  Ok []
step_test it lemmas before path Open = Err reason.Open

-- the reason, with its place
abbrev pub at_place : {A : Type 0} → ProofPath → Result A Reason → Result A (ProofPath × Reason)
at_place p (Ok x) = Ok x
at_place p (Err why) = Err (p, why)

-- the steps of goal k, numbered from i on, one after another
abbrev pub steps_test : Designed → List Lemma → List Lit → ℕ → ℕ → List Step → List (List Lit)
    → Result ⊤ (ProofPath × Reason)
steps_test it lemmas before k i [] paths = Ok tt
steps_test it lemmas before k i (step ∷ steps) [] = Ok tt
steps_test it lemmas before k i (step ∷ steps) (path ∷ paths) = do
  more ← at_place (place.Node k i) (step_test it lemmas before path step)
  steps_test it lemmas before k (suc i) steps (more ++ paths)

-- the trees of the goals, numbered from k on
abbrev pub trees_test : Designed → List Lemma → List Lit → ℕ → List Refutation → Result ⊤ (ProofPath × Reason)
trees_test it lemmas before k [] = Ok tt
trees_test it lemmas before k (g ∷ gs) = do
  _ ← steps_test it lemmas before k 0 g.steps ((g.lit ∷ []) ∷ [])
  trees_test it lemmas (before ++ g.lit ∷ []) (suc k) gs

abbrev pub goals_test : Designed → List Lit → ℕ → List Lit → Result ⊤ (ProofPath × Reason)
goals_test it before k [] = Ok tt
goals_test it before k (l ∷ ls) = do
  _ ← check (is_dead_pair it l && not (is_on_path before l)) (place.Goal k, reason.Goal)
  goals_test it (before ++ l ∷ []) (suc k) ls

-- each pair is a goal once
abbrev pub pairs_test : Designed → List Refutation → Result ⊤ (ProofPath × Reason)
pairs_test it gs = do
  _ ← goals_test it [] 0 (literals gs)
  check (all_goals (literals gs) (move_columns it)) (place.Goals, reason.Missing)

-- what is tested behind the lemmas
abbrev pub goals_and_trees_test : Designed → Argument → Result ⊤ (ProofPath × Reason)
goals_and_trees_test it p = do
  _ ← pairs_test it p.goals
  trees_test it p.lemmas [] 0 p.goals

-- what is said of a proof over the flow rows: that it is valid, or its first break
pub data IsVerdict (it : Designed) (rows : List SparseRow) (p : Argument) : Verdict → Type 0 where
  valid : IsProof it rows p → IsVerdict it rows p verdict.Yes
  lemma_breaks : (k : ℕ) (why : Reason) → IsFirstLemmaBreak it rows p.lemmas k why
      → IsVerdict it rows p (verdict.No (place.Lemma k) why)
  goals_break : (at : ProofPath) (why : Reason) → AreLemmas it rows p.lemmas
      → goals_and_trees_test it p ≡ Err (at, why) → IsVerdict it rows p (verdict.No at why)
