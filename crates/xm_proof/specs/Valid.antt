-- Valid proofs.
use Rattle.std.specs.Prelude.{◌≡◌, ℕ, List, [], ◌∷◌, ◌++◌, Option, Some, None, Bool, true, false, ◌&&◌, nat_lt}
use Rattle.std.specs.Prelude.{length, slice_get, ℤ, pos, ◌≤ℤ◌}
use Rattle.xm_colours.specs.Family.{colours_at}
use Rattle.xm_design.specs.Designed.{Designed}
use Rattle.xm_flow.specs.Holding.{pair_count, queue_pair_count}
use Rattle.xm_flow.specs.ValidLemma.{IsValid, Lemma, TestFits}
use Rattle.xm_lits.specs.Clashes.{is_offered, are_opposed, is_outside}
use Rattle.xm_lits.specs.Inference.{Inference, has_colour, idle_all, rules_of}
use Rattle.xm_lits.specs.declared.inference.RuleName.{RuleName}
use Rattle.xm_lits.specs.declared.literal.Lit.{Lit}
use Rattle.xm_lits.specs.declared.literal.Lit.TheVariants.{Dead, Full, Has, Lacks}
use Rattle.xm_proof.specs.Argument.{Argument, Cite, Clash, Eager, Open, Refutation, Split, Step, Sum, literals}
use Rattle.xm_proof.specs.Sums.{Sums, add_row, all_zero, is_natural, no_sums}
use Rattle.xm_lits.specs.Paths.{are_on_path, is_on_path}
use Rattle.xm_proof.specs.Tests.{capacity_row, find_rule, is_queue, is_queue_pair, literal_row, longer, low_row}
use Rattle.xm_proof.specs.Tests.{move_columns, only_where, queue_columns}
use Rattle.xm_proof.specs.declared.proof.Item.{Item}
use Rattle.xm_proof.specs.declared.proof.Item.TheVariants as item
use Rattle.xm_rows.specs.Row.{SparseRow}

-- the lemma follows from the flow rows, and the test that it does stays within 128 bits
pub record IsLemma (it : Designed) (rows : List SparseRow) (l : Lemma) : Type 0 where
  pub valid : IsValid (pair_count it) (queue_pair_count it) rows l
  pub fits : TestFits rows l

abbrev pub AreLemmas : Designed → List SparseRow → List Lemma → Type 0
AreLemmas it rows [] = Unit {0}
AreLemmas it rows (l ∷ ls) = IsLemma it rows l × AreLemmas it rows ls

-- how often an item is taken; a lemma may be taken a negative number of times
abbrev pub multiplier : Item → ℤ
multiplier (item.Lemma k m) = m
multiplier (item.Cap q m) = m
multiplier (item.Low q d m) = m
multiplier (item.Path l m) = m

abbrev pub has_sign : Item → Bool
has_sign (item.Lemma _ _) = true
has_sign i = is_natural (multiplier i)

abbrev pub lemma_row : Option Lemma → Option SparseRow
lemma_row None = None
lemma_row (Some l) = Some l.row

-- whether a literal's number is that of a queue
abbrev pub of_a_queue : Designed → Lit → Bool
of_a_queue it (Full q) = is_queue (slice_get it.net.prims q)
of_a_queue it (Has q d) = is_queue (slice_get it.net.prims q)
of_a_queue it (Lacks q d) = is_queue (slice_get it.net.prims q)
of_a_queue it _ = false

-- the row of an item, where there is such a lemma, queue, queue pair or literal of queues on the path
abbrev pub item_row : Designed → List Lemma → List Lit → Item → Option SparseRow
item_row it lemmas path (item.Lemma k m) = lemma_row (slice_get lemmas k)
item_row it lemmas path (item.Cap q m) = only_where (is_queue (slice_get it.net.prims q)) (Some (capacity_row it q))
item_row it lemmas path (item.Low q d m) =
    only_where (is_queue_pair (colours_at it.colours) d (slice_get it.net.prims q)) (Some (low_row it q d))
item_row it lemmas path (item.Path l m) = only_where (is_on_path path l && of_a_queue it l) (literal_row it l)

-- the items, each so often as it is taken, make these sums
abbrev pub AddUp : Designed → List Lemma → List Lit → List Item → Sums → Sums → Type 0
AddUp it lemmas path [] before after = before ≡ after
AddUp it lemmas path (i ∷ is) before after =
    (row : SparseRow) × ((item_row it lemmas path i ≡ Some row) × ((has_sign i ≡ true) × ((sums : Sums)
    × ((add_row (multiplier i) row before ≡ Some sums) × AddUp it lemmas path is sums after))))

-- the items add up to `0 at least r` with r at least 1
pub record Closes (it : Designed) (lemmas : List Lemma) (path : List Lit) (items : List Item) : Type 0 where
  pub sums : Sums
  pub add_up : AddUp it lemmas path items (no_sums (length (queue_columns it))) sums
  pub nothing_left : all_zero sums.columns ≡ true
  pub large : pos 1 ≤ℤ sums.constant

-- the literals are on the path and make one of the first three clashes
abbrev pub Clashes : Designed → List Lit → Lit → Option Lit → Type 0
Clashes it path l None = (is_on_path path l ≡ true) × (is_outside it l ≡ true)
Clashes it path l (Some m) = (is_on_path path l ≡ true) × ((is_on_path path m ≡ true) × (are_opposed l m ≡ true))

-- a rule of a literal of the path, and what is left to refute by its alternatives
pub record Splits (it : Designed) (path : List Lit) (name : RuleName) (on : Lit) (via : Option ℕ) (kids : ℕ)
    (paths : List (List Lit)) : Type 0 where
  pub here : is_on_path path on ≡ true
  pub rule : Inference
  pub found : find_rule (rules_of it on) name via ≡ Some rule
  pub whole : length rule.alternatives ≡ kids
  pub left : longer path rule.alternatives ≡ paths

-- an earlier goal whose literal is on the path
pub record Cites (before : List Lit) (path : List Lit) (place : ℕ) : Type 0 where
  pub goal : Lit
  pub earlier : slice_get before place ≡ Some goal
  pub here : is_on_path path goal ≡ true

-- the step refutes the path, once these paths are refuted
abbrev pub Refutes : Designed → List Lemma → List Lit → List Lit → Step → List (List Lit) → Type 0
Refutes it lemmas before path (Split name on via kids) paths = Splits it path name on via kids paths
Refutes it lemmas before path (Clash l other) paths = Clashes it path l other × (paths ≡ [])
Refutes it lemmas before path (Eager c) paths =
    (are_on_path path (idle_all (colours_at it.colours) c) ≡ true) × ((is_offered it c ≡ true) × (paths ≡ []))
Refutes it lemmas before path (Sum items) paths = Closes it lemmas path items × (paths ≡ [])
Refutes it lemmas before path (Cite place) paths = Cites before path place × (paths ≡ [])
Refutes it lemmas before path Open paths = ⊥

-- the steps, in preorder, refute these paths one after another
abbrev pub AllRefuted : Designed → List Lemma → List Lit → List Step → List (List Lit) → Type 0
AllRefuted it lemmas before [] [] = Unit {0}
AllRefuted it lemmas before [] (path ∷ paths) = ⊥
AllRefuted it lemmas before (step ∷ steps) [] = ⊥
AllRefuted it lemmas before (step ∷ steps) (path ∷ paths) = (more : List (List Lit))
    × (Refutes it lemmas before path step more × AllRefuted it lemmas before steps (more ++ paths))

-- each goal is refuted with the help of those before it
abbrev pub GoalsRefuted : Designed → List Lemma → List Lit → List Refutation → Type 0
GoalsRefuted it lemmas before [] = Unit {0}
GoalsRefuted it lemmas before (g ∷ gs) =
    AllRefuted it lemmas before g.steps ((g.lit ∷ []) ∷ []) × GoalsRefuted it lemmas (before ++ g.lit ∷ []) gs

-- it says that a pair is dead
abbrev pub is_dead_pair : Designed → Lit → Bool
is_dead_pair it (Dead c d) = nat_lt c it.net.channels && has_colour (colours_at it.colours c) d
is_dead_pair it _ = false

-- they are distinct, and each says that a pair is dead
abbrev pub AreGoals : Designed → List Lit → List Lit → Type 0
AreGoals it before [] = Unit {0}
AreGoals it before (l ∷ ls) =
    (is_dead_pair it l ≡ true) × ((is_on_path before l ≡ false) × AreGoals it (before ++ l ∷ []) ls)

-- every pair is a goal
abbrev pub all_goals : List Lit → List (ℕ × ℕ) → Bool
all_goals ls [] = true
all_goals ls (pair ∷ rest) = is_on_path ls (Dead pair.0 pair.1) && all_goals ls rest

-- over the design's flow rows lemmas are valid, each pair is a goal once, and each goal is refuted
pub record IsProof (it : Designed) (rows : List SparseRow) (p : Argument) : Type 0 where
  pub lemmas : AreLemmas it rows p.lemmas
  pub goals : AreGoals it [] (literals p.goals)
  pub complete : all_goals (literals p.goals) (move_columns it) ≡ true
  pub refuted : GoalsRefuted it p.lemmas [] p.goals
