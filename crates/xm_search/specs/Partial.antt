-- Partial proofs: what is there where the budget is spent.
use Rattle.std.specs.Prelude.{◌≡◌, ℕ, suc, ◌+◌, ◌<◌, List, [], ◌∷◌, ◌++◌, false, length, map, take, true}
use Rattle.xm_design.specs.Designed.{Designed}
use Rattle.xm_flow.specs.ValidLemma.{Lemma}
use Rattle.xm_lits.specs.Inference.{Inference, rules_of}
use Rattle.xm_lits.specs.Paths.{is_on_path}
use Rattle.xm_lits.specs.declared.literal.Lit.{Lit}
use Rattle.xm_model.specs.Membership.{IsIn}
use Rattle.xm_proof.specs.Argument.{Open, Refutation, Step, literals}
use Rattle.xm_search.specs.Pivots.{AreRuns, AreWhole, NeedsPivot, Run, total}
use Rattle.xm_search.specs.Trees.{HoldsClash, HoldsGoal, IsOpenTree, IsTree, has_alternative, open_paths, root}
use Rattle.xm_search.specs.Trees.{step_paths}

abbrev pub paths_of : List Run → List (List Lit)
paths_of runs = map (λ (r : Run). r.path) runs

-- a tree for the goal, in so many nodes and pivots
pub record IsPaidTree (it : Designed) (lemmas : List Lemma) (before : List Lit) (g : Refutation) (nodes pivots : ℕ) :
    Type 0 where
  pub tree : IsTree it lemmas before g
  pub node_count : nodes ≡ length g.steps
  pub runs : List Run
  pub paths : paths_of runs ≡ step_paths it g.steps (root g.lit)
  pub whole : AreWhole it lemmas runs
  pub pivot_count : pivots ≡ total runs

-- trees for the goals, each with those before it to cite, in so many nodes and pivots in all
pub data AreFinished (it : Designed) (lemmas : List Lemma) : List Refutation → ℕ → ℕ → Type 0 where
  none : AreFinished it lemmas [] 0 0
  one_more : (gs : List Refutation) (g : Refutation) (n m p r : ℕ) → AreFinished it lemmas gs n p
      → IsPaidTree it lemmas (literals gs) g m r → AreFinished it lemmas (gs ++ g ∷ []) (n + m) (p + r)

-- nothing refutes the path at once: no clash, no earlier goal, and no rule without alternatives
pub record IsUndecided (it : Designed) (before path : List Lit) : Type 0 where
  pub no_clash : HoldsClash it path → ⊥
  pub no_goal : HoldsGoal before path → ⊥
  pub no_end : (l : Lit) (rule : Inference) → is_on_path path l ≡ true → IsIn (rules_of it l) rule
      → rule.alternatives ≡ [] → ⊥

-- a rule of a literal of the path has no alternative wholly on it
pub record NeedsSplit (it : Designed) (path : List Lit) (rule : Inference) : Type 0 where
  pub on : Lit
  pub here : is_on_path path on ≡ true
  pub of : IsIn (rules_of it on) rule
  pub fresh : has_alternative path rule.alternatives ≡ false

-- the nodes that are paid of a tree: all; all but the root, where that is open and not the first; or also some kids, but
-- not all, of a split at an open leaf
pub data ArePaid (it : Designed) (before : List Lit) (steps : List Step) (leaves : List (List Lit)) : ℕ → Type 0 where
  all_nodes : ArePaid it before steps leaves (length steps)
  no_root : 0 < length before → steps ≡ Open ∷ [] → ArePaid it before steps leaves 0
  some_kids : (more : ℕ) (path : List Lit) (rule : Inference) → IsIn leaves path → NeedsSplit it path rule
      → 0 < more → more < length rule.alternatives → ArePaid it before steps leaves (length steps + more)

-- one more is needed: the root, or a split or a pivot on the path of an open leaf that nothing refutes at once
pub data NeedsOne (it : Designed) (lemmas : List Lemma) (before : List Lit) (steps : List Step)
    (leaves : List (List Lit)) (runs : List Run) (paid : ℕ) : Type 0 where
  for_root : length steps ≡ suc paid → NeedsOne it lemmas before steps leaves runs paid
  for_split : (path : List Lit) (rule : Inference) → IsIn leaves path → IsUndecided it before path
      → NeedsSplit it path rule → NeedsOne it lemmas before steps leaves runs paid
  for_pivot : (r : Run) → IsIn runs r → IsIn leaves r.path → IsUndecided it before r.path
      → NeedsPivot it lemmas r.path r.pivots → NeedsOne it lemmas before steps leaves runs paid

-- a tree with open leaves, in so many nodes and pivots, that needs one more
pub record IsAtWork (it : Designed) (lemmas : List Lemma) (before : List Lit) (g : Refutation) (nodes pivots : ℕ) :
    Type 0 where
  pub tree : IsOpenTree it lemmas before g
  pub runs : List Run
  pub paths : paths_of runs ≡ step_paths it g.steps (root g.lit)
  pub made : AreRuns it lemmas runs
  pub pivot_count : pivots ≡ total runs
  pub paid : ArePaid it before g.steps (open_paths it g.steps (root g.lit)) nodes
  pub needs : NeedsOne it lemmas before g.steps (open_paths it g.steps (root g.lit)) runs nodes

-- the first goals in order: finished ones with their trees, and the one at work
pub record IsPartial (it : Designed) (lemmas : List Lemma) (order : List Lit) (gs : List Refutation)
    (nodes pivots : ℕ) : Type 0 where
  pub finished : List Refutation
  pub last : Refutation
  pub goals : gs ≡ finished ++ last ∷ []
  pub first : literals gs ≡ take (length gs) order
  pub done_nodes : ℕ
  pub done_pivots : ℕ
  pub done : AreFinished it lemmas finished done_nodes done_pivots
  pub more_nodes : ℕ
  pub more_pivots : ℕ
  pub at_work : IsAtWork it lemmas (literals finished) last more_nodes more_pivots
  pub node_count : nodes ≡ done_nodes + more_nodes
  pub pivot_count : pivots ≡ done_pivots + more_pivots
