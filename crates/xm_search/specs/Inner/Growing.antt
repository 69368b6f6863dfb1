-- A tree that grows: its first steps, and the paths of the open leaves behind them.
use Rattle.std.specs.Prelude.{◌≡◌, ℕ, ◌+◌, ◌≤◌, List, [], ◌∷◌, ◌++◌, All, length, map}
use Rattle.xm_design.specs.Designed.{Designed}
use Rattle.xm_flow.specs.ValidLemma.{Lemma}
use Rattle.xm_lits.specs.declared.literal.Lit.{Lit}
use Rattle.xm_lits.specs.Inference.{inference_of}
use Rattle.xm_model.specs.ListView.{ListView}
use Rattle.xm_proof.specs.Argument.{Step, step_of}
use Rattle.xm_proof.specs.Tests.{longer}
use Rattle.xm_search.specs.Inner.Choosing.{split_by}
use Rattle.xm_search.specs.Inner.Fitting.{FitsStep}
use Rattle.xm_search.specs.Partial.{paths_of}
use Rattle.xm_search.specs.Pivots.{AreWhole, Run, total}
use Rattle.xm_search.specs.Trees.{AreTrees, open_paths, root, step_paths}
use Rattle.xm_search.specs.declared.choosing.Chosen.{Chosen}
use Rattle.xm_search.specs.declared.growth.Growth.{Growth}

-- the paths of a stack, the last first, and then these
abbrev pub stacked : List (ListView Lit) → List (List Lit) → List (List Lit)
stacked [] paths = paths
stacked (p ∷ ps) paths = stacked ps (p.items ∷ paths)

-- the paths of the open leaves, in the order in which they are refuted
abbrev pub pending : Growth → List (List Lit)
pending g = stacked g.leaves.items []

-- the path begins with the goal
abbrev pub BeginsWith : Lit → List Lit → Type 0
BeginsWith goal path = (more : List Lit) × (path ≡ goal ∷ more)

abbrev pub AllBegin : Lit → List (List Lit) → Type 0
AllBegin goal [] = Unit {0}
AllBegin goal (path ∷ paths) = BeginsWith goal path × AllBegin goal paths

-- these steps, and whatever refutes the paths behind them, are a tree for the goal; so many nodes and pivots are paid
pub record IsGrown (it : Designed) (lemmas : List Lemma) (before : List Lit) (goal : Lit) (budget : ℕ)
    (steps : List Step) (paths : List (List Lit)) (nodes pivots : ℕ) : Type 0 where
  pub trees : (rest : List Step) → AreTrees it lemmas before rest paths
      → AreTrees it lemmas before (steps ++ rest) (root goal)
  pub leaves : (rest : List Step) → open_paths it (steps ++ rest) (root goal) ≡ open_paths it rest paths
  pub runs : List Run
  pub ran : (rest : List Step) → step_paths it (steps ++ rest) (root goal) ≡ paths_of runs ++ step_paths it rest paths
  pub whole : AreWhole it lemmas runs
  pub begin : AllBegin goal paths
  pub fits : All FitsStep steps
  pub node_count : nodes ≡ length steps + length paths
  pub pivot_count : pivots ≡ total runs
  pub within : nodes + pivots ≤ budget

abbrev pub steps_of : Growth → List Step
steps_of g = map step_of g.done.items

-- a tree for the goal is under way
abbrev pub IsUnderWay : Designed → List Lemma → List Lit → Lit → ℕ → Growth → Type 0
IsUnderWay it lemmas before goal budget g =
    IsGrown it lemmas before goal budget (steps_of g) (pending g) g.nodes g.pivots

-- the old one with this step, these paths to refute before those of the old, and so many nodes and pivots more
pub record Grows (old : Growth) (step : Step) (more : List (List Lit)) (nodes pivots : ℕ) (new : Growth) : Type 0 where
  pub steps : steps_of new ≡ steps_of old ++ step ∷ []
  pub paths : pending new ≡ more ++ pending old
  pub node_count : new.nodes ≡ old.nodes + nodes
  pub pivot_count : new.pivots ≡ old.pivots + pivots

-- the path is split by the rule
abbrev pub Splits : Growth → List Lit → Chosen → Growth → Type 0
Splits old path c new =
    Grows old (split_by c) (longer path (inference_of c.rule).alternatives) (length c.rule.alternatives.items) 0 new
