-- Trees of refutations, with leaves that may be open.
use Rattle.std.specs.Prelude.{◌≡◌, ℕ, List, [], ◌∷◌, ◌++◌, Option, Some, None, Bool, true, false, ◌||◌}
use Rattle.xm_design.specs.Designed.{Designed}
use Rattle.xm_flow.specs.ValidLemma.{Lemma}
use Rattle.xm_lits.specs.Clashes.{IsClash}
use Rattle.xm_lits.specs.Inference.{Inference, rules_of}
use Rattle.xm_lits.specs.Paths.{are_on_path}
use Rattle.xm_lits.specs.declared.inference.RuleName.{RuleName}
use Rattle.xm_lits.specs.declared.literal.Lit.{Lit}
use Rattle.xm_proof.specs.Argument.{Open, Refutation, Split, Step}
use Rattle.xm_proof.specs.Tests.{find_rule, longer}
use Rattle.xm_proof.specs.Valid.{Cites, Refutes}

-- the paths that are left by each alternative of a rule
abbrev pub left_by : List Lit → Option Inference → List (List Lit)
left_by path None = []
left_by path (Some rule) = longer path rule.alternatives

-- the paths that a step on this path leaves
abbrev pub kids : Designed → List Lit → Step → List (List Lit)
kids it path (Split name on via count) = left_by path (find_rule (rules_of it on) name via)
kids it path _ = []

-- of steps in preorder, on these paths one after another, the path of each
abbrev pub step_paths : Designed → List Step → List (List Lit) → List (List Lit)
step_paths it [] paths = []
step_paths it (step ∷ steps) [] = []
step_paths it (step ∷ steps) (path ∷ paths) = path ∷ step_paths it steps (kids it path step ++ paths)

-- the path, where the step is open
abbrev pub open_at : List Lit → Step → List (List Lit)
open_at path Open = path ∷ []
open_at path _ = []

-- the paths of the open ones
abbrev pub open_paths : Designed → List Step → List (List Lit) → List (List Lit)
open_paths it [] paths = []
open_paths it (step ∷ steps) [] = []
open_paths it (step ∷ steps) (path ∷ paths) = open_at path step ++ open_paths it steps (kids it path step ++ paths)

-- some alternative is wholly on the path
abbrev pub has_alternative : List Lit → List (List Lit) → Bool
has_alternative path [] = false
has_alternative path (a ∷ others) = are_on_path path a || has_alternative path others

-- the path holds a clash; it holds the goal of an earlier place
abbrev pub HoldsClash : Designed → List Lit → Type 0
HoldsClash it path = (ls : List Lit) × (IsClash it ls × (are_on_path path ls ≡ true))

abbrev pub HoldsGoal : List Lit → List Lit → Type 0
HoldsGoal before path = (place : ℕ) × Cites before path place

-- a split by this rule says something new, on a path that nothing refutes yet
pub record IsUseful (it : Designed) (before path : List Lit) (name : RuleName) (on : Lit) (via : Option ℕ) : Type 0 where
  pub fresh : (rule : Inference) → find_rule (rules_of it on) name via ≡ Some rule
      → has_alternative path rule.alternatives ≡ false
  pub no_clash : HoldsClash it path → ⊥
  pub no_goal : HoldsGoal before path → ⊥

-- the step is open, or refutes the path once what it leaves is refuted, and is useful where it is a split
abbrev pub IsStep : Designed → List Lemma → List Lit → List Lit → Step → Type 0
IsStep it lemmas before path Open = Unit {0}
IsStep it lemmas before path (Split name on via count) =
    Refutes it lemmas before path (Split name on via count) (kids it path (Split name on via count))
    × IsUseful it before path name on via
IsStep it lemmas before path step = Refutes it lemmas before path step []

-- the steps are such, on these paths one after another
abbrev pub AreTrees : Designed → List Lemma → List Lit → List Step → List (List Lit) → Type 0
AreTrees it lemmas before [] [] = Unit {0}
AreTrees it lemmas before [] (path ∷ paths) = ⊥
AreTrees it lemmas before (step ∷ steps) [] = ⊥
AreTrees it lemmas before (step ∷ steps) (path ∷ paths) =
    IsStep it lemmas before path step × AreTrees it lemmas before steps (kids it path step ++ paths)

abbrev pub root : Lit → List (List Lit)
root goal = (goal ∷ []) ∷ []

-- a tree for the goal, with the goals before it to cite; one with a leaf that is open
pub record IsTree (it : Designed) (lemmas : List Lemma) (before : List Lit) (g : Refutation) : Type 0 where
  pub tree : AreTrees it lemmas before g.steps (root g.lit)
  pub closed : open_paths it g.steps (root g.lit) ≡ []

pub record IsOpenTree (it : Designed) (lemmas : List Lemma) (before : List Lit) (g : Refutation) : Type 0 where
  pub tree : AreTrees it lemmas before g.steps (root g.lit)
  pub opens : open_paths it g.steps (root g.lit) ≡ [] → ⊥
