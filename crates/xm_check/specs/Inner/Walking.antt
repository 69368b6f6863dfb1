-- The paths that a walk over the steps of a goal has left.
use Rattle.std.specs.Prelude.{ℕ, ◌≤◌, Result, Ok, List, [], ◌∷◌, ◌++◌, length, reverse, take}
use Rattle.xm_check.specs.Break.{step_test}
use Rattle.xm_check.specs.declared.trees.Left.{Left}
use Rattle.xm_check.specs.declared.trees.Walk.{Walk}
use Rattle.xm_design.specs.Designed.{Designed}
use Rattle.xm_flow.specs.ValidLemma.{Lemma}
use Rattle.xm_lits.specs.declared.literal.Lit.{Lit}
use Rattle.xm_model.specs.Steps.{◌>>=◌}
use Rattle.xm_proof.specs.Argument.{Step}
use Rattle.xm_proof.specs.declared.verdict.Reason.{Reason}

-- the paths that are left, the next one first
abbrev pub paths_of : List Lit → List Left → List (List Lit)
paths_of path [] = []
paths_of path (l ∷ ls) = (take l.base path ++ l.lits.items) ∷ paths_of path ls

-- each begins with no more of the path at hand than the one before it
abbrev pub AreNested : ℕ → List Left → Type 0
AreNested n [] = Unit {0}
AreNested n (l ∷ ls) = (l.base ≤ n) × AreNested l.base ls

abbrev pub IsWalking : Walk → Type 0
IsWalking w = AreNested (length w.path.items) (reverse w.left.items)

-- a step on the first of the paths, and the paths that are left then
abbrev pub next_test : Designed → List Lemma → List Lit → Step → List (List Lit) → Result (List (List Lit)) Reason
next_test it lemmas before step [] = Ok []
next_test it lemmas before step (path ∷ paths) = do
  more ← step_test it lemmas before path step
  Ok (more ++ paths)
