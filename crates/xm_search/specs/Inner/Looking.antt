-- What is seen on a path.
use Rattle.std.specs.Prelude.{◌≡◌, ℕ, ◌≤◌, List, [], ◌∷◌, Bool, ◌||◌, false, length, ℤ}
use Rattle.xm_design.specs.Designed.{Designed}
use Rattle.xm_flow.specs.ValidLemma.{Lemma}
use Rattle.xm_lits.specs.Clashes.{IsClash}
use Rattle.xm_lits.specs.Paths.{are_on_path, is_on_path}
use Rattle.xm_lits.specs.declared.literal.Lit.{Lit}
use Rattle.xm_lp.specs.Right.{MeetsAll}
use Rattle.xm_proof.specs.Argument.{Step, step_of}
use Rattle.xm_proof.specs.Tests.{queue_columns}
use Rattle.xm_search.specs.Constraints.{constraints}
use Rattle.xm_search.specs.Inner.Choosing.{AllAnswered, IsChoice}
use Rattle.xm_search.specs.Inner.Fitting.{FitsStep}
use Rattle.xm_search.specs.Partial.{IsUndecided}
use Rattle.xm_search.specs.Pivots.{IsWholeRun, NeedsPivot, OverflowsOn}
use Rattle.xm_search.specs.Trees.{HoldsGoal, IsStep, kids, open_at}
use Rattle.xm_search.specs.declared.look.Look.{Look}
use Rattle.xm_search.specs.declared.look.Look.TheVariants as look

-- no clash is on the path
abbrev pub IsConsistent : Designed → List Lit → Type 0
IsConsistent it path = (ls : List Lit) → IsClash it ls → are_on_path path ls ≡ false

-- some of these goals is on the path
abbrev pub any_goal : List Lit → List Lit → Bool
any_goal path [] = false
any_goal path (g ∷ gs) = is_on_path path g || any_goal path gs

-- the step ends the path, and its numbers are within bounds
pub record EndsPath (it : Designed) (lemmas : List Lemma) (before path : List Lit) (step : Step) : Type 0 where
  pub is : IsStep it lemmas before path step
  pub last : kids it path step ≡ []
  pub shut : open_at path step ≡ []
  pub fits : FitsStep step

-- all but the goal that makes the path a candidate
pub record IsPoint (it : Designed) (lemmas : List Lemma) (before path : List Lit) (denominator : ℤ) (counts : List ℤ) :
    Type 0 where
  pub consistent : IsConsistent it path
  pub no_goal : HoldsGoal before path → ⊥
  pub answered : AllAnswered it path
  pub met : MeetsAll (constraints it lemmas path) (length (queue_columns it)) denominator counts

-- nothing ends the path, and a pivot more is needed than are left
pub record IsCut (it : Designed) (lemmas : List Lemma) (before path : List Lit) (left : ℕ) : Type 0 where
  pub undecided : IsUndecided it before path
  pub needed : NeedsPivot it lemmas path left

abbrev pub IsSeen : Designed → List Lemma → List Lit → List Lit → ℕ → Look → Type 0
IsSeen it lemmas before path left (look.Ends node pivots) =
    EndsPath it lemmas before path (step_of node) × IsWholeRun it lemmas path pivots × (pivots ≤ left)
IsSeen it lemmas before path left (look.Splits chosen) = IsUndecided it before path × IsChoice it path chosen
IsSeen it lemmas before path left (look.Point denominator counts) =
    IsPoint it lemmas before path denominator counts.items
IsSeen it lemmas before path left look.Spent = IsCut it lemmas before path left
IsSeen it lemmas before path left (look.Overflow pivots) = OverflowsOn it lemmas path left pivots
