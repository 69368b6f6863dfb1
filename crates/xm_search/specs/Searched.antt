-- What a search finds: a proof, a goal without a tree, or that the budget is spent.
use Rattle.std.specs.Prelude.{◌≡◌, ℕ, ◌+◌, ◌≤◌, List, [], ◌∷◌, Some, ℤ, All, length, slice_get, take}
use Rattle.xm_design.specs.Designed.{Designed}
use Rattle.xm_flow.specs.ValidLemma.{Lemma}
use Rattle.xm_lits.specs.declared.literal.Lit.{Lit}
use Rattle.xm_model.specs.Membership.{IsIn}
use Rattle.xm_proof.specs.Argument.{Argument, Refutation, argument_of, literals}
use Rattle.xm_proof.specs.Form.{IsFormed}
use Rattle.xm_proof.specs.OfNet.{IsGoalOf}
use Rattle.xm_proof.specs.Valid.{AreLemmas, GoalsRefuted, IsProof}
use Rattle.xm_rows.specs.Row.{SparseRow}
use Rattle.xm_search.specs.Candidate.{IsCandidate}
use Rattle.xm_search.specs.GoalOrder.{IsGoalOrder}
use Rattle.xm_search.specs.Partial.{AreFinished, IsPartial}
use Rattle.xm_search.specs.Pivots.{OverflowsOn}
use Rattle.xm_search.specs.declared.found.Found.{Found}
use Rattle.xm_search.specs.declared.found.Found.TheVariants as found
use Rattle.xm_search.specs.declared.found.SearchFault.{SearchFault}
use Rattle.xm_search.specs.declared.found.SearchFault.TheVariants as fault

-- a proof that cites these lemmas, in the form that is read, of what is of the net
pub record IsOfForm (it : Designed) (lemmas : List Lemma) (p : Argument) : Type 0 where
  pub cites : p.lemmas ≡ lemmas
  pub formed : IsFormed p
  pub goals : All (IsGoalOf it.net) p.goals

-- trees for all goals, in at most so many nodes and pivots as the budget allows
pub record IsWithinBudget (it : Designed) (lemmas : List Lemma) (budget : ℕ) (gs : List Refutation) : Type 0 where
  pub nodes : ℕ
  pub pivots : ℕ
  pub finished : AreFinished it lemmas gs nodes pivots
  pub within : nodes + pivots ≤ budget

-- the goals in order, each refuted, within the budget; where the lemmas follow from flow rows, a valid proof
pub record IsFull (it : Designed) (lemmas : List Lemma) (budget : ℕ) (p : Argument) : Type 0 where
  pub form : IsOfForm it lemmas p
  pub order : IsGoalOrder it (literals p.goals)
  pub paid : IsWithinBudget it lemmas budget p.goals
  pub proof : (rows : List SparseRow) → AreLemmas it rows lemmas → IsProof it rows p

-- a goal that has a candidate; each before it in the order is refuted
pub record IsOpen (it : Designed) (lemmas : List Lemma) (goal : Lit) (lits : List Lit) (denominator : ℤ)
    (counts : List ℤ) : Type 0 where
  pub order : List Lit
  pub is_order : IsGoalOrder it order
  pub before : List Refutation
  pub first : literals before ≡ take (length before) order
  pub next : slice_get order (length before) ≡ Some goal
  pub refuted : GoalsRefuted it lemmas [] before
  pub candidate : IsCandidate it lemmas goal lits denominator counts

-- a partial proof in exactly so many nodes and pivots as the budget allows
pub record IsSpent (it : Designed) (lemmas : List Lemma) (budget : ℕ) (p : Argument) (nodes pivots : ℕ) : Type 0 where
  pub form : IsOfForm it lemmas p
  pub order : List Lit
  pub is_order : IsGoalOrder it order
  pub partial : IsPartial it lemmas order p.goals nodes pivots
  pub spent : nodes + pivots ≡ budget

abbrev pub IsFound : Designed → List Lemma → ℕ → Found → Type 0
IsFound it lemmas budget (found.Proved p) = IsFull it lemmas budget (argument_of p)
IsFound it lemmas budget (found.Open c) = IsOpen it lemmas c.goal c.lits.items c.denominator c.counts.items
IsFound it lemmas budget (found.Spent partial nodes pivots) =
    IsSpent it lemmas budget (argument_of partial) nodes pivots

-- on this path, which a goal begins, the tableau leaves 128 bits after so many pivots
pub record IsOverflow (it : Designed) (lemmas : List Lemma) (path : List Lit) (pivots : ℕ) : Type 0 where
  pub order : List Lit
  pub is_order : IsGoalOrder it order
  pub goal : Lit
  pub is_goal : IsIn order goal
  pub later : List Lit
  pub path_is : path ≡ goal ∷ later
  pub left : ℕ
  pub overflows : OverflowsOn it lemmas path left pivots

-- why nothing is found; want of memory says nothing
abbrev pub IsFault : Designed → List Lemma → SearchFault → Type 0
IsFault it lemmas (fault.Overflow path pivots) = IsOverflow it lemmas path.items pivots
IsFault it lemmas fault.OutOfMemory = Unit {0}
