-- How far the search of all goals has come.
use Rattle.std.specs.Prelude.{◌≡◌, ℕ, ◌+◌, ◌<◌, ◌≤◌, ◌^◌, List, [], ◌∷◌, ◌++◌, All, map, take}
use Rattle.xm_design.specs.Designed.{Designed}
use Rattle.xm_flow.specs.ValidLemma.{Lemma}
use Rattle.xm_lits.specs.declared.literal.Lit.{Lit}
use Rattle.xm_proof.specs.Argument.{Refutation, literals, refutation_of}
use Rattle.xm_proof.specs.declared.proof.Node.{Node}
use Rattle.xm_search.specs.Inner.Fitting.{FitsStep}
use Rattle.xm_search.specs.Inner.Goals.{tree_for}
use Rattle.xm_search.specs.Partial.{AreFinished, IsPartial}
use Rattle.xm_search.specs.Searched.{IsOpen}
use Rattle.xm_search.specs.declared.goal.GoalFound.{GoalFound}
use Rattle.xm_search.specs.declared.goal.GoalFound.TheVariants as found
use Rattle.xm_search.specs.declared.searching.Next.{Next}
use Rattle.xm_search.specs.declared.searching.Next.TheVariants as next
use Rattle.xm_search.specs.declared.searching.Progress.{Progress}

abbrev pub refutations : Progress → List Refutation
refutations g = map refutation_of g.goals.items

-- the numbers of all trees are within bounds
abbrev pub FitsTrees : List Refutation → Type 0
FitsTrees gs = All (λ g. All FitsStep g.steps) gs

-- the goals below this place are refuted
pub record IsProgress (it : Designed) (lemmas : List Lemma) (order : List Lit) (budget place : ℕ) (g : Progress) :
    Type 0 where
  pub finished : AreFinished it lemmas (refutations g) g.nodes g.pivots
  pub first : literals (refutations g) ≡ take place order
  pub within : g.nodes + g.pivots ≤ budget
  pub fits : FitsTrees (refutations g)

-- the old one with a tree for one more goal
pub record Adds (old : Progress) (lit : Lit) (tree : List Node) (nodes pivots : ℕ) (new : Progress) : Type 0 where
  pub goals : refutations new ≡ refutations old ++ tree_for lit tree ∷ []
  pub node_count : new.nodes ≡ old.nodes + nodes
  pub pivot_count : new.pivots ≡ old.pivots + pivots

-- numbers within 64 bits
abbrev pub FitsFound : Progress → GoalFound → Type 0
FitsFound old (found.Tree tree nodes pivots) = (old.nodes + nodes < 2 ^ 64) × (old.pivots + pivots < 2 ^ 64)
FitsFound old (found.Open c) = Unit {0}
FitsFound old (found.Spent tree nodes pivots) = (old.nodes + nodes < 2 ^ 64) × (old.pivots + pivots < 2 ^ 64)

-- what is found, beside the old goals
abbrev pub TakesIn : Progress → Lit → GoalFound → Next → Type 0
TakesIn old lit (found.Tree tree nodes pivots) (next.On new) = Adds old lit tree.items nodes pivots new
TakesIn old lit (found.Open c) (next.Open d) = c ≡ d
TakesIn old lit (found.Spent tree nodes pivots) (next.Spent new) = Adds old lit tree.items nodes pivots new
TakesIn old lit _ _ = ⊥

-- a partial proof in as much as the budget allows
pub record IsHalted (it : Designed) (lemmas : List Lemma) (order : List Lit) (budget : ℕ) (g : Progress) : Type 0 where
  pub partial : IsPartial it lemmas order (refutations g) g.nodes g.pivots
  pub spent : g.nodes + g.pivots ≡ budget
  pub fits : FitsTrees (refutations g)

abbrev pub IsNext : Designed → List Lemma → List Lit → ℕ → ℕ → Next → Type 0
IsNext it lemmas order budget place (next.On g) = IsProgress it lemmas order budget (place + 1) g
IsNext it lemmas order budget place (next.Open c) = IsOpen it lemmas c.goal c.lits.items c.denominator c.counts.items
IsNext it lemmas order budget place (next.Spent g) = IsHalted it lemmas order budget g
