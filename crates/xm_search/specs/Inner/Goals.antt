-- What is found for one goal.
use Rattle.std.specs.Prelude.{◌≡◌, ℕ, suc, ◌+◌, ◌<◌, ◌≤◌, List, [], ◌∷◌, ◌++◌, All, length, map}
use Rattle.xm_design.specs.Designed.{Designed}
use Rattle.xm_flow.specs.ValidLemma.{Lemma}
use Rattle.xm_lits.specs.declared.literal.Lit.{Lit}
use Rattle.xm_proof.specs.Argument.{Open, Refutation, step_of}
use Rattle.xm_proof.specs.declared.proof.Node.{Node}
use Rattle.xm_search.specs.Candidate.{IsCandidate}
use Rattle.xm_search.specs.Inner.Fitting.{FitsStep}
use Rattle.xm_search.specs.Inner.Growing.{BeginsWith, IsUnderWay, Splits, steps_of}
use Rattle.xm_search.specs.Partial.{IsAtWork, IsPaidTree}
use Rattle.xm_search.specs.Pivots.{OverflowsOn}
use Rattle.xm_search.specs.Trees.{HoldsGoal}
use Rattle.xm_search.specs.declared.choosing.Chosen.{Chosen}
use Rattle.xm_search.specs.declared.found.SearchFault.{SearchFault}
use Rattle.xm_search.specs.declared.found.SearchFault.TheVariants as fault
use Rattle.xm_search.specs.declared.goal.GoalFound.{GoalFound}
use Rattle.xm_search.specs.declared.goal.GoalFound.TheVariants as found
use Rattle.xm_search.specs.declared.goal.Turned.{Turned}
use Rattle.xm_search.specs.declared.goal.Turned.TheVariants as turned
use Rattle.xm_search.specs.declared.growth.Growth.{Growth}
use Rattle.xm_search.specs.declared.look.Look.{Look}
use Rattle.xm_search.specs.declared.look.Look.TheVariants as look

abbrev pub tree_for : Lit → List Node → Refutation
tree_for goal nodes = record { lit = goal; steps = map step_of nodes }

-- a tree for the goal; or a candidate, which no earlier goal is on; or a tree at work in as much as the budget allows;
-- a tree's numbers are within bounds
abbrev pub IsGoalFound : Designed → List Lemma → List Lit → Lit → ℕ → GoalFound → Type 0
IsGoalFound it lemmas before goal budget (found.Tree tree nodes pivots) =
    IsPaidTree it lemmas before (tree_for goal tree.items) nodes pivots × (nodes + pivots ≤ budget)
    × All FitsStep (map step_of tree.items)
IsGoalFound it lemmas before goal budget (found.Open c) =
    (c.goal ≡ goal) × IsCandidate it lemmas goal c.lits.items c.denominator c.counts.items
    × (HoldsGoal before c.lits.items → ⊥)
IsGoalFound it lemmas before goal budget (found.Spent tree nodes pivots) =
    IsAtWork it lemmas before (tree_for goal tree.items) nodes pivots × (nodes + pivots ≡ budget)
    × All FitsStep (map step_of tree.items)

-- one step more, or something is found
abbrev pub IsTurned : Designed → List Lemma → List Lit → Lit → ℕ → ℕ → Turned → Type 0
IsTurned it lemmas before goal budget n (turned.On g) =
    IsUnderWay it lemmas before goal budget g × (length g.done.items ≡ suc n)
IsTurned it lemmas before goal budget n (turned.Found f) = IsGoalFound it lemmas before goal budget f

-- the tableau leaves 128 bits on a path that the goal begins
abbrev pub IsFaultOn : Designed → List Lemma → Lit → SearchFault → Type 0
IsFaultOn it lemmas goal (fault.Overflow path pivots) =
    BeginsWith goal path.items × ((left : ℕ) × OverflowsOn it lemmas path.items left pivots)
IsFaultOn it lemmas goal fault.OutOfMemory = Unit {0}

-- the old tree with open leaves, in so many nodes and pivots more
abbrev pub StopsAs : Growth → ℕ → ℕ → GoalFound → Type 0
StopsAs old nodes pivots (found.Spent tree n p) =
    (map step_of tree.items ≡ (steps_of old ++ Open ∷ []) ++ map (λ _. Open) old.leaves.items)
    × (n ≡ old.nodes + nodes) × (p ≡ old.pivots + pivots)
StopsAs old nodes pivots _ = ⊥

-- the path is split, or the rule has more alternatives than are left
abbrev pub SplitsOrStops : Growth → List Lit → Chosen → ℕ → Turned → Type 0
SplitsOrStops old path c left (turned.On new) = Splits old path c new × (length c.rule.alternatives.items ≤ left)
SplitsOrStops old path c left (turned.Found f) = StopsAs old left 0 f × (left < length c.rule.alternatives.items)

-- the pivots that are made are no more than were left
abbrev pub IsWithin : ℕ → Look → Type 0
IsWithin left (look.Ends node pivots) = pivots ≤ left
IsWithin left _ = Unit {0}
