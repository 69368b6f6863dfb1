-- The form of a proof, which its reader makes sure of before it is checked.
use Rattle.std.specs.Prelude.{◌≡◌, ℕ, zero, suc, ◌+◌, ◌<◌, ◌^◌, List, [], ◌∷◌, Bool, true, false, length, All}
use Rattle.xm_proof.specs.Argument.{Argument, Cite, Clash, Eager, Open, Split, Step, Sum}

-- how many nodes stand right below a step's
abbrev pub kids_of : Step → ℕ
kids_of (Split name on via kids) = kids
kids_of (Clash one other) = 0
kids_of (Eager c) = 0
kids_of (Sum items) = 0
kids_of (Cite place) = 0
kids_of Open = 0

-- the steps are exactly so many trees in preorder, one after another
abbrev pub are_trees : ℕ → List Step → Bool
are_trees zero [] = true
are_trees (suc n) [] = false
are_trees zero (step ∷ steps) = false
are_trees (suc n) (step ∷ steps) = are_trees (kids_of step + n) steps

-- places of lemmas, of goals and of the steps of each have numbers of 32 bits, and the steps of each goal are one tree
pub record IsFormed (p : Argument) : Type 0 where
  pub few_lemmas : length p.lemmas < 2 ^ 32
  pub few_goals : length p.goals < 2 ^ 32
  pub short : All (λ g. length g.steps < 2 ^ 32) p.goals
  pub trees : All (λ g. are_trees 1 g.steps ≡ true) p.goals
