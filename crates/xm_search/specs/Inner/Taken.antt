-- The items of a sum, so often taken as multipliers say, and what the tableau says of named constraints.
use Rattle.std.specs.Prelude.{ℕ, ◌≤◌, List, [], ◌∷◌, cond, ℤ, pos}
use Rattle.std.specs.Ordering.{int_eq}
use Rattle.xm_design.specs.Designed.{Designed}
use Rattle.xm_flow.specs.ValidLemma.{Lemma}
use Rattle.xm_lits.specs.declared.literal.Lit.{Lit}
use Rattle.xm_lp.specs.Pivot.{IsLast}
use Rattle.xm_lp.specs.Right.{MeetsAll}
use Rattle.xm_lp.specs.Rule.{After, Leaves, NeedsMore}
use Rattle.xm_lp.specs.Start.{Tableau, artificials}
use Rattle.xm_lp.specs.declared.decision.Con.{Con}
use Rattle.xm_proof.specs.Valid.{Closes}
use Rattle.xm_proof.specs.declared.proof.Item.{Item}
use Rattle.xm_proof.specs.declared.proof.Item.TheVariants as item
use Rattle.xm_search.specs.declared.ask.Answer.{Answer}
use Rattle.xm_search.specs.declared.ask.Answer.TheVariants as answer

-- the item, taken so often
abbrev pub taken : Item → ℤ → Item
taken (item.Lemma k n) m = item.Lemma k m
taken (item.Cap q n) m = item.Cap q m
taken (item.Low q d n) m = item.Low q d m
taken (item.Path l n) m = item.Path l m

-- those whose multiplier is not 0
abbrev pub all_taken : List Item → List ℤ → List Item
all_taken [] ms = []
all_taken (i ∷ is) [] = []
all_taken (i ∷ is) (m ∷ ms) = cond (int_eq m (pos 0)) (all_taken is ms) (taken i m ∷ all_taken is ms)

-- that the counts of these pairs are at least 0, so often taken
abbrev pub lows_taken : List (ℕ × ℕ) → List ℤ → List Item
lows_taken [] zs = []
lows_taken (p ∷ ps) [] = []
lows_taken (p ∷ ps) (z ∷ zs) = cond (int_eq z (pos 0)) (lows_taken ps zs) (item.Low p.0 p.1 z ∷ lows_taken ps zs)

-- a sum closes the path
abbrev pub ClosesBy : Designed → List Lemma → List Lit → Answer → Type 0
ClosesBy it lemmas path (answer.Sum items pivots) = Closes it lemmas path items.items
ClosesBy it lemmas path _ = Unit {0}

-- so many pivots are made, of at most `left`, and no further one is needed
pub record IsDone (cons : List Con) (columns left n : ℕ) : Type 0 where
  pub tableau : Tableau
  pub after : After cons columns n tableau
  pub last : IsLast tableau (artificials cons columns)
  pub within : n ≤ left

-- to this the rule of the tableau leads
abbrev pub Says : List Con → ℕ → ℕ → Answer → Type 0
Says cons columns left (answer.Sum items pivots) = IsDone cons columns left pivots
Says cons columns left (answer.Point denominator counts pivots) =
    MeetsAll cons columns denominator counts.items × IsDone cons columns left pivots
Says cons columns left (answer.Spent pivots) = NeedsMore cons columns left pivots
Says cons columns left (answer.Overflow pivots) = Leaves cons columns left pivots
