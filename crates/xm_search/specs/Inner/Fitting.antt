-- Sums whose numbers are within bounds.
use Rattle.std.specs.Prelude.{List, All, length}
use Rattle.xm_proof.specs.Argument.{Step, Sum}
use Rattle.xm_proof.specs.OfNet.{IsPlace}
use Rattle.xm_proof.specs.Valid.{multiplier}
use Rattle.xm_proof.specs.declared.proof.Item.{Item}
use Rattle.xm_rows.specs.Row.{Fits128}
use Rattle.xm_search.specs.declared.ask.Answer.{Answer}
use Rattle.xm_search.specs.declared.ask.Answer.TheVariants as answer

-- the items are numbered in 32 bits, and each is taken so often as 128 bits tell
pub record FitsItems (items : List Item) : Type 0 where
  pub few : IsPlace (length items)
  pub times : All (λ i. Fits128 (multiplier i)) items

-- so are those of the step, or of the answer, where it is a sum
abbrev pub FitsStep : Step → Type 0
FitsStep (Sum items) = FitsItems items
FitsStep _ = Unit {0}

abbrev pub FitsAnswer : Answer → Type 0
FitsAnswer (answer.Sum items pivots) = FitsItems items.items
FitsAnswer _ = Unit {0}
