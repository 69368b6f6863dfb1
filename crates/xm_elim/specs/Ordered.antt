-- Lemmas whose rows are rows, whose parts rise by their flow rows, and whose numbers are of 128 bits.
use Rattle.std.specs.Prelude.{ℕ, ◌<◌, List, [], ◌∷◌, All}
use Rattle.xm_flow.specs.ValidLemma.{Lemma}
use Rattle.xm_flow.specs.declared.invariant.Part.{Part}
use Rattle.xm_rows.specs.Row.{Fits128, IsRow}

-- each flow row is greater than the one before
abbrev pub RiseByFlow : List Part → Type 0
RiseByFlow [] = Unit {0}
RiseByFlow (p ∷ []) = Unit {0}
RiseByFlow (p ∷ q ∷ ps) = (p.flow < q.flow) × RiseByFlow (q ∷ ps)

pub record IsOrdered (it : Lemma) : Type 0 where
  pub row : IsRow it.row
  pub scale : Fits128 it.scale
  pub rise : RiseByFlow it.parts
  pub factors : All (λ p. Fits128 p.factor) it.parts
