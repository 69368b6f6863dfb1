-- What a part has of a fitting state fits, and it is not large.
use Rattle.std.specs.Prelude.{◌≡◌, ◌<◌, ◌^◌, ℕ, length}
use Rattle.xm_model.specs.Component.{Content}
use Rattle.xm_model.specs.Net.{IsNet, Network}
use Rattle.xm_model.specs.Next.{IsFittingState}
use Rattle.xm_model.specs.Signals.{Signals}
use Rattle.xm_parts.specs.Gluing.{FitCells}
use Rattle.xm_parts.specs.Projection.{projection}
use Rattle.xm_parts.specs.Rows.{FitsPart, row_of}
use Rattle.xm_parts.specs.declared.row.PartRow.{PartRow}

abbrev pub FitLaw : Type 0
FitLaw =
    (net : Network) (label : ℕ → ℕ) (p : ℕ) (s : ℕ → Content) (φ : Signals) (row : PartRow) → IsFittingState net s →
    row_of row ≡ projection net label p s φ → FitCells net row.cells.items

-- a part's row has fewer cells and fewer wires than 32 bits count
abbrev pub FewLaw : Type 0
FewLaw =
    (net : Network) (label : ℕ → ℕ) (p : ℕ) (row : PartRow) → IsNet net → FitsPart net label p row →
    (length row.cells.items < 2 ^ 32) × (length row.wires.items < 2 ^ 32)
