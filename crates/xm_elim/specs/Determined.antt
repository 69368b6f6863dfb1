-- The elimination is determined: it has one end, or one first overflow.
use Rattle.std.specs.Prelude.{◌≡◌, ℕ, ◌+◌, List}
use Rattle.xm_elim.specs.Basis.{AreOver}
use Rattle.xm_elim.specs.Elimination.{ElimOverflows, Eliminates}
use Rattle.xm_flow.specs.ValidLemma.{Lemma}
use Rattle.xm_rows.specs.Row.{SparseRow}

-- what it leaves is the same
abbrev pub OneEnd : Type 0
OneEnd = (moves counts : ℕ) (flow : List SparseRow) (lemmas others : List Lemma) → AreOver (moves + counts) flow
    → Eliminates moves counts flow lemmas → Eliminates moves counts flow others
    → lemmas ≡ others

-- the first overflow lies in one column
abbrev pub OneOverflow : Type 0
OneOverflow = (moves counts : ℕ) (flow : List SparseRow) (r s t u : SparseRow) (column other : ℕ) →
    AreOver (moves + counts) flow
    → ElimOverflows moves counts flow r s column → ElimOverflows moves counts flow t u other → column ≡ other
