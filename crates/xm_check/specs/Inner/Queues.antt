-- Queues of a design, and rows of items as they are made.
use Rattle.std.specs.Prelude.{ℕ, ◌<◌, List, All, Result, ℤ}
use Rattle.xm_check.specs.declared.items.Made.{Made}
use Rattle.xm_design.specs.Designed.{Designed}
use Rattle.xm_model.specs.Component.{Queue}
use Rattle.xm_model.specs.Net.{HasPrim}
use Rattle.xm_model.specs.Steps.{◌>>=◌, check, demand}
use Rattle.xm_proof.specs.Sums.{Sums, add_row, is_natural}
use Rattle.xm_flow.specs.declared.invariant.Invariant.{Invariant}
use Rattle.xm_proof.specs.declared.verdict.Reason.{Reason}
use Rattle.xm_proof.specs.declared.verdict.Reason.TheVariants as reason
use Rattle.xm_rows.specs.Row.{SparseRow}
use Rattle.xm_rows.specs.declared.row.Entry.{Entry}

-- primitive q is a queue with this output and capacity
pub record IsQueueAt (it : Designed) (q out capacity : ℕ) : Type 0 where
  pub input : ℕ
  pub initial : List ℕ
  pub has : HasPrim it.net q (Queue input out capacity initial)

abbrev pub made_row : Made → SparseRow
made_row made = record { entries = made.entries.items; constant = made.constant }

-- every entry is in one of so many columns
abbrev pub IsOver : ℕ → List Entry → Type 0
IsOver columns entries = All (λ (e : Entry). e.column < columns) entries

abbrev pub AreOver : ℕ → List Invariant → Type 0
AreOver columns lemmas = All (λ (l : Invariant). IsOver columns l.row.entries) lemmas

-- the sums with a row, which is not taken a negative number of times
abbrev pub added : SparseRow → ℤ → Sums → Result Sums Reason
added row times sums = do
  _ ← check (is_natural times) reason.Sign
  demand (add_row times row sums) reason.Overflow
