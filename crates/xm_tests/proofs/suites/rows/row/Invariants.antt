use Rattle.std.proofs.Common.{◌≢◌, ℕ, ◌<◌, List, take, pos, All}
use Rattle.xm_rows.specs.declared.row.Entry.{Entry}
use Rattle.xm_rows.specs.Row.{Fits128, IsRising}
use Rattle.xm_tests.proofs.suites.rows.row.Given as goal

-- the entries are those of a row, below the column `lowest`
pub record AreEntries (entries : List Entry) (lowest : ℕ) : Type 0 where
  pub rising : IsRising entries
  pub nonzero : All (λ e. e.value ≢ pos 0) entries
  pub fit : All (λ e. Fits128 e.value) entries
  pub below : All (λ e. e.column < lowest) entries

abbrev pub invariant-loop-entry : goal.invariant-loop-entry
invariant-loop-entry g l = AreEntries (take l.entry-index l.entries) l.lowest
