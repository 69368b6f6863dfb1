-- The steps of the decision follow the rule.
use Rattle.std.proofs.Common.{◌≡◌, ℕ, ◌+◌, ◌<◌, List, length, Err, sym, subst, arith, pos, ◌≤ℤ◌}
use Rattle.xm_lp.specs.declared.decision.Con.{Con}
use Rattle.xm_lp.specs.declared.decision.LpFault.{LpFault}
use Rattle.xm_lp.specs.declared.decision.LpFault.TheVariants.{Overflow, OutOfMemory}
use Rattle.xm_lp.specs.Start.{Tableau, AreBelow, artificials}
use Rattle.xm_lp.specs.Pivot.{IsPivotColumn, IsPivotRow, IsPivoted, PivotLeaves, entry_at, constant_at}
use Rattle.xm_lp.specs.Rule.{After, next, Leaves, at_start, at_pivot, Follows}
use Rattle.xm_lp.specs.Inner.Table.{StartFails}
use Rattle.xm_lp.proofs.Sound.{sound, some_row}

pub start_failed : (constraints : List Con) (columns left : ℕ) (fault : LpFault) →
    StartFails constraints columns fault → Follows constraints columns left (Err fault)
start_failed constraints columns left (Overflow n) h = subst (Leaves constraints columns left) (sym h.0) (at_start h.1)
start_failed constraints columns left OutOfMemory h = tt

pub pivots_more : (constraints : List Con) (columns n j i : ℕ) (old new : Tableau) → After constraints columns n old →
    IsPivotColumn old (artificials constraints columns) j → IsPivotRow old j i →
    IsPivoted old j i new → After constraints columns (n + 1) new
pivots_more constraints columns n j i old new after column row pivoted =
    subst (λ (k : ℕ). After constraints columns k new) (omega arith) (next n old new after (record { column = j; row = i; is_column = column; is_row = row; pivoted = pivoted }))

pub constants_up : (constraints : List Con) (columns n : ℕ) (t : Tableau) → AreBelow columns constraints →
    After constraints columns n t →
    (i : ℕ) → 0 < i → i < length t.rows → pos 0 ≤ℤ constant_at t i
constants_up constraints columns n t below after = (sound constraints columns below after).basic.constants

pub counts_same : (constraints : List Con) (columns n : ℕ) (t : Tableau) → AreBelow columns constraints →
    After constraints columns n t → length t.basics ≡ length t.rows
counts_same constraints columns n t below after = (sound constraints columns below after).basic.count

pub some_rows : (constraints : List Con) (columns n : ℕ) (t : Tableau) → AreBelow columns constraints →
    After constraints columns n t → 0 < length t.rows
some_rows constraints columns n t below after = let count = (sound constraints columns below after).count in omega (arith, count)

pub row_is_there : (constraints : List Con) (columns n j : ℕ) (t : Tableau) → AreBelow columns constraints →
    After constraints columns n t → IsPivotColumn t (artificials constraints columns) j →
    ¬ ((i : ℕ) → 0 < i → i < length t.rows → entry_at t i j ≤ℤ pos 0)
row_is_there constraints columns n j t below after column = some_row constraints columns below t j (sound constraints columns below after) column

pub pivot_left : (constraints : List Con) (columns left n j i : ℕ) (t : Tableau) → After constraints columns n t →
    n < left → IsPivotColumn t (artificials constraints columns) j → IsPivotRow t j i →
    PivotLeaves t j i → Leaves constraints columns left n
pivot_left constraints columns left n j i t after lt column row leaves = at_pivot n t j i after lt column row leaves
