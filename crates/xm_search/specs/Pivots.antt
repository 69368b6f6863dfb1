-- The pivots of the tableau on the constraints of paths.
use Rattle.std.specs.Prelude.{◌≡◌, ◌⊎◌, ℕ, ◌+◌, List, [], ◌∷◌, ◌++◌, length}
use Rattle.xm_design.specs.Designed.{Designed}
use Rattle.xm_flow.specs.ValidLemma.{Lemma}
use Rattle.xm_lits.specs.declared.literal.Lit.{Lit}
use Rattle.xm_lp.specs.Pivot.{IsLast, IsPivotColumn}
use Rattle.xm_lp.specs.Rule.{After, Leaves}
use Rattle.xm_lp.specs.Start.{Tableau, artificials}
use Rattle.xm_proof.specs.Tests.{queue_columns}
use Rattle.xm_search.specs.Constraints.{constraints}

-- the tableau after so many pivots on the constraints of the path
abbrev pub AfterOn : Designed → List Lemma → List Lit → ℕ → Tableau → Type 0
AfterOn it lemmas path n t = After (constraints it lemmas path) (length (queue_columns it)) n t

abbrev pub artificials_on : Designed → List Lemma → List Lit → ℕ
artificials_on it lemmas path = artificials (constraints it lemmas path) (length (queue_columns it))

-- so many pivots are made there; the pivots that are made are all that are needed, or there are none
abbrev pub IsRun : Designed → List Lemma → List Lit → ℕ → Type 0
IsRun it lemmas path n = (n ≡ 0) ⊎ ((t : Tableau) × AfterOn it lemmas path n t)

abbrev pub IsWholeRun : Designed → List Lemma → List Lit → ℕ → Type 0
IsWholeRun it lemmas path n =
    (n ≡ 0) ⊎ ((t : Tableau) × (AfterOn it lemmas path n t × IsLast t (artificials_on it lemmas path)))

-- after these pivots one more is needed
pub record NeedsPivot (it : Designed) (lemmas : List Lemma) (path : List Lit) (n : ℕ) : Type 0 where
  pub tableau : Tableau
  pub after : AfterOn it lemmas path n tableau
  pub column : ℕ
  pub needed : IsPivotColumn tableau (artificials_on it lemmas path) column

-- the tableau leaves 128 bits on the constraints of the path, after so many pivots of at most `most`
abbrev pub OverflowsOn : Designed → List Lemma → List Lit → ℕ → ℕ → Type 0
OverflowsOn it lemmas path most n = Leaves (constraints it lemmas path) (length (queue_columns it)) most n

-- a path, and the pivots that are made on its constraints
pub record Run : Type 0 where
  pub path : List Lit
  pub pivots : ℕ

abbrev pub total : List Run → ℕ
total [] = 0
total (r ∷ rs) = r.pivots + total rs

abbrev pub AreWhole : Designed → List Lemma → List Run → Type 0
AreWhole it lemmas [] = Unit {0}
AreWhole it lemmas (r ∷ rs) = IsWholeRun it lemmas r.path r.pivots × AreWhole it lemmas rs

-- all are whole, or one is cut short
pub data AreRuns (it : Designed) (lemmas : List Lemma) : List Run → Type 0 where
  all_whole : (rs : List Run) → AreWhole it lemmas rs → AreRuns it lemmas rs
  one_cut : (before later : List Run) (r : Run) → AreWhole it lemmas before → IsRun it lemmas r.path r.pivots
      → AreWhole it lemmas later → AreRuns it lemmas (before ++ r ∷ later)
