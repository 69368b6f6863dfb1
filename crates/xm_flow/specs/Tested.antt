-- What the test that flow rows make a lemma shows.
use Rattle.std.specs.Prelude.{ℕ, List}
use Rattle.xm_flow.specs.ValidLemma.{IsValid, Lemma, TestFits}
use Rattle.xm_flow.specs.declared.testing.Tested.{Tested}
use Rattle.xm_flow.specs.declared.testing.Tested.TheVariants as tested
use Rattle.xm_rows.specs.Row.{SparseRow}

abbrev pub IsTested : ℕ → ℕ → List SparseRow → Lemma → Tested → Type 0
IsTested moves counts flow it tested.Leaves = ¬ TestFits flow it
IsTested moves counts flow it tested.Differs = TestFits flow it × (¬ IsValid moves counts flow it)
IsTested moves counts flow it tested.Holds = TestFits flow it × IsValid moves counts flow it
