-- Slots for the sums of lemmas that are tested one after another.
use Rattle.std.specs.Prelude.{ℕ, ◌<◌, List, All}
use Rattle.xm_flow.specs.declared.testing.Slot.{Slot}

-- the slots are those of lemmas with numbers below n
abbrev pub AreBelow : ℕ → List Slot → Type 0
AreBelow n slots = All (λ s. s.lemma < n) slots
