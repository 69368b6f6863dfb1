use Rattle.std.proofs.Common.{◌+◌, take, All}
use Rattle.xm_flow.specs.Inner.Testing.{IsMet}
use Rattle.xm_flow.specs.ValidLemma.{lemma_of}
use Rattle.xm_flow.proofs.testing.row_met.Given as goal

abbrev pub invariant-loop-entry : goal.invariant-loop-entry
invariant-loop-entry l = All (λ e. IsMet l.n l.moves (lemma_of l.it) l.slots (l.moves + e.column)) (take l.entry-index l.entry-items)
