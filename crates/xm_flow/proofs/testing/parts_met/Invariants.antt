use Rattle.std.proofs.Common.{take, All}
use Rattle.xm_flow.specs.Inner.Testing.{IsMet}
use Rattle.xm_flow.specs.ValidLemma.{flow_at, lemma_of}
use Rattle.xm_flow.proofs.testing.parts_met.Given as goal

abbrev pub invariant-loop-part : goal.invariant-loop-part
invariant-loop-part l = All (λ p. All (λ e. IsMet l.n l.moves (lemma_of l.it) l.slots e.column) (flow_at l.flow p.flow).entries) (take l.part-index l.part-items)
