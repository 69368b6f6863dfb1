use Rattle.std.proofs.Common.{◌≡◌, ◌+◌, length, map, take}
use Rattle.xm_check.specs.Inner.Queues.{AreOver}
use Rattle.xm_design.specs.Designed.{Designed}
use Rattle.xm_flow.specs.Holding.{IsFlowOf}
use Rattle.xm_flow.specs.Slots.{AreBelow}
use Rattle.xm_flow.specs.ValidLemma.{lemma_of}
use Rattle.xm_proof.specs.Valid.{AreLemmas}
use Rattle.xm_check.proofs.lemmas.check_lemmas.Given as goal

abbrev pub invariant-loop-k : goal.invariant-loop-k
invariant-loop-k l = record {
  valid : (it : Designed) → IsFlowOf it l.flow → AreLemmas it l.flow.rows (map lemma_of (take l.k l.lemmas));
  over : AreOver l.flow.counts (take l.k l.lemmas);
  whole : length l.slots ≡ l.flow.moves + l.flow.counts;
  below : AreBelow (l.k + 1) l.slots;
}
