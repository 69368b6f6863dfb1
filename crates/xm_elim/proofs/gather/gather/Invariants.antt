use Rattle.std.proofs.Common.{◌≡◌, ◌+◌, length, map}
use Rattle.xm_flow.specs.ValidLemma.{lemma_of}
use Rattle.xm_elim.specs.Inner.Places.{AreGathered}
use Rattle.xm_flow.specs.Slots.{AreBelow}
use Rattle.xm_elim.proofs.gather.gather.Given as goal

abbrev pub invariant-loop-n : goal.invariant-loop-n
invariant-loop-n l = record {
  gathered : AreGathered l.moves l.counts l.flow l.rows l.n (map lemma_of l.lemmas.items) l.failed;
  below : AreBelow (l.n + 1) l.slots;
  whole : length l.slots ≡ l.moves + l.counts;
}
