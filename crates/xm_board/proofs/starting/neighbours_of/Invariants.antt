use Rattle.std.proofs.Common.{◌≢◌, ◌<◌, ℕ}
use Rattle.xm_board.specs.Inner.Starting.{AreEach}
use Rattle.xm_model.specs.ListView.{ListView}
use Rattle.xm_parts.specs.Kept.{label_at}
use Rattle.xm_parts.specs.Near.{AreNear}
use Rattle.xm_parts.specs.Partition.{AreNeighbours}
use Rattle.xm_board.proofs.starting.neighbours_of.Given as goal

abbrev pub invariant-loop-p : goal.invariant-loop-p
invariant-loop-p l = record {
  near : AreEach (λ (p : ℕ) (x : ListView ℕ). AreNear l.parts.design.net (label_at l.parts.labels) p x.items) l.p l.made.items;
  others : (p q : ℕ) → p < l.p → AreNeighbours l.parts.design.net (label_at l.parts.labels) p q → (q < l.parts.count) × (q ≢ p);
}
