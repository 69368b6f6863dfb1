use Rattle.std.proofs.Common.{◌≡◌, ℕ, ◌<◌, Some, slice_get, nat_eq}
use Rattle.xm_board.specs.Core.{cycle}
use Rattle.xm_board.specs.Inner.Posting.{HasHeard, IsTold}
use Rattle.xm_board.specs.declared.two_cycles.TwoCycles.{TwoCycles}
use Rattle.xm_parts.specs.Kept.{label_at}
use Rattle.xm_board.proofs.posting.tell.Given as goal

abbrev pub invariant-loop-k : goal.invariant-loop-k
invariant-loop-k l = record {
  each : (q : ℕ) (was it : TwoCycles) → slice_get l.initial.all q ≡ Some was → slice_get l.all q ≡ Some it → IsTold l.design.net (label_at l.parts.labels) l.p q (nat_eq (cycle l.core q) l.t) was it;
  heard : (j q : ℕ) (it : TwoCycles) → j < l.k → slice_get l.near j ≡ Some q → slice_get l.all q ≡ Some it → HasHeard l.design.net (label_at l.parts.labels) l.p q l.row.wires.items (nat_eq (cycle l.core q) l.t) it;
}
