use Rattle.std.proofs.Common.{◌≡◌, ◌<◌, ℕ}
use Rattle.xm_board.specs.Inner.Gluing.{AreRowsOf}
use Rattle.xm_model.specs.Component.{Content}
use Rattle.xm_model.specs.Signals.{Signals}
use Rattle.xm_parts.specs.Gluing.{HoldsPart}
use Rattle.xm_parts.specs.Kept.{label_at}
use Rattle.xm_board.proofs.gluing.glued.Given as goal

abbrev pub invariant-loop-p : goal.invariant-loop-p
invariant-loop-p l = record {
  design : l.glue.design ≡ l.design;
  cycle : l.glue.cycle ≡ l.cycle;
  holds : (s : ℕ → Content) (φ : Signals) → AreRowsOf l.design.net (label_at l.parts.labels) s φ l.logs → (q : ℕ) → q < l.p → HoldsPart l.design.net (label_at l.parts.labels) q s φ l.glue.contents l.glue.wires;
}
