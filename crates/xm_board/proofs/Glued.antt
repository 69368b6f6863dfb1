-- What is put together from the rows of all parts.
use Rattle.std.proofs.Common.{◌≡◌, ◌<◌, ℕ, List, sym, subst}
use Rattle.xm_board.specs.declared.row_log.RowLog.{RowLog}
use Rattle.xm_design.specs.Designed.{Designed, IsDesigned}
use Rattle.xm_model.specs.Component.{Content}
use Rattle.xm_model.specs.Signals.{Signals}
use Rattle.xm_model.specs.declared.state.Wire.{Wire}
use Rattle.xm_parts.specs.Gluing.{GlueLaw, HoldsAll, HoldsPart}
use Rattle.xm_parts.specs.Projection.{projection}
use Rattle.xm_parts.specs.Rows.{row_of}

-- what one more row adds and keeps, as a division of the design tells it
module _ (of design : Designed) (same : of ≡ design) (label : ℕ → ℕ) (p : ℕ)
  where
    pub added_here : (s : ℕ → Content) (φ : Signals) (log : RowLog) (contents : List Content) (wires : List Wire) →
        (row_of log.base ≡ projection of.net label p s φ → HoldsPart of.net label p s φ contents wires) →
        row_of log.base ≡ projection design.net label p s φ → HoldsPart design.net label p s φ contents wires
    added_here s φ log contents wires = subst (λ (d : Designed). (row_of log.base ≡ projection d.net label p s φ → HoldsPart d.net label p s φ contents wires) →
        row_of log.base ≡ projection design.net label p s φ → HoldsPart design.net label p s φ contents wires) (sym same) (λ f. f)

    pub kept_here : (q : ℕ) (s : ℕ → Content) (φ : Signals) (log : RowLog) (before : List Content) (old : List Wire) (after : List Content) (new : List Wire) →
        (row_of log.base ≡ projection of.net label p s φ → HoldsPart of.net label q s φ before old → HoldsPart of.net label q s φ after new) →
        row_of log.base ≡ projection design.net label p s φ → HoldsPart design.net label q s φ before old → HoldsPart design.net label q s φ after new
    kept_here q s φ log before old after new = subst (λ (d : Designed). (row_of log.base ≡ projection d.net label p s φ → HoldsPart d.net label q s φ before old → HoldsPart d.net label q s φ after new) →
        row_of log.base ≡ projection design.net label p s φ → HoldsPart design.net label q s φ before old → HoldsPart design.net label q s φ after new) (sym same) (λ f. f)

pub whole_net : GlueLaw → (design : Designed) → IsDesigned design → (label : ℕ → ℕ) (count : ℕ) (s : ℕ → Content) (φ : Signals) (contents given : List Content) (wires shown : List Wire) →
    ((c : ℕ) → c < design.net.channels → label c < count) → ((p : ℕ) → p < count → HoldsPart design.net label p s φ contents wires) →
    given ≡ contents → shown ≡ wires → HoldsAll design.net s φ given shown
whole_net law design designed label count s φ contents given wires shown below parts e f =
    subst (λ (x : List Content). HoldsAll design.net s φ x shown) (sym e) (subst (λ (x : List Wire). HoldsAll design.net s φ contents x) (sym f)
    (law design.net label count s φ contents wires designed.net below parts))
