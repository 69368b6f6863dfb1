-- What is offered and held on a run has colours of its channels.
use Rattle.std.specs.Prelude.{◌≡◌, ℕ, ◌<◌, ◌≤◌, List, length, Some, slice_get}
use Rattle.xm_colours.specs.Family.{IsClosed}
use Rattle.xm_model.specs.Component.{Component, Content, Queue, Source}
use Rattle.xm_model.specs.Frame.{IsFrame}
use Rattle.xm_model.specs.Net.{HasPrim, IsNet, Network}
use Rattle.xm_model.specs.Run.{ChoicesFit, IsRun, TapeFits}
use Rattle.xm_model.specs.Membership.{IsIn}
use Rattle.xm_model.specs.Next.{IsFittingState, next}
use Rattle.xm_model.specs.Signals.{Signals, packets_in, pending_in}
use Rattle.xm_model.specs.declared.state.Choice.{Choice}
use Rattle.xm_order.specs.Dependence.{IsOrder}
use Rattle.xm_order.specs.declared.signal.Signal.{Signal}

-- a source's pending colour and a queue's packets are colours of the output, and a queue has no more packets
-- than its capacity
abbrev pub FitsColours : (ℕ → List ℕ) → Component → Content → Type 0
FitsColours colours (Source out _ _) s = (d : ℕ) → pending_in s ≡ Some d → IsIn (colours out) d
FitsColours colours (Queue _ out capacity _) s =
    ((j d : ℕ) → slice_get (packets_in s) j ≡ Some d → IsIn (colours out) d) × (length (packets_in s) ≤ capacity)
FitsColours colours _ s = Unit {0}

-- on every run of a closed family each offer is one of its channel's colours, and each content fits
abbrev pub ColoursHold : Type 0
ColoursHold =
    (net : Network) (signals : List Signal) (colours : ℕ → List ℕ)
    (cycles : ℕ) (w : ℕ → ℕ → Choice) (s : ℕ → ℕ → Content) (φ : ℕ → Signals) →
    IsNet net → IsOrder net signals → IsClosed net colours → TapeFits net cycles w → IsRun net cycles w s φ →
    ((t i : ℕ) (p : Component) → t ≤ cycles → HasPrim net i p → FitsColours colours p (s t i))
    × ((t c d : ℕ) → t < cycles → c < net.channels → (φ t).offer c ≡ Some d → IsIn (colours c) d)

-- every state of a run fits its net
abbrev pub FitsHold : Type 0
FitsHold =
    (net : Network) (signals : List Signal) (cycles : ℕ) (w : ℕ → ℕ → Choice) (s : ℕ → ℕ → Content) (φ : ℕ → Signals) →
    IsNet net → IsOrder net signals → TapeFits net cycles w → IsRun net cycles w s φ →
    (t : ℕ) → t ≤ cycles → IsFittingState net (s t)

-- the state after a cycle from any fitting state, under choices that fit, fits too
abbrev pub FitsNext : Type 0
FitsNext =
    (net : Network) (signals : List Signal) (s : ℕ → Content) (w : ℕ → Choice) (φ : Signals) →
    IsNet net → IsOrder net signals → IsFittingState net s → ChoicesFit net w → IsFrame net s w φ →
    IsFittingState net (next net s φ)
