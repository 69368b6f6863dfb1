-- What is held, by its kind, where it stays.
use Rattle.std.proofs.Common.{◌≡◌, ℕ, None}
use Rattle.xm_model.specs.Component.{Component, Content, Fork, Function, Join, Merge, Queue, Sink, Source, Switch}
use Rattle.xm_model.specs.Next.{move}
use Rattle.xm_model.specs.Signals.{Signals, held_in, pending_in}
use Rattle.xm_model.specs.declared.primitive.SinkMode.{SinkMode}
use Rattle.xm_model.specs.declared.primitive.SourceMode.{SourceMode}
use Rattle.xm_plan.specs.Shown.{IsShown}
use Rattle.xm_step.specs.Inner.Cells.{IsAgain, IsIdle, IsReadyAgain, IsStanding}
use Rattle.xm_step.specs.Inner.Kinds.{IsHoldingOf}
use Rattle.xm_step.specs.declared.kinds.Holding.{Holding}
use Rattle.xm_step.specs.declared.kinds.Holding.TheVariants as holding

pub shown_standing : (m : Component) (h : Holding) (s : Content) (φ : Signals) → IsHoldingOf h m → IsShown m s φ → IsStanding h s φ
shown_standing (Source out colours mode) h s φ is shown = rw is shown
shown_standing (Sink input mode) h s φ is shown = rw is shown
shown_standing (Queue input out capacity initial) h s φ is shown = rw is tt
shown_standing (Function input out table) h s φ is shown = rw is tt
shown_standing (Fork input a b ta tb) h s φ is shown = rw is tt
shown_standing (Join a b out pass) h s φ is shown = rw is tt
shown_standing (Switch input a b to_a) h s φ is shown = rw is tt
shown_standing (Merge a b out) h s φ is shown = rw is tt

pub packets_idle : (m : Component) (t : Content) (φ : Signals) (input out : ℕ) → IsHoldingOf (holding.Packets input out) m → move φ out ≡ None → move φ input ≡ None → IsIdle m t φ
packets_idle (Source o cs md) t φ input out is none_out none_in = absurd cc
packets_idle (Sink i md) t φ input out is none_out none_in = absurd cc
packets_idle (Queue i o cap ini) t φ input out is none_out none_in =
    let same_input : input ≡ i = cc in
    let same_out : out ≡ o = cc in
    (rw same_out at none_out, rw same_input at none_in)
packets_idle (Function i o t') t φ input out is none_out none_in = tt
packets_idle (Fork i a b ta tb) t φ input out is none_out none_in = tt
packets_idle (Join a b o s) t φ input out is none_out none_in = tt
packets_idle (Switch i a b ta) t φ input out is none_out none_in = tt
packets_idle (Merge a b o) t φ input out is none_out none_in = tt

pub source_idle : (m : Component) (t : Content) (φ : Signals) (out : ℕ) (mode : SourceMode) → IsHoldingOf (holding.Pending out mode) m → IsAgain mode (pending_in t) (φ.offer out) → IsIdle m t φ
source_idle (Source o cs md) t φ out mode is again =
    let same_out : out ≡ o = cc in
    let same_mode : mode ≡ md = cc in
    rw (same_out, same_mode) at again
source_idle (Sink i md) t φ out mode is again = absurd cc
source_idle (Queue i o cap ini) t φ out mode is again = absurd cc
source_idle (Function i o ta) t φ out mode is again = tt
source_idle (Fork i a b ta tb) t φ out mode is again = tt
source_idle (Join a b o s) t φ out mode is again = tt
source_idle (Switch i a b ta) t φ out mode is again = tt
source_idle (Merge a b o) t φ out mode is again = tt

pub sink_idle : (m : Component) (t : Content) (φ : Signals) (input : ℕ) (mode : SinkMode) → IsHoldingOf (holding.Held input mode) m → IsReadyAgain mode (held_in t) (φ.ready input) → IsIdle m t φ
sink_idle (Source o cs md) t φ input mode is again = absurd cc
sink_idle (Sink i md) t φ input mode is again =
    let same_input : input ≡ i = cc in
    let same_mode : mode ≡ md = cc in
    rw (same_input, same_mode) at again
sink_idle (Queue i o cap ini) t φ input mode is again = absurd cc
sink_idle (Function i o ta) t φ input mode is again = tt
sink_idle (Fork i a b ta tb) t φ input mode is again = tt
sink_idle (Join a b o s) t φ input mode is again = tt
sink_idle (Switch i a b ta) t φ input mode is again = tt
sink_idle (Merge a b o) t φ input mode is again = tt
