-- A primitive's equation and its next content depend on the signals at its own ports alone.
use Rattle.std.specs.Prelude.{◌≡◌, ◌⊎◌, ℕ, List, refl}
use Rattle.std.proofs.Common.{sym, ◌∙◌, inl, inr}
use Rattle.xm_model.specs.Component.{Component, Content, Fork, Function, Join, Merge, Queue, Sink, Source, Switch}
use Rattle.xm_model.specs.Frame.{Equation}
use Rattle.xm_model.specs.Next.{content_after, move}
use Rattle.xm_model.specs.Ports.{HasOutput, HasInput, fork_output_a, fork_output_b, fork_input, function_output, function_input, join_output, join_input_a, join_input_b, merge_output, merge_input_a, merge_input_b, queue_output, queue_input, sink_input, source_output, switch_output_a, switch_output_b, switch_input}
use Rattle.xm_model.specs.Signals.{Signals}
use Rattle.xm_model.specs.declared.state.Choice.{Choice}

-- the channel is at one of its ports
abbrev pub IsPort : Component → ℕ → Type 0
IsPort m c = HasOutput m c ⊎ HasInput m c

abbrev pub SameAtPorts : Component → Signals → Signals → Type 0
SameAtPorts m φ ψ = (c : ℕ) → IsPort m c → (φ.offer c ≡ ψ.offer c) × (φ.ready c ≡ ψ.ready c)

pub equation_local : (m : Component) (s : Content) (w : Choice) (φ ψ : Signals) → SameAtPorts m φ ψ → Equation m s w φ → Equation m s w ψ
equation_local (Source out cs mode) s w φ ψ same e = let o = (same out (inl source_output)).0 in record { offer_out = sym o ∙ e.offer_out }
equation_local (Sink input mode) s w φ ψ same e = let r = (same input (inr sink_input)).1 in record { ready_in = sym r ∙ e.ready_in }
equation_local (Queue input out capacity initial) s w φ ψ same e =
    let r = (same input (inr queue_input)).1 in let o = (same out (inl queue_output)).0 in
    record { ready_in = sym r ∙ e.ready_in; offer_out = sym o ∙ e.offer_out }
equation_local (Function input out table) s w φ ψ same e =
    let x = same input (inr function_input) in let y = same out (inl function_output) in
    let xo = x.0 in let xr = x.1 in let yo = y.0 in let yr = y.1 in
    record { offer_out = cc; ready_in = cc }
equation_local (Fork input a b ta tb) s w φ ψ same e =
    let x = same input (inr fork_input) in let y = same a (inl fork_output_a) in let z = same b (inl fork_output_b) in
    let xo = x.0 in let xr = x.1 in let yo = y.0 in let yr = y.1 in let zo = z.0 in let zr = z.1 in
    record { offer_a = cc; offer_b = cc; ready_in = cc }
equation_local (Join a b out pass) s w φ ψ same e =
    let x = same a (inr join_input_a) in let y = same b (inr join_input_b) in let z = same out (inl join_output) in
    let xo = x.0 in let xr = x.1 in let yo = y.0 in let yr = y.1 in let zo = z.0 in let zr = z.1 in
    record { offer_out = cc; ready_a = cc; ready_b = cc }
equation_local (Switch input a b to_a) s w φ ψ same e =
    let x = same input (inr switch_input) in let y = same a (inl switch_output_a) in let z = same b (inl switch_output_b) in
    let xo = x.0 in let xr = x.1 in let yo = y.0 in let yr = y.1 in let zo = z.0 in let zr = z.1 in
    record { offer_a = cc; offer_b = cc; ready_in = cc }
equation_local (Merge a b out) s w φ ψ same e =
    let x = same a (inr merge_input_a) in let y = same b (inr merge_input_b) in let z = same out (inl merge_output) in
    let xo = x.0 in let xr = x.1 in let yo = y.0 in let yr = y.1 in let zo = z.0 in let zr = z.1 in
    record { offer_out = cc; ready_a = cc; ready_b = cc }

pub content_local : (m : Component) (s : Content) (φ ψ : Signals) → SameAtPorts m φ ψ → content_after m s φ ≡ content_after m s ψ
content_local (Source out cs mode) s φ ψ same = let x = same out (inl source_output) in let o = x.0 in let r = x.1 in cc
content_local (Sink input mode) s φ ψ same = let x = same input (inr sink_input) in let o = x.0 in let r = x.1 in cc
content_local (Queue input out capacity initial) s φ ψ same =
    let x = same out (inl queue_output) in let y = same input (inr queue_input) in
    let o = x.0 in let r = x.1 in let u = y.0 in let v = y.1 in cc
content_local (Function input out table) s φ ψ same = refl
content_local (Fork input a b ta tb) s φ ψ same = refl
content_local (Join a b out pass) s φ ψ same = refl
content_local (Switch input a b to_a) s φ ψ same = refl
content_local (Merge a b out) s φ ψ same =
    let x = (same a (inr merge_input_a)).0 in let y = (same b (inr merge_input_b)).0 in let z = (same out (inl merge_output)).1 in cc

-- of a queue, what moves at its two channels is enough
pub queue_local : (input out capacity : ℕ) (initial : List ℕ) (s : Content) (φ ψ : Signals) → move φ out ≡ move ψ out → move φ input ≡ move ψ input → content_after (Queue input out capacity initial) s φ ≡ content_after (Queue input out capacity initial) s ψ
queue_local input out capacity initial s φ ψ same_out same_in = rw (same_out, same_in) refl
