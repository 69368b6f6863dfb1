-- A queue cuts the dependence: a signal of a part depends on signals of the same part alone.
use Rattle.std.proofs.Common.{◌≡◌, ℕ, false, refl, ap, sym, ◌∙◌, inl, inr, eq-eqb}
use Rattle.std.proofs.lemmas.Bool.Decides.{eqb_tells}
use Rattle.xm_model.specs.Component.{Component, Content}
use Rattle.xm_model.specs.Frame.{Equation}
use Rattle.xm_model.specs.Lemmas.Local.{IsPort}
use Rattle.xm_model.specs.Net.{Network}
use Rattle.xm_model.specs.Ports.{HasOutput, HasInput, fork_output_a, fork_output_b, fork_input, function_output, function_input, join_output, join_input_a, join_input_b, merge_output, merge_input_a, merge_input_b, queue_output, queue_input, sink_input, source_output, switch_output_a, switch_output_b, switch_input}
use Rattle.xm_model.specs.Signals.{Signals}
use Rattle.xm_model.specs.declared.state.Choice.{Choice}
use Rattle.xm_order.specs.Dependence.{Depends, Needs, channel_of, fork_offer_a_b, fork_offer_a_in, fork_offer_b_a, fork_offer_b_in, fork_ready_a, fork_ready_b, function_offer, function_ready, join_offer_a, join_offer_b, join_ready_a_b, join_ready_a_out, join_ready_b_a, join_ready_b_out, merge_offer_a, merge_offer_b, merge_ready_a_a, merge_ready_a_b, merge_ready_a_out, merge_ready_b_a, merge_ready_b_b, merge_ready_b_out, switch_offer_a, switch_offer_b, switch_ready_a, switch_ready_b, switch_ready_in}
use Rattle.xm_order.specs.Settle.{Same}
use Rattle.xm_order.specs.Sides.{offer_side, ready_side}
use Rattle.xm_order.specs.declared.signal.Signal.{Signal}
use Rattle.xm_order.specs.declared.signal.Signal.TheVariants as signal
use Rattle.xm_parts.specs.Partition.{IsPartition, is_queue}

-- a primitive with two signals of which one needs the other is no queue, and both are at its ports
pub record AreJoint (m : Component) (σ τ : Signal) : Type 0 where
  pub no_queue : is_queue m ≡ false
  pub first : IsPort m (channel_of σ)
  pub second : IsPort m (channel_of τ)

pub joint : (m : Component) (σ τ : Signal) → Needs m σ τ → AreJoint m σ τ
joint m σ τ function_offer = record { no_queue = refl; first = inl function_output; second = inr function_input }
joint m σ τ function_ready = record { no_queue = refl; first = inr function_input; second = inl function_output }
joint m σ τ fork_offer_a_in = record { no_queue = refl; first = inl fork_output_a; second = inr fork_input }
joint m σ τ fork_offer_a_b = record { no_queue = refl; first = inl fork_output_a; second = inl fork_output_b }
joint m σ τ fork_offer_b_in = record { no_queue = refl; first = inl fork_output_b; second = inr fork_input }
joint m σ τ fork_offer_b_a = record { no_queue = refl; first = inl fork_output_b; second = inl fork_output_a }
joint m σ τ fork_ready_a = record { no_queue = refl; first = inr fork_input; second = inl fork_output_a }
joint m σ τ fork_ready_b = record { no_queue = refl; first = inr fork_input; second = inl fork_output_b }
joint m σ τ join_offer_a = record { no_queue = refl; first = inl join_output; second = inr join_input_a }
joint m σ τ join_offer_b = record { no_queue = refl; first = inl join_output; second = inr join_input_b }
joint m σ τ join_ready_a_out = record { no_queue = refl; first = inr join_input_a; second = inl join_output }
joint m σ τ join_ready_a_b = record { no_queue = refl; first = inr join_input_a; second = inr join_input_b }
joint m σ τ join_ready_b_out = record { no_queue = refl; first = inr join_input_b; second = inl join_output }
joint m σ τ join_ready_b_a = record { no_queue = refl; first = inr join_input_b; second = inr join_input_a }
joint m σ τ switch_offer_a = record { no_queue = refl; first = inl switch_output_a; second = inr switch_input }
joint m σ τ switch_offer_b = record { no_queue = refl; first = inl switch_output_b; second = inr switch_input }
joint m σ τ switch_ready_in = record { no_queue = refl; first = inr switch_input; second = inr switch_input }
joint m σ τ switch_ready_a = record { no_queue = refl; first = inr switch_input; second = inl switch_output_a }
joint m σ τ switch_ready_b = record { no_queue = refl; first = inr switch_input; second = inl switch_output_b }
joint m σ τ merge_offer_a = record { no_queue = refl; first = inl merge_output; second = inr merge_input_a }
joint m σ τ merge_offer_b = record { no_queue = refl; first = inl merge_output; second = inr merge_input_b }
joint m σ τ merge_ready_a_a = record { no_queue = refl; first = inr merge_input_a; second = inr merge_input_a }
joint m σ τ merge_ready_a_b = record { no_queue = refl; first = inr merge_input_a; second = inr merge_input_b }
joint m σ τ merge_ready_a_out = record { no_queue = refl; first = inr merge_input_a; second = inl merge_output }
joint m σ τ merge_ready_b_a = record { no_queue = refl; first = inr merge_input_b; second = inr merge_input_a }
joint m σ τ merge_ready_b_b = record { no_queue = refl; first = inr merge_input_b; second = inr merge_input_b }
joint m σ τ merge_ready_b_out = record { no_queue = refl; first = inr merge_input_b; second = inl merge_output }

-- a signal and one on which it depends have the same label
pub same_label : (net : Network) (label : ℕ → ℕ) → IsPartition net label → (σ τ : Signal) → Depends net σ τ → label (channel_of σ) ≡ label (channel_of τ)
same_label net label partition σ τ d =
    let both = joint d.prim σ τ d.needs in
    partition.together d.place d.prim (channel_of σ) (channel_of τ) d.has both.no_queue both.first both.second

-- what a primitive makes of signals that agree with a frame on what it needs is the frame's
module _ (s : Content) (w : Choice) (χ φ : Signals) where
  pub offer_made : (m : Component) (c : ℕ) → HasOutput m c → Equation m s w φ → ((τ : Signal) → Needs m (signal.Offer c) τ → Same χ φ τ) → offer_side m s w χ c ≡ φ.offer c
  offer_made m c source_output e same = cc
  offer_made m c queue_output e same = cc
  offer_made m c function_output e same = let x = same _ function_offer in cc
  offer_made m c (fork_output_a {a = a}) e same = let x = same _ fork_offer_a_in in let y = same _ fork_offer_a_b in rw (eq-eqb a a refl) cc
  offer_made m c (fork_output_b {a = a} {b = b}) e same =
      let x = same _ fork_offer_b_in in let y = same _ fork_offer_b_a in
      elim (eqb_tells b a) [
        | inl t ↦ (let is = t.0 in let eq : b ≡ a = t.1 in let z : χ.ready b ≡ φ.ready b = ap χ.ready eq ∙ y ∙ ap φ.ready (sym eq) in let f : φ.offer b ≡ φ.offer a = ap φ.offer eq in rw is cc)
        | inr t ↦ (let is = t.0 in rw is cc)
      ]
  offer_made m c join_output e same = let x = same _ join_offer_a in let y = same _ join_offer_b in cc
  offer_made m c (switch_output_a {a = a}) e same = let x = same _ switch_offer_a in rw (eq-eqb a a refl) cc
  offer_made m c (switch_output_b {a = a} {b = b}) e same =
      let x = same _ switch_offer_b in
      elim (eqb_tells b a) [
        | inl t ↦ (let is = t.0 in let eq : b ≡ a = t.1 in let f : φ.offer b ≡ φ.offer a = ap φ.offer eq in rw is cc)
        | inr t ↦ (let is = t.0 in rw is cc)
      ]
  offer_made m c merge_output e same = let x = same _ merge_offer_a in let y = same _ merge_offer_b in cc

  pub ready_made : (m : Component) (c : ℕ) → HasInput m c → Equation m s w φ → ((τ : Signal) → Needs m (signal.Ready c) τ → Same χ φ τ) → ready_side m s w χ c ≡ φ.ready c
  ready_made m c sink_input e same = cc
  ready_made m c queue_input e same = cc
  ready_made m c function_input e same = let x = same _ function_ready in cc
  ready_made m c fork_input e same = let x = same _ fork_ready_a in let y = same _ fork_ready_b in cc
  ready_made m c (join_input_a {a = a}) e same = let x = same _ join_ready_a_out in let y = same _ join_ready_a_b in rw (eq-eqb a a refl) cc
  ready_made m c (join_input_b {a = a} {b = b}) e same =
      let x = same _ join_ready_b_out in let y = same _ join_ready_b_a in
      elim (eqb_tells b a) [
        | inl t ↦ (let is = t.0 in let eq : b ≡ a = t.1 in let f : φ.ready b ≡ φ.ready a = ap φ.ready eq in let z : χ.offer b ≡ φ.offer b = ap χ.offer eq ∙ y ∙ ap φ.offer (sym eq) in rw is cc)
        | inr t ↦ (let is = t.0 in rw is cc)
      ]
  ready_made m c switch_input e same =
      let x = same _ switch_ready_in in let y = same _ switch_ready_a in let z = same _ switch_ready_b in cc
  ready_made m c (merge_input_a {a = a}) e same = let x = same _ merge_ready_a_a in let y = same _ merge_ready_a_b in let z = same _ merge_ready_a_out in rw (eq-eqb a a refl) cc
  ready_made m c (merge_input_b {a = a} {b = b}) e same =
      let x = same _ merge_ready_b_a in let y = same _ merge_ready_b_b in let z = same _ merge_ready_b_out in
      elim (eqb_tells b a) [
        | inl t ↦ (let is = t.0 in let eq : b ≡ a = t.1 in let f : φ.ready b ≡ φ.ready a = ap φ.ready eq in rw is cc)
        | inr t ↦ (let is = t.0 in rw is cc)
      ]
