-- What a primitive with renamed ports makes of the signals of places is what it makes of the signals of its channels.
use Rattle.std.proofs.Common.{◌≡◌, ℕ, false, refl, ap, sym, ◌∙◌, inl, inr, eq-eqb}
use Rattle.std.specs.Prelude.{nat_eq}
use Rattle.std.proofs.lemmas.Bool.{ne_eqb}
use Rattle.std.proofs.lemmas.Bool.Decides.{eqb_tells}
use Rattle.xm_model.specs.Component.{Component, Content, Source, Sink, Queue, Function, Fork, Join, Switch, Merge}
use Rattle.xm_model.specs.Lemmas.Local.{IsPort}
use Rattle.xm_model.specs.Next.{content_after, move}
use Rattle.xm_model.specs.Ports.{HasOutput, HasInput, fork_output_a, fork_output_b, fork_input, function_output, function_input, join_output, join_input_a, join_input_b, merge_output, merge_input_a, merge_input_b, queue_output, queue_input, sink_input, source_output, switch_output_a, switch_output_b, switch_input}
use Rattle.xm_model.specs.Signals.{Signals}
use Rattle.xm_model.specs.declared.state.Choice.{Choice}
use Rattle.xm_order.specs.Sides.{offer_side, ready_side}
use Rattle.xm_parts.specs.Kept.{renamed}
use Rattle.xm_parts.specs.Partition.{is_queue}

-- the signals of places, read by channel
abbrev pub by_channel : (ℕ → ℕ) → Signals → Signals
by_channel r ψ = record { offer = λ c. ψ.offer (r c); ready = λ c. ψ.ready (r c) }

eq_kept : (r : ℕ → ℕ) (c a : ℕ) → (r c ≡ r a → c ≡ a) → nat_eq (r c) (r a) ≡ nat_eq c a
eq_kept r c a once =
    elim (eqb_tells c a) [
      | inl t ↦ eq-eqb (r c) (r a) (ap r t.1) ∙ sym t.0
      | inr t ↦ ne_eqb (r c) (r a) (λ e. t.1 (once e)) ∙ sym t.0
    ]

module _ (r : ℕ → ℕ) (s : Content) (w : Choice) (ψ : Signals) where
  pub offer_renamed : (m : Component) (c : ℕ) → HasOutput m c → (is_queue m ≡ false → (a b : ℕ) → IsPort m a → IsPort m b → r a ≡ r b → a ≡ b) → offer_side (renamed r m) s w ψ (r c) ≡ offer_side m s w (by_channel r ψ) c
  offer_renamed m c source_output once = refl
  offer_renamed m c queue_output once = refl
  offer_renamed m c function_output once = refl
  offer_renamed m c (fork_output_a {a = a}) once = let e = eq_kept r c a (once refl c a (inl fork_output_a) (inl fork_output_a)) in rw e refl
  offer_renamed m c (fork_output_b {a = a}) once = let e = eq_kept r c a (once refl c a (inl fork_output_b) (inl fork_output_a)) in rw e refl
  offer_renamed m c join_output once = refl
  offer_renamed m c (switch_output_a {a = a}) once = let e = eq_kept r c a (once refl c a (inl switch_output_a) (inl switch_output_a)) in rw e refl
  offer_renamed m c (switch_output_b {a = a}) once = let e = eq_kept r c a (once refl c a (inl switch_output_b) (inl switch_output_a)) in rw e refl
  offer_renamed m c merge_output once = refl

  pub ready_renamed : (m : Component) (c : ℕ) → HasInput m c → (is_queue m ≡ false → (a b : ℕ) → IsPort m a → IsPort m b → r a ≡ r b → a ≡ b) → ready_side (renamed r m) s w ψ (r c) ≡ ready_side m s w (by_channel r ψ) c
  ready_renamed m c sink_input once = refl
  ready_renamed m c queue_input once = refl
  ready_renamed m c function_input once = refl
  ready_renamed m c fork_input once = refl
  ready_renamed m c (join_input_a {a = a}) once = let e = eq_kept r c a (once refl c a (inr join_input_a) (inr join_input_a)) in rw e refl
  ready_renamed m c (join_input_b {a = a}) once = let e = eq_kept r c a (once refl c a (inr join_input_b) (inr join_input_a)) in rw e refl
  ready_renamed m c switch_input once = refl
  ready_renamed m c (merge_input_a {a = a}) once = let e = eq_kept r c a (once refl c a (inr merge_input_a) (inr merge_input_a)) in rw e refl
  ready_renamed m c (merge_input_b {a = a}) once = let e = eq_kept r c a (once refl c a (inr merge_input_b) (inr merge_input_a)) in rw e refl

-- what a primitive holds after the cycle
pub content_renamed : (r : ℕ → ℕ) (m : Component) (s : Content) (ψ φ : Signals) → is_queue m ≡ false →
    ((c : ℕ) → IsPort m c → (ψ.offer (r c) ≡ φ.offer c) × (ψ.ready (r c) ≡ φ.ready c)) → content_after (renamed r m) s ψ ≡ content_after m s φ
content_renamed r (Source out cs mode) s ψ φ h same = let x = same out (inl source_output) in let o = x.0 in let y = x.1 in cc
content_renamed r (Sink input mode) s ψ φ h same = let x = same input (inr sink_input) in let o = x.0 in let y = x.1 in cc
content_renamed r (Queue input out k ps) s ψ φ h same = absurd cc
content_renamed r (Function input out t) s ψ φ h same = refl
content_renamed r (Fork input a b ta tb) s ψ φ h same = refl
content_renamed r (Join a b out pass) s ψ φ h same = refl
content_renamed r (Switch input a b t) s ψ φ h same = refl
content_renamed r (Merge a b out) s ψ φ h same =
    let x = (same a (inr merge_input_a)).0 in let y = (same b (inr merge_input_b)).0 in let z = (same out (inl merge_output)).1 in cc

pub queue_renamed : (r : ℕ → ℕ) (input out capacity : ℕ) (initial : _) (s : Content) (ψ φ : Signals) → move ψ (r out) ≡ move φ out → move ψ (r input) ≡ move φ input →
    content_after (renamed r (Queue input out capacity initial)) s ψ ≡ content_after (Queue input out capacity initial) s φ
queue_renamed r input out capacity initial s ψ φ same_out same_in = rw (same_out, same_in) refl
