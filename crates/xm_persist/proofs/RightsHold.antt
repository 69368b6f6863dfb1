-- A granted right holds over any two consecutive cycles.
use Rattle.std.proofs.Common.{◌≡◌, arith, ℕ, suc, Option, None, ◌∙◌, subst}
use Rattle.xm_persist.proofs.TwoCycles.{fork_a_stays, fork_b_stays, fork_in_stays, function_in_stays, function_out_stays, join_a_stays, join_b_stays, join_out_stays, merge_a_stays, merge_b_stays, merge_out_stays, queue_in_stays, queue_out_stays, switch_a_stays, switch_b_stays, switch_in_stays}
use Rattle.xm_design.specs.Lemmas.Offers.{sink_again, source_again}
use Rattle.xm_persist.specs.Rights.{Granted, GrantsHold, GrantsHoldOfRuns, Initiator, HoldsOver, Right, Target, fork_a, fork_b, fork_in, function_in, function_out, join_a, join_b, join_out, merge_a, merge_b, merge_out, queue_in, queue_out, sink_in, source_out, switch_a, switch_b, switch_in}
use Rattle.xm_model.specs.Component.{Component, Content}
use Rattle.xm_model.specs.Frame.{Equation, IsFrame}
use Rattle.xm_model.specs.Net.{HasPrim, Network}
use Rattle.xm_model.specs.Next.{content_after, next, next_at}
use Rattle.xm_model.specs.Signals.{Signals, offer_chosen, packets_in, pref_in, ready_chosen}
use Rattle.xm_model.specs.declared.state.Choice.{Choice}

module _ (net : Network) (s : ℕ → Content) (w v : ℕ → Choice) (φ ψ : Signals) (now : IsFrame net s w φ) (then : IsFrame net (next net s φ) v ψ) where
  -- the equation of the second cycle, at the primitive's next cell
  later : (i : ℕ) (p : Component) → HasPrim net i p → Equation p (content_after p (s i) φ) (v i) ψ
  later i p has =
      let P : Option Component → Type 0 = λ o. Equation p (next_at o (s i) φ) (v i) ψ in
      subst P has (then i p has)

  pub right_kept : (right : Right) → Granted net right → HoldsOver right φ ψ
  right_kept (Initiator c) (source_out i out colours mode has kept) = λ d offered stuck.
      (later i _ has).offer_out ∙ rw (offered, stuck) (source_again mode colours None None (offer_chosen (v i)) d kept)
  right_kept (Target c) (sink_in i input mode has kept) = λ is_ready quiet.
      (later i _ has).ready_in ∙ rw (is_ready, quiet) (sink_again mode (ready_chosen (v i)) kept)
  right_kept (Initiator c) (queue_out i input out capacity initial has) = queue_out_stays input out capacity (packets_in (s i)) φ ψ (now i _ has) (later i _ has)
  right_kept (Target c) (queue_in i input out capacity initial has) = queue_in_stays input out capacity (packets_in (s i)) φ ψ (now i _ has) (later i _ has)
  right_kept (Initiator c) (function_out i input out table has g) = function_out_stays input out table φ ψ (now i _ has) (later i _ has) (right_kept (Initiator input) g)
  right_kept (Target c) (function_in i input out table has g) = function_in_stays input out table φ ψ (now i _ has) (later i _ has) (right_kept (Target out) g)
  right_kept (Initiator c) (fork_a i input a b ta tb has g h) = fork_a_stays input a b ta tb φ ψ (now i _ has) (later i _ has) (right_kept (Initiator input) g) (right_kept (Target b) h)
  right_kept (Initiator c) (fork_b i input a b ta tb has g h) = fork_b_stays input a b ta tb φ ψ (now i _ has) (later i _ has) (right_kept (Initiator input) g) (right_kept (Target a) h)
  right_kept (Target c) (fork_in i input a b ta tb has g h) = fork_in_stays input a b ta tb φ ψ (now i _ has) (later i _ has) (right_kept (Target a) g) (right_kept (Target b) h)
  right_kept (Initiator c) (join_out i a b out pass has g h) = join_out_stays a b out pass φ ψ (now i _ has) (later i _ has) (right_kept (Initiator a) g) (right_kept (Initiator b) h)
  right_kept (Target c) (join_a i a b out pass has g h) = join_a_stays a b out pass φ ψ (now i _ has) (later i _ has) (right_kept (Target out) g) (right_kept (Initiator b) h)
  right_kept (Target c) (join_b i a b out pass has g h) = join_b_stays a b out pass φ ψ (now i _ has) (later i _ has) (right_kept (Target out) g) (right_kept (Initiator a) h)
  right_kept (Initiator c) (switch_a i input a b to_a has g) = switch_a_stays input a b to_a φ ψ (now i _ has) (later i _ has) (right_kept (Initiator input) g)
  right_kept (Initiator c) (switch_b i input a b to_a has g) = switch_b_stays input a b to_a φ ψ (now i _ has) (later i _ has) (right_kept (Initiator input) g)
  right_kept (Target c) (switch_in i input a b to_a has) = switch_in_stays input a b to_a φ ψ (now i _ has)
  right_kept (Initiator c) (merge_out i a b out has g h) = merge_out_stays a b out (pref_in (s i)) φ ψ (now i _ has) (later i _ has) (right_kept (Initiator a) g) (right_kept (Initiator b) h)
  right_kept (Target c) (merge_a i a b out has) = merge_a_stays a b out (pref_in (s i)) φ ψ (now i _ has)
  right_kept (Target c) (merge_b i a b out has) = merge_b_stays a b out (pref_in (s i)) φ ψ (now i _ has)

pub grants_hold : GrantsHold
grants_hold net s w v φ ψ right now then g = right_kept net s w v φ ψ now then right g

-- of a run: the next state is that of the definition, primitive by primitive
same_state : (net : Network) (s t : ℕ → Content) (w : ℕ → Choice) (φ : Signals) → ((p : ℕ) → s p ≡ t p) → IsFrame net s w φ → IsFrame net t w φ
same_state net s t w φ same frame = λ p m has. subst (λ (x : Content). Equation m x (w p) φ) (same p) (frame p m has)

pub grants_hold_of_runs : GrantsHoldOfRuns
grants_hold_of_runs net cycles w s φ right run g t h =
    let then = same_state net (s (suc t)) (next net (s t) (φ t)) (w (suc t)) (φ (suc t)) (λ p. run.steps t p (omega arith)) (run.frames (suc t) h) in
    right_kept net (s t) (w t) (w (suc t)) (φ t) (φ (suc t)) (run.frames t (omega arith)) then right g
