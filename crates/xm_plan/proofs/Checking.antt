-- What the tests of a list of tasks tell.
use Rattle.std.proofs.Common.{◌≡◌, ℕ, Bool, true, nat_eq, List, Some, slice_get, slice_index, sym, ap, ◌∙◌, subst, inl, inr, arith}
use Rattle.std.proofs.lemmas.Bool.{and_parts, eqb-true, leb-true, or_cases}
use Rattle.std.specs.Prelude.{◌||◌}
use Rattle.xm_design.specs.declared.tasks.Task.{Task}
use Rattle.xm_model.specs.Component.{Component, Fork, Function, Join, Merge, Queue, Sink, Source, Switch}
use Rattle.xm_model.specs.Lemmas.PortCounts.{at_first}
use Rattle.xm_model.specs.Ports.{HasInput, HasOutput, fork_input, fork_output_a, fork_output_b, function_input, function_output, join_input_a, join_input_b, join_output, merge_input_a, merge_input_b, merge_output, queue_input, queue_output, sink_input, source_output, switch_input, switch_output_a, switch_output_b}
use Rattle.xm_order.specs.Dependence
use Rattle.xm_order.specs.Dependence.{Needs}
use Rattle.xm_order.specs.Loop.{rank}
use Rattle.xm_order.specs.declared.signal.Signal.{Signal}
use Rattle.xm_order.specs.declared.signal.Signal.TheVariants as signal
use Rattle.xm_plan.specs.Inner.Checks.{IsInOrder, follows, is_input, is_maker, is_output, offer_follows, ready_follows, stands_by}
use Rattle.xm_plan.specs.Schedule.{IsMaker, IsSchedule}

at_port : (P : ℕ → Type 0) (port c : ℕ) → nat_eq port c ≡ true → P port → P c
at_port P port c e h = subst P (eqb-true port c e) h

at_either : (P : ℕ → Type 0) (a b c : ℕ) → (nat_eq a c || nat_eq b c) ≡ true → P a → P b → P c
at_either P a b c e h i = elim (or_cases (nat_eq a c) (nat_eq b c) e) [ inl l ↦ at_port P a c l h | inr r ↦ at_port P b c r i ]

pub output_told : (m : Component) (c : ℕ) → is_output m c ≡ true → HasOutput m c
output_told (Source out colours mode) c e = at_port (λ d. HasOutput (Source out colours mode) d) out c e source_output
output_told (Sink input mode) c e = absurd cc
output_told (Queue input out capacity initial) c e = at_port (λ d. HasOutput (Queue input out capacity initial) d) out c e queue_output
output_told (Function input out table) c e = at_port (λ d. HasOutput (Function input out table) d) out c e function_output
output_told (Fork input a b ta tb) c e = at_either (λ d. HasOutput (Fork input a b ta tb) d) a b c e fork_output_a fork_output_b
output_told (Join a b out pass) c e = at_port (λ d. HasOutput (Join a b out pass) d) out c e join_output
output_told (Switch input a b to_a) c e = at_either (λ d. HasOutput (Switch input a b to_a) d) a b c e switch_output_a switch_output_b
output_told (Merge a b out) c e = at_port (λ d. HasOutput (Merge a b out) d) out c e merge_output

pub input_told : (m : Component) (c : ℕ) → is_input m c ≡ true → HasInput m c
input_told (Source out colours mode) c e = absurd cc
input_told (Sink input mode) c e = at_port (λ d. HasInput (Sink input mode) d) input c e sink_input
input_told (Queue input out capacity initial) c e = at_port (λ d. HasInput (Queue input out capacity initial) d) input c e queue_input
input_told (Function input out table) c e = at_port (λ d. HasInput (Function input out table) d) input c e function_input
input_told (Fork input a b ta tb) c e = at_port (λ d. HasInput (Fork input a b ta tb) d) input c e fork_input
input_told (Join a b out pass) c e = at_either (λ d. HasInput (Join a b out pass) d) a b c e join_input_a join_input_b
input_told (Switch input a b to_a) c e = at_port (λ d. HasInput (Switch input a b to_a) d) input c e switch_input
input_told (Merge a b out) c e = at_either (λ d. HasInput (Merge a b out) d) a b c e merge_input_a merge_input_b

pub maker_told : (m : Component) (σ : Signal) → is_maker m σ ≡ true → IsMaker m σ
maker_told m (signal.Offer c) e = output_told m c e
maker_told m (signal.Ready c) e = input_told m c e

module _ (P : Signal → Bool) where
  offer_needs_pass : (m : Component) (c : ℕ) (τ : Signal) → offer_follows P m c ≡ true → Needs m (signal.Offer c) τ → P τ ≡ true
  offer_needs_pass m c τ e Dependence.function_offer = e
  offer_needs_pass m c τ e Dependence.fork_offer_a_in = (and_parts _ _ e).0
  offer_needs_pass m c τ e (Dependence.fork_offer_a_b {a = a}) = sym (at_first a _ _) ∙ (and_parts _ _ (and_parts _ _ e).1).0
  offer_needs_pass m c τ e Dependence.fork_offer_b_in = (and_parts _ _ e).0
  offer_needs_pass m c τ e (Dependence.fork_offer_b_a {b = b}) = sym (at_first b _ _) ∙ (and_parts _ _ (and_parts _ _ e).1).1
  offer_needs_pass m c τ e Dependence.join_offer_a = (and_parts _ _ e).0
  offer_needs_pass m c τ e Dependence.join_offer_b = (and_parts _ _ e).1
  offer_needs_pass m c τ e Dependence.switch_offer_a = e
  offer_needs_pass m c τ e Dependence.switch_offer_b = e
  offer_needs_pass m c τ e Dependence.merge_offer_a = (and_parts _ _ e).0
  offer_needs_pass m c τ e Dependence.merge_offer_b = (and_parts _ _ e).1

  ready_needs_pass : (m : Component) (c : ℕ) (τ : Signal) → ready_follows P m c ≡ true → Needs m (signal.Ready c) τ → P τ ≡ true
  ready_needs_pass m c τ e Dependence.function_ready = e
  ready_needs_pass m c τ e Dependence.fork_ready_a = (and_parts _ _ e).0
  ready_needs_pass m c τ e Dependence.fork_ready_b = (and_parts _ _ e).1
  ready_needs_pass m c τ e Dependence.join_ready_a_out = (and_parts _ _ e).0
  ready_needs_pass m c τ e (Dependence.join_ready_a_b {a = a}) = sym (at_first a _ _) ∙ (and_parts _ _ (and_parts _ _ e).1).0
  ready_needs_pass m c τ e Dependence.join_ready_b_out = (and_parts _ _ e).0
  ready_needs_pass m c τ e (Dependence.join_ready_b_a {b = b}) = sym (at_first b _ _) ∙ (and_parts _ _ (and_parts _ _ e).1).1
  ready_needs_pass m c τ e Dependence.switch_ready_in = (and_parts _ _ e).0
  ready_needs_pass m c τ e Dependence.switch_ready_a = (and_parts _ _ (and_parts _ _ e).1).0
  ready_needs_pass m c τ e Dependence.switch_ready_b = (and_parts _ _ (and_parts _ _ e).1).1
  ready_needs_pass m c τ e Dependence.merge_ready_a_a = (and_parts _ _ e).0
  ready_needs_pass m c τ e Dependence.merge_ready_a_b = (and_parts _ _ (and_parts _ _ e).1).0
  ready_needs_pass m c τ e Dependence.merge_ready_a_out = (and_parts _ _ (and_parts _ _ e).1).1
  ready_needs_pass m c τ e Dependence.merge_ready_b_a = (and_parts _ _ e).0
  ready_needs_pass m c τ e Dependence.merge_ready_b_b = (and_parts _ _ (and_parts _ _ e).1).0
  ready_needs_pass m c τ e Dependence.merge_ready_b_out = (and_parts _ _ (and_parts _ _ e).1).1

  pub needs_pass : (m : Component) (σ τ : Signal) → follows P m σ ≡ true → Needs m σ τ → P τ ≡ true
  needs_pass m (signal.Offer c) τ e needs = offer_needs_pass m c τ e needs
  needs_pass m (signal.Ready c) τ e needs = ready_needs_pass m c τ e needs

-- tasks that stand in order are a schedule
pub schedule_from : (prims : List Component) (positions : List ℕ) (tasks : List Task) → ((k : ℕ) (task : Task) → slice_get tasks k ≡ Some task → IsInOrder prims positions task k) → IsSchedule prims tasks
schedule_from prims positions tasks h = record {
  made = λ k task at. let o = h k task at in record { prim = o.prim; has = o.has; maker = maker_told o.prim task.signal o.maker };
  once = λ j k first second at_j at_k same.
      let x = (h j first at_j).stands in
      let y = (h k second at_k).stands in
      let z : slice_index positions (rank first.signal) ≡ slice_index positions (rank second.signal) = ap (λ (σ : Signal). slice_index positions (rank σ)) same in
      omega arith;
  after = λ j k first second m at_j at_k has needs.
      let x = (h j first at_j).stands in
      let o = h k second at_k in
      let there = o.has in
      let is : o.prim ≡ m = cc in
      let passes : stands_by positions k first.signal ≡ true = needs_pass (stands_by positions k) m second.signal first.signal (subst (λ (n : Component). follows (stands_by positions k) n second.signal ≡ true) is o.after) needs in
      let below = leb-true (slice_index positions (rank first.signal)) k passes in
      omega arith;
}
