-- A tape has exactly one run.
use Rattle.std.proofs.Common.{◌≡◌, ℕ, zero, suc, ◌<◌, ◌≤◌, List, refl, sym, ◌∙◌, subst, arith}
use Rattle.xm_model.specs.Component.{Content}
use Rattle.xm_model.specs.Frame.{Equation}
use Rattle.xm_model.specs.Net.{IsNet, Network}
use Rattle.xm_model.specs.Next.{next, reset}
use Rattle.xm_model.specs.Run.{IsRun}
use Rattle.xm_model.specs.Signals.{Signals}
use Rattle.xm_model.specs.declared.state.Choice.{Choice}
use Rattle.xm_order.specs.Dependence.{IsOrder}
use Rattle.xm_order.specs.OneFrame.{OneFrame, SameFrame}
use Rattle.xm_order.specs.declared.signal.Signal.{Signal}
use Rattle.xm_order.specs.OneRun.{OneRun}
use Rattle.xm_order.specs.Lemmas.SameNext.{next_same}

module _ (one_frame : OneFrame) (net : Network) (signals : List Signal) (cycles : ℕ) (w : ℕ → ℕ → Choice) (is_net : IsNet net) (order : IsOrder net signals) where
  abbrev frame_in : (ℕ → Content) → ℕ → Signals
  frame_in s t = (one_frame net signals s (w t) is_net order).0.0

  abbrev states : ℕ → ℕ → Content
  states zero = reset net
  states (suc t) = next net (states t) (frame_in (states t) t)

  the_run : IsRun net cycles w states (λ t. frame_in (states t) t)
  the_run = record {
    start = λ p. refl;
    frames = λ t h. (one_frame net signals (states t) (w t) is_net order).0.1;
    steps = λ t p h. refl;
  }

  module _ (s s' : ℕ → ℕ → Content) (φ φ' : ℕ → Signals) (one : IsRun net cycles w s φ) (two : IsRun net cycles w s' φ') where
    frames_same : (t : ℕ) → t < cycles → ((p : ℕ) → s t p ≡ s' t p) → SameFrame net (φ t) (φ' t)
    frames_same t h states_same =
        (one_frame net signals (s t) (w t) is_net order).1 (φ t) (φ' t) (one.frames t h)
        (λ p m has. subst (λ (x : Content). Equation m x (w t p) (φ' t)) (sym (states_same p)) (two.frames t h p m has))

    states_same : (t p : ℕ) → t ≤ cycles → s t p ≡ s' t p
    states_same zero p h = one.start p ∙ sym (two.start p)
    states_same (suc t) p h =
        one.steps t p (omega arith)
        ∙ next_same net is_net (φ t) (φ' t) (frames_same t (omega arith) (λ j. states_same t j (omega arith))) (s t) (s' t) (λ j. states_same t j (omega arith)) p
        ∙ sym (two.steps t p (omega arith))

pub one_run : OneFrame → OneRun
one_run one_frame net signals cycles w is_net order = (
  (states one_frame net signals cycles w is_net order, ((λ t. frame_in one_frame net signals cycles w is_net order (states one_frame net signals cycles w is_net order t) t), the_run one_frame net signals cycles w is_net order)),
  λ s s' φ φ' one two. (
    states_same one_frame net signals cycles w is_net order s s' φ φ' one two,
    λ t h. frames_same one_frame net signals cycles w is_net order s s' φ φ' one two t h (λ p. states_same one_frame net signals cycles w is_net order s s' φ φ' one two t p (omega arith)),
  ),
)
