-- Lemmas: where two states agree and two frames agree on the net's channels, the next states agree.
use Rattle.std.specs.Prelude.{◌≡◌, ℕ, Option, Some, None, slice_get, refl}
use Rattle.std.proofs.Common.{◌∙◌, ap, inl, inr}
use Rattle.xm_model.specs.Component.{Component, Content}
use Rattle.xm_model.specs.Lemmas.PortCounts.{counted, output_below, input_below}
use Rattle.xm_model.specs.Lemmas.Local.{content_local}
use Rattle.xm_model.specs.Net.{IsNet, Network}
use Rattle.xm_model.specs.Next.{next, next_at}
use Rattle.xm_model.specs.Signals.{Signals}
use Rattle.xm_order.specs.OneFrame.{SameFrame}

module _ (net : Network) (is_net : IsNet net) (φ ψ : Signals) (same : SameFrame net φ ψ) where
  next_at_same : (p : ℕ) (s : Content) (o : Option Component) → slice_get net.prims p ≡ o →
      next_at o s φ ≡ next_at o s ψ
  next_at_same p s None is = refl
  next_at_same p s (Some m) is =
      content_local m s φ ψ (λ c port. same c (elim port [
        | inl has_output ↦ output_below net (counted net is_net) p m c is has_output
        | inr has_input ↦ input_below net (counted net is_net) p m c is has_input
      ]))

  pub next_same : (s t : ℕ → Content) → ((p : ℕ) → s p ≡ t p) → (p : ℕ) → next net s φ p ≡ next net t ψ p
  next_same s t states p =
      ap (λ (x : Content). next_at (slice_get net.prims p) x φ) (states p)
      ∙ next_at_same p (t p) (slice_get net.prims p) refl
