-- In a net a channel has one taker, and the two inputs of a primitive differ.
use Rattle.std.specs.Prelude.{◌≡◌, ℕ, ◌<◌, ◌≤◌, false, nat_eq, List, [], ◌∷◌, slice_get}
use Rattle.std.proofs.Common.{ap, arith, inl, inr}
use Rattle.xm_model.specs.Component.{Component}
use Rattle.xm_model.specs.Lemmas.PortCounts.{apart, counted, first_or_rest, input_below, input_counted, times_within_in}
use Rattle.xm_model.specs.Net.{HasPrim, IsNet, Network, inputs, targets}
use Rattle.xm_model.specs.Membership.{IsIn, times}
use Rattle.xm_model.specs.Lemmas.ChannelEnds.{targets-input}
use Rattle.xm_model.specs.Ports.{HasInput}

in_from_count : (cs : List ℕ) (c : ℕ) → 0 < times c cs → IsIn cs c
in_from_count [] c h = absurd (omega arith)
in_from_count (k ∷ cs) c h = elim (first_or_rest k c (times c cs) h) [ inl same ↦ inl same | inr more ↦ inr (in_from_count cs c more) ]

module _ (net : Network) (is_net : IsNet net) where
  target_place : (p c : ℕ) (m : Component) → HasPrim net p m → HasInput m c → targets net.prims c ≡ p ∷ []
  target_place p c m has has_input = targets-input net is_net.wired p c m has (input_below net (counted net is_net) p m c has has_input) (in_from_count (inputs m) c (input_counted m c has_input))

  pub one_target_place : (p q c : ℕ) (m n : Component) → HasPrim net p m → HasPrim net q n → HasInput m c → HasInput n c → p ≡ q
  one_target_place p q c m n has_m has_n input_m input_n =
      let at_p = target_place p c m has_m input_m in
      let at_q = target_place q c n has_n input_n in
      cc

  pub one_target : (p q c : ℕ) (m n : Component) → HasPrim net p m → HasPrim net q n → HasInput m c → HasInput n c → m ≡ n
  one_target p q c m n has_m has_n input_m input_n =
      let same = one_target_place p q c m n has_m has_n input_m input_n in
      let there : slice_get net.prims p ≡ slice_get net.prims q = ap (slice_get net.prims) same in
      cc

  pub apart_inputs : (p a b : ℕ) (m : Component) → HasPrim net p m → inputs m ≡ a ∷ b ∷ [] → HasInput m a → nat_eq b a ≡ false
  apart_inputs p a b m has same has_input =
      let wired = counted net is_net in
      let within = times_within_in net p m a has in
      let once = wired.one_target a (input_below net wired p m a has has_input) in
      let few : times a (inputs m) ≤ 1 = omega (arith, within, once) in
      apart a b (rw same at few)
