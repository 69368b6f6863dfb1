-- The signals of a part, in the order of all: each after those on which it depends.
use Rattle.std.proofs.Common.{◌≡◌, ℕ, ◌<◌, true, List, ap, sym, ◌∙◌, arith, eq-eqb, Some, slice_get}
use Rattle.std.proofs.lemmas.Bool.{eqb-true}
use Rattle.xm_model.specs.Net.{Network}
use Rattle.xm_order.specs.Dependence.{Depends, IsOrder, channel_of}
use Rattle.xm_order.specs.declared.signal.Signal.{Signal}
use Rattle.xm_order.specs.declared.signal.Signal.TheVariants as signal
use Rattle.xm_parts.proofs.Cut.{same_label}
use Rattle.xm_parts.proofs.Filtered.{kept, kept_at, kept_from, kept_rises}
use Rattle.xm_parts.proofs.Passing.{place_once}
use Rattle.xm_parts.specs.Kept.{lies_at, placed, signals_in}
use Rattle.xm_parts.specs.Partition.{IsPartition, lies_in}

pub record IsPartOrder (net : Network) (label : ℕ → ℕ) (p : ℕ) (signals : List Signal) : Type 0 where
  pub whole : (σ : Signal) → channel_of σ < net.channels → label (channel_of σ) ≡ p → (k : ℕ) × (slice_get signals k ≡ Some σ)
  pub within : (k : ℕ) (σ : Signal) → slice_get signals k ≡ Some σ → channel_of σ < net.channels
  pub lies : (k : ℕ) (σ : Signal) → slice_get signals k ≡ Some σ → label (channel_of σ) ≡ p
  pub once : (j k : ℕ) (σ : Signal) → slice_get signals j ≡ Some σ → slice_get signals k ≡ Some σ → j ≡ k
  pub after : (k : ℕ) (σ τ : Signal) → slice_get signals k ≡ Some σ → Depends net σ τ → (j : ℕ) × ((j < k) × (slice_get signals j ≡ Some τ))

pub part_order : (net : Network) (label : ℕ → ℕ) (p : ℕ) (order : List Signal) → IsOrder net order → IsPartition net label → IsPartOrder net label p (signals_in order label p)
part_order net label p order is partition = record {
  whole = λ σ below lies.
      let at = is.whole σ below in
      (kept (lies_at label p) order at.0, kept_at (lies_at label p) order at.0 σ at.1 (eq-eqb (label (channel_of σ)) p lies));
  within = λ k σ at. let r = kept_from (lies_at label p) order k σ at in is.within r.place σ r.there;
  lies = λ k σ at. let r = kept_from (lies_at label p) order k σ at in eqb-true (label (channel_of σ)) p r.passes;
  once = λ j k σ one two.
      let a = kept_from (lies_at label p) order j σ one in let b = kept_from (lies_at label p) order k σ two in
      sym a.at ∙ ap (kept (lies_at label p) order) (is.once a.place b.place σ a.there b.there) ∙ b.at;
  after = λ k σ τ at d.
      let a = kept_from (lies_at label p) order k σ at in
      let before = is.after a.place σ τ a.there d in
      let lies : label (channel_of τ) ≡ p = sym (same_label net label partition σ τ d) ∙ eqb-true (label (channel_of σ)) p a.passes in
      let passes : lies_at label p τ ≡ true = eq-eqb (label (channel_of τ)) p lies in
      let rises = kept_rises (lies_at label p) order before.0 a.place τ before.1.0 before.1.1 passes in
      (kept (lies_at label p) order before.0, (omega (arith, rises, a.at), kept_at (lies_at label p) order before.0 τ before.1.1 passes));
}

-- different signals of a part have different places
pub placed_once : (label : ℕ → ℕ) (p : ℕ) (σ τ : Signal) → label (channel_of σ) ≡ p → label (channel_of τ) ≡ p → placed label p σ ≡ placed label p τ → σ ≡ τ
placed_once label p (signal.Offer c) (signal.Offer d) c_lies d_lies e = ap signal.Offer (place_once (lies_in label p) c d (eq-eqb (label c) p c_lies) (eq-eqb (label d) p d_lies) (cc))
placed_once label p (signal.Offer c) (signal.Ready d) c_lies d_lies e = absurd cc
placed_once label p (signal.Ready c) (signal.Offer d) c_lies d_lies e = absurd cc
placed_once label p (signal.Ready c) (signal.Ready d) c_lies d_lies e = ap signal.Ready (place_once (lies_in label p) c d (eq-eqb (label c) p c_lies) (eq-eqb (label d) p d_lies) (cc))
