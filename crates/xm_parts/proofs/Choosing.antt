-- A part's own choices, in a row of all.
use Rattle.std.proofs.Common.{◌≡◌, ◌∙◌, ◌+◌, ℕ, zero, suc, Bool, true, false, List, [], ◌∷◌, ap, arith, refl, sym, Some, slice_get}
use Rattle.std.specs.Prelude.{cond, Option}
use Rattle.xm_model.specs.Component.{Component, Content, Fork, Function, Join, Merge, Queue, Sink, Source, Switch}
use Rattle.xm_model.specs.Signals.{Signals, held_in, offer_chosen, pending_in, ready_chosen, sink_ready, source_offer}
use Rattle.xm_model.specs.Views.{choice_or, is_oracle, oracles_below}
use Rattle.xm_model.specs.declared.state.Choice.{Choice}
use Rattle.xm_order.specs.Sides.{offer_side, ready_side}
use Rattle.xm_parts.specs.Choosing.{ChoosingLaw, own_oracles}
use Rattle.xm_parts.specs.Kept.{renamed}
use Rattle.xm_parts.specs.Partition.{touches}

-- an oracle more or not
skipped : (b t : Bool) (ts : List Bool) (j : ℕ) → slice_get (cond b (t ∷ ts) ts) (cond b 1 0 + j) ≡ slice_get ts j
skipped true t ts j = ap (slice_get (t ∷ ts)) (let e : 1 + j ≡ suc j = omega arith in e)
skipped false t ts j = ap (slice_get ts) (let e : 0 + j ≡ j = omega arith in e)

here : (label : ℕ → ℕ) (p : ℕ) (m : Component) (b : Bool) (ts : List Bool) → b ≡ true → slice_get (cond b (touches label p (Some m) ∷ ts) ts) 0 ≡ Some (touches label p (Some m))
here label p m true ts is = refl
here label p m false ts is = absurd cc

own_at : (label : ℕ → ℕ) (p : ℕ) (ms : List Component) (i : ℕ) (m : Component) → slice_get ms i ≡ Some m → is_oracle m ≡ true → slice_get (own_oracles label p ms) (oracles_below ms i) ≡ Some (touches label p (Some m))
own_at label p [] i m at is = absurd cc
own_at label p (n ∷ ms) zero m at is = let same : n ≡ m = cc in rw same (here label p m (is_oracle m) (own_oracles label p ms) is)
own_at label p (n ∷ ms) (suc i) m at is = skipped (is_oracle n) (touches label p (Some n)) (own_oracles label p ms) (oracles_below ms i) ∙ own_at label p ms i m at is

pub choosing_law : ChoosingLaw
choosing_law net label p whole row same i m has is inside =
    ap choice_or (same (oracles_below net.prims i) (own_at label p net.prims i m has is ∙ ap (λ (o : Option Component). Some (touches label p o)) (sym has) ∙ ap Some inside))

-- no other primitive reads a choice
pub offer_alike : (m : Component) (s : Content) (v w : Choice) (φ : Signals) (c : ℕ) → (is_oracle m ≡ true → v ≡ w) → offer_side m s v φ c ≡ offer_side m s w φ c
offer_alike (Source out colours mode) s v w φ c same = ap (λ (x : Choice). source_offer mode colours (pending_in s) (offer_chosen x)) (same refl)
offer_alike (Sink input mode) s v w φ c same = refl
offer_alike (Queue input out capacity initial) s v w φ c same = refl
offer_alike (Function input out table) s v w φ c same = refl
offer_alike (Fork input a b ta tb) s v w φ c same = refl
offer_alike (Join a b out pass) s v w φ c same = refl
offer_alike (Switch input a b to_a) s v w φ c same = refl
offer_alike (Merge a b out) s v w φ c same = refl

pub ready_alike : (m : Component) (s : Content) (v w : Choice) (φ : Signals) (c : ℕ) → (is_oracle m ≡ true → v ≡ w) → ready_side m s v φ c ≡ ready_side m s w φ c
ready_alike (Source out colours mode) s v w φ c same = refl
ready_alike (Sink input mode) s v w φ c same = ap (λ (x : Choice). sink_ready mode (held_in s) (ready_chosen x)) (same refl)
ready_alike (Queue input out capacity initial) s v w φ c same = refl
ready_alike (Function input out table) s v w φ c same = refl
ready_alike (Fork input a b ta tb) s v w φ c same = refl
ready_alike (Join a b out pass) s v w φ c same = refl
ready_alike (Switch input a b to_a) s v w φ c same = refl
ready_alike (Merge a b out) s v w φ c same = refl

-- a primitive with other ports is of the same kind
pub oracle_renamed : (r : ℕ → ℕ) (m : Component) → is_oracle (renamed r m) ≡ is_oracle m
oracle_renamed r (Source out colours mode) = refl
oracle_renamed r (Sink input mode) = refl
oracle_renamed r (Queue input out capacity initial) = refl
oracle_renamed r (Function input out table) = refl
oracle_renamed r (Fork input a b ta tb) = refl
oracle_renamed r (Join a b out pass) = refl
oracle_renamed r (Switch input a b to_a) = refl
oracle_renamed r (Merge a b out) = refl
