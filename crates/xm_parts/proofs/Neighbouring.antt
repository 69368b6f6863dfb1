-- The parts in which the far channels of a part's cut queues lie are its neighbours.
use Rattle.std.proofs.Common.{◌≡◌, ℕ, zero, suc, ◌+◌, ◌<◌, true, get_or, List, [], ◌∷◌, ◌++◌, length, refl, ap, sym, ◌∙◌, subst, inl, inr, arith, Some, None, slice_get, ◌≢◌, eq-eqb}
use Rattle.std.specs.Prelude.{All, Option}
use Rattle.std.proofs.lemmas.Bool.{cases_lt}
use Rattle.std.proofs.lemmas.Option.{slice_get_within}
use Rattle.xm_colours.specs.Family.{Rises}
use Rattle.xm_model.specs.Component.{Component}
use Rattle.xm_model.specs.Net.{HasPrim, IsNet, Network}
use Rattle.xm_order.specs.Lemmas.Items.{get-append_left, get-push_last, push_cases}
use Rattle.xm_parts.proofs.FarMoving.{far_port, some_far}
use Rattle.xm_parts.proofs.Parting.{port_below, slice_get-found}
use Rattle.xm_parts.proofs.Passing.{passing_at, passing_from}
use Rattle.xm_parts.proofs.Viewing.{far_outside}
use Rattle.xm_parts.specs.Kept.{AreCutsOf}
use Rattle.xm_parts.specs.Near.{AreNear, ArePartsOf, HasCut}
use Rattle.xm_parts.specs.Partition.{AreNeighbours, cuts_in, far_at, far_channel, is_cut}
use Rattle.xm_parts.specs.declared.part.Cut.{Cut}

-- one more that is greater than all
rises_push : (xs : List ℕ) (q : ℕ) → Rises xs → ((k x : ℕ) → slice_get xs k ≡ Some x → x < q) → Rises (xs ++ q ∷ [])
rises_push [] q rise below = tt
rises_push (x ∷ []) q rise below = (below 0 x refl, tt)
rises_push (x ∷ y ∷ ys) q rise below = (rise.0, rises_push (y ∷ ys) q rise.1 (λ k z at. below (suc k) z at))

pub parts_push : (cuts : List Cut) (q : ℕ) (made : List ℕ) → HasCut cuts q → ArePartsOf cuts q made → ArePartsOf cuts (q + 1) (made ++ q ∷ [])
parts_push cuts q made has before = record {
  near = λ k r at. elim (push_cases made q k r at) [ inl h ↦ before.near k r h | inr h ↦ subst (HasCut cuts) h.1 has ];
  whole = λ r below h. elim (cases_lt r q) [
    | inl less ↦ (let found = before.whole r less h in (found.0, get-append_left made (q ∷ []) found.0 r found.1))
    | inr more ↦ (let same : q ≡ r = omega arith in (length made, get-push_last made q ∙ ap Some same))
  ];
  below = λ k r at. elim (push_cases made q k r at) [
    | inl h ↦ (let less = before.below k r h in omega arith)
    | inr h ↦ (let same = h.1 in omega arith)
  ];
  rise = rises_push made q before.rise before.below;
}

pub parts_skip : (cuts : List Cut) (q : ℕ) (made : List ℕ) → (HasCut cuts q → ⊥) → ArePartsOf cuts q made → ArePartsOf cuts (q + 1) made
parts_skip cuts q made none before = record {
  near = before.near;
  whole = λ r below h. elim (cases_lt r q) [
    | inl less ↦ before.whole r less h
    | inr more ↦ absurd (let same : r ≡ q = omega arith in none (subst (HasCut cuts) same h))
  ];
  below = λ k r at. (let less = before.below k r at in omega arith);
  rise = before.rise;
}

queue_within : (net : Network) (label : ℕ → ℕ) (p i c : ℕ) → far_at net label p i ≡ Some c → i < length net.prims
queue_within net label p i c far = of (slice_get net.prims i) refl far where
  of : (o : Option Component) → slice_get net.prims i ≡ o → far_channel label p o ≡ Some c → i < length net.prims
  of None is h = absurd cc
  of (Some m) is h = slice_get_within net.prims i m is

-- a label that is read is below 64
pub small_label : (labels : List ℕ) → All (λ x. x < 64) labels → (c : ℕ) → get_or labels c 0 < 64
small_label [] all c = omega arith
small_label (x ∷ xs) all zero = all 0 0 (omega arith)
small_label (x ∷ xs) all (suc c) = small_label xs (λ k d below. all (suc k) d (omega arith)) c

module _ (net : Network) (label : ℕ → ℕ) (p : ℕ) (cuts : List Cut) (are : AreCutsOf net label p cuts) where
  neighbour : (q : ℕ) → HasCut cuts q → AreNeighbours net label p q
  neighbour q has =
      let i = slice_get-found (cuts_in net label p) has.place (let h = slice_get_within cuts has.place has.cut has.stands in let w = are.whole in omega arith) in
      let is = passing_from (is_cut net label p) (length net.prims) has.place i.0 i.1 in
      let c = some_far (far_at net label p i.0) is.passes in
      let each = are.each has.place i.0 c.0 has.cut i.1 c.1 has.stands in
      record { queue = i.0; far = c.0; cut = c.1; there = sym each.0 ∙ has.part }

  cut_of : (q : ℕ) → AreNeighbours net label p q → HasCut cuts q
  cut_of q near =
      let cut : is_cut net label p near.queue ≡ true = rw near.cut refl in
      let at = passing_at (is_cut net label p) (length net.prims) near.queue (queue_within net label p near.queue near.far near.cut) cut in
      let found = slice_get-found cuts _ (let h = slice_get_within (cuts_in net label p) _ near.queue at in let w = are.whole in omega arith) in
      let each = are.each _ near.queue near.far found.0 at near.cut found.1 in
      record { place = _; cut = found.0; stands = found.1; part = each.0 ∙ near.there }

  pub are_near : (parts : List ℕ) → ArePartsOf cuts 64 parts → ((q : ℕ) → AreNeighbours net label p q → q < 64) → AreNear net label p parts
  are_near parts of below = record {
    near = λ k q at. neighbour q (of.near k q at);
    whole = λ q near. of.whole q (below q near) (cut_of q near);
    rise = of.rise;
  }

-- a neighbour is one of the parts, and another one
module _ (net : Network) (is_net : IsNet net) (label : ℕ → ℕ) (p q : ℕ) where
  pub neighbour_below : (count : ℕ) → ((c : ℕ) → c < net.channels → label c < count) → AreNeighbours net label p q → q < count
  neighbour_below count below near =
      let m = slice_get-found net.prims near.queue (queue_within net label p near.queue near.far near.cut) in
      let has : HasPrim net near.queue m.0 = m.1 in
      let inside = port_below net is_net near.queue m.0 near.far has (far_port label p m.0 near.far (rw has at near.cut)) in
      subst (λ (x : ℕ). x < count) near.there (below near.far inside)

pub neighbour_differs : (net : Network) (label : ℕ → ℕ) (p q : ℕ) → AreNeighbours net label p q → q ≢ p
neighbour_differs net label p q near same =
    let outside = far_outside label p near.far (slice_get net.prims near.queue) near.cut in
    let inside = eq-eqb (label near.far) p (near.there ∙ same) in cc
