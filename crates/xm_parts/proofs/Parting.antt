-- What a part has one cycle on.
use Rattle.std.proofs.Common.{◌≡◌, ℕ, zero, suc, true, false, List, [], ◌∷◌, length, map, Some, refl, ap, sym, ◌∙◌, inl, inr, arith, eq-eqb, slice_get}
use Rattle.std.specs.Prelude.{◌<◌}
use Rattle.std.proofs.lemmas.Bool.{eqb-true}
use Rattle.std.proofs.lemmas.Option.{slice_get-map, slice_get_within}
use Rattle.xm_model.specs.Component.{Component, Content, Queue, Source, Sink, Function, Fork, Join, Switch, Merge}
use Rattle.xm_model.specs.Lemmas.PortCounts.{counted, output_below, find_initiator, find_target, input_below}
use Rattle.xm_model.specs.Frame.{IsFrame}
use Rattle.xm_model.specs.Lemmas.Local.{IsPort, SameAtPorts, content_local, queue_local}
use Rattle.xm_model.specs.Net.{HasPrim, IsNet, Network}
use Rattle.xm_model.specs.Next.{content_after, move, next}
use Rattle.xm_model.specs.Ports.{queue_output, queue_input}
use Rattle.xm_model.specs.Signals.{Signals}
use Rattle.xm_model.specs.declared.state.Choice.{Choice}
use Rattle.xm_model.specs.declared.state.Wire.{Wire}
use Rattle.xm_order.specs.Dependence.{Depends, IsOrder, channel_of}
use Rattle.xm_order.specs.Settle.{Same}
use Rattle.xm_order.specs.Sides.{offer_side, ready_side}
use Rattle.xm_order.specs.declared.signal.Signal.{Signal}
use Rattle.xm_order.specs.declared.signal.Signal.TheVariants as signal
use Rattle.xm_parts.proofs.Cut.{offer_made, ready_made, same_label}
use Rattle.xm_parts.proofs.Passing.{passing_at, passing_from}
use Rattle.xm_parts.proofs.Touching.{all_lie, input_end, out_end, touching}
use Rattle.xm_parts.specs.PartLaw.{PartLaw}
use Rattle.xm_parts.specs.Partition.{IsPartition, channels_in, cuts_in, far_at, is_cut, is_queue, lies_in, prims_in, touches_at}
use Rattle.xm_parts.specs.Projection.{Row, far_moves, move_on, projection, wire_of}

-- two maps of one list that are equal agree at its items
pub maps_agree : {X Y : Type 0} (f g : X → Y) (xs : List X) (k : ℕ) (x : X) → map f xs ≡ map g xs → slice_get xs k ≡ Some x → f x ≡ g x
maps_agree f g xs k x e at =
    let one : slice_get (map f xs) k ≡ Some (f x) = rw (slice_get-map f xs k, at) refl in
    let two : slice_get (map g xs) k ≡ Some (g x) = rw (slice_get-map g xs k, at) refl in
    let same = ap (λ zs. slice_get zs k) e in
    cc

-- two maps of one list are equal where they agree at its items
pub maps_same : {X Y : Type 0} (f g : X → Y) (xs : List X) → ((k : ℕ) (x : X) → slice_get xs k ≡ Some x → f x ≡ g x) → map f xs ≡ map g xs
maps_same f g [] same = refl
maps_same f g (x ∷ xs) same = let here = same zero x refl in let rest = maps_same f g xs (λ k y at. same (suc k) y at) in cc

-- two states and frames look alike from part p
pub record LooksAlike (net : Network) (label : ℕ → ℕ) (p : ℕ) (s t : ℕ → Content) (φ ψ : Signals) : Type 0 where
  pub contents : (i : ℕ) (m : Component) → HasPrim net i m → touches_at net label p i ≡ true → s i ≡ t i
  pub offers : (c : ℕ) → c < net.channels → label c ≡ p → φ.offer c ≡ ψ.offer c
  pub readies : (c : ℕ) → c < net.channels → label c ≡ p → φ.ready c ≡ ψ.ready c

pub alike : (net : Network) (label : ℕ → ℕ) (p : ℕ) (s t : ℕ → Content) (φ ψ : Signals) → projection net label p s φ ≡ projection net label p t ψ → LooksAlike net label p s t φ ψ
alike net label p s t φ ψ e = record {
  contents = λ i m has touch.
      let at = passing_at (touches_at net label p) (length net.prims) i (slice_get_within net.prims i m has) touch in
      let same = maps_agree {Y = ℕ × Content} (λ k. (k, s k)) (λ k. (k, t k)) (prims_in net label p) _ i (ap (λ (r : Row). r.cells) e) at in
      ap (λ x. x.1) same;
  offers = λ c below lies. ap (λ (x : Wire). x.offer) (wires c below lies);
  readies = λ c below lies. ap (λ (x : Wire). x.ready) (wires c below lies);
} where
  wires : (c : ℕ) → c < net.channels → label c ≡ p → wire_of φ c ≡ wire_of ψ c
  wires c below lies =
      let at = passing_at (lies_in label p) net.channels c below (eq-eqb (label c) p lies) in
      maps_agree (wire_of φ) (wire_of ψ) (channels_in net label p) _ c (ap (λ (r : Row). r.wires) e) at

pub projections_same : (net : Network) (label : ℕ → ℕ) (p : ℕ) (s t : ℕ → Content) (φ ψ : Signals) →
    ((i : ℕ) → i < length net.prims → touches_at net label p i ≡ true → s i ≡ t i) →
    ((c : ℕ) → c < net.channels → label c ≡ p → wire_of φ c ≡ wire_of ψ c) →
    projection net label p s φ ≡ projection net label p t ψ
projections_same net label p s t φ ψ contents wires =
    let one : map {B = ℕ × Content} (λ i. (i, s i)) (prims_in net label p) ≡ map (λ i. (i, t i)) (prims_in net label p) =
    maps_same {Y = ℕ × Content} (λ i. (i, s i)) (λ i. (i, t i)) (prims_in net label p) (λ k i at.
    let is = passing_from (touches_at net label p) (length net.prims) k i at in ap (λ (x : Content). (i, x)) (contents i is.below is.passes)) in
    let two : map (wire_of φ) (channels_in net label p) ≡ map (wire_of ψ) (channels_in net label p) =
    maps_same (wire_of φ) (wire_of ψ) (channels_in net label p) (λ k c at.
    let is = passing_from (lies_in label p) net.channels k c at in wires c is.below (eqb-true (label c) p is.passes)) in
    cc

pub port_below : (net : Network) → IsNet net → (i : ℕ) (m : Component) (c : ℕ) → HasPrim net i m → IsPort m c → c < net.channels
port_below net is_net i m c has (inl has_output) = output_below net (counted net is_net) i m c has has_output
port_below net is_net i m c has (inr has_input) = input_below net (counted net is_net) i m c has has_input

pub slice_get-found : {X : Type 0} (xs : List X) (k : ℕ) → k < length xs → (x : X) × (slice_get xs k ≡ Some x)
slice_get-found [] k h = absurd (omega arith)
slice_get-found (x ∷ xs) zero h = (x, refl)
slice_get-found (x ∷ xs) (suc k) h = slice_get-found xs k (omega arith)

-- what passes to a signal from all on which it depends holds of all signals
module _ (net : Network) (signals : List Signal) (order : IsOrder net signals) (P : Signal → Type 0)
    (step : (σ : Signal) → channel_of σ < net.channels → ((τ : Signal) → Depends net σ τ → P τ) → P σ) where
  holds_below : (n k : ℕ) (σ : Signal) → k < n → slice_get signals k ≡ Some σ → P σ
  holds_below zero k σ h at = absurd (omega arith)
  holds_below (suc n) k σ h at =
      step σ (order.within k σ at) (λ τ d.
      let before = order.after k σ τ at d in
      holds_below n before.0 τ (omega (arith, before.1.0)) before.1.1)

  along_order : (σ : Signal) → channel_of σ < net.channels → P σ
  along_order σ h = let at = order.whole σ h in holds_below (suc at.0) at.0 σ (omega arith) at.1

pub same_self : (φ : Signals) (σ : Signal) → Same φ φ σ
same_self φ (signal.Offer c) = refl
same_self φ (signal.Ready c) = refl

module _ (net : Network) (is_net : IsNet net) (label : ℕ → ℕ) (partition : IsPartition net label) (p : ℕ) where
  -- frames whose contents and choices agree at a part agree on its channels
  module _ (s t : ℕ → Content) (w : ℕ → Choice) (φ ψ : Signals) (one : IsFrame net s w φ) (two : IsFrame net t w ψ)
      (same : (i : ℕ) (m : Component) → HasPrim net i m → touches_at net label p i ≡ true → s i ≡ t i) where
    after_needs : (σ : Signal) → channel_of σ < net.channels → ((τ : Signal) → Depends net σ τ → label (channel_of τ) ≡ p → Same φ ψ τ) → label (channel_of σ) ≡ p → Same φ ψ σ
    after_needs (signal.Offer c) below before lies =
        let d = find_initiator net c (omega (arith, (counted net is_net).one_initiator c below)) in
        let contents = same d.place d.prim d.has (touching net label p d.place c d.prim d.has (inl d.has_output) lies) in
        let here = offer_made (t d.place) (w d.place) φ ψ d.prim c d.has_output (two d.place d.prim d.has) (λ τ needs.
        let dep : Depends net (signal.Offer c) τ = record { place = d.place; prim = d.prim; has = d.has; needs = needs } in
        before τ dep (sym (same_label net label partition (signal.Offer c) τ dep) ∙ lies)) in
        let there = offer_made (s d.place) (w d.place) φ φ d.prim c d.has_output (one d.place d.prim d.has) (λ τ needs. same_self φ τ) in
        sym there ∙ ap (λ (x : Content). offer_side d.prim x (w d.place) φ c) contents ∙ here
    after_needs (signal.Ready c) below before lies =
        let d = find_target net c (omega (arith, (counted net is_net).one_target c below)) in
        let contents = same d.place d.prim d.has (touching net label p d.place c d.prim d.has (inr d.has_input) lies) in
        let here = ready_made (t d.place) (w d.place) φ ψ d.prim c d.has_input (two d.place d.prim d.has) (λ τ needs.
        let dep : Depends net (signal.Ready c) τ = record { place = d.place; prim = d.prim; has = d.has; needs = needs } in
        before τ dep (sym (same_label net label partition (signal.Ready c) τ dep) ∙ lies)) in
        let there = ready_made (s d.place) (w d.place) φ φ d.prim c d.has_input (one d.place d.prim d.has) (λ τ needs. same_self φ τ) in
        sym there ∙ ap (λ (x : Content). ready_side d.prim x (w d.place) φ c) contents ∙ here

    pub frames_agree : (signals : List Signal) → IsOrder net signals → (σ : Signal) → channel_of σ < net.channels → label (channel_of σ) ≡ p → Same φ ψ σ
    frames_agree signals order σ below lies =
        along_order net signals order (λ (τ : Signal). label (channel_of τ) ≡ p → Same φ ψ τ) (λ τ under before. after_needs τ under before) σ below lies

    pub wires_agree : (signals : List Signal) → IsOrder net signals → (c : ℕ) → c < net.channels → label c ≡ p → wire_of φ c ≡ wire_of ψ c
    wires_agree signals order c below lies =
        let o : φ.offer c ≡ ψ.offer c = frames_agree signals order (signal.Offer c) below lies in
        let r : φ.ready c ≡ ψ.ready c = frames_agree signals order (signal.Ready c) below lies in
        cc

  -- what a queue that touches the part sees: its own channels' moves, and that of its far channel
  module _ (s t : ℕ → Content) (φ ψ : Signals) (look : LooksAlike net label p s t φ ψ) (far : far_moves net label p φ ≡ far_moves net label p ψ) where
    own_move : (c : ℕ) → c < net.channels → label c ≡ p → move φ c ≡ move ψ c
    own_move c below lies = let o = look.offers c below lies in let r = look.readies c below lies in cc

    far_move : (i c : ℕ) (m : Component) → HasPrim net i m → far_at net label p i ≡ Some c → move φ c ≡ move ψ c
    far_move i c m has is =
        let cut : is_cut net label p i ≡ true = rw is refl in
        let at = passing_at (is_cut net label p) (length net.prims) i (slice_get_within net.prims i m has) cut in
        let same = maps_agree (λ k. move_on φ (far_at net label p k)) (λ k. move_on ψ (far_at net label p k)) (cuts_in net label p) _ i far at in
        rw is at same

    module _ (i input out capacity : ℕ) (initial : List ℕ) (has : HasPrim net i (Queue input out capacity initial)) (touch : touches_at net label p i ≡ true) where
      pub input_move : move φ input ≡ move ψ input
      input_move =
          elim (input_end net label p i input out capacity initial has touch) [
            | inl lies ↦ own_move input (input_below net (counted net is_net) i (Queue input out capacity initial) input has queue_input) lies
            | inr is ↦ far_move i input (Queue input out capacity initial) has is
          ]

      pub out_move : move φ out ≡ move ψ out
      out_move =
          elim (out_end net label p i input out capacity initial has touch) [
            | inl lies ↦ own_move out (output_below net (counted net is_net) i (Queue input out capacity initial) out has queue_output) lies
            | inr is ↦ far_move i out (Queue input out capacity initial) has is
          ]

    -- a primitive that is no queue sees the same signals
    ports_alike : (i : ℕ) (m : Component) → HasPrim net i m → is_queue m ≡ false → touches_at net label p i ≡ true → SameAtPorts m φ ψ
    ports_alike i m has no_queue touch c port =
        let lies = all_lie net label p i c m partition has no_queue touch port in
        let below : c < net.channels = port_below net is_net i m c has port in
        (look.offers c below lies, look.readies c below lies)

    content_alike : (i : ℕ) (m : Component) → HasPrim net i m → touches_at net label p i ≡ true → content_after m (s i) φ ≡ content_after m (t i) ψ
    content_alike i (Queue input out capacity initial) has touch =
        let same = look.contents i (Queue input out capacity initial) has touch in
        ap (λ (x : Content). content_after (Queue input out capacity initial) x φ) same
        ∙ queue_local input out capacity initial (t i) φ ψ (out_move i input out capacity initial has touch) (input_move i input out capacity initial has touch)
    content_alike i (Source out cs mode) has touch = ap (λ (x : Content). content_after (Source out cs mode) x φ) (look.contents i (Source out cs mode) has touch) ∙ content_local (Source out cs mode) (t i) φ ψ (ports_alike i (Source out cs mode) has refl touch)
    content_alike i (Sink input mode) has touch = ap (λ (x : Content). content_after (Sink input mode) x φ) (look.contents i (Sink input mode) has touch) ∙ content_local (Sink input mode) (t i) φ ψ (ports_alike i (Sink input mode) has refl touch)
    content_alike i (Function input out table) has touch = refl
    content_alike i (Fork input a b ta tb) has touch = refl
    content_alike i (Join a b out pass) has touch = refl
    content_alike i (Switch input a b to_a) has touch = refl
    content_alike i (Merge a b out) has touch = ap (λ (x : Content). content_after (Merge a b out) x φ) (look.contents i (Merge a b out) has touch) ∙ content_local (Merge a b out) (t i) φ ψ (ports_alike i (Merge a b out) has refl touch)

    pub next_alike : (i : ℕ) (m : Component) → HasPrim net i m → touches_at net label p i ≡ true → next net s φ i ≡ next net t ψ i
    next_alike i m has touch = rw has (content_alike i m has touch)

pub part_law : PartLaw
part_law net signals label p row far w one two is_net order partition a b =
    let s = a.cycle.state in let t = b.cycle.state in
    let look = alike net label p s t a.cycle.frame b.cycle.frame (sym a.cycle.row_is ∙ b.cycle.row_is) in
    let moves : far_moves net label p a.cycle.frame ≡ far_moves net label p b.cycle.frame = sym a.cycle.far_is ∙ b.cycle.far_is in
    let states : (i : ℕ) (m : Component) → HasPrim net i m → touches_at net label p i ≡ true → next net s a.cycle.frame i ≡ next net t b.cycle.frame i =
    next_alike net is_net label partition p s t a.cycle.frame b.cycle.frame look moves in
    let wires = wires_agree net is_net label partition p (next net s a.cycle.frame) (next net t b.cycle.frame) w a.frame b.frame a.is_frame b.is_frame states signals order in
    a.after_is ∙ projections_same net label p (next net s a.cycle.frame) (next net t b.cycle.frame) a.frame b.frame
    (λ i below touch. let has = slice_get-found net.prims i below in states i has.0 has.1 touch) wires ∙ sym b.after_is
