-- Where the far channel of a cut queue stands, and what moves on it.
use Rattle.std.proofs.Common.{◌≡◌, ◌≢◌, ℕ, ◌<◌, Bool, true, false, List, length, map, refl, ap, sym, ◌∙◌, subst, inl, inr, arith, eq-eqb, Some, None, slice_get}
use Rattle.std.specs.Prelude.{Option, is_some}
use Rattle.std.proofs.lemmas.Option.{slice_get-map, slice_get_within}
use Rattle.xm_model.specs.Component.{Component, Queue, Source, Sink, Function, Fork, Join, Switch, Merge}
use Rattle.xm_model.specs.Views.{offer_or, ready_or, signals_of}
use Rattle.xm_model.specs.Lemmas.Local.{IsPort}
use Rattle.xm_model.specs.Net.{HasPrim, IsNet, Network}
use Rattle.xm_model.specs.Next.{move}
use Rattle.xm_model.specs.Ports.{queue_output, queue_input}
use Rattle.xm_model.specs.Signals.{Signals}
use Rattle.xm_model.specs.declared.state.Wire.{Wire}
use Rattle.xm_parts.proofs.Parting.{port_below, slice_get-found}
use Rattle.xm_parts.proofs.Passing.{passing_at, passing_from}
use Rattle.xm_parts.proofs.Solving.{from_items}
use Rattle.xm_parts.specs.Far.{FarLaw, IsCutTo, SetFrom}
use Rattle.xm_parts.specs.Kept.{AreCutsOf, channel_place}
use Rattle.xm_parts.specs.Partition.{channels_in, cuts_in, far_at, far_channel, is_cut, lies_in, outer}
use Rattle.xm_parts.specs.Projection.{move_on, wire_of}
use Rattle.xm_parts.specs.declared.part.Cut.{Cut}

outer_port : (x y : Bool) (input out c k : ℕ) (ps : List ℕ) → outer x y input out ≡ Some c → IsPort (Queue input out k ps) c
outer_port true true input out c k ps e = absurd cc
outer_port true false input out c k ps e = let same : out ≡ c = cc in subst (IsPort (Queue input out k ps)) same (inl queue_output)
outer_port false true input out c k ps e = let same : input ≡ c = cc in subst (IsPort (Queue input out k ps)) same (inr queue_input)
outer_port false false input out c k ps e = absurd cc

pub far_port : (label : ℕ → ℕ) (p : ℕ) (m : Component) (c : ℕ) → far_channel label p (Some m) ≡ Some c → IsPort m c
far_port label p (Source out cs mode) c e = absurd cc
far_port label p (Sink input mode) c e = absurd cc
far_port label p (Queue input out k ps) c e = outer_port (lies_in label p input) (lies_in label p out) input out c k ps e
far_port label p (Function input out t) c e = absurd cc
far_port label p (Fork input a b ta tb) c e = absurd cc
far_port label p (Join a b out pass) c e = absurd cc
far_port label p (Switch input a b t) c e = absurd cc
far_port label p (Merge a b out) c e = absurd cc

-- what a part's wires show of a channel
pub seen_move : (net : Network) (label : ℕ → ℕ) (q c : ℕ) (wires : List Wire) (φ : Signals) → wires ≡ map (wire_of φ) (channels_in net label q) → c < net.channels → label c ≡ q → move (signals_of wires) (channel_place label q c) ≡ move φ c
seen_move net label q c wires φ are below lies =
    let at = passing_at (lies_in label q) net.channels c below (eq-eqb (label c) q lies) in
    let there : slice_get wires (channel_place label q c) ≡ Some (wire_of φ c) = ap (λ (ws : List Wire). slice_get ws (channel_place label q c)) are ∙ rw (slice_get-map (wire_of φ) (channels_in net label q) (channel_place label q c), at) refl in
    let o : (signals_of wires).offer (channel_place label q c) ≡ φ.offer c = ap offer_or there in
    let r : (signals_of wires).ready (channel_place label q c) ≡ φ.ready c = ap ready_or there in
    cc

module _ (net : Network) (is_net : IsNet net) (label : ℕ → ℕ) (p : ℕ) (cuts : List Cut) (are : AreCutsOf net label p cuts) where
  pub far_below : (k c : ℕ) (q : ℕ) → IsCutTo net label p q k c → c < net.channels
  far_below k c q cut =
      let is = passing_from (is_cut net label p) (length net.prims) k cut.queue cut.stands in
      let m = slice_get-found net.prims cut.queue is.below in
      let has : HasPrim net cut.queue m.0 = m.1 in
      port_below net is_net cut.queue m.0 c has (far_port label p m.0 c (rw has at cut.far))

  -- the cut that is kept for it
  pub kept_cut : (k c q : ℕ) → IsCutTo net label p q k c → (cut : Cut) × (slice_get cuts k ≡ Some cut) × (cut.part ≡ q) × (cut.wire ≡ channel_place label q c)
  kept_cut k c q is =
      let found = slice_get-found cuts k (let h = slice_get_within (cuts_in net label p) k is.queue is.stands in let w = are.whole in omega arith) in
      let each = are.each k is.queue c found.0 is.stands is.far found.1 in
      (found.0, found.1, each.0 ∙ is.lies, each.1 ∙ ap (λ (r : ℕ). channel_place label r c) is.lies)

  pub set_from : (q : ℕ) (wires : List Wire) (old new : List (Option ℕ)) → length new ≡ length old →
      ((k : ℕ) (cut : Cut) → slice_get cuts k ≡ Some cut → cut.part ≡ q → slice_get new k ≡ Some (move (signals_of wires) cut.wire)) →
      ((k : ℕ) (cut : Cut) → slice_get cuts k ≡ Some cut → cut.part ≢ q → slice_get new k ≡ slice_get old k) → SetFrom net label p q wires old new
  set_from q wires old new whole set rest = record {
    whole = whole;
    here = λ φ wires_are k c is.
        let cut = kept_cut k c q is in
        set k cut.0 cut.1 cut.2
        ∙ ap (λ (n : ℕ). Some (move (signals_of wires) n)) cut.3
        ∙ ap Some (seen_move net label q c wires φ wires_are (far_below k c q is) is.lies);
    rest = λ r k c is apart. let cut = kept_cut k c r is in rest k cut.0 cut.1 (λ e. apart (sym cut.2 ∙ e));
  }

pub some_far : (o : Option ℕ) → is_some o ≡ true → (c : ℕ) × (o ≡ Some c)
some_far None h = absurd cc
some_far (Some c) h = (c, refl)

pub far_law : FarLaw
far_law net label p φ moves whole each =
    from_items (λ i. move_on φ (far_at net label p i)) moves (cuts_in net label p) whole (λ k i at.
    let is = passing_from (is_cut net label p) (length net.prims) k i at in
    let c = some_far (far_at net label p i) is.passes in
    let cut : IsCutTo net label p (label c.0) k c.0 = record { queue = i; stands = at; far = c.1; lies = refl } in
    each (label c.0) (record { queue = i; far = c.0; cut = c.1; there = refl }) k c.0 cut ∙ ap (λ (o : Option ℕ). Some (move_on φ o)) (sym c.1))
