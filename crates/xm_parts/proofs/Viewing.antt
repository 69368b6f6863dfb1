-- What the wires of a part and its far moves show of a frame, and how the part's cells go on by them.
use Rattle.std.proofs.Common.{◌≡◌, ℕ, suc, ◌+◌, ◌<◌, ◌++◌, Bool, true, false, List, [], ◌∷◌, length, map, refl, ap, sym, ◌∙◌, subst, inl, inr, arith, eq-eqb, Some, None, slice_get}
use Rattle.std.specs.Prelude.{Option, nat_lt}
use Rattle.std.proofs.lemmas.Bool.{cond-false, ltb-true}
use Rattle.std.proofs.lemmas.List.{length-map}
use Rattle.std.proofs.lemmas.Option.{slice_get-map, slice_get_within}
use Rattle.xm_model.specs.Component.{Component, Content, Queue, Source, Sink, Function, Fork, Join, Switch, Merge, content_of}
use Rattle.xm_model.specs.Lemmas.PortCounts.{counted, output_below, input_below}
use Rattle.xm_model.specs.Frame.{IsFrame}
use Rattle.xm_model.specs.Views.{offer_or, ready_or}
use Rattle.xm_model.specs.Lemmas.Local.{IsPort}
use Rattle.xm_model.specs.Net.{HasPrim, IsNet, Network}
use Rattle.xm_model.specs.Next.{content_after, move}
use Rattle.xm_model.specs.Ports.{fork_output_a, fork_output_b, fork_input, function_output, function_input, join_output, join_input_a, join_input_b, merge_output, merge_input_a, merge_input_b, queue_output, queue_input, sink_input, source_output, switch_output_a, switch_output_b, switch_input}
use Rattle.xm_model.specs.Signals.{Signals, only_if, packets_in}
use Rattle.xm_model.specs.declared.state.Cell.{Cell}
use Rattle.xm_model.specs.declared.state.Cell.TheVariants as cell
use Rattle.xm_model.specs.declared.state.Choice.{Choice}
use Rattle.xm_model.specs.declared.state.Wire.{Wire}
use Rattle.xm_parts.proofs.Going.{get-append_first}
use Rattle.xm_parts.proofs.Parting.{port_below}
use Rattle.xm_parts.proofs.Passing.{passing_at, passing_length, place_below}
use Rattle.xm_parts.proofs.Renaming.{content_renamed, queue_renamed}
use Rattle.xm_parts.proofs.Solving.{port_own}
use Rattle.xm_parts.proofs.Touching.{all_lie, input_end, out_end}
use Rattle.xm_parts.specs.Inner.Going.{HasPlace}
use Rattle.xm_parts.specs.Kept.{channel_place, port_place, renamed}
use Rattle.xm_parts.specs.Partition.{IsPartition, channels_in, cuts_in, far_at, far_channel, is_cut, is_queue, lies_in, outer, touches_at}
use Rattle.xm_parts.specs.Passing.{place}
use Rattle.xm_parts.specs.Projection.{far_moves, move_on, wire_of}
use Rattle.xm_parts.specs.Rows.{far_wire, part_signals}
use Rattle.xm_step.specs.Roomy.{IsRoomyCell}

-- a far channel lies outside
outer_outside : (label : ℕ → ℕ) (p input out c : ℕ) (x y : Bool) → lies_in label p input ≡ x → lies_in label p out ≡ y → outer x y input out ≡ Some c → lies_in label p c ≡ false
outer_outside label p input out c true true is_x is_y e = absurd cc
outer_outside label p input out c true false is_x is_y e = let same : out ≡ c = cc in ap (lies_in label p) (sym same) ∙ is_y
outer_outside label p input out c false true is_x is_y e = let same : input ≡ c = cc in ap (lies_in label p) (sym same) ∙ is_x
outer_outside label p input out c false false is_x is_y e = absurd cc

pub far_outside : (label : ℕ → ℕ) (p c : ℕ) (o : Option Component) → far_channel label p o ≡ Some c → lies_in label p c ≡ false
far_outside label p c None e = absurd cc
far_outside label p c (Some (Source out cs mode)) e = absurd cc
far_outside label p c (Some (Sink input mode)) e = absurd cc
far_outside label p c (Some (Queue input out k ps)) e = outer_outside label p input out c (lies_in label p input) (lies_in label p out) refl refl e
far_outside label p c (Some (Function input out t)) e = absurd cc
far_outside label p c (Some (Fork input a b ta tb)) e = absurd cc
far_outside label p c (Some (Join a b out pass)) e = absurd cc
far_outside label p c (Some (Switch input a b t)) e = absurd cc
far_outside label p c (Some (Merge a b out)) e = absurd cc

get-append_past : {X : Type 0} (xs ys : List X) (k : ℕ) → slice_get (xs ++ ys) (length xs + k) ≡ slice_get ys k
get-append_past [] ys k = let same : 0 + k ≡ k = omega arith in ap (slice_get ys) same
get-append_past (x ∷ xs) ys k = let same : length (x ∷ xs) + k ≡ suc (length xs + k) = omega arith in ap (slice_get (x ∷ xs ++ ys)) same ∙ get-append_past xs ys k

far_wire_move : (x : Option ℕ) → only_if ((far_wire x).ready) ((far_wire x).offer) ≡ x
far_wire_move None = refl
far_wire_move (Some d) = refl

-- a port of a renamed primitive is a renamed port
pub port_from : (r : ℕ → ℕ) (m : Component) (c : ℕ) → IsPort (renamed r m) c → (d : ℕ) × IsPort m d × (r d ≡ c)
port_from r (Source out cs mode) c (inl source_output) = (out, inl source_output, refl)
port_from r (Source out cs mode) c (inr h) = elim h [ ]
port_from r (Sink input mode) c (inl h) = elim h [ ]
port_from r (Sink input mode) c (inr sink_input) = (input, inr sink_input, refl)
port_from r (Queue input out k ps) c (inl queue_output) = (out, inl queue_output, refl)
port_from r (Queue input out k ps) c (inr queue_input) = (input, inr queue_input, refl)
port_from r (Function input out t) c (inl function_output) = (out, inl function_output, refl)
port_from r (Function input out t) c (inr function_input) = (input, inr function_input, refl)
port_from r (Fork input a b ta tb) c (inl fork_output_a) = (a, inl fork_output_a, refl)
port_from r (Fork input a b ta tb) c (inl fork_output_b) = (b, inl fork_output_b, refl)
port_from r (Fork input a b ta tb) c (inr fork_input) = (input, inr fork_input, refl)
port_from r (Join a b out pass) c (inl join_output) = (out, inl join_output, refl)
port_from r (Join a b out pass) c (inr join_input_a) = (a, inr join_input_a, refl)
port_from r (Join a b out pass) c (inr join_input_b) = (b, inr join_input_b, refl)
port_from r (Switch input a b t) c (inl switch_output_a) = (a, inl switch_output_a, refl)
port_from r (Switch input a b t) c (inl switch_output_b) = (b, inl switch_output_b, refl)
port_from r (Switch input a b t) c (inr switch_input) = (input, inr switch_input, refl)
port_from r (Merge a b out) c (inl merge_output) = (out, inl merge_output, refl)
port_from r (Merge a b out) c (inr merge_input_a) = (a, inr merge_input_a, refl)
port_from r (Merge a b out) c (inr merge_input_b) = (b, inr merge_input_b, refl)

pub queue_renamed_is : (r : ℕ → ℕ) (m : Component) → is_queue (renamed r m) ≡ is_queue m
queue_renamed_is r (Source out cs mode) = refl
queue_renamed_is r (Sink input mode) = refl
queue_renamed_is r (Queue input out k ps) = refl
queue_renamed_is r (Function input out t) = refl
queue_renamed_is r (Fork input a b ta tb) = refl
queue_renamed_is r (Join a b out pass) = refl
queue_renamed_is r (Switch input a b t) = refl
queue_renamed_is r (Merge a b out) = refl

pub roomy_renamed : (r : ℕ → ℕ) (m : Component) (x : Cell) → IsRoomyCell m x → IsRoomyCell (renamed r m) x
roomy_renamed r (Source out cs mode) x h = tt
roomy_renamed r (Sink input mode) x h = tt
roomy_renamed r (Queue input out k ps) (cell.Packets q) h = h
roomy_renamed r (Queue input out k ps) (cell.Pending d) h = absurd h
roomy_renamed r (Queue input out k ps) (cell.Held b) h = absurd h
roomy_renamed r (Queue input out k ps) (cell.Pref s) h = absurd h
roomy_renamed r (Queue input out k ps) cell.Nothing h = absurd h
roomy_renamed r (Function input out t) x h = tt
roomy_renamed r (Fork input a b ta tb) x h = tt
roomy_renamed r (Join a b out pass) x h = tt
roomy_renamed r (Switch input a b t) x h = tt
roomy_renamed r (Merge a b out) x h = tt

pub roomy_from : (r : ℕ → ℕ) (m : Component) (x : Cell) → IsRoomyCell (renamed r m) x → IsRoomyCell m x
roomy_from r (Source out cs mode) x h = tt
roomy_from r (Sink input mode) x h = tt
roomy_from r (Queue input out k ps) (cell.Packets q) h = h
roomy_from r (Queue input out k ps) (cell.Pending d) h = absurd h
roomy_from r (Queue input out k ps) (cell.Held b) h = absurd h
roomy_from r (Queue input out k ps) (cell.Pref s) h = absurd h
roomy_from r (Queue input out k ps) cell.Nothing h = absurd h
roomy_from r (Function input out t) x h = tt
roomy_from r (Fork input a b ta tb) x h = tt
roomy_from r (Join a b out pass) x h = tt
roomy_from r (Switch input a b t) x h = tt
roomy_from r (Merge a b out) x h = tt

module _ (net : Network) (is_net : IsNet net) (label : ℕ → ℕ) (partition : IsPartition net label) (p : ℕ) (φ : Signals)
    (wires : List Wire) (far : List (Option ℕ)) (wires_are : wires ≡ map (wire_of φ) (channels_in net label p)) (far_are : far ≡ far_moves net label p φ) where
  count_is : length wires ≡ place (lies_in label p) net.channels
  count_is = ap length wires_are ∙ length-map (channels_in net label p) (wire_of φ) ∙ passing_length (lies_in label p) net.channels

  -- an own channel is seen at its place
  own_seen : (i c : ℕ) → c < net.channels → label c ≡ p → slice_get (wires ++ map far_wire far) (port_place net label p i c) ≡ Some (wire_of φ c)
  own_seen i c below lies =
      let passes = eq-eqb (label c) p lies in
      let less = place_below (lies_in label p) c net.channels below passes in
      let count = count_is in
      let first : channel_place label p c < length wires = omega arith in
      ap (slice_get (wires ++ map far_wire far)) (port_own net label p i c lies) ∙ get-append_first wires (map far_wire far) (channel_place label p c) first
      ∙ ap (λ (ws : List Wire). slice_get ws (channel_place label p c)) wires_are
      ∙ rw (slice_get-map (wire_of φ) (channels_in net label p) (channel_place label p c), passing_at (lies_in label p) net.channels c below passes) refl

  pub own_offer : (i c : ℕ) → c < net.channels → label c ≡ p → (part_signals wires far).offer (port_place net label p i c) ≡ φ.offer c
  own_offer i c below lies = ap offer_or (own_seen i c below lies)

  pub own_ready : (i c : ℕ) → c < net.channels → label c ≡ p → (part_signals wires far).ready (port_place net label p i c) ≡ φ.ready c
  own_ready i c below lies = ap ready_or (own_seen i c below lies)

  own_move : (i c : ℕ) → c < net.channels → label c ≡ p → move (part_signals wires far) (port_place net label p i c) ≡ move φ c
  own_move i c below lies = let o = own_offer i c below lies in let r = own_ready i c below lies in cc

  far_seen : (i c : ℕ) (m : Component) → HasPrim net i m → far_at net label p i ≡ Some c → slice_get (wires ++ map far_wire far) (port_place net label p i c) ≡ Some (far_wire (move φ c))
  far_seen i c m has is =
      let outside = far_outside label p c (slice_get net.prims i) is in
      let cut : is_cut net label p i ≡ true = rw is refl in
      let at = passing_at (is_cut net label p) (length net.prims) i (slice_get_within net.prims i m has) cut in
      let there : slice_get far (place (is_cut net label p) i) ≡ Some (move φ c) =
      ap (λ (xs : List (Option ℕ)). slice_get xs (place (is_cut net label p) i)) far_are
      ∙ rw (slice_get-map (λ k. move_on φ (far_at net label p k)) (cuts_in net label p) (place (is_cut net label p) i), at) (ap (λ (o : Option ℕ). Some (move_on φ o)) is) in
      let where_is : port_place net label p i c ≡ length wires + place (is_cut net label p) i = cond-false {A = ℕ} (lies_in label p c) _ _ outside ∙ ap (λ (n : ℕ). n + place (is_cut net label p) i) (sym count_is) in
      ap (slice_get (wires ++ map far_wire far)) where_is ∙ get-append_past wires (map far_wire far) (place (is_cut net label p) i)
      ∙ rw (slice_get-map far_wire far (place (is_cut net label p) i), there) refl

  far_move : (i c : ℕ) (m : Component) → HasPrim net i m → far_at net label p i ≡ Some c → move (part_signals wires far) (port_place net label p i c) ≡ move φ c
  far_move i c m has is =
      let there = far_seen i c m has is in
      let o : (part_signals wires far).offer (port_place net label p i c) ≡ (far_wire (move φ c)).offer = ap offer_or there in
      let r : (part_signals wires far).ready (port_place net label p i c) ≡ (far_wire (move φ c)).ready = ap ready_or there in
      let e = far_wire_move (move φ c) in cc

  module _ (i input out capacity : ℕ) (initial : List ℕ) (has : HasPrim net i (Queue input out capacity initial)) (touch : touches_at net label p i ≡ true) where
    input_move : move (part_signals wires far) (port_place net label p i input) ≡ move φ input
    input_move =
        elim (input_end net label p i input out capacity initial has touch) [
          | inl lies ↦ own_move i input (input_below net (counted net is_net) i (Queue input out capacity initial) input has queue_input) lies
          | inr is ↦ far_move i input (Queue input out capacity initial) has is
        ]

    out_move : move (part_signals wires far) (port_place net label p i out) ≡ move φ out
    out_move =
        elim (out_end net label p i input out capacity initial has touch) [
          | inl lies ↦ own_move i out (output_below net (counted net is_net) i (Queue input out capacity initial) out has queue_output) lies
          | inr is ↦ far_move i out (Queue input out capacity initial) has is
        ]

  -- what each primitive of the part holds after the cycle
  by_kind : (i : ℕ) (m : Component) (s : Content) → HasPrim net i m → touches_at net label p i ≡ true → (b : Bool) → is_queue m ≡ b → content_after (renamed (port_place net label p i) m) s (part_signals wires far) ≡ content_after m s φ
  by_kind i m s has touch false no_queue =
      content_renamed (port_place net label p i) m s (part_signals wires far) φ no_queue (λ c port.
      let lies = all_lie net label p i c m partition has no_queue touch port in
      let below = port_below net is_net i m c has port in
      (own_offer i c below lies, own_ready i c below lies))
  by_kind i (Queue input out k ps) s has touch true h = queue_renamed (port_place net label p i) input out k ps s (part_signals wires far) φ (out_move i input out k ps has touch) (input_move i input out k ps has touch)
  by_kind i (Source out cs mode) s has touch true h = absurd cc
  by_kind i (Sink input mode) s has touch true h = absurd cc
  by_kind i (Function input out t) s has touch true h = absurd cc
  by_kind i (Fork input a b ta tb) s has touch true h = absurd cc
  by_kind i (Join a b out pass) s has touch true h = absurd cc
  by_kind i (Switch input a b t) s has touch true h = absurd cc
  by_kind i (Merge a b out) s has touch true h = absurd cc

  pub content_here : (i : ℕ) (m : Component) (s : Content) → HasPrim net i m → touches_at net label p i ≡ true → content_after (renamed (port_place net label p i) m) s (part_signals wires far) ≡ content_after m s φ
  content_here i m s has touch = by_kind i m s has touch (is_queue m) refl

  -- a queue into which something moves has a place
  queue_place : (i input out k : ℕ) (ps : List ℕ) (x : Cell) (s : ℕ → Content) (w : ℕ → Choice) → IsFrame net s w φ → HasPrim net i (Queue input out k ps) → touches_at net label p i ≡ true → content_of x ≡ s i →
      (d : ℕ) → move (part_signals wires far) (port_place net label p i input) ≡ Some d → length (packets_in (content_of x)) < k
  queue_place i input out k ps x s w frame has touch e d moved =
      let here : move φ input ≡ Some d = sym (input_move i input out k ps has touch) ∙ moved in
      let is_ready = ready_moved (φ.ready input) (φ.offer input) d here in
      let eq = frame i (Queue input out k ps) has in
      let fewer : nat_lt (length (packets_in (s i))) k ≡ true = sym eq.ready_in ∙ is_ready in
      subst (λ (y : Content). length (packets_in y) < k) (sym e) (ltb-true (length (packets_in (s i))) k fewer) where
        ready_moved : (b : Bool) (o : Option ℕ) (d : ℕ) → only_if b o ≡ Some d → b ≡ true
        ready_moved true o d h = refl
        ready_moved false o d h = absurd cc

  pub place_here : (i : ℕ) (m : Component) (x : Cell) (s : ℕ → Content) (w : ℕ → Choice) → IsFrame net s w φ → HasPrim net i m → touches_at net label p i ≡ true → content_of x ≡ s i → HasPlace (renamed (port_place net label p i) m) x (part_signals wires far)
  place_here i (Source out cs mode) x s w frame has touch e = tt
  place_here i (Sink input mode) x s w frame has touch e = tt
  place_here i (Queue input out k ps) x s w frame has touch e = queue_place i input out k ps x s w frame has touch e
  place_here i (Function input out t) x s w frame has touch e = tt
  place_here i (Fork input a b ta tb) x s w frame has touch e = tt
  place_here i (Join a b out pass) x s w frame has touch e = tt
  place_here i (Switch input a b t) x s w frame has touch e = tt
  place_here i (Merge a b out) x s w frame has touch e = tt

  -- the ports of a primitive that is no queue are at own channels
  pub own_here : (i : ℕ) (m : Component) → HasPrim net i m → touches_at net label p i ≡ true → is_queue (renamed (port_place net label p i) m) ≡ false → (c : ℕ) → IsPort (renamed (port_place net label p i) m) c → c < length wires
  own_here i m has touch plain c port =
      let no_queue : is_queue m ≡ false = sym (queue_renamed_is (port_place net label p i) m) ∙ plain in
      let from = port_from (port_place net label p i) m c port in
      let lies = all_lie net label p i from.0 m partition has no_queue touch from.1 in
      let below = port_below net is_net i m from.0 has from.1 in
      let less = place_below (lies_in label p) from.0 net.channels below (eq-eqb (label from.0) p lies) in
      let at = sym from.2 ∙ port_own net label p i from.0 lies in
      let count = count_is in
      omega (arith, less, at, count)
