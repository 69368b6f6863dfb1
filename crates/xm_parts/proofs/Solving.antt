-- The signals of a part that its plan made are those of the frame.
use Rattle.std.proofs.Common.{◌≡◌, ℕ, zero, suc, ◌<◌, Bool, true, false, List, [], ◌∷◌, length, map, refl, ap, sym, ◌∙◌, subst, inl, inr, arith, eq-eqb, Some, slice_get}
use Rattle.std.specs.Prelude.{Option, cond, ◌+◌}
use Rattle.std.proofs.lemmas.Bool.{cond-true, eqb-true}
use Rattle.std.proofs.lemmas.Option.{get_or_from_slice_get, slice_get-map, slice_get_within}
use Rattle.xm_design.specs.Designed.{Designed, IsDesigned}
use Rattle.xm_design.specs.declared.tasks.Task.{Task}
use Rattle.xm_model.specs.Component.{Component, Content, content_of}
use Rattle.xm_model.specs.Frame.{IsFrame}
use Rattle.xm_model.specs.Views.{choice_at, choice_or, content_at, is_oracle, offer_or, oracles_below, ready_or, signals_of}
use Rattle.xm_model.specs.Lemmas.Local.{IsPort}
use Rattle.xm_model.specs.Net.{HasPrim, Network}
use Rattle.xm_model.specs.Ports.{IsInitiator, IsTarget}
use Rattle.xm_model.specs.Signals.{Signals}
use Rattle.xm_model.specs.declared.state.Choice.{Choice}
use Rattle.xm_model.specs.declared.state.Wire.{Wire}
use Rattle.xm_order.specs.Dependence.{Depends, Needs, channel_of}
use Rattle.xm_order.specs.Settle.{Same}
use Rattle.xm_order.specs.Sides.{offer_side, ready_side}
use Rattle.xm_order.specs.declared.signal.Signal.{Signal}
use Rattle.xm_order.specs.declared.signal.Signal.TheVariants as signal
use Rattle.xm_parts.proofs.Choosing.{offer_alike, oracle_renamed, ready_alike}
use Rattle.xm_parts.proofs.Cut.{offer_made, ready_made, same_label}
use Rattle.xm_parts.proofs.PartOrder.{IsPartOrder, part_order}
use Rattle.xm_parts.proofs.Parting.{slice_get-found}
use Rattle.xm_parts.proofs.Passing.{passing_from, place_once}
use Rattle.xm_parts.proofs.Renaming.{by_channel, offer_renamed, ready_renamed}
use Rattle.xm_parts.specs.Choosing.{ChoosesAs}
use Rattle.xm_parts.specs.Kept.{IsPlanOf, IsTask, channel_place, near_place, port_place, renamed, signals_in}
use Rattle.xm_parts.specs.Inner.Showing.{ShowsState}
use Rattle.xm_parts.specs.Partition.{IsPartition, channels_in, is_cut, is_queue, lies_in, prims_in, touches_at}
use Rattle.xm_parts.specs.Passing.{place}
use Rattle.xm_parts.specs.Projection.{wire_of}
use Rattle.xm_parts.specs.Rows.{cell_in}
use Rattle.xm_parts.specs.declared.row.PrimCell.{PrimCell}
use Rattle.xm_plan.specs.Planned.{Planned, choice_for}
use Rattle.xm_plan.specs.Schedule.{AreSettled, IsMadeFrom}

pub from_items : {X Y : Type 0} (f : X → Y) (ys : List Y) (xs : List X) → length ys ≡ length xs → ((k : ℕ) (x : X) → slice_get xs k ≡ Some x → slice_get ys k ≡ Some (f x)) → ys ≡ map f xs
from_items f [] [] e same = refl
from_items f [] (x ∷ xs) e same = absurd (omega arith)
from_items f (y ∷ ys) [] e same = absurd (omega arith)
from_items f (y ∷ ys) (x ∷ xs) e same =
    let here : Some y ≡ Some (f x) = same zero x refl in
    let rest = from_items f ys xs (omega arith) (λ k z at. same (suc k) z at) in cc

abbrev wire_with : Option ℕ → Bool → Wire
wire_with o r = record { offer = o; ready = r }

pub wire_is : (x : Wire) (φ : Signals) (c : ℕ) → x.offer ≡ φ.offer c → x.ready ≡ φ.ready c → x ≡ wire_of φ c
wire_is x φ c o r = ap (λ (y : Option ℕ). wire_with y x.ready) o ∙ ap (wire_with (φ.offer c)) r

-- what the cells of a row hold, by place
content_seen : (cells : List PrimCell) (k : ℕ) → content_at (map (λ (x : PrimCell). x.cell) cells) k ≡ content_of (cell_in cells k)
content_seen [] k = refl
content_seen (x ∷ xs) zero = refl
content_seen (x ∷ xs) (suc k) = content_seen xs k

pub contents_seen : (plan : Planned) (cells : List PrimCell) (w : List Choice) (φ : Signals) → AreSettled plan.prims (content_at (map (λ (x : PrimCell). x.cell) cells)) (choice_for plan.choices w) plan.tasks φ →
    AreSettled plan.prims (λ k. content_of (cell_in cells k)) (choice_for plan.choices w) plan.tasks φ
contents_seen plan cells w φ settled k task m at has =
    subst (λ (x : Content). IsMadeFrom m x (choice_for plan.choices w task.prim) φ φ task.signal) (content_seen cells task.prim) (settled k task m at has)

-- a port in the part stands at its channel's place
pub own_place : (label : ℕ → ℕ) (p c far : ℕ) → label c ≡ p → cond (lies_in label p c) (channel_place label p c) far ≡ channel_place label p c
own_place label p c far lies = cond-true {A = ℕ} (lies_in label p c) _ _ (eq-eqb (label c) p lies)

pub port_own : (net : Network) (label : ℕ → ℕ) (p i c : ℕ) → label c ≡ p → port_place net label p i c ≡ channel_place label p c
port_own net label p i c lies = own_place label p c (place (lies_in label p) net.channels + place (is_cut net label p) i) lies

module _ (it : Designed) (designed : IsDesigned it) (label : ℕ → ℕ) (partition : IsPartition it.net label) (p : ℕ)
    (plan : Planned) (is : IsPlanOf it label p plan) (cells : List PrimCell) (w : List Choice) (wires : List Wire)
    (settled : AreSettled plan.prims (λ k. content_of (cell_in cells k)) (choice_for plan.choices w) plan.tasks (signals_of wires)) where
  order : IsPartOrder it.net label p (signals_in it.order label p)
  order = part_order it.net label p it.order designed.order partition

  -- ports of a primitive that is no queue have places of their own
  once : (i c : ℕ) (m : Component) → HasPrim it.net i m → IsPort m c → label c ≡ p → is_queue m ≡ false → (a b : ℕ) → IsPort m a → IsPort m b → near_place label p a ≡ near_place label p b → a ≡ b
  once i c m has port lies no_queue a b at_a at_b same =
      let a_lies : label a ≡ p = partition.together i m a c has no_queue at_a port ∙ lies in
      let b_lies : label b ≡ p = partition.together i m b c has no_queue at_b port ∙ lies in
      place_once (lies_in label p) a b (eq-eqb (label a) p a_lies) (eq-eqb (label b) p b_lies)
      (sym (own_place label p a 0 a_lies) ∙ same ∙ own_place label p b 0 b_lies)

  its_choice : (k maker : ℕ) → slice_get (prims_in it.net label p) k ≡ Some maker → choice_for plan.choices w k ≡ choice_at it.net.prims w maker
  its_choice k maker at =
      let there : slice_get plan.choices k ≡ Some (oracles_below it.net.prims maker) = rw is.choices (rw (slice_get-map (oracles_below it.net.prims) (prims_in it.net label p) k, at) refl) in
      ap (λ (n : ℕ). choice_or (slice_get w n)) (get_or_from_slice_get plan.choices k (oracles_below it.net.prims maker) 0 there)

  module _ (s : ℕ → Content) (x : ℕ → Choice) (φ : Signals) (shows : ShowsState it.net label p cells s) (chooses : ChoosesAs it.net label p w x) (frame : IsFrame it.net s x φ) where
    -- the choice of a primitive counts where it is a source or a sink
    counted : (k maker : ℕ) (m : Component) → slice_get (prims_in it.net label p) k ≡ Some maker → HasPrim it.net maker m → (r : ℕ → ℕ) → is_oracle (renamed r m) ≡ true → choice_for plan.choices w k ≡ x maker
    counted k maker m at has r oracle =
        its_choice k maker at
        ∙ chooses maker m has (sym (oracle_renamed r m) ∙ oracle) (passing_from (touches_at it.net label p) (length it.net.prims) k maker at).passes

    abbrev IsSeen : Signal → Type 0
    IsSeen σ = Same (by_channel (channel_place label p) (signals_of wires)) φ σ

    module _ (k : ℕ) (before : (j : ℕ) (τ : Signal) → j < k → slice_get (signals_in it.order label p) j ≡ Some τ → IsSeen τ) where
      -- what a signal needs is seen
      needed : (σ : Signal) → slice_get (signals_in it.order label p) k ≡ Some σ → (i : ℕ) (m : Component) → HasPrim it.net i m → (τ : Signal) → Needs m σ τ → Same (by_channel (near_place label p) (signals_of wires)) φ τ
      needed σ at i m has τ needs =
          let d : Depends it.net σ τ = record { place = i; prim = m; has = has; needs = needs } in
          let earlier = order.after k σ τ at d in
          at_place τ (sym (same_label it.net label partition σ τ d) ∙ order.lies k σ at) (before earlier.0 τ earlier.1.0 earlier.1.1) where
            at_place : (τ : Signal) → label (channel_of τ) ≡ p → IsSeen τ → Same (by_channel (near_place label p) (signals_of wires)) φ τ
            at_place (signal.Offer c) lies same = ap (signals_of wires).offer (own_place label p c 0 lies) ∙ same
            at_place (signal.Ready c) lies same = ap (signals_of wires).ready (own_place label p c 0 lies) ∙ same

      seen : (σ : Signal) (task : Task) → slice_get (signals_in it.order label p) k ≡ Some σ → slice_get is.tasks k ≡ Some task → IsSeen σ
      seen (signal.Offer c) task at there =
          let by : IsTask it.net label p (signal.Offer c) task = is.are_tasks.each k (signal.Offer c) task at there in
          let d : IsInitiator it.net by.maker c = by.makes in
          let lies : label c ≡ p = order.lies k (signal.Offer c) at in
          let r = near_place label p in
          let m = renamed r d.prim in
          let X = content_of (cell_in cells task.prim) in let W = choice_for plan.choices w task.prim in
          let listed = is.same.to k task there in
          let its : (signals_of wires).offer (channel_place label p c) ≡ offer_side m X W (signals_of wires) (channel_place label p c) =
          subst (λ (y : Signal). IsMadeFrom m X W (signals_of wires) (signals_of wires) y) by.signal_is (settled listed.0 task m listed.1 (is.prims.each task.prim by.maker d.prim by.prim_is d.has)) in
          its ∙ ap (λ (y : Content). offer_side m y W (signals_of wires) (channel_place label p c)) (shows.at task.prim by.maker by.prim_is)
          ∙ offer_alike m (s by.maker) W (x by.maker) (signals_of wires) (channel_place label p c) (counted task.prim by.maker d.prim by.prim_is d.has r)
          ∙ ap (λ (y : ℕ). offer_side m (s by.maker) (x by.maker) (signals_of wires) y) (sym (own_place label p c 0 lies))
          ∙ offer_renamed r (s by.maker) (x by.maker) (signals_of wires) d.prim c d.has_output (once by.maker c d.prim d.has (inl d.has_output) lies)
          ∙ offer_made (s by.maker) (x by.maker) (by_channel r (signals_of wires)) φ d.prim c d.has_output (frame by.maker d.prim d.has)
          (λ υ needs. needed (signal.Offer c) at by.maker d.prim d.has υ needs)
      seen (signal.Ready c) task at there =
          let by : IsTask it.net label p (signal.Ready c) task = is.are_tasks.each k (signal.Ready c) task at there in
          let d : IsTarget it.net by.maker c = by.makes in
          let lies : label c ≡ p = order.lies k (signal.Ready c) at in
          let r = near_place label p in
          let m = renamed r d.prim in
          let X = content_of (cell_in cells task.prim) in let W = choice_for plan.choices w task.prim in
          let listed = is.same.to k task there in
          let its : (signals_of wires).ready (channel_place label p c) ≡ ready_side m X W (signals_of wires) (channel_place label p c) =
          subst (λ (y : Signal). IsMadeFrom m X W (signals_of wires) (signals_of wires) y) by.signal_is (settled listed.0 task m listed.1 (is.prims.each task.prim by.maker d.prim by.prim_is d.has)) in
          its ∙ ap (λ (y : Content). ready_side m y W (signals_of wires) (channel_place label p c)) (shows.at task.prim by.maker by.prim_is)
          ∙ ready_alike m (s by.maker) W (x by.maker) (signals_of wires) (channel_place label p c) (counted task.prim by.maker d.prim by.prim_is d.has r)
          ∙ ap (λ (y : ℕ). ready_side m (s by.maker) (x by.maker) (signals_of wires) y) (sym (own_place label p c 0 lies))
          ∙ ready_renamed r (s by.maker) (x by.maker) (signals_of wires) d.prim c d.has_input (once by.maker c d.prim d.has (inr d.has_input) lies)
          ∙ ready_made (s by.maker) (x by.maker) (by_channel r (signals_of wires)) φ d.prim c d.has_input (frame by.maker d.prim d.has)
          (λ υ needs. needed (signal.Ready c) at by.maker d.prim d.has υ needs)

    seen_below : (n k : ℕ) (σ : Signal) → k < n → slice_get (signals_in it.order label p) k ≡ Some σ → IsSeen σ
    seen_below zero k σ h at = absurd (omega arith)
    seen_below (suc n) k σ h at =
        let there = slice_get-found is.tasks k (let whole = is.are_tasks.whole in let inside = slice_get_within (signals_in it.order label p) k σ at in omega arith) in
        seen k (λ j τ less earlier. seen_below n j τ (omega arith) earlier) σ there.0 at there.1

    pub all_seen : length wires ≡ length (channels_in it.net label p) → wires ≡ map (wire_of φ) (channels_in it.net label p)
    all_seen whole =
        from_items (wire_of φ) wires (channels_in it.net label p) whole (λ k c at.
        let passes = passing_from (lies_in label p) it.net.channels k c at in
        let lies : label c ≡ p = eqb-true (label c) p passes.passes in
        let o = order.whole (signal.Offer c) passes.below lies in
        let r = order.whole (signal.Ready c) passes.below lies in
        let offer : (signals_of wires).offer (channel_place label p c) ≡ φ.offer c = seen_below (suc o.0) o.0 (signal.Offer c) (omega arith) o.1 in
        let ready : (signals_of wires).ready (channel_place label p c) ≡ φ.ready c = seen_below (suc r.0) r.0 (signal.Ready c) (omega arith) r.1 in
        let there = slice_get-found wires k (let h = slice_get_within (channels_in it.net label p) k c at in omega arith) in
        let k_is : place (lies_in label p) c ≡ k = passes.at in
        let stands : slice_get wires (channel_place label p c) ≡ Some there.0 = ap (slice_get wires) k_is ∙ there.1 in
        let one : there.0.offer ≡ φ.offer c = sym (ap offer_or stands) ∙ offer in
        let two : there.0.ready ≡ φ.ready c = sym (ap ready_or stands) ∙ ready in
        there.1 ∙ ap Some (wire_is there.0 φ c one two))
