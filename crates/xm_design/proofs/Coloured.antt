-- Offers and cells have colours of their channels.
use Rattle.std.proofs.Common.{◌≡◌, ℕ, zero, suc, ◌<◌, ◌≤◌, Bool, true, false, not, ◌&&◌, Option, Some, None, List, [], ◌∷◌, length, slice_get, is_some, refl, sym, ◌∙◌, ap, subst, inl, inr, arith, length-drop}
use Rattle.std.specs.Prelude.{◌⊎◌}
use Rattle.std.proofs.lemmas.Bool.{ltb-true, not-true}
use Rattle.xm_design.specs.Lemmas.Offers.{granted_some, only_if_some, through_some}
use Rattle.xm_model.specs.Lemmas.PrimitiveFits.{prim_fits}
use Rattle.xm_design.proofs.Lengths.{length-joined}
use Rattle.xm_colours.specs.Family.{Closed, IsClosed, Within}
use Rattle.xm_design.specs.ColouredRuns.{ColoursHold, FitsColours}
use Rattle.xm_model.specs.Lemmas.PortCounts.{IsCounted, counted, output_below, find_initiator, input_below}
use Rattle.xm_model.specs.Component.{Component, Content, Fork, Function, Join, Merge, Queue, Sink, Source, Switch}
use Rattle.xm_model.specs.Frame.{Equation, IsFrame}
use Rattle.xm_model.specs.Net.{FitsComponent, HasPrim, IsNet, Network}
use Rattle.xm_model.specs.Next.{content_after, joined, left, move, next_at, next_pending, reset_at, reset_content}
use Rattle.xm_model.specs.Ports.{HasOutput, HasInput, fork_output_a, fork_output_b, function_output, join_output, merge_output, queue_output, queue_input, source_output, switch_output_a, switch_output_b}
use Rattle.xm_model.specs.Run.{ChoiceFits, ChoicesFit, IsRun, OffersFrom, TapeFits}
use Rattle.xm_model.specs.Membership.{IsIn}
use Rattle.xm_model.specs.Signals.{Signals, at_side, offer_chosen, packets_in, pending_in, pref_in, source_offer, takes_a, through, to_side_a, to_side_b}
use Rattle.xm_model.specs.declared.state.Choice.{Choice}
use Rattle.xm_model.specs.declared.state.Choice.TheVariants.{Offer, Ready}
use Rattle.xm_model.specs.declared.primitive.Side.{Side}
use Rattle.xm_model.specs.declared.primitive.Side.TheVariants.{A, B}
use Rattle.xm_model.specs.declared.primitive.SourceMode.{SourceMode}
use Rattle.xm_order.specs.Dependence.{IsOrder, Needs, fork_offer_a_in, fork_offer_b_in, function_offer, join_offer_a, join_offer_b, merge_offer_a, merge_offer_b, switch_offer_a, switch_offer_b}
use Rattle.xm_order.specs.declared.signal.Signal.{Signal}
use Rattle.xm_order.specs.declared.signal.Signal.TheVariants as signal
use Rattle.xm_model.specs.declared.primitive.SourceMode.TheVariants as source_mode

in_list : (cs : List ℕ) (j d : ℕ) → slice_get cs j ≡ Some d → IsIn cs d
in_list [] j d h = cc
in_list (c ∷ cs) zero d h = inl (cc)
in_list (c ∷ cs) (suc j) d h = inr (in_list cs j d h)

-- what a fitting choice offers is of the list
chosen_from : (cs : List ℕ) (w : Choice) → OffersFrom cs w → (d : ℕ) → offer_chosen w ≡ Some d → IsIn cs d
chosen_from cs (Offer None) fits d is = absurd cc
chosen_from cs (Offer (Some e)) fits d is = let same : e ≡ d = cc in subst (IsIn cs) same fits
chosen_from cs (Ready ready) fits d is = absurd fits

source_coloured : (mode : SourceMode) (cs ds : List ℕ) (pending choice : Option ℕ) → Within cs ds → ((d : ℕ) → pending ≡ Some d → IsIn ds d) → ((d : ℕ) → choice ≡ Some d → IsIn cs d) →
    (d : ℕ) → source_offer mode cs pending choice ≡ Some d → IsIn ds d
source_coloured source_mode.Keep cs ds None choice within on_pending on_choice d h = within d (on_choice d h)
source_coloured source_mode.Keep cs ds (Some e) choice within on_pending on_choice d h = on_pending d h
source_coloured source_mode.Eager cs ds None None within on_pending on_choice d h = within d (in_list cs 0 d h)
source_coloured source_mode.Eager cs ds None (Some e) within on_pending on_choice d h = within d (on_choice d h)
source_coloured source_mode.Eager cs ds (Some e) choice within on_pending on_choice d h = on_pending d h
source_coloured source_mode.Free cs ds pending choice within on_pending on_choice d h = within d (on_choice d h)
source_coloured source_mode.Fair cs ds None choice within on_pending on_choice d h = within d (on_choice d h)
source_coloured source_mode.Fair cs ds (Some e) choice within on_pending on_choice d h = on_pending d h

goes_a : (to_a : List Bool) (o : Option ℕ) (d : ℕ) → to_side_a to_a o ≡ Some d → (o ≡ Some d) × (takes_a to_a d ≡ true)
goes_a to_a None d h = cc
goes_a to_a (Some e) d h = let x = only_if_some (takes_a to_a e) (Some e) d h in let same : e ≡ d = cc in (x.1, rw (← same) x.0)

goes_b : (to_a : List Bool) (o : Option ℕ) (d : ℕ) → to_side_b to_a o ≡ Some d → (o ≡ Some d) × (takes_a to_a d ≡ false)
goes_b to_a None d h = cc
goes_b to_a (Some e) d h =
    let x = only_if_some (not (takes_a to_a e)) (Some e) d h in let same : e ≡ d = cc in (x.1, rw (← same) (not-true (takes_a to_a e) x.0))

module _ (colours : ℕ → List ℕ) (φ : Signals) (s : Content) (w : Choice) where
  abbrev Known : Component → ℕ → Type 0
  Known p c = (e d : ℕ) → Needs p (signal.Offer c) (signal.Offer e) → φ.offer e ≡ Some d → IsIn (colours e) d

  pub offer_coloured : (p : Component) (c : ℕ) → Closed colours p → FitsColours colours p s → ChoiceFits p w → HasOutput p c → Equation p s w φ → Known p c → (d : ℕ) → φ.offer c ≡ Some d → IsIn (colours c) d
  offer_coloured p c closed fits choice (source_output {colours = cs} {mode = mode}) e known d is =
      source_coloured mode cs (colours c) (pending_in s) (offer_chosen w) closed fits (chosen_from cs w choice) d (sym e.offer_out ∙ is)
  offer_coloured p c closed fits choice queue_output e known d is = fits.0 0 d (sym e.offer_out ∙ is)
  offer_coloured p c closed fits choice (function_output {input = input} {table = table}) e known d is =
      let x = through_some table (φ.offer input) d (sym e.offer_out ∙ is) in
      subst (IsIn (colours c)) x.2 (closed x.0 (known input x.0 function_offer x.1))
  offer_coloured p c closed fits choice (fork_output_a {input = input} {b = b} {table_a = ta}) e known d is =
      let o = only_if_some (φ.ready b) (through ta (φ.offer input)) d (sym e.offer_a ∙ is) in
      let x = through_some ta (φ.offer input) d o.1 in
      subst (IsIn (colours c)) x.2 (closed.0 x.0 (known input x.0 fork_offer_a_in x.1))
  offer_coloured p c closed fits choice (fork_output_b {input = input} {a = a} {table_b = tb}) e known d is =
      let o = only_if_some (φ.ready a) (through tb (φ.offer input)) d (sym e.offer_b ∙ is) in
      let x = through_some tb (φ.offer input) d o.1 in
      subst (IsIn (colours c)) x.2 (closed.1 x.0 (known input x.0 fork_offer_b_in x.1))
  offer_coloured p c closed fits choice (join_output {a = a} {b = b} {pass = pass}) e known d is =
      let o = only_if_some (is_some (φ.offer a) && is_some (φ.offer b)) (at_side pass (φ.offer a) (φ.offer b)) d (sym e.offer_out ∙ is) in
      closed d (passed pass o.1 (known a d join_offer_a) (known b d join_offer_b)) where
        passed : (pass : Side) {a b d : ℕ} → at_side pass (φ.offer a) (φ.offer b) ≡ Some d → (φ.offer a ≡ Some d → IsIn (colours a) d) → (φ.offer b ≡ Some d → IsIn (colours b) d) → IsIn (colours (at_side pass a b)) d
        passed A h on_a on_b = on_a h
        passed B h on_a on_b = on_b h
  offer_coloured p c closed fits choice (switch_output_a {input = input} {b = b} {to_a = to_a}) e known d is =
      let x = goes_a to_a (φ.offer input) d (sym e.offer_a ∙ is) in closed.0 d (known input d switch_offer_a x.0) x.1
  offer_coloured p c closed fits choice (switch_output_b {input = input} {a = a} {to_a = to_a}) e known d is =
      let x = goes_b to_a (φ.offer input) d (sym e.offer_b ∙ is) in closed.1 d (known input d switch_offer_b x.0) x.1
  offer_coloured p c closed fits choice (merge_output {a = a} {b = b}) e known d is =
      elim (granted_some (pref_in s) (φ.offer a) (φ.offer b) d (sym e.offer_out ∙ is))
      [ inl x ↦ closed.0 d (known a d merge_offer_a x.1) | inr x ↦ closed.1 d (known b d merge_offer_b x.1) ]

module _ (net : Network) (signals : List Signal) (colours : ℕ → List ℕ) (is_net : IsNet net) (order : IsOrder net signals) (closed : IsClosed net colours) where
  wired : IsCounted net
  wired = counted net is_net

  module _ (s : ℕ → Content) (w : ℕ → Choice) (φ : Signals) (is_frame : IsFrame net s w φ) (fits : (i : ℕ) (p : Component) → HasPrim net i p → FitsColours colours p (s i)) (choices : ChoicesFit net w) where
    coloured_below : (n k c : ℕ) → k < n → slice_get signals k ≡ Some (signal.Offer c) → (d : ℕ) → φ.offer c ≡ Some d → IsIn (colours c) d
    coloured_below zero k c h at d is = absurd (omega arith)
    coloured_below (suc n) k c h at d is =
        let below = order.within k (signal.Offer c) at in
        let r = find_initiator net c (omega (arith, wired.one_initiator c below)) in
        offer_coloured colours φ (s r.place) (w r.place) r.prim c (closed r.place r.prim r.has) (fits r.place r.prim r.has) (choices r.place r.prim r.has) r.has_output (is_frame r.place r.prim r.has)
        (λ e x needs here.
        let before = order.after k (signal.Offer c) (signal.Offer e) at (record { place = r.place; prim = r.prim; has = r.has; needs = needs }) in
        coloured_below n before.0 e (omega (arith, before.1.0)) before.1.1 x here) d is

    pub coloured : (c d : ℕ) → c < net.channels → φ.offer c ≡ Some d → IsIn (colours c) d
    coloured c d below is = let at = order.whole (signal.Offer c) below in coloured_below (suc at.0) at.0 c (omega arith) at.1 d is

  -- a cell fits after the cycle
  pub next_fits : (p : Component) → Closed colours p → (s : Content) (w : Choice) (φ : Signals) → Equation p s w φ → FitsColours colours p s → ((c d : ℕ) → (HasOutput p c ⊎ HasInput p c) → φ.offer c ≡ Some d → IsIn (colours c) d) → FitsColours colours p (content_after p s φ)
  next_fits (Source out cs mode) shut s w φ e fits offered = λ d is. offered out d (inl source_output) (left_over mode (φ.offer out) (φ.ready out) d is) where
    left_over : (mode : SourceMode) (o : Option ℕ) (r : Bool) (d : ℕ) → next_pending mode o r ≡ Some d → o ≡ Some d
    left_over source_mode.Keep o true d is = cc
    left_over source_mode.Keep o false d is = is
    left_over source_mode.Eager o true d is = cc
    left_over source_mode.Eager o false d is = is
    left_over source_mode.Free o r d is = cc
    left_over source_mode.Fair o true d is = cc
    left_over source_mode.Fair o false d is = is
  next_fits (Sink input mode) shut s w φ e fits offered = tt
  next_fits (Queue input out capacity initial) shut s w φ e fits offered = (
    λ j d is. elim (after (packets_in s) (move φ out) (move φ input) j d is)
        [ inl inside ↦ fits.0 inside.0 d inside.1 | inr came ↦ shut.0 d (offered input d (inr queue_input) (only_if_some (φ.ready input) (φ.offer input) d came).1) ],
    room (packets_in s) (move φ out) (move φ input) capacity fits.1 (λ d came. ltb-true (length (packets_in s)) capacity (sym e.ready_in ∙ (only_if_some (φ.ready input) (φ.offer input) d came).0)),
  ) where
    at_end : (ps : List ℕ) (came : Option ℕ) (j d : ℕ) → slice_get (joined ps came) j ≡ Some d → (slice_get ps j ≡ Some d) ⊎ (came ≡ Some d)
    at_end ps None j d is = inl is
    at_end [] (Some x) zero d is = inr is
    at_end [] (Some x) (suc j) d is = cc
    at_end (p ∷ ps) (Some x) zero d is = inl is
    at_end (p ∷ ps) (Some x) (suc j) d is = at_end ps (Some x) j d is

    before : (ps : List ℕ) (went : Option ℕ) (j d : ℕ) → slice_get (left ps went) j ≡ Some d → (k : ℕ) × (slice_get ps k ≡ Some d)
    before ps None j d is = (j, is)
    before [] (Some x) j d is = cc
    before (p ∷ ps) (Some x) j d is = (suc j, is)

    after : (ps : List ℕ) (went came : Option ℕ) (j d : ℕ) → slice_get (joined (left ps went) came) j ≡ Some d → ((k : ℕ) × (slice_get ps k ≡ Some d)) ⊎ (came ≡ Some d)
    after ps went came j d is = elim (at_end (left ps went) came j d is) [ inl here ↦ inl (before ps went j d here) | inr h ↦ inr h ]

    shorter : (ps : List ℕ) (went : Option ℕ) → length (left ps went) ≤ length ps
    shorter ps None = omega arith
    shorter ps (Some d) = omega (arith, length-drop 1 ps)

    room : (ps : List ℕ) (went came : Option ℕ) (capacity : ℕ) → length ps ≤ capacity → ((d : ℕ) → came ≡ Some d → length ps < capacity) → length (joined (left ps went) came) ≤ capacity
    room ps went None capacity fits space = omega (arith, fits, shorter ps went)
    room ps went (Some d) capacity fits space = omega (arith, space d refl, shorter ps went, length-joined (left ps went) d)
  next_fits (Function input out table) shut s w φ e fits offered = tt
  next_fits (Fork input a b ta tb) shut s w φ e fits offered = tt
  next_fits (Join a b out pass) shut s w φ e fits offered = tt
  next_fits (Switch input a b to_a) shut s w φ e fits offered = tt
  next_fits (Merge a b out) shut s w φ e fits offered = tt

  reset_fits : (p : Component) → Closed colours p → FitsComponent net.colours p → FitsColours colours p (reset_content p)
  reset_fits (Source out cs mode) = λ shut fit d is. absurd (cc)
  reset_fits (Sink input mode) = λ shut fit. tt
  reset_fits (Queue input out capacity initial) = λ shut fit. (λ j d is. shut.1 d (in_list initial j d is), fit.2)
  reset_fits (Function input out table) = λ shut fit. tt
  reset_fits (Fork input a b ta tb) = λ shut fit. tt
  reset_fits (Join a b out pass) = λ shut fit. tt
  reset_fits (Switch input a b to_a) = λ shut fit. tt
  reset_fits (Merge a b out) = λ shut fit. tt

  module _ (cycles : ℕ) (w : ℕ → ℕ → Choice) (s : ℕ → ℕ → Content) (φ : ℕ → Signals) (tape : TapeFits net cycles w) (run : IsRun net cycles w s φ) where
    pub cells_fit : (t i : ℕ) (p : Component) → t ≤ cycles → HasPrim net i p → FitsColours colours p (s t i)
    cells_fit zero i p h has = subst (λ (cell : Content). FitsColours colours p cell) (sym (run.start i ∙ ap reset_at has)) (reset_fits p (closed i p has) (prim_fits net is_net i p has))
    cells_fit (suc t) i p h has =
        let step : s (suc t) i ≡ content_after p (s t i) (φ t) = run.steps t i (omega arith) ∙ ap (λ o. next_at o (s t i) (φ t)) has in
        let frame = run.frames t (omega arith) in
        subst (λ (cell : Content). FitsColours colours p cell) (sym step)
        (next_fits p (closed i p has) (s t i) (w t i) (φ t) (frame i p has) (cells_fit t i p (omega arith) has)
        (λ c d named is. coloured (s t) (w t) (φ t) frame (λ j q has_q. cells_fit t j q (omega arith) has_q) (λ j q has_q. tape t (omega arith) j q has_q) c d
        (elim named [ inl has_output ↦ output_below net wired i p c has has_output | inr has_input ↦ input_below net wired i p c has has_input ]) is))

pub colours_hold : ColoursHold
colours_hold net signals colours cycles w s φ is_net order closed tape run = (
  λ t i p h has. cells_fit net signals colours is_net order closed cycles w s φ tape run t i p h has,
  λ t c d h below is. coloured net signals colours is_net order closed (s t) (w t) (φ t) (run.frames t h)
      (λ i p has. cells_fit net signals colours is_net order closed cycles w s φ tape run t i p (omega arith) has) (λ i p has. tape t h i p has) c d below is,
)
