-- What has changed, and that the rest is shown still.
use Rattle.std.proofs.Common.{◌≡◌, ◌≢◌, ◌⊎◌, ℕ, zero, suc, ◌<◌, ◌≤◌, Bool, false, List, [], ◌∷◌, None, Some, length, map, set, get_or, slice_get, refl, sym, ap, ap₂, ◌∙◌, subst, arith, inl, inr}
use Rattle.std.specs.Prelude.{nat_lt}
use Rattle.std.proofs.Math.ListN.{get_or-map}
use Rattle.std.proofs.lemmas.Bool.Decides.{eqb_tells}
use Rattle.std.proofs.lemmas.Grind.{get_or-set_at}
use Rattle.std.proofs.lemmas.List.{get_or-set_other, length-map, map-set}
use Rattle.std.proofs.lemmas.Option.{slice_get_within}
use Rattle.xm_model.specs.Component.{Component, Content, Fork, Function, Join, Merge, Queue, Sink, Source, Switch, content_of}
use Rattle.xm_model.specs.Frame.{Equation, IsFrame}
use Rattle.xm_model.specs.Net.{Network}
use Rattle.xm_model.specs.Next.{content_after, joined, left, move}
use Rattle.xm_model.specs.Signals.{Signals, held_in, offer_chosen, packets_in, pending_in, ready_chosen}
use Rattle.xm_model.specs.Views.{IsNextOf, content_at}
use Rattle.xm_model.specs.Next.{next_at}
use Rattle.xm_model.specs.declared.state.Cell.{Cell}
use Rattle.xm_model.specs.declared.state.Cell.TheVariants as cell
use Rattle.xm_model.specs.declared.state.Choice.{Choice}
use Rattle.xm_plan.specs.Lemmas.Standing.{held_ready, standing_offer}
use Rattle.xm_plan.specs.Shown.{AreShown, IsShown}
use Rattle.xm_step.specs.Inner.Cells.{AreNoted, HaveGone, HaveNoted, IsGuardedBy, IsIdle, IsStanding}
use Rattle.xm_step.specs.Inner.Kinds.{AreKindsTo, IsAmongBoth, IsAmongQueues, IsHolderAt, IsHoldingOf, IsQueueAt}
use Rattle.xm_step.specs.Roomy.{IsRoomy, cell_at}
use Rattle.xm_step.specs.Still.{HoldsNothing}
use Rattle.xm_step.specs.declared.kinds.Holder.{Holder}
use Rattle.xm_step.specs.declared.kinds.QueuePlace.{QueuePlace}
use Rattle.xm_step.proofs.Going.{other_cell, other_fresh}
use Rattle.xm_step.proofs.Mapped.{same_length}
use Rattle.xm_step.proofs.Places.{content_at-cell}
use Rattle.xm_step.proofs.Standing.{shown_standing}

get-set_other : {X : Type 0} (xs : List X) (p q : ℕ) (x : X) → q ≢ p → slice_get (set xs p x) q ≡ slice_get xs q
get-set_other [] p q x apart = refl
get-set_other (y ∷ xs) zero zero x apart = absurd (apart refl)
get-set_other (y ∷ xs) zero (suc q) x apart = refl
get-set_other (y ∷ xs) (suc p) zero x apart = refl
get-set_other (y ∷ xs) (suc p) (suc q) x apart = get-set_other xs p q x (λ same. apart (ap suc same))

get-set_here : {X : Type 0} (xs : List X) (p : ℕ) (x y : X) → slice_get (set xs p x) p ≡ Some y → x ≡ y
get-set_here [] p x y e = absurd cc
get-set_here (z ∷ xs) zero x y e = cc
get-set_here (z ∷ xs) (suc p) x y e = get-set_here xs p x y e

pub none_noted : (ms : List Component) (now : List Cell) (changed : List Bool) (φ : Signals) (Gone : ℕ → Type 0) → ((p : ℕ) → Gone p → ⊥) → HaveNoted ms now changed changed φ Gone
none_noted ms now changed φ Gone none = record { noted = λ p m gone has. absurd (none p gone); rest = λ p h. refl }

-- one note more
noted_more : (ms : List Component) (now : List Cell) (old changed : List Bool) (φ : Signals) (Before After : ℕ → Type 0) (p : ℕ) (here : Cell) (any : Bool) → p < length now → ((q : ℕ) → After q → Before q ⊎ (q ≡ p)) →
    ((q : ℕ) → Before q → After q) → After p → ((m : Component) → slice_get ms p ≡ Some m → any ≡ false → IsIdle m (content_of here) φ) → HaveNoted ms now old changed φ Before → HaveNoted ms (set now p here) old (set changed p any) φ After
noted_more ms now old changed φ Before After p here any below out stays goes told before = record { noted = noted; rest = rest } where
  noted : (q : ℕ) (m : Component) → After q → slice_get ms q ≡ Some m → slice_get (set changed p any) q ≡ Some false → IsIdle m (content_of (cell_at (set now p here) q)) φ
  noted q m after has unchanged = elim (eqb_tells q p) [
    | inl t ↦
        let is = get-set_here changed p any false (ap (λ j. slice_get (set changed p any) j) (sym t.1) ∙ unchanged) in
        subst (λ (x : Cell). IsIdle m (content_of x) φ) (sym (get_or-set_at now p q here cell.Nothing t.1 below))
        (told m (ap (λ j. slice_get ms j) (sym t.1) ∙ has) is)
    | inr t ↦ elim (out q after) [
      | inl b ↦
          subst (λ (x : Cell). IsIdle m (content_of x) φ) (sym (get_or-set_other now p q here cell.Nothing t.1))
          (before.noted q m b has (sym (get-set_other changed p q any t.1) ∙ unchanged))
      | inr is ↦ absurd (t.1 is)
    ]
  ]

  rest : (q : ℕ) → (After q → ⊥) → slice_get (set changed p any) q ≡ slice_get old q
  rest q none =
      let apart : q ≢ p = λ same. none (subst After (sym same) goes) in
      get-set_other changed p q any apart ∙ before.rest q (λ b. none (stays q b))

-- one of things that hold cells
pub noted_by : {X : Type 0} (cell : X → Cell) (ms : List Component) (now : List X) (old changed : List Bool) (φ : Signals) (Before After : ℕ → Type 0) (p : ℕ) (here : X) (any : Bool) → p < length now →
    ((q : ℕ) → After q → Before q ⊎ (q ≡ p)) → ((q : ℕ) → Before q → After q) → After p → ((m : Component) → slice_get ms p ≡ Some m → any ≡ false → IsIdle m (content_of (cell here)) φ) →
    HaveNoted ms (map cell now) old changed φ Before → HaveNoted ms (map cell (set now p here)) old (set changed p any) φ After
noted_by cell ms now old changed φ Before After p here any below out stays goes told before =
    let many = length-map now cell in
    subst (λ (xs : List Cell). HaveNoted ms xs old (set changed p any) φ After) (sym (map-set cell now p here))
    (noted_more ms (map cell now) old changed φ Before After p (cell here) any (omega arith) out stays goes told before)

-- once all are
pub all_noted : (ms : List Component) (now : List Cell) (n : ℕ) (queues : List QueuePlace) (others : List Holder) → AreKindsTo ms n queues others → n ≡ length ms → (φ : Signals) (old changed : List Bool) (i : ℕ) → length others ≤ i →
    HaveNoted ms now old changed φ (IsAmongBoth queues others i) → AreNoted ms now changed φ
all_noted ms now n queues others kinds whole φ old changed i all noted p m has unchanged =
    let within = slice_get_within ms p m has in
    elim (kinds.whole p (omega arith)) [
      | inl queue ↦ noted.noted p m (inl (queue.0, (queue.1.0, (slice_get_within queues queue.0 queue.1.0 queue.1.1.0, queue.1.1)))) has unchanged
      | inr rest ↦ elim rest [
        | inl other ↦ noted.noted p m (inr (other.0, (other.1.0, ((let h = slice_get_within others other.0 other.1.0 other.1.1.0 in omega arith), other.1.1)))) has unchanged
        | inr idle ↦ nothing m (let there = idle.has in let same : idle.prim ≡ m = cc in subst HoldsNothing same idle.idle)
      ]
    ] where
      nothing : (l : Component) → HoldsNothing l → IsIdle l (content_of (cell_at now p)) φ
      nothing (Source _ _ _) none = absurd none
      nothing (Sink _ _) none = absurd none
      nothing (Queue _ _ _ _) none = absurd none
      nothing (Function _ _ _) none = tt
      nothing (Fork _ _ _ _ _) none = tt
      nothing (Join _ _ _ _) none = tt
      nothing (Switch _ _ _ _) none = tt
      nothing (Merge _ _ _) none = absurd none

-- the queues, and then the first others
pub both_noted : (ms : List Component) (now : List Cell) (old changed : List Bool) (φ : Signals) (queues : List QueuePlace) (others : List Holder) (k : ℕ) → k ≡ length queues → HaveNoted ms now old changed φ (IsAmongQueues queues k) →
    HaveNoted ms now old changed φ (IsAmongBoth queues others 0)
both_noted ms now old changed φ queues others k all h =
    let whole = subst (λ (n : ℕ). HaveNoted ms now old changed φ (IsAmongQueues queues n)) all h in
    record {
      noted = λ p m among has. whole.noted p m (elim among [ inl queue ↦ queue | inr other ↦ absurd (let less = other.1.1.0 in omega arith) ]) has;
      rest = λ p none. whole.rest p (λ queue. none (inl queue));
    }

-- what does not change has the same signals in the next cycle
still_shown : (m : Component) (s t : Content) (w : Choice) (φ : Signals) → IsIdle m t φ → Equation m s w φ → t ≡ content_after m s φ → IsShown m t φ
still_shown (Queue input out capacity initial) s t w φ idle equation next =
    let same : packets_in t ≡ packets_in s = ap packets_in next ∙ ap₂ (λ (x y : _). joined (left (packets_in s) x) y) idle.0 idle.1 in
    (equation.offer_out ∙ ap (λ (ps : List ℕ). slice_get ps 0) (sym same), equation.ready_in ∙ ap (λ (ps : List ℕ). nat_lt (length ps) capacity) (sym same))
still_shown (Source out colours mode) s t w φ idle equation next = idle
still_shown (Sink input mode) s t w φ idle equation next = idle
still_shown (Function _ _ _) s t w φ idle equation next = tt
still_shown (Fork _ _ _ _ _) s t w φ idle equation next = tt
still_shown (Join _ _ _ _) s t w φ idle equation next = tt
still_shown (Switch _ _ _ _) s t w φ idle equation next = tt
still_shown (Merge _ _ _) s t w φ idle equation next = tt

pub shown_after : (net : Network) (old new : List Cell) (w : ℕ → Choice) (φ : Signals) (changed : List Bool) → IsFrame net (content_at old) w φ → IsNextOf net old φ new → AreNoted net.prims new changed φ → AreShown net.prims (content_at new) changed φ
shown_after net old new w φ changed frame next noted p m has unchanged =
    still_shown m (content_at old p) (content_at new p) (w p) φ (subst (λ (t : Content). IsIdle m t φ) (sym (content_at-cell new p)) (noted p m has unchanged)) (frame p m has) (next.same p ∙ ap (λ o. next_at o (content_at old p) φ) has)

-- the frame shows what the wires before it showed
shown_again : (m : Component) (s : Content) (w : Choice) (φ ψ : Signals) → IsShown m s φ → Equation m s w ψ → IsShown m s ψ
shown_again (Queue input out capacity initial) s w φ ψ shown equation = (equation.offer_out, equation.ready_in)
shown_again (Source out colours mode) s w φ ψ shown equation = (shown.0, equation.offer_out ∙ standing_offer mode colours (pending_in s) (offer_chosen w) shown.0)
shown_again (Sink input mode) s w φ ψ shown equation = (shown.0, equation.ready_in ∙ held_ready mode (held_in s) (ready_chosen w) shown.0)
shown_again (Function _ _ _) s w φ ψ shown equation = tt
shown_again (Fork _ _ _ _ _) s w φ ψ shown equation = tt
shown_again (Join _ _ _ _) s w φ ψ shown equation = tt
shown_again (Switch _ _ _ _) s w φ ψ shown equation = tt
shown_again (Merge _ _ _) s w φ ψ shown equation = tt

pub shown_in_frame : (net : Network) (s : ℕ → Content) (w : ℕ → Choice) (φ ψ : Signals) (changed : List Bool) → AreShown net.prims s changed φ → IsFrame net s w ψ → AreShown net.prims s changed ψ
shown_in_frame net s w φ ψ changed shown frame p m has unchanged = shown_again m (s p) (w p) φ ψ (shown p m has unchanged) (frame p m has)

-- a queue that nothing passed, at its place
pub queue_idle : (ms : List Component) (it : QueuePlace) → IsQueueAt ms it → (m : Component) (t : Content) (φ : Signals) → slice_get ms it.prim ≡ Some m → move φ it.out ≡ None → move φ it.input ≡ None → IsIdle m t φ
queue_idle ms it at m t φ has none_out none_in =
    let there = at.has in
    let same : Queue it.input it.out at.capacity at.initial ≡ m = cc in
    subst (λ (n : Component). IsIdle n t φ) same (none_out, none_in)

pub holder_is : (ms : List Component) (it : Holder) → IsHolderAt ms it → (m : Component) → slice_get ms it.prim ≡ Some m → IsHoldingOf it.holds m
holder_is ms it at m has =
    let there = at.has in
    let same : at.prim ≡ m = cc in
    subst (λ (n : Component). IsHoldingOf it.holds n) same at.holds

-- an other primitive that did not change stays as the signals show it
pub standing_by : {X : Type 0} (cell : X → Cell) (ms : List Component) (old : List X) (φ : Signals) (queues : List QueuePlace) (others : List Holder) (n : ℕ) → (kinds : AreKindsTo ms n queues others) → (roomy : IsRoomy ms (map cell old)) → (guarded : IsGuardedBy ms (map cell old) φ) →
    (whole : n ≡ length (map cell old)) → (now : List X) → (len : length now ≡ length old) → (i : ℕ) (it : Holder) → (at : slice_get others i ≡ Some it) → (before : HaveGone ms (map cell old) (map cell now) φ (IsAmongBoth queues others i)) → (d : X) →
    (was changed : List Bool) → AreShown ms (content_at (map cell old)) was φ → HaveNoted ms (map cell now) was changed φ (IsAmongBoth queues others i) → slice_get changed it.prim ≡ Some false → IsStanding it.holds (content_of (cell (get_or now it.prim d))) φ
standing_by cell ms old φ queues others n kinds roomy guarded whole now len i it at before d was changed shown noted unchanged =
    let holder = (kinds.other_at i it at).0 in
    let fresh = other_fresh ms (map cell old) φ queues others n kinds roomy guarded whole i it at in
    let same : content_at (map cell old) it.prim ≡ content_of (cell (get_or now it.prim d)) =
    content_at-cell (map cell old) it.prim
    ∙ ap content_of (sym (other_cell ms (map cell old) φ queues others n kinds roomy guarded whole (map cell now) (same_length cell now old len) i it at before (cell d)) ∙ get_or-map cell now it.prim d) in
    subst (λ (t : Content). IsStanding it.holds t φ) same
    (shown_standing holder.prim it.holds (content_at (map cell old) it.prim) φ holder.holds (shown it.prim holder.prim holder.has (sym (noted.rest it.prim fresh) ∙ unchanged)))
