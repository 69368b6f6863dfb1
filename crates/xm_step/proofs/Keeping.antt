-- A state as the cycles keep it.
use Rattle.std.proofs.Common.{◌≡◌, ℕ, ◌≤◌, List, Some, None, Option, length, slice_get, Result, Ok, Err, IfOk, inl, inr, ◌⊎◌, map, refl, ap, sym, ◌∙◌, arith}
use Rattle.std.proofs.lemmas.List.{length-map}
use Rattle.std.proofs.lemmas.Option.{slice_get_past}
use Rattle.std.specs.List.{refill}
use Rattle.xm_model.specs.Component.{Component, Fork, Function, Join, Merge, Queue, Sink, Source, Switch, Nothing, component_of, content_of}
use Rattle.xm_model.specs.Lending.{refill-full}
use Rattle.xm_model.specs.Signals.{Signals, packets_in}
use Rattle.xm_model.specs.Views.{content_at, content_or}
use Rattle.xm_model.specs.declared.state.Cell.{Cell}
use Rattle.xm_model.specs.declared.state.Cell.TheVariants as cell
use Rattle.xm_model.specs.declared.primitive.Primitive.{Primitive}
use Rattle.xm_running.specs.Passing.{HasPlaces}
use Rattle.xm_step.specs.Inner.Cells.{AllAdvance, IsKept, KeptAdvance, places_in}
use Rattle.xm_step.specs.Advanced.{IsAdvanced}
use Rattle.xm_step.specs.Still.{AreStill, HoldsNothing}
use Rattle.xm_step.specs.Roomy.{IsRoomy, IsRoomyCell, cell_at}
use Rattle.xm_step.proofs.Places.{content_at-cell, none_from}

pub enough : (m : Component) (x : Cell) → IsRoomyCell m x → length (packets_in (content_of x)) ≤ places_in m x
enough (Queue i o capacity ini) (cell.Packets q) roomy = roomy.0
enough (Queue i o capacity ini) (cell.Pending d) roomy = absurd roomy
enough (Queue i o capacity ini) (cell.Held h) roomy = absurd roomy
enough (Queue i o capacity ini) (cell.Pref s) roomy = absurd roomy
enough (Queue i o capacity ini) cell.Nothing roomy = absurd roomy
enough (Source o cs md) x roomy = omega arith
enough (Sink i md) x roomy = omega arith
enough (Function i o t) x roomy = omega arith
enough (Fork i a b t u) x roomy = omega arith
enough (Join a b o s) x roomy = omega arith
enough (Switch i a b t) x roomy = omega arith
enough (Merge a b o) x roomy = omega arith

roomy_again : (m : Component) (x y : Cell) → content_of y ≡ content_of x → HasPlaces (places_in m x) y → IsRoomyCell m x → IsRoomyCell m y
roomy_again (Queue i o capacity ini) (cell.Packets q) (cell.Packets r) e places roomy = ((let same : packets_in (content_of (cell.Packets r)) ≡ packets_in (content_of (cell.Packets q)) = ap packets_in e in let many = ap length same in let few = roomy.0 in omega arith), places)
roomy_again (Queue i o capacity ini) (cell.Packets q) (cell.Pending d) e places roomy = absurd cc
roomy_again (Queue i o capacity ini) (cell.Packets q) (cell.Held h) e places roomy = absurd cc
roomy_again (Queue i o capacity ini) (cell.Packets q) (cell.Pref s) e places roomy = absurd cc
roomy_again (Queue i o capacity ini) (cell.Packets q) cell.Nothing e places roomy = absurd cc
roomy_again (Queue i o capacity ini) (cell.Pending d) y e places roomy = absurd roomy
roomy_again (Queue i o capacity ini) (cell.Held h) y e places roomy = absurd roomy
roomy_again (Queue i o capacity ini) (cell.Pref s) y e places roomy = absurd roomy
roomy_again (Queue i o capacity ini) cell.Nothing y e places roomy = absurd roomy
roomy_again (Source o cs md) x y e places roomy = tt
roomy_again (Sink i md) x y e places roomy = tt
roomy_again (Function i o t) x y e places roomy = tt
roomy_again (Fork i a b t u) x y e places roomy = tt
roomy_again (Join a b o s) x y e places roomy = tt
roomy_again (Switch i a b t) x y e places roomy = tt
roomy_again (Merge a b o) x y e places roomy = tt

pub kept_from : {E : Type 0} (r : Result Cell E) (m : Component) (x : Cell) (places : ℕ) → places ≡ places_in m x → IfOk r (λ y. content_of y ≡ content_of x) → IfOk r (HasPlaces places) → IsRoomyCell m x → IfOk r (IsKept m x)
kept_from (Ok y) m x places is same room roomy = record { content = same; roomy = roomy_again m x y same (rw (sym is) room) roomy }
kept_from (Err e) m x places is same room roomy = tt

-- all cells hold the same
pub same_contents : (ms : List Component) (cells slots : List Cell) → length cells ≡ length ms → length slots ≡ length ms → ((p : ℕ) (m : Component) → slice_get ms p ≡ Some m → IsKept m (cell_at cells p) (cell_at slots p)) →
    (p : ℕ) → content_at slots p ≡ content_at cells p
same_contents ms cells slots len whole kept p = at (slice_get ms p) refl where
  at : (o : Option Component) → slice_get ms p ≡ o → content_at slots p ≡ content_at cells p
  at None is =
      let past = none_from ms p is in
      ap content_or (slice_get_past slots p (omega (arith, past, whole)) ∙ sym (slice_get_past cells p (omega (arith, past, len))))
  at (Some m) is = content_at-cell slots p ∙ (kept p m is).content ∙ sym (content_at-cell cells p)

pub all_roomy : (ms : List Component) (cells slots : List Cell) → length slots ≡ length ms → ((p : ℕ) (m : Component) → slice_get ms p ≡ Some m → IsKept m (cell_at cells p) (cell_at slots p)) → IsRoomy ms slots
all_roomy ms cells slots whole kept = record { whole = whole; roomy = λ p m has. (kept p m has).roomy }

pub as_many : (prims : List Primitive) (ms : List Component) (cells old : List Cell) → map component_of prims ≡ ms → cells ≡ old → length old ≡ length ms → length prims ≡ length cells
as_many prims ms cells old same are whole = sym (length-map prims component_of) ∙ ap length same ∙ sym whole ∙ sym (ap length are)

-- what holds nothing stays as it is
idle_went : (m : Component) (x y : Cell) (φ : Signals) → HoldsNothing m → content_of x ≡ Nothing → y ≡ x → IsAdvanced m x y φ
idle_went (Source o cs md) x y φ idle none same = absurd idle
idle_went (Sink i md) x y φ idle none same = absurd idle
idle_went (Queue i o cap ini) x y φ idle none same = absurd idle
idle_went (Function i o t) x y φ idle none same = record { content = ap content_of same ∙ none; roomy = tt; room = refl }
idle_went (Fork i a b t u) x y φ idle none same = record { content = ap content_of same ∙ none; roomy = tt; room = refl }
idle_went (Join a b o s) x y φ idle none same = record { content = ap content_of same ∙ none; roomy = tt; room = refl }
idle_went (Switch i a b t) x y φ idle none same = record { content = ap content_of same ∙ none; roomy = tt; room = refl }
idle_went (Merge a b o) x y φ idle none same = absurd idle

holds_or_not : (m : Component) → HoldsNothing m ⊎ (HoldsNothing m → ⊥)
holds_or_not (Source o cs md) = inr (λ h. h)
holds_or_not (Sink i md) = inr (λ h. h)
holds_or_not (Queue i o cap ini) = inr (λ h. h)
holds_or_not (Function i o t) = inl tt
holds_or_not (Fork i a b t u) = inl tt
holds_or_not (Join a b o s) = inl tt
holds_or_not (Switch i a b t) = inl tt
holds_or_not (Merge a b o) = inr (λ h. h)

still_went : (ms : List Component) (old new : List Cell) (φ : Signals) → IsRoomy ms old → AreStill ms old → KeptAdvance ms old new φ → AllAdvance ms old new φ
still_went ms old new φ roomy still kept = record {
  whole = kept.whole;
  advanced = λ p m has. elim (holds_or_not m) [
    | inl idle ↦ idle_went m (cell_at old p) (cell_at new p) φ idle (sym (content_at-cell old p) ∙ still p m has idle) (kept.rest p m has idle)
    | inr busy ↦ kept.advanced p m has busy
  ];
}

-- so has the list that the new cells fill again
pub record Went (ms : List Component) (old new : List Cell) (φ : Signals) : Type 0 where
  pub went : AllAdvance ms old new φ
  pub whole : refill (length old) old new ≡ new

pub still_whole : (ms : List Component) (old new : List Cell) (φ : Signals) → IsRoomy ms old → AreStill ms old → KeptAdvance ms old new φ → Went ms old new φ
still_whole ms old new φ roomy still kept =
    let went = still_went ms old new φ roomy still kept in
    record { went = went; whole = refill-full (length old) old new went.whole }
