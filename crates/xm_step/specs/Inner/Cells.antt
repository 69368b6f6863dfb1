-- Inner: one cell past a cycle, and at reset. No public clause cites these.
use Rattle.std.specs.Prelude.{◌≡◌, ℕ, Bool, true, false, List, [], length, slice_get, Option, None, Some}
use Rattle.xm_model.specs.Component.{Component, Content, Queue, Sink, Source, content_of}
use Rattle.xm_model.specs.Next.{move, reset_content}
use Rattle.xm_model.specs.Signals.{Signals, held_in, packets_in, pending_in}
use Rattle.xm_model.specs.declared.primitive.SinkMode.{SinkMode}
use Rattle.xm_model.specs.declared.primitive.SourceMode.{SourceMode}
use Rattle.xm_model.specs.declared.state.Cell.{Cell}
use Rattle.xm_plan.specs.Shown.{IsHeld, IsPending}
use Rattle.xm_step.specs.Advanced.{IsAdvanced, IsGuarded}
use Rattle.xm_step.specs.Inner.Kinds.{IsHoldingOf}
use Rattle.xm_step.specs.Roomy.{IsRoomyCell, cell_at}
use Rattle.xm_step.specs.Still.{HoldsNothing}
use Rattle.xm_step.specs.declared.kinds.Holding.{Holding}
use Rattle.xm_step.specs.declared.kinds.Holding.TheVariants as holding

pub record IsGuardedBy (ms : List Component) (cells : List Cell) (φ : Signals) : Type 0 where
  pub guarded : (p : ℕ) (m : Component) → slice_get ms p ≡ Some m → IsGuarded m (cell_at cells p) φ

-- a queue's cell is roomy, and keeps its capacity in this cycle
abbrev pub CanAdvance : ℕ → ℕ → ℕ → Cell → Signals → Type 0
CanAdvance input out capacity x φ =
    IsRoomyCell (Queue input out capacity []) x × IsGuarded (Queue input out capacity []) x φ

-- this is what the primitive holds, and its cell can go on in this cycle
abbrev pub CanGoOn : Holding → Component → Cell → Signals → Type 0
CanGoOn h m x φ = IsHoldingOf h m × (IsRoomyCell m x × IsGuarded m x φ)

-- the cells of some primitives went on, and all others are as they were
pub record HaveGone (ms : List Component) (old new : List Cell) (φ : Signals) (Gone : ℕ → Type 0) : Type 0 where
  pub gone : (p : ℕ) (m : Component) → Gone p → slice_get ms p ≡ Some m → IsAdvanced m (cell_at old p) (cell_at new p) φ
  pub rest : (p : ℕ) → (Gone p → ⊥) → cell_at new p ≡ cell_at old p

-- every cell went on
pub record AllAdvance (ms : List Component) (old new : List Cell) (φ : Signals) : Type 0 where
  pub whole : length new ≡ length old
  pub advanced : (p : ℕ) (m : Component) → slice_get ms p ≡ Some m → IsAdvanced m (cell_at old p) (cell_at new p) φ

-- the cells of all primitives that hold something went on, and the others are as they were
pub record KeptAdvance (ms : List Component) (old new : List Cell) (φ : Signals) : Type 0 where
  pub whole : length new ≡ length old
  pub advanced : (p : ℕ) (m : Component) → slice_get ms p ≡ Some m → (HoldsNothing m → ⊥) →
      IsAdvanced m (cell_at old p) (cell_at new p) φ
  pub rest : (p : ℕ) (m : Component) → slice_get ms p ≡ Some m → HoldsNothing m → cell_at new p ≡ cell_at old p

-- the source offered its pending colour, and will again
abbrev pub IsAgain : SourceMode → Option ℕ → Option ℕ → Type 0
IsAgain mode pending offer = IsPending mode pending × (offer ≡ pending)

-- the sink was ready, and will be again
abbrev pub IsReadyAgain : SinkMode → Bool → Bool → Type 0
IsReadyAgain mode held ready = IsHeld mode held × (ready ≡ true)

-- what is held, which is s, is shown by the signals
abbrev pub IsStanding : Holding → Content → Signals → Type 0
IsStanding (holding.Pending out mode) s φ = IsAgain mode (pending_in s) (φ.offer out)
IsStanding (holding.Held input mode) s φ = IsReadyAgain mode (held_in s) (φ.ready input)
IsStanding _ s φ = Unit {0}

-- a source is not taken from, or a sink is offered nothing
abbrev pub IsQuiet : Holding → Signals → Type 0
IsQuiet (holding.Pending out mode) φ = φ.ready out ≡ false
IsQuiet (holding.Held input mode) φ = φ.offer input ≡ None
IsQuiet _ φ = ⊥

-- the primitive, which now holds t, has the same signals in the next cycle: nothing passed a queue
abbrev pub IsIdle : Component → Content → Signals → Type 0
IsIdle (Source out _ mode) t φ = IsAgain mode (pending_in t) (φ.offer out)
IsIdle (Sink input mode) t φ = IsReadyAgain mode (held_in t) (φ.ready input)
IsIdle (Queue input out _ _) t φ = (move φ out ≡ None) × (move φ input ≡ None)
IsIdle _ t φ = Unit {0}

-- so do those that are noted as unchanged
abbrev pub AreNoted : List Component → List Cell → List Bool → Signals → Type 0
AreNoted ms now changed φ =
    (p : ℕ) (m : Component) → slice_get ms p ≡ Some m → slice_get changed p ≡ Some false →
    IsIdle m (content_of (cell_at now p)) φ

-- some primitives are noted, and the notes of all others are as they were
pub record HaveNoted (ms : List Component) (now : List Cell) (before changed : List Bool) (φ : Signals)
    (Gone : ℕ → Type 0) : Type 0 where
  pub noted : (p : ℕ) (m : Component) → Gone p → slice_get ms p ≡ Some m → slice_get changed p ≡ Some false →
      IsIdle m (content_of (cell_at now p)) φ
  pub rest : (p : ℕ) → (Gone p → ⊥) → slice_get changed p ≡ slice_get before p

-- the cell is that at reset, with its room
pub record IsResetCell (m : Component) (x : Cell) : Type 0 where
  pub content : content_of x ≡ reset_content m
  pub roomy : IsRoomyCell m x

-- how many places the packets of a cell need
abbrev pub places_in : Component → Cell → ℕ
places_in (Queue _ _ capacity _) x = capacity
places_in _ x = length (packets_in (content_of x))

-- the cell holds the same, and is roomy
pub record IsKept (m : Component) (x y : Cell) : Type 0 where
  pub content : content_of y ≡ content_of x
  pub roomy : IsRoomyCell m y
