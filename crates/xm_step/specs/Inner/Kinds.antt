-- Inner: the queues of a net and its other primitives that hold something, listed. No public clause cites these.
use Rattle.std.specs.Prelude.{◌≡◌, ℕ, ◌<◌, ◌⊎◌, List, Some, length, slice_get}
use Rattle.xm_model.specs.Component.{Component, Merge, Queue, Sink, Source}
use Rattle.xm_step.specs.Still.{HoldsNothing}
use Rattle.xm_step.specs.declared.kinds.Holder.{Holder}
use Rattle.xm_step.specs.declared.kinds.Holding.{Holding}
use Rattle.xm_step.specs.declared.kinds.Holding.TheVariants as holding
use Rattle.xm_step.specs.declared.kinds.QueuePlace.{QueuePlace}

-- this is what the primitive holds
abbrev pub IsHoldingOf : Holding → Component → Type 0
IsHoldingOf h (Source out _ mode) = h ≡ holding.Pending out mode
IsHoldingOf h (Sink input mode) = h ≡ holding.Held input mode
IsHoldingOf h (Queue input out _ _) = h ≡ holding.Packets input out
IsHoldingOf h (Merge a b out) = h ≡ holding.Pref a b out
IsHoldingOf h _ = h ≡ holding.Nothing

-- the queue stands at its number
pub record IsQueueAt (ms : List Component) (it : QueuePlace) : Type 0 where
  pub capacity : ℕ
  pub initial : List ℕ
  pub has : slice_get ms it.prim ≡ Some (Queue it.input it.out capacity initial)

-- the primitive at this number holds this
pub record IsHolderAt (ms : List Component) (it : Holder) : Type 0 where
  pub prim : Component
  pub has : slice_get ms it.prim ≡ Some prim
  pub holds : IsHoldingOf it.holds prim
  pub busy : HoldsNothing prim → ⊥

-- the primitive at this number holds nothing
pub record IsIdleAt (ms : List Component) (p : ℕ) : Type 0 where
  pub prim : Component
  pub has : slice_get ms p ≡ Some prim
  pub idle : HoldsNothing prim

-- each primitive below n that holds something stands once, in one of the lists, and no other does
pub record AreKindsTo (ms : List Component) (n : ℕ) (queues : List QueuePlace) (others : List Holder) : Type 0 where
  pub queue_at : (k : ℕ) (it : QueuePlace) → slice_get queues k ≡ Some it → IsQueueAt ms it × (it.prim < n)
  pub other_at : (k : ℕ) (it : Holder) → slice_get others k ≡ Some it → IsHolderAt ms it × (it.prim < n)
  pub whole : (p : ℕ) → p < n →
      ((k : ℕ) × ((it : QueuePlace) × ((slice_get queues k ≡ Some it) × (it.prim ≡ p))))
      ⊎ (((k : ℕ) × ((it : Holder) × ((slice_get others k ≡ Some it) × (it.prim ≡ p)))) ⊎ IsIdleAt ms p)
  pub queues_once : (j k : ℕ) (x y : QueuePlace) → slice_get queues j ≡ Some x → slice_get queues k ≡ Some y →
      x.prim ≡ y.prim → j ≡ k
  pub others_once : (j k : ℕ) (x y : Holder) → slice_get others j ≡ Some x → slice_get others k ≡ Some y →
      x.prim ≡ y.prim → j ≡ k
  pub apart : (j k : ℕ) (x : QueuePlace) (y : Holder) → slice_get queues j ≡ Some x → slice_get others k ≡ Some y →
      x.prim ≡ y.prim → ⊥

-- the primitive is one of the first k queues
abbrev pub IsAmongQueues : List QueuePlace → ℕ → ℕ → Type 0
IsAmongQueues queues k p = (j : ℕ) × ((it : QueuePlace) × ((j < k) × ((slice_get queues j ≡ Some it) × (it.prim ≡ p))))

-- one of the first i others
abbrev pub IsAmongOthers : List Holder → ℕ → ℕ → Type 0
IsAmongOthers others i p = (j : ℕ) × ((it : Holder) × ((j < i) × ((slice_get others j ≡ Some it) × (it.prim ≡ p))))

-- or one of all queues or of the first i others
abbrev pub IsAmongBoth : List QueuePlace → List Holder → ℕ → ℕ → Type 0
IsAmongBoth queues others i p = IsAmongQueues queues (length queues) p ⊎ IsAmongOthers others i p
