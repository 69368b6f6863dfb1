-- What clauses say of a snapshot and the pass that took it.
use Rattle.std.specs.Prelude.{◌≡◌, ℕ, Result, Ok, Err, IfSome}
use Rattle.xm_model.specs.declared.memory.OutOfMemory.{OutOfMemory}
use Rattle.xm_turn.specs.declared.rule.View.{View}
use Rattle.xm_work.specs.declared.snapshots.TrySnapshot.{TrySnapshot}
use Rattle.xm_work.specs.declared.snapshots.TrySnapshot.TheVariants.{Taken, Busy}

-- a snapshot of the run that the pass names, at the cycle that the pass has seen
abbrev pub IsSeen : {N S : Type 0} → (N → S → Type 0) → (S → ℕ) → View N → S → Type 0
IsSeen is_of cycle_of v s = IfSome v.run (λ r. is_of r s) × (cycle_of s ≡ v.seen)

module _ {S : Type 0} where
  -- where a snapshot was taken, it is as said
  abbrev pub IfTaken : Result (TrySnapshot S) OutOfMemory → (S → Type 0) → Type 0
  IfTaken (Ok (Taken s)) P = P s
  IfTaken (Ok Busy) P = Unit {0}
  IfTaken (Err e) P = Unit {0}

  -- where another pass had the turn, this holds
  abbrev pub IfBusy : Result (TrySnapshot S) OutOfMemory → Type 0 → Type 0
  IfBusy (Ok (Taken s)) P = Unit {0}
  IfBusy (Ok Busy) P = P
  IfBusy (Err e) P = Unit {0}
