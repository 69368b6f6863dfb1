-- Inner: rights that are granted one after another along an order. No public clause cites these.
use Rattle.std.specs.Prelude.{◌≡◌, ℕ, ◌<◌, ◌≢◌, Bool, true, false, ◌&&◌, ◌↔◌, cond, nat_eq, List, Option, Some, None, slice_get}
use Rattle.xm_model.specs.Component.{Component, Fork, Function, Join, Merge, Queue, Sink, Source, Switch}
use Rattle.xm_model.specs.Net.{Network}
use Rattle.xm_model.specs.Ports.{InitiatorOf, TargetOf}
use Rattle.xm_model.specs.declared.primitive.SinkMode.{SinkMode}
use Rattle.xm_model.specs.declared.primitive.SinkMode.TheVariants as sink_mode
use Rattle.xm_model.specs.declared.primitive.SourceMode.{SourceMode}
use Rattle.xm_model.specs.declared.primitive.SourceMode.TheVariants as source_mode
use Rattle.xm_order.specs.declared.signal.Signal.{Signal}
use Rattle.xm_order.specs.declared.signal.Signal.TheVariants as signal
use Rattle.xm_persist.specs.Rights.{Granted, Initiator, Right, Target}
use Rattle.xm_persist.specs.declared.persistencies.Persistency.{Persistency}

-- the offer of a channel stands for its initiator, and its readiness for its target
abbrev pub right_of : Signal → Right
right_of (signal.Offer c) = Initiator c
right_of (signal.Ready c) = Target c

abbrev pub initiator_or : Option Persistency → Bool
initiator_or None = false
initiator_or (Some persistency) = persistency.initiator

abbrev pub target_or : Option Persistency → Bool
target_or None = false
target_or (Some persistency) = persistency.target

-- whether the right of the signal was found to be granted
abbrev pub granted_in : List Persistency → Signal → Bool
granted_in persistencies (signal.Offer c) = initiator_or (slice_get persistencies c)
granted_in persistencies (signal.Ready c) = target_or (slice_get persistencies c)

abbrev pub keeps_offer : SourceMode → Bool
keeps_offer source_mode.Free = false
keeps_offer _ = true

abbrev pub keeps_ready : SinkMode → Bool
keeps_ready sink_mode.Free = false
keeps_ready _ = true

-- whether the primitive is granted as the initiator of channel c, on which it offers, where these rights are granted
abbrev pub grants_initiator : Component → ℕ → (Signal → Bool) → Bool
grants_initiator (Source _ _ mode) c granted = keeps_offer mode
grants_initiator (Sink _ _) c granted = false
grants_initiator (Queue _ _ _ _) c granted = true
grants_initiator (Function input _ _) c granted = granted (signal.Offer input)
grants_initiator (Fork input a b _ _) c granted =
    granted (signal.Offer input) && granted (signal.Ready (cond (nat_eq c a) b a))
grants_initiator (Join a b _ _) c granted = granted (signal.Offer a) && granted (signal.Offer b)
grants_initiator (Switch input _ _ _) c granted = granted (signal.Offer input)
grants_initiator (Merge a b _) c granted = granted (signal.Offer a) && granted (signal.Offer b)

-- and as the target of channel c, from which it takes
abbrev pub grants_target : Component → ℕ → (Signal → Bool) → Bool
grants_target (Source _ _ _) c granted = false
grants_target (Sink _ mode) c granted = keeps_ready mode
grants_target (Function _ out _) c granted = granted (signal.Ready out)
grants_target (Fork _ a b _ _) c granted = granted (signal.Ready a) && granted (signal.Ready b)
grants_target (Join a b out _) c granted =
    granted (signal.Ready out) && granted (signal.Offer (cond (nat_eq c a) b a))
grants_target _ c granted = true

-- what was found is true exactly where the right is granted
abbrev pub IsExact : Network → (Signal → Bool) → Signal → Type 0
IsExact net granted σ = (granted σ ≡ true) ↔ Granted net (right_of σ)

-- for the first signals of the list
abbrev pub AreExact : Network → List Signal → ℕ → (Signal → Bool) → Type 0
AreExact net signals n granted = (k : ℕ) (σ : Signal) → k < n → slice_get signals k ≡ Some σ → IsExact net granted σ

-- what was found of all other signals stays
abbrev pub OthersStay : (Signal → Bool) → (Signal → Bool) → Signal → Type 0
OthersStay old new σ = (τ : Signal) → τ ≢ σ → new τ ≡ old τ

-- the primitive of the channel grants the signal's right or not, from what was found before
abbrev pub GrantedBy : Network → (Signal → Bool) → (Signal → Bool) → Signal → Type 0
GrantedBy net old new (signal.Offer c) =
    (d : InitiatorOf net c) × (new (signal.Offer c) ≡ grants_initiator d.prim c old)
GrantedBy net old new (signal.Ready c) =
    (d : TargetOf net c) × (new (signal.Ready c) ≡ grants_target d.prim c old)
