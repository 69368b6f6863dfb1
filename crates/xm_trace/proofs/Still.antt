-- In each state of a run the primitives that hold nothing have empty cells.
use Rattle.std.proofs.Common.{◌≡◌, ◌≤◌, ℕ, zero, suc, Option, Some, slice_get, refl, ap, ◌∙◌, arith}
use Rattle.xm_model.specs.Component.{Component, Content, Fork, Function, Join, Merge, Nothing, Queue, Sink, Source, Switch}
use Rattle.xm_model.specs.Net.{Network}
use Rattle.xm_model.specs.Next.{content_after, next_at, reset_at, reset_content}
use Rattle.xm_model.specs.Run.{IsRun}
use Rattle.xm_model.specs.Signals.{Signals}
use Rattle.xm_model.specs.declared.state.Choice.{Choice}
use Rattle.xm_step.specs.Still.{HoldsNothing}

at_reset : (m : Component) → HoldsNothing m → reset_content m ≡ Nothing
at_reset (Function i o t) h = refl
at_reset (Fork i a b t u) h = refl
at_reset (Join a b o s) h = refl
at_reset (Switch i a b t) h = refl
at_reset (Source o cs md) h = absurd h
at_reset (Sink i md) h = absurd h
at_reset (Queue i o cap ini) h = absurd h
at_reset (Merge a b o) h = absurd h

after : (m : Component) (x : Content) (φ : Signals) → HoldsNothing m → content_after m x φ ≡ Nothing
after (Function i o t) x φ h = refl
after (Fork i a b t u) x φ h = refl
after (Join a b o s) x φ h = refl
after (Switch i a b t) x φ h = refl
after (Source o cs md) x φ h = absurd h
after (Sink i md) x φ h = absurd h
after (Queue i o cap ini) x φ h = absurd h
after (Merge a b o) x φ h = absurd h

pub still_in_run : (net : Network) (cycles : ℕ) (w : ℕ → ℕ → Choice) (s : ℕ → ℕ → Content) (φ : ℕ → Signals) → IsRun net cycles w s φ → (t p : ℕ) (m : Component) → t ≤ cycles → slice_get net.prims p ≡ Some m → HoldsNothing m → s t p ≡ Nothing
still_in_run net cycles w s φ run zero p m within has idle = run.start p ∙ ap reset_at has ∙ at_reset m idle
still_in_run net cycles w s φ run (suc t) p m within has idle = run.steps t p (omega arith) ∙ ap (λ (o : Option Component). next_at o (s t p) (φ t)) has ∙ after m (s t p) (φ t) idle
