-- Lemmas: what a source with a pending colour offers, and whether a held sink is ready.
use Rattle.std.proofs.Common.{◌≡◌, ℕ, Bool, true, false, List, Option, None, Some, refl}
use Rattle.xm_model.specs.Signals.{sink_ready, source_offer}
use Rattle.xm_model.specs.declared.primitive.SinkMode.{SinkMode}
use Rattle.xm_model.specs.declared.primitive.SinkMode.TheVariants as sink_mode
use Rattle.xm_model.specs.declared.primitive.SourceMode.{SourceMode}
use Rattle.xm_model.specs.declared.primitive.SourceMode.TheVariants as source_mode
use Rattle.xm_plan.specs.Shown.{IsHeld, IsPending}

pub standing_offer : (mode : SourceMode) (colours : List ℕ) (pending chosen : Option ℕ) → IsPending mode pending → source_offer mode colours pending chosen ≡ pending
standing_offer source_mode.Free colours pending chosen is = absurd is
standing_offer source_mode.Keep colours None chosen is = absurd is
standing_offer source_mode.Keep colours (Some d) chosen is = refl
standing_offer source_mode.Eager colours None chosen is = absurd is
standing_offer source_mode.Eager colours (Some d) chosen is = refl
standing_offer source_mode.Fair colours None chosen is = absurd is
standing_offer source_mode.Fair colours (Some d) chosen is = refl

pub held_ready : (mode : SinkMode) (held chosen : Bool) → IsHeld mode held → sink_ready mode held chosen ≡ true
held_ready sink_mode.Keep true chosen is = refl
held_ready sink_mode.Keep false chosen is = absurd is
held_ready sink_mode.Free held chosen is = absurd is
