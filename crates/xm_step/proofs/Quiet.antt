-- A source with a pending colour and a sink that is held, where nothing moves.
use Rattle.std.proofs.Common.{◌≡◌, ℕ, Bool, true, false, Option, None, Some, sym, ap, ap₂, ◌∙◌, refl}
use Rattle.xm_model.specs.Component.{Component, content_of}
use Rattle.xm_model.specs.Next.{next_held, next_pending}
use Rattle.xm_model.specs.Signals.{Signals, held_in, pending_in}
use Rattle.xm_model.specs.declared.primitive.SinkMode.{SinkMode}
use Rattle.xm_model.specs.declared.primitive.SinkMode.TheVariants as sink_mode
use Rattle.xm_model.specs.declared.primitive.SourceMode.{SourceMode}
use Rattle.xm_model.specs.declared.primitive.SourceMode.TheVariants as source_mode
use Rattle.xm_model.specs.declared.state.Cell.{Cell}
use Rattle.xm_model.specs.declared.state.Cell.TheVariants as cell
use Rattle.xm_plan.specs.Shown.{IsPending}
use Rattle.xm_step.specs.Advanced.{IsAdvanced}
use Rattle.xm_step.specs.Inner.Cells.{CanGoOn, IsAgain, IsQuiet, IsReadyAgain, IsStanding}
use Rattle.xm_step.specs.declared.kinds.Holding.{Holding}
use Rattle.xm_step.specs.declared.kinds.Holding.TheVariants as holding
use Rattle.xm_step.proofs.Going.{held_went, pending_went}

none_pending : (mode : SourceMode) → IsPending mode None → ⊥
none_pending source_mode.Free h = h
none_pending source_mode.Keep h = h
none_pending source_mode.Eager h = h
none_pending source_mode.Fair h = h

still_pending : (mode : SourceMode) (d : ℕ) → IsPending mode (Some d) → Some d ≡ next_pending mode (Some d) false
still_pending source_mode.Free d h = absurd h
still_pending source_mode.Keep d h = refl
still_pending source_mode.Eager d h = refl
still_pending source_mode.Fair d h = refl

pending_kept : (mode : SourceMode) (x : Cell) (offer : Option ℕ) (ready : Bool) → IsAgain mode (pending_in (content_of x)) offer → ready ≡ false → x ≡ cell.Pending (next_pending mode offer ready)
pending_kept mode (cell.Pending (Some d)) offer ready again unready = ap cell.Pending (still_pending mode d again.0 ∙ ap₂ (next_pending mode) (sym again.1) (sym unready))
pending_kept mode (cell.Pending None) offer ready again unready = absurd (none_pending mode again.0)
pending_kept mode (cell.Packets q) offer ready again unready = absurd (none_pending mode again.0)
pending_kept mode (cell.Held h) offer ready again unready = absurd (none_pending mode again.0)
pending_kept mode (cell.Pref s) offer ready again unready = absurd (none_pending mode again.0)
pending_kept mode cell.Nothing offer ready again unready = absurd (none_pending mode again.0)

held_kept : (mode : SinkMode) (x : Cell) (offer : Option ℕ) (ready : Bool) → IsReadyAgain mode (held_in (content_of x)) ready → offer ≡ None → x ≡ cell.Held (next_held mode offer ready)
held_kept sink_mode.Free x offer ready again none = absurd again.0
held_kept sink_mode.Keep (cell.Held true) offer ready again none = ap cell.Held (ap₂ (next_held sink_mode.Keep) (sym none) (sym again.1))
held_kept sink_mode.Keep (cell.Held false) offer ready again none = absurd again.0
held_kept sink_mode.Keep (cell.Pending d) offer ready again none = absurd again.0
held_kept sink_mode.Keep (cell.Packets q) offer ready again none = absurd again.0
held_kept sink_mode.Keep (cell.Pref s) offer ready again none = absurd again.0
held_kept sink_mode.Keep cell.Nothing offer ready again none = absurd again.0

pub quiet_went : (h : Holding) (m : Component) (x : Cell) (φ : Signals) → CanGoOn h m x φ → IsStanding h (content_of x) φ → IsQuiet h φ → IsAdvanced m x x φ
quiet_went (holding.Pending out mode) m x φ can standing quiet = pending_went m x x φ out mode can (pending_kept mode x (φ.offer out) (φ.ready out) standing quiet)
quiet_went (holding.Held input mode) m x φ can standing quiet = held_went m x x φ input mode can (held_kept mode x (φ.offer input) (φ.ready input) standing quiet)
quiet_went (holding.Packets input out) m x φ can standing quiet = absurd quiet
quiet_went (holding.Pref a b out) m x φ can standing quiet = absurd quiet
quiet_went holding.Nothing m x φ can standing quiet = absurd quiet
