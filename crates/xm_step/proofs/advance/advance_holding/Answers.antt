use Rattle.std.proofs.Common.{ap, ap₂, refl, sym, ◌∙◌}
use Rattle.xm_model.specs.Next.{next_held, next_pending}
use Rattle.xm_model.specs.declared.state.Cell.TheVariants as cell
use Rattle.xm_step.proofs.Going.{held_went, nothing_went, packets_went, pass_has_room, pass_went, pending_went, pref_went, queue_of}
use Rattle.xm_step.proofs.Standing.{packets_idle, sink_idle, source_idle}
use Rattle.xm_step.proofs.advance.advance_holding.Goals as goal

pub pass_any-requires : goal.pass_any-requires
pass_any-requires g c =
    let can = queue_of c.requires.0 _ _ c.in-Packets.input c.in-Packets.out (rw c.in-Packets.is at c.requires.1) in
    pass_has_room c.in-Packets.input c.in-Packets.out can.0 _ _ _ c.moved_at-in-Packets.ensures can.1

pub returns-in-Packets-clause-gone : goal.returns-in-Packets-clause-gone
returns-in-Packets-clause-gone g c = λ m can standing.
    packets_went m _ _ _ c.in-Packets.input c.in-Packets.out (rw c.in-Packets.is at can)
    (λ capacity initial goes. pass_went c.in-Packets.input c.in-Packets.out capacity initial _ _ _ _ _ c.moved_at.ensures c.moved_at-in-Packets.ensures c.pass_any.ensures.passed goes)

pub returns-in-Packets-clause-told : goal.returns-in-Packets-clause-told
returns-in-Packets-clause-told g c = λ m is standing none.
    let still = c.pass_any.ensures.told none in
    packets_idle m _ _ c.in-Packets.input c.in-Packets.out (rw c.in-Packets.is at is) (rw c.moved_at.ensures at still.0) (rw c.moved_at-in-Packets.ensures at still.1)

pub returns-in-Pending-clause-gone : goal.returns-in-Pending-clause-gone
returns-in-Pending-clause-gone g c = λ m can standing.
    let offer = c.wire_at-wire.ensures.offer in
    let ready = c.wire_at-wire.ensures.ready in
    pending_went m _ _ _ c.in-Pending.out c.in-Pending.mode (rw c.in-Pending.is at can)
    (c.advance_source.ensures.gone (λ stays. let again = rw c.in-Pending.is at (standing stays) in (again.0, offer ∙ again.1))
    ∙ ap cell.Pending (ap₂ (next_pending c.in-Pending.mode) offer ready))

pub returns-in-Pending-clause-told : goal.returns-in-Pending-clause-told
returns-in-Pending-clause-told g c = λ m is standing none.
    let offer = c.wire_at-wire.ensures.offer in
    let told = c.advance_source.ensures.told (λ stays. let again = rw c.in-Pending.is at (standing stays) in (again.0, offer ∙ again.1)) none in
    source_idle m _ _ c.in-Pending.out c.in-Pending.mode (rw c.in-Pending.is at is) (told.0, sym offer ∙ told.1)

pub returns-in-Held-clause-gone : goal.returns-in-Held-clause-gone
returns-in-Held-clause-gone g c = λ m can standing.
    let offer = c.wire_at-wire-in-Held.ensures.offer in
    let ready = c.wire_at-wire-in-Held.ensures.ready in
    held_went m _ _ _ c.in-Held.input c.in-Held.mode (rw c.in-Held.is at can)
    (c.advance_sink.ensures.gone (λ stays. let again = rw c.in-Held.is at (standing stays) in (again.0, ready ∙ again.1))
    ∙ ap cell.Held (ap₂ (next_held c.in-Held.mode) offer ready))

pub returns-in-Held-clause-told : goal.returns-in-Held-clause-told
returns-in-Held-clause-told g c = λ m is standing none.
    let ready = c.wire_at-wire-in-Held.ensures.ready in
    let told = c.advance_sink.ensures.told (λ stays. let again = rw c.in-Held.is at (standing stays) in (again.0, ready ∙ again.1)) none in
    sink_idle m _ _ c.in-Held.input c.in-Held.mode (rw c.in-Held.is at is) (told.0, sym ready ∙ told.1)

pub returns-in-Pref-clause-gone : goal.returns-in-Pref-clause-gone
returns-in-Pref-clause-gone g c = λ m can standing.
    pref_went m _ _ _ c.in-Pref.a c.in-Pref.b c.in-Pref.out (rw c.in-Pref.is at can)
    (c.put_preferred.ensures ∙ ap cell.Pref (c.preferred_after.ensures ∙ rw (c.is_ready_at.ensures, c.granted-grant.ensures, c.offer_at.ensures, c.offer_at-in-Pref.ensures, c.preferred-side.ensures) refl))

pub returns-in-Nothing-clause-gone : goal.returns-in-Nothing-clause-gone
returns-in-Nothing-clause-gone g c = λ m can standing. nothing_went m _ _ _ (rw c.in-Nothing.is at can) c.put_nothing.ensures
