use Rattle.std.proofs.Common.{refl}
use Rattle.xm_step.proofs.Listing.{busy_told, idle_listed, idle_told, on_ok, other_listed, queue_listed, queue_told}
use Rattle.xm_step.specs.declared.kinds.Holder.{Holder}
use Rattle.xm_step.specs.declared.kinds.Holding.TheVariants as holding
use Rattle.xm_step.specs.declared.kinds.QueuePlace.{QueuePlace}
use Rattle.xm_step.proofs.kinds.push_kind.Goals as goal

pub returns-in-Nothing : goal.returns-in-Nothing
returns-in-Nothing c = λ ms there before. idle_listed ms c.args.p c.args.kinds.now.queues.items c.args.kinds.now.others.items (idle_told ms c.args.p _ c.holding_of.result there c.holding_of.ensures c.in-Nothing.is) before

pub returns-in-Packets : goal.returns-in-Packets
returns-in-Packets c = λ ms there before.
    let it : QueuePlace = record { prim = c.args.p; input = c.in-Packets.input; out = c.in-Packets.out } in
    on_ok c.push.result _ _ (λ same. rw same (queue_listed ms c.args.p c.args.kinds.now.queues.items c.args.kinds.now.others.items it refl
    (queue_told ms c.args.p _ c.holding_of.result c.in-Packets.input c.in-Packets.out there c.holding_of.ensures c.in-Packets.is) before)) c.push.ensures.ok

pub returns-in-Pending : goal.returns-in-Pending
returns-in-Pending c = λ ms there before.
    let it : Holder = record { prim = c.args.p; holds = holding.Pending c.in-Pending.out c.in-Pending.mode } in
    on_ok c.push-in-Pending.result _ _ (λ same. rw same (other_listed ms c.args.p c.args.kinds.now.queues.items c.args.kinds.now.others.items it refl
    (record { prim = _; has = there; holds = rw c.in-Pending.is at c.holding_of.ensures; busy = busy_told _ c.holding_of.result c.holding_of.ensures (λ none. let is = c.in-Pending.is in absurd cc) }) before)) c.push-in-Pending.ensures.ok

pub returns-in-Held : goal.returns-in-Held
returns-in-Held c = λ ms there before.
    let it : Holder = record { prim = c.args.p; holds = holding.Held c.in-Held.input c.in-Held.mode } in
    on_ok c.push-in-Held.result _ _ (λ same. rw same (other_listed ms c.args.p c.args.kinds.now.queues.items c.args.kinds.now.others.items it refl
    (record { prim = _; has = there; holds = rw c.in-Held.is at c.holding_of.ensures; busy = busy_told _ c.holding_of.result c.holding_of.ensures (λ none. let is = c.in-Held.is in absurd cc) }) before)) c.push-in-Held.ensures.ok

pub returns-in-Pref : goal.returns-in-Pref
returns-in-Pref c = λ ms there before.
    let it : Holder = record { prim = c.args.p; holds = holding.Pref c.in-Pref.a c.in-Pref.b c.in-Pref.out } in
    on_ok c.push-in-Pref.result _ _ (λ same. rw same (other_listed ms c.args.p c.args.kinds.now.queues.items c.args.kinds.now.others.items it refl
    (record { prim = _; has = there; holds = rw c.in-Pref.is at c.holding_of.ensures; busy = busy_told _ c.holding_of.result c.holding_of.ensures (λ none. let is = c.in-Pref.is in absurd cc) }) before)) c.push-in-Pref.ensures.ok
