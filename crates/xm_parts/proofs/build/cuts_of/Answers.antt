use Rattle.std.proofs.Common.{◌≡◌, ◌<◌, Some, None, sym, ◌∙◌, arith}
use Rattle.xm_parts.proofs.Building.{cuts_on, cuts_push, cuts_skip, place_read}
use Rattle.xm_parts.proofs.FarMoving.{far_port}
use Rattle.xm_parts.proofs.Parting.{port_below}
use Rattle.xm_model.specs.Component.{component_of}
use Rattle.xm_parts.specs.Kept.{label_at}
use Rattle.xm_parts.specs.Partition.{far_at, far_channel}
use Rattle.xm_parts.proofs.build.cuts_of.Goals as goal
use Rattle.xm_parts.proofs.build.cuts_of.Goals.{in-Some+in_ok-push, in_default}

pub loop-i-preserved : goal.loop-i-preserved
loop-i-preserved c =
    let net = c.args.net.now in let label = label_at c.args.labels.now in
    elim c.match-far_of.branch [
      | in-Some+in_ok-push w ↦
          (let far : far_channel label c.args.p (Some (component_of c.prim.result.now)) ≡ Some w.in-Some.c = sym c.far_of.ensures ∙ w.in-Some.is in
          let at : far_at net label c.args.p c.loop-i.i ≡ Some w.in-Some.c = rw c.prim.ensures far in
          let below : w.in-Some.c < net.channels = port_below net c.prims.ensures.net c.loop-i.i (component_of c.prim.result.now) w.in-Some.c c.prim.ensures (far_port label c.args.p (component_of c.prim.result.now) w.in-Some.c far) in
          let whole = c.requires.whole in
          let wire = w.read.ensures ∙ place_read c.args.labels.now c.args.places.now c.requires.places w.in-Some.c (omega arith) in
          rw w.made-is (rw w.in_ok-push.ensures.ok (cuts_on net label c.args.p c.loop-i.i _ (cuts_push net label c.args.p c.loop-i.i c.loop-i.made.items _ w.in-Some.c at w.label.ensures wire c.loop-i.invariant))))
      | in_default w ↦
          (let far : far_channel label c.args.p (Some (component_of c.prim.result.now)) ≡ None = sym c.far_of.ensures ∙ w.in_default.is in
          let at : far_at net label c.args.p c.loop-i.i ≡ None = rw c.prim.ensures far in
          rw w.made-is (cuts_on net label c.args.p c.loop-i.i _ (cuts_skip net label c.args.p c.loop-i.i c.loop-i.made.items at c.loop-i.invariant)))
    ]
