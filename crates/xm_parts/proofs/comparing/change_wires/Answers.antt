use Rattle.std.proofs.Common.{◌≡◌, ◌≢◌, ◌∷◌, [], length-append, get_or, false, arith, ap, sym, ◌∙◌, slice_get, Some, None, refl}
use Rattle.xm_model.specs.declared.state.Wire.{Wire}
use Rattle.xm_parts.proofs.Differing.{wire_differs, wire_here, wires_push, wires_skip}
use Rattle.xm_parts.specs.declared.changes.WireChange.{WireChange}
use Rattle.xm_parts.proofs.comparing.change_wires.Goals as goal
use Rattle.xm_parts.proofs.comparing.change_wires.Goals.{then-not-is_same_wire, else-not-is_same_wire}

abbrev no_wire : Wire
no_wire = record { offer = None; ready = false }

pub loop-k-preserved : goal.loop-k-preserved
loop-k-preserved c =
    let old = c.args.old.now in let new = c.args.new.now in let k = c.loop-k.k in
    let was = wire_here old k no_wire c.loop-k-test.true in
    let is = wire_here new k no_wire (let whole = c.requires.whole in let h = c.loop-k-test.true in omega arith) in
    let few = c.loop-k.invariant.few in
    elim c.if-not-is_same_wire.branch [
      | then-not-is_same_wire w ↦
          (let added : WireChange = record { place = k; wire = get_or new k no_wire } in
          let differ : get_or old k no_wire ≢ get_or new k no_wire = (λ same. let yes = c.is_same_wire.ensures.no same in let not = w.if-not-is_same_wire.true in cc) in
          rw w.out-is (record {
            wires = rw w.push_within.ensures.items (wires_push old new k c.loop-k.out.items c.loop-k.invariant.wires added refl
                (record { is = is; was = wire_differs (get_or new k no_wire) (get_or old k no_wire) (Some (get_or new k no_wire)) (slice_get old k) refl was (λ e. differ (sym e)) }));
            few = rw w.push_within.ensures.items (let count = length-append c.loop-k.out.items (added ∷ []) in omega arith);
            room = w.push_within.ensures.room ∙ c.loop-k.invariant.room;
          }))
      | else-not-is_same_wire w ↦
          (let same : get_or old k no_wire ≡ get_or new k no_wire = c.is_same_wire.ensures.yes w.if-not-is_same_wire.false in
          rw w.out-is (record {
            wires = wires_skip old new k c.loop-k.out.items c.loop-k.invariant.wires (is ∙ ap Some (sym same) ∙ sym was);
            few = omega arith;
            room = c.loop-k.invariant.room;
          }))
    ]
