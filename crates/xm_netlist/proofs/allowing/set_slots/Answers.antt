use Rattle.std.proofs.Common.{◌∙◌, ap, refl}
use Rattle.xm_shape.specs.Views.{names_of}
use Rattle.xm_shape.specs.Names.{Name, number_in}
use Rattle.xm_netlist.proofs.Slots.{slot_set}
use Rattle.xm_netlist.proofs.allowing.set_slots.Goals as goal

pub loop-entry-preserved : goal.loop-entry-preserved
loop-entry-preserved c =
    slot_set c.args.numbers.now c.loop-entry.slots c.set_at.new.items c.args.entries.now c.loop-entry.entry-index c.entry-item.result _ c.number-place.result _ c.loop-entry-test.true c.entry-item.is refl
    (c.number-place.ensures.number ∙ ap (λ (n : Name). number_in (names_of c.args.numbers.now.channels.keys) n) c.as_str.ensures.value) c.set_at.ensures c.loop-entry.invariant
