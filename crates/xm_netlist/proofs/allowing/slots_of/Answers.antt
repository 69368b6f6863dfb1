use Rattle.std.proofs.Common.{map}
use Rattle.xm_shape.specs.Views.{allow_entry_of}
use Rattle.xm_netlist.proofs.Slots.{slots_count, slots_made}
use Rattle.xm_netlist.proofs.allowing.slots_of.Goals as goal

pub returns-clause-len : goal.returns-clause-len
returns-clause-len c =
    slots_count c.in_ok-slots.slots.items c.as_mut_slice.result.now c.set_slots.new.slots c.len.result _ c.set_slots.auto.slots c.as_mut_slice.ensures.value c.in_ok-slots.ensures c.len.ensures.len

pub returns-clause-slots : goal.returns-clause-slots
returns-clause-slots c =
    slots_made c.args.numbers.now c.in_ok-slots.slots.items c.as_mut_slice.result.now c.set_slots.new.slots c.len.result (map allow_entry_of c.args.entries.now) c.set_slots.auto.slots c.as_mut_slice.ensures.value c.in_ok-slots.ensures
    c.len.ensures.len c.set_slots.ensures
