use Rattle.std.proofs.Common.{◌≡◌, drop, map}
use Rattle.xm_shape.specs.Views.{allow_entry_of}
use Rattle.xm_netlist.specs.Inner.Placed.{plain_slots_of, slots_with}
use Rattle.xm_netlist.proofs.allowing.set_slots.Given as goal

abbrev pub invariant-loop-entry : goal.invariant-loop-entry
invariant-loop-entry l =
    slots_with l.numbers (map allow_entry_of (drop l.entry-index l.entries)) (plain_slots_of l.numbers l.slots) ≡ slots_with l.numbers (map allow_entry_of l.entries) (plain_slots_of l.numbers l.initial.slots)
