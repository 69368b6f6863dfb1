use Rattle.std.proofs.Common.{◌≡◌, ◌++◌, drop, map}
use Rattle.xm_model.specs.Naming.{allowed_of}
use Rattle.xm_netlist.specs.Numbered.{entries_from}
use Rattle.xm_netlist.specs.Inner.Placed.{plain_slots_of}
use Rattle.xm_netlist.proofs.allowing.allow_in.Given as goal

abbrev pub invariant-loop-channel : goal.invariant-loop-channel
invariant-loop-channel l =
    map allowed_of l.allow.items ++ entries_from l.channel (plain_slots_of l.numbers (drop l.channel l.slots)) ≡ entries_from 0 (plain_slots_of l.numbers l.slots)
