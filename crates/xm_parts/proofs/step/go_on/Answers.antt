use Rattle.std.proofs.Common.{◌≡◌, false}
use Rattle.xm_model.specs.Component.{component_of}
use Rattle.xm_parts.proofs.Going.{gone_on, no_queue}
use Rattle.xm_parts.specs.Partition.{is_queue}
use Rattle.xm_parts.proofs.step.go_on.Goals as goal

pub returns-in_default : goal.returns-in_default
returns-in_default c =
    let plain : is_queue (component_of c.args.prim.now) ≡ false = no_queue c.args.prim.now c.in_default.not-Queue in
    gone_on (component_of c.args.prim.now) c.args.from.now c.take_side.new.to c.advance_cell.new.cell c.args.wires.now c.args.far.now plain (c.requires.own plain) (c.take_side.ensures plain) c.advance_cell.ensures
