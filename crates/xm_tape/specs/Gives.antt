-- What a step of reading a tape says where it may also find no memory.
use Rattle.std.specs.Prelude.{Option, Some, None, Result}
use Rattle.xm_json.specs.Gives.{FailsBy, GivesBy}
use Rattle.xm_json.specs.declared.fault.PathFault.{PathFault}
use Rattle.xm_json.specs.declared.fault.PathFault.TheVariants as path_faults
use Rattle.xm_tape.specs.Fault.{Fault, bad_mark, row_length, tape_limit, tape_shape}
use Rattle.xm_tape.specs.declared.fault.TapeFault.{TapeFault}
use Rattle.xm_tape.specs.declared.fault.TapeFault.TheVariants as faults

-- the fault that an error shows; want of memory is none
abbrev pub fault_of : TapeFault → Option Fault
fault_of faults.OutOfMemory = None
fault_of (faults.TapeShape path) = Some (tape_shape path.items)
fault_of (faults.TapeLimit count) = Some (tape_limit count)
fault_of (faults.RowLength row bytes) = Some (row_length row bytes)
fault_of (faults.BadMark row oracle) = Some (bad_mark row oracle)

-- the error is the fault that reading meets first, or want of memory
abbrev pub Fails : {Y : Type 0} → TapeFault → Result Y Fault → Type 0
Fails fault step = FailsBy fault_of fault step

-- what a function returned, seen by view, is what the step gives
abbrev pub Gives : {X Y : Type 0} → (X → Y) → Result X TapeFault → Result Y Fault → Type 0
Gives view result step = GivesBy fault_of view result step

-- a value at a path that has not its form is a fault of the tape's shape
abbrev pub shape_fault : PathFault → TapeFault
shape_fault (path_faults.Broken path) = faults.TapeShape path
shape_fault path_faults.OutOfMemory = faults.OutOfMemory
