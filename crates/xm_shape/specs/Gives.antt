-- What a step of reading a document says where it may also find no memory.
use Rattle.std.specs.Prelude.{Option, Some, None, Result}
use Rattle.xm_json.specs.Gives.{FailsBy, GivesBy}
use Rattle.xm_json.specs.declared.fault.PathFault.{PathFault}
use Rattle.xm_json.specs.declared.fault.PathFault.TheVariants as path_faults
use Rattle.xm_model.specs.Naming.{naming_of}
use Rattle.xm_shape.specs.Fault.{Fault, bad_name, limit, not_json, same_name, shape, unknown_colour, unknown_kind, wiring}
use Rattle.xm_shape.specs.declared.fault.DocFault.{DocFault}
use Rattle.xm_shape.specs.declared.fault.DocFault.TheVariants as faults

-- the fault that an error shows; want of memory is none
abbrev pub fault_of : DocFault → Option Fault
fault_of faults.OutOfMemory = None
fault_of faults.NotJson = Some not_json
fault_of (faults.Shape path) = Some (shape path.items)
fault_of (faults.UnknownKind path) = Some (unknown_kind path.items)
fault_of (faults.UnknownColour path) = Some (unknown_colour path.items)
fault_of (faults.BadName path) = Some (bad_name path.items)
fault_of (faults.SameName path) = Some (same_name path.items)
fault_of (faults.Limit which count) = Some (limit which count)
fault_of (faults.Wiring fault names) = Some (wiring fault (naming_of names))

-- the error is the fault that reading meets first, or want of memory
abbrev pub Fails : {Y : Type 0} → DocFault → Result Y Fault → Type 0
Fails fault step = FailsBy fault_of fault step

-- what a function returned, seen by view, is what the step gives
abbrev pub Gives : {X Y : Type 0} → (X → Y) → Result X DocFault → Result Y Fault → Type 0
Gives view result step = GivesBy fault_of view result step

-- a value at a path that has not its form is a fault of the document's shape
abbrev pub shape_fault : PathFault → DocFault
shape_fault (path_faults.Broken path) = faults.Shape path
shape_fault path_faults.OutOfMemory = faults.OutOfMemory
