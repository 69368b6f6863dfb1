-- What reading a proof says where it may also find no memory.
use Rattle.std.specs.Prelude.{Option, Some, None, Result}
use Rattle.xm_json.specs.Gives.{GivesBy}
use Rattle.xm_json.specs.Path.{Path}
use Rattle.xm_json.specs.declared.fault.PathFault.{PathFault}
use Rattle.xm_json.specs.declared.fault.PathFault.TheVariants as path_faults
use Rattle.xm_proof_reader.specs.declared.fault.ProofFault.{ProofFault}
use Rattle.xm_proof_reader.specs.declared.fault.ProofFault.TheVariants as faults

-- the path that an error shows; want of memory shows none
abbrev pub path_of : ProofFault → Option Path
path_of (faults.Form path) = Some path.items
path_of faults.OutOfMemory = None

-- a value at a path that has not its form is a break of the proof's form
abbrev pub form_fault : PathFault → ProofFault
form_fault (path_faults.Broken path) = faults.Form path
form_fault path_faults.OutOfMemory = faults.OutOfMemory

-- what a function returned, seen by view, is what the step gives
abbrev pub Gives : {X Y : Type 0} → (X → Y) → Result X ProofFault → Result Y Path → Type 0
Gives view result step = GivesBy path_of view result step
