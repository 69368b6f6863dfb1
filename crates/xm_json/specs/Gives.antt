-- What a step of reading says where it may also find no memory.
use Rattle.std.specs.Prelude.{◌≡◌, Option, Some, None, IfSome, Result, Ok, Err}
use Rattle.xm_json.specs.Path.{Path}
use Rattle.xm_json.specs.declared.fault.PathFault.{PathFault}
use Rattle.xm_json.specs.declared.fault.PathFault.TheVariants as faults

-- ---- for errors of any type, of which `shown` tells the fault that they show

-- The error shows the fault that reading meets first. Want of memory shows none, and may stand in place of any answer.
abbrev pub FailsBy : {E F Y : Type 0} → (E → Option F) → E → Result Y F → Type 0
FailsBy shown e step = IfSome (shown e) (λ fault. step ≡ Err fault)

-- what a function returned, seen by view, is what the step gives
abbrev pub GivesBy : {E F X Y : Type 0} → (E → Option F) → (X → Y) → Result X E → Result Y F → Type 0
GivesBy shown view (Ok x) step = step ≡ Ok (view x)
GivesBy shown view (Err e) step = FailsBy shown e step

-- the step, with its faults told in other words
abbrev pub told_as : {E F Y : Type 0} → (E → F) → Result Y E → Result Y F
told_as tell (Ok y) = Ok y
told_as tell (Err e) = Err (tell e)

-- ---- for faults at paths

abbrev pub path_of : PathFault → Option Path
path_of (faults.Broken path) = Some path.items
path_of faults.OutOfMemory = None

abbrev pub Fails : {Y : Type 0} → PathFault → Result Y Path → Type 0
Fails fault step = FailsBy path_of fault step

abbrev pub Gives : {X Y : Type 0} → (X → Y) → Result X PathFault → Result Y Path → Type 0
Gives view result step = GivesBy path_of view result step
