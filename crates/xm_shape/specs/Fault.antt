-- What is wrong with a document, and where.
use Rattle.std.specs.Prelude.{ℕ}
use Rattle.xm_json.specs.Path.{Path}
use Rattle.xm_model.specs.Naming.{Naming}
use Rattle.xm_model.specs.declared.fault.WiringFault.{WiringFault}
use Rattle.xm_shape.specs.declared.fault.Which.{Which}

-- the path of the root is -
pub data Fault : Type 0 where
  not_json : Fault
  shape : (path : Path) → Fault
  unknown_kind : (path : Path) → Fault
  unknown_colour : (path : Path) → Fault
  bad_name : (path : Path) → Fault
  same_name : (path : Path) → Fault
  limit : (which : Which) (count : ℕ) → Fault
  wiring : (fault : WiringFault) (names : Naming) → Fault
