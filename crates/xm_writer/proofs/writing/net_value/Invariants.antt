use Rattle.std.proofs.Common.{◌≡◌, ◌++◌, drop, map}
use Rattle.serde_json.specs.View.{view}
use Rattle.xm_model.specs.Component.{component_of}
use Rattle.xm_model.specs.Naming.{naming_of}
use Rattle.xm_writer.specs.Writing.{prims_data}
use Rattle.xm_writer.proofs.writing.net_value.Given as goal

abbrev pub invariant-loop-p : goal.invariant-loop-p
invariant-loop-p l = map view l.values.items ++ prims_data (naming_of l.names) l.p (map component_of (drop l.p l.prims)) ≡ prims_data (naming_of l.names) 0 (map component_of l.prims)
