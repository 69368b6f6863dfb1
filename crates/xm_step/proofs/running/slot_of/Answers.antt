use Rattle.xm_step.proofs.Keeping.{enough, kept_from}
use Rattle.xm_model.specs.Component.{component_of}
use Rattle.xm_step.proofs.running.slot_of.Goals as goal

pub from_cell-requires : goal.from_cell-requires
from_cell-requires c = rw c.places_for.ensures (enough (component_of c.args.prim.now) c.args.cell.now c.requires)

pub returns : goal.returns
returns c = kept_from c.from_cell.result (component_of c.args.prim.now) c.args.cell.now _ c.places_for.ensures c.from_cell.ensures.content c.from_cell.ensures.room c.requires
