-- The output of a queue.
use Rattle.std.specs.Prelude.{ℕ, Option, Some, None}
use Rattle.xm_model.specs.Component.{Component, Queue}

abbrev pub output_of : Option Component → Option ℕ
output_of (Some (Queue input out capacity initial)) = Some out
output_of _ = None
