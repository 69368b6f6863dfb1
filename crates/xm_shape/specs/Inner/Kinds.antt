-- Inner: the kinds of the code, as those of the shape.
use Rattle.xm_shape.specs.Shape as shape
use Rattle.xm_shape.specs.declared.kinds.Kind.{Kind}
use Rattle.xm_shape.specs.declared.kinds.Kind.TheVariants as kinds

abbrev pub plain_kind_of : Kind → shape.Kind
plain_kind_of kinds.Source = shape.is_source
plain_kind_of kinds.Sink = shape.is_sink
plain_kind_of kinds.Queue = shape.is_queue
plain_kind_of kinds.Function = shape.is_function
plain_kind_of kinds.Fork = shape.is_fork
plain_kind_of kinds.Join = shape.is_join
plain_kind_of kinds.Switch = shape.is_switch
plain_kind_of kinds.Merge = shape.is_merge
