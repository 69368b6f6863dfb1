use Rattle.std.proofs.Common.{◌≡◌, drop, map}
use Rattle.std.specs.List.{flat_map}
use Rattle.xm_shape.specs.NamedNet.{channel_names, channels_of}
use Rattle.xm_shape.specs.Views.{names_of, named_primitive_of}
use Rattle.xm_shape.specs.Names.{first_uses}
use Rattle.xm_shape.proofs.channels.channel_set.Given as goal

abbrev pub invariant-loop-primitive : goal.invariant-loop-primitive
invariant-loop-primitive l =
    first_uses (names_of l.set.keys) (flat_map channels_of (map named_primitive_of (drop l.primitive-index l.primitives))) ≡ channel_names (map named_primitive_of l.primitives)
