use Rattle.std.proofs.Common.{◌≡◌, drop}
use Rattle.xm_shape.specs.Views.{names_of, table_of}
use Rattle.xm_netlist.specs.Inner.Placed.{with_images}
use Rattle.xm_netlist.proofs.numbering.set_images.Given as goal

abbrev pub invariant-loop-image : goal.invariant-loop-image
invariant-loop-image l =
    with_images (names_of l.known.keys) (table_of (drop l.image-index l.table)) l.images ≡ with_images (names_of l.known.keys) (table_of l.table) l.initial.images
