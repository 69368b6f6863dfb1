use Rattle.std.proofs.Common.{◌∙◌, length, string_bytes, arith, ap}
use Rattle.std.proofs.lemmas.List.{length-map}
use Rattle.xm_shape.specs.Views.{names_of}
use Rattle.xm_netlist.specs.Lemmas.Lengths.{length-marks_of}
use Rattle.xm_netlist.proofs.allowing.listed_colours.Goals as goal

pub marked_places-requires : goal.marked_places-requires
marked_places-requires c =
    let marks = ap length c.as_slice.ensures ∙ ap length c.in_ok-marks.ensures ∙ length-marks_of (names_of c.args.known.now.keys) (names_of c.args.names.now) in
    omega (arith, marks, length-map c.args.known.now.keys string_bytes)
