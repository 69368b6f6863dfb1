use Rattle.std.proofs.Common.{◌≡◌, ◌++◌}
use Rattle.std.specs.List.{flat_map}
use Rattle.xm_colours.specs.Family.{colours_at}
use Rattle.xm_model.specs.Naming.{naming_of}
use Rattle.xm_report.proofs.Rising.{up_to}
use Rattle.xm_report.specs.Check.{colour_text}
use Rattle.xm_report.proofs.check.push_channel.Given as goal

abbrev pub invariant-loop-d : goal.invariant-loop-d
invariant-loop-d l = l.text.items ≡ l.initial.text.items ++ flat_map (colour_text (naming_of l.names)) (up_to l.d (colours_at l.colours l.c))
