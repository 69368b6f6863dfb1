use Rattle.std.proofs.Common.{◌≡◌, ◌++◌}
use Rattle.xm_colours.specs.Family.{colours_at}
use Rattle.xm_model.specs.Naming.{naming_of}
use Rattle.xm_report.specs.Check.{channel_lines}
use Rattle.xm_report.proofs.check.push_channels.Given as goal

abbrev pub invariant-loop-c : goal.invariant-loop-c
invariant-loop-c l = l.text.items ≡ l.fn.text.items ++ channel_lines (naming_of l.names) (colours_at l.colours) l.c
