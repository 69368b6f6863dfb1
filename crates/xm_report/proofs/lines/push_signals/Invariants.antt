use Rattle.std.proofs.Common.{◌≡◌, ◌++◌, take}
use Rattle.xm_model.specs.Naming.{naming_of}
use Rattle.xm_report.specs.Lines.{signals_text}
use Rattle.xm_report.proofs.lines.push_signals.Given as goal

abbrev pub invariant-loop-k : goal.invariant-loop-k
invariant-loop-k l = l.text.items ≡ l.fn.text.items ++ signals_text (naming_of l.names) (take l.k l.signals)
