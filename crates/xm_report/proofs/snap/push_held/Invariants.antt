use Rattle.std.proofs.Common.{◌≡◌, ◌++◌, take}
use Rattle.std.specs.List.{flat_map}
use Rattle.xm_model.specs.Naming.{naming_of}
use Rattle.xm_model.specs.Views.{content_at}
use Rattle.xm_report.specs.Snap.{held_text}
use Rattle.xm_report.proofs.snap.push_held.Given as goal

abbrev pub invariant-loop-k : goal.invariant-loop-k
invariant-loop-k l = l.text.items ≡ l.fn.text.items ++ flat_map (held_text (naming_of l.it.names.now) (content_at l.cells)) (take l.k l.it.pairs.now)
