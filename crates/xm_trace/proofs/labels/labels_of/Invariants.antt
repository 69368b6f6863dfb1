use Rattle.std.proofs.Common.{◌≡◌, map, take}
use Rattle.xm_model.specs.Naming.{texts_of}
use Rattle.xm_trace.specs.Text.{move_label}
use Rattle.xm_trace.proofs.labels.labels_of.Given as goal

abbrev pub invariant-loop-channel : goal.invariant-loop-channel
invariant-loop-channel l = texts_of l.labels.items ≡ map move_label (texts_of (take l.channel-index l.channels))
