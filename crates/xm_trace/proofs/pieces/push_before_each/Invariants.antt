use Rattle.std.proofs.Common.{◌≡◌, ◌++◌, take}
use Rattle.xm_model.specs.Naming.{texts_of}
use Rattle.xm_trace.specs.Inner.Pieces.{AreWithin, before_each, pieces_text}
use Rattle.xm_trace.proofs.pieces.push_before_each.Given as goal

abbrev pub invariant-loop-other : goal.invariant-loop-other
invariant-loop-other l = (pieces_text l.pieces ≡ pieces_text l.initial.pieces ++ before_each (texts_of (take l.other-index l.others)) l.first) × AreWithin l.pieces
