use Rattle.std.proofs.Common.{◌≡◌, take}
use Rattle.xm_model.specs.Naming.{texts_of}
use Rattle.xm_trace.specs.Inner.Pieces.{AreWithin, pieces_text}
use Rattle.xm_trace.proofs.pieces.pieces_of.Given as goal

abbrev pub invariant-loop-text : goal.invariant-loop-text
invariant-loop-text l = (pieces_text l.pieces ≡ texts_of (take l.text-index l.texts)) × AreWithin l.pieces
