use Rattle.std.proofs.Common.{◌≡◌, take}
use Rattle.xm_model.specs.Naming.{texts_of}
use Rattle.xm_trace.specs.Inner.Pieces.{AreWithin, pairs_text, pieces_text}
use Rattle.xm_trace.proofs.pieces.pairs_of.Given as goal

abbrev pub invariant-loop-first : goal.invariant-loop-first
invariant-loop-first l = (pieces_text l.pieces ≡ pairs_text (texts_of l.others) (texts_of (take l.first-index l.firsts))) × AreWithin l.pieces
