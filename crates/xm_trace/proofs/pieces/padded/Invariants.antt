use Rattle.std.proofs.Common.{◌≡◌, length, take}
use Rattle.xm_trace.proofs.pieces.padded.Given as goal

abbrev pub invariant-loop-i : goal.invariant-loop-i
invariant-loop-i l = (take l.i l.bytes ≡ take l.i l.text) × (length l.bytes ≡ 16)
