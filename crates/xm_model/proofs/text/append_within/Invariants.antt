use Rattle.std.proofs.Common.{◌≡◌, ◌++◌, take}
use Rattle.std.specs.Vec.{vec_capacity}
use Rattle.xm_model.proofs.text.append_within.Given as goal

abbrev pub invariant-loop-byte : goal.invariant-loop-byte
invariant-loop-byte l = record {
  items : l.held.items ≡ l.fn.held.items ++ take l.byte-index l.bytes;
  room : vec_capacity l.held ≡ vec_capacity l.fn.held;
}
