use Rattle.std.proofs.Common.{◌≡◌, ◌++◌, take}
use Rattle.xm_rows.proofs.columns.append.Given as goal

abbrev pub invariant-loop-p : goal.invariant-loop-p
invariant-loop-p l = l.list.items ≡ l.initial.list.items ++ take l.p-index l.places
