use Rattle.std.proofs.Common.{◌<◌, take, All}
use Rattle.xm_check.proofs.lemmas.are_parts.Given as goal

abbrev pub invariant-loop-part : goal.invariant-loop-part
invariant-loop-part l = All (λ p. p.flow < l.rows) (take l.part-index l.parts)
