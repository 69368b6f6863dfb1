use Rattle.std.proofs.Common.{sym, ◌∙◌}
use Rattle.xm_proof_reader.proofs.Counting.{ended}
use Rattle.xm_proof_reader.proofs.goals.is_one_tree.Goals as goal

pub returns-then-left-eq0 : goal.returns-then-left-eq0
returns-then-left-eq0 c = ended c.args.nodes.now c.loop-i.i c.loop-i.left c.loop-i-test.true c.if-left-eq0.true ∙ sym c.loop-i.invariant.same
