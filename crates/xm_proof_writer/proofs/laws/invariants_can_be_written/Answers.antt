use Rattle.xm_proof_writer.proofs.Ordered.{can_be_written}
use Rattle.xm_proof_writer.proofs.laws.invariants_can_be_written.Goals as goal

pub returns : goal.returns
returns c = can_be_written
