use Rattle.xm_proof_reader.proofs.Whole.{proof_read}
use Rattle.xm_proof_reader.proofs.read.read_proof.Goals as goal

pub returns-clause-formed : goal.returns-clause-formed
returns-clause-formed c = proof_read _ _ _ c.in_ok-proof.ensures
