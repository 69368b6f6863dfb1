use Rattle.xm_commands.proofs.Proving as law
use Rattle.xm_commands.proofs.laws.proved_texts_verify.Goals as goal

pub returns : goal.returns
returns c = law.proved_verify
