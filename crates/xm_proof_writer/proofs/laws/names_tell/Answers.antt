use Rattle.std.proofs.Common.{sym, subst}
use Rattle.xm_model.specs.Naming.{IsNamed}
use Rattle.xm_model.specs.Net.{Network}
use Rattle.xm_proof_writer.proofs.Names.{tell}
use Rattle.xm_proof_writer.proofs.laws.names_tell.Goals as goal

pub returns : goal.returns
returns c = λ doc it valid same. tell it doc.names (c.names_found.ensures doc valid) (subst (λ (net : Network). IsNamed net doc.names) (sym same) valid.named)
