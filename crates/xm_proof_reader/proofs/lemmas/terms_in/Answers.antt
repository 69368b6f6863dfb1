use Rattle.xm_proof_reader.specs.Views.{known_of}
use Rattle.xm_proof_reader.proofs.Rows.{rows_read}
use Rattle.xm_proof_reader.proofs.lemmas.terms_in.Goals as goal

pub returns-clause-rows : goal.returns-clause-rows
returns-clause-rows c = rows_read (known_of c.args.known.now) _ _ c.entries_in.result c.entries_in.ensures
