use Rattle.std.proofs.Common.{◌≡◌, map, take}
use Rattle.serde_json.specs.View.{view}
use Rattle.xm_proof_reader.specs.Views.{known_of}
use Rattle.xm_proof_writer.specs.Writing.{term_data}
use Rattle.xm_proof_writer.proofs.lemmas.terms_value.Given as goal

abbrev pub invariant-loop-entry : goal.invariant-loop-entry
invariant-loop-entry l = map view l.values.items ≡ map (term_data (known_of l.known)) (take l.entry-index l.entries)
