use Rattle.std.proofs.Common.{◌≡◌, map, take}
use Rattle.serde_json.specs.View.{view}
use Rattle.xm_flow.specs.ValidLemma.{lemma_of}
use Rattle.xm_proof_reader.specs.Views.{known_of}
use Rattle.xm_proof_writer.specs.Writing.{lemma_data}
use Rattle.xm_proof_writer.proofs.lemmas.lemmas_value.Given as goal

abbrev pub invariant-loop-lemma : goal.invariant-loop-lemma
invariant-loop-lemma l = map view l.values.items ≡ map (lemma_data (known_of l.known)) (map lemma_of (take l.lemma-index l.lemmas))
