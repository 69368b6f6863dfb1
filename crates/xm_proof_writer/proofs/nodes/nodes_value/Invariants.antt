use Rattle.std.proofs.Common.{◌≡◌, map, take}
use Rattle.serde_json.specs.View.{view}
use Rattle.xm_proof.specs.Argument.{step_of}
use Rattle.xm_proof_reader.specs.Views.{known_of}
use Rattle.xm_proof_writer.specs.Writing.{step_data}
use Rattle.xm_proof_writer.proofs.nodes.nodes_value.Given as goal

abbrev pub invariant-loop-node : goal.invariant-loop-node
invariant-loop-node l = map view l.values.items ≡ map (step_data (known_of l.known)) (map step_of (take l.node-index l.nodes))
