use Rattle.std.proofs.Common.{◌≡◌, map, take}
use Rattle.serde_json.specs.View.{view}
use Rattle.xm_proof.specs.Argument.{refutation_of}
use Rattle.xm_proof_reader.specs.Views.{known_of}
use Rattle.xm_proof_writer.specs.Writing.{goal_data}
use Rattle.xm_proof_writer.proofs.goals.goals_value.Given as goal

abbrev pub invariant-loop-goal : goal.invariant-loop-goal
invariant-loop-goal l = map view l.values.items ≡ map (goal_data (known_of l.known)) (map refutation_of (take l.goal-index l.goals))
