use Rattle.std.proofs.Common.{◌≡◌, drop, map}
use Rattle.xm_lits.specs.Inference.{inference_of}
use Rattle.xm_proof.specs.Tests as tests
use Rattle.xm_check.proofs.steps.place_of.Given as goal

abbrev pub invariant-loop-i : goal.invariant-loop-i
invariant-loop-i l = tests.find_rule (map inference_of l.rules) l.name l.via ≡ tests.find_rule (map inference_of (drop l.i l.rules)) l.name l.via
