-- The text of a verdict on a proof: `yes`, or `no` with the place of its first break and the reason.
use Rattle.std.specs.Prelude.{ℕ, List, ◌++◌, codes, decimal}
use Rattle.xm_model.specs.TextLines.{line}
use Rattle.xm_proof.specs.declared.verdict.ProofPath.{ProofPath}
use Rattle.xm_proof.specs.declared.verdict.ProofPath.TheVariants as place
use Rattle.xm_proof.specs.declared.verdict.Reason.{Reason}
use Rattle.xm_proof.specs.declared.verdict.Reason.TheVariants as reason
use Rattle.xm_proof.specs.declared.verdict.Verdict.{Verdict}
use Rattle.xm_proof.specs.declared.verdict.Verdict.TheVariants as verdict

abbrev pub place_text : ProofPath → List ℕ
place_text (place.Lemma k) = codes "lemmas." ++ decimal k
place_text place.Goals = codes "goals"
place_text (place.Goal k) = codes "goals." ++ decimal k
place_text (place.Node k i) = codes "goals." ++ decimal k ++ codes "." ++ decimal i

abbrev pub reason_text : Reason → List ℕ
reason_text reason.Scale = codes "scale"
reason_text reason.Lemma = codes "lemma"
reason_text reason.Overflow = codes "overflow"
reason_text reason.Goal = codes "goal"
reason_text reason.Missing = codes "missing"
reason_text reason.Absent = codes "absent"
reason_text reason.Rule = codes "rule"
reason_text reason.Alternatives = codes "alternatives"
reason_text reason.Clash = codes "clash"
reason_text reason.Sign = codes "sign"
reason_text reason.Nonzero = codes "nonzero"
reason_text reason.Weak = codes "weak"
reason_text reason.Cite = codes "cite"
reason_text reason.Open = codes "open"

abbrev pub verdict_text : Verdict → List ℕ
verdict_text verdict.Yes = codes "yes\n"
verdict_text (verdict.No at why) = line (codes "no " ++ place_text at ++ codes " " ++ reason_text why)
