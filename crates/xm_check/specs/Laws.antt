-- What checking a proof is worth.
use Rattle.std.specs.Prelude.{◌≡◌, ℕ, ◌<◌, List}
use Rattle.xm_check.specs.Break.{IsVerdict}
use Rattle.xm_design.specs.Designed.{Designed}
use Rattle.xm_flow.specs.FlowRows.{AreFlowRows}
use Rattle.xm_lits.specs.Laws.{IsFairRun}
use Rattle.xm_lits.specs.Repeating.{IsJammed, Repetition}
use Rattle.xm_proof.specs.Argument.{Argument}
use Rattle.xm_proof.specs.Valid.{IsProof}
use Rattle.xm_proof.specs.declared.verdict.Verdict.{Verdict}
use Rattle.xm_rows.specs.Row.{SparseRow}

-- a proof has at most one verdict, whatever order of the signals the design has
abbrev pub OneVerdict : Type 0
OneVerdict =
    (it jt : Designed) (rows : List SparseRow) (p : Argument) (v w : Verdict) →
    it.net ≡ jt.net → it.colours ≡ jt.colours →
    IsVerdict it rows p v → IsVerdict jt rows p w → v ≡ w

-- no channel jams on a fair repeating run
abbrev pub NothingJams : Designed → Type 0
NothingJams it = (r : Repetition) → IsFairRun it r → (c : ℕ) → c < it.net.channels → IsJammed r c → ⊥

-- where a proof is valid, no channel does
abbrev pub ProofsHold : Type 0
ProofsHold =
    (it : Designed) (rows : List SparseRow) (p : Argument) → AreFlowRows it rows → IsProof it rows p → NothingJams it
