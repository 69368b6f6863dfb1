-- What a candidate is worth: its goal has no tree.
use Rattle.std.specs.Prelude.{◌≡◌, [], List, false, All, ℤ}
use Rattle.xm_design.specs.Designed.{Designed}
use Rattle.xm_flow.specs.ValidLemma.{Lemma}
use Rattle.xm_lits.specs.Paths.{is_on_path}
use Rattle.xm_lits.specs.declared.literal.Lit.{Lit}
use Rattle.xm_proof.specs.Argument.{Refutation}
use Rattle.xm_proof.specs.Valid.{GoalsRefuted}
use Rattle.xm_search.specs.Candidate.{IsCandidate}

-- goals that are refuted, each with the help of those before it, are not among the literals of a candidate: whatever
-- goals come first, the goal of a candidate has no tree
abbrev pub CandidatesExcludeTrees : Type 0
CandidatesExcludeTrees =
    (it : Designed) (lemmas : List Lemma) (gs : List Refutation)
    (goal : Lit) (lits : List Lit) (denominator : ℤ) (counts : List ℤ) →
    GoalsRefuted it lemmas [] gs → IsCandidate it lemmas goal lits denominator counts →
    All (λ g. is_on_path lits g.lit ≡ false) gs
