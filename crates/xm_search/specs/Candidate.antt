-- Candidates of a deadlock: literals and packets among which no refutation can end.
use Rattle.std.specs.Prelude.{◌≡◌, List, true, false, length, ℤ}
use Rattle.xm_design.specs.Designed.{Designed}
use Rattle.xm_flow.specs.ValidLemma.{Lemma}
use Rattle.xm_lits.specs.Clashes.{IsClash}
use Rattle.xm_lits.specs.Inference.{Inference, rules_of}
use Rattle.xm_lits.specs.Paths.{are_on_path, is_on_path}
use Rattle.xm_lits.specs.declared.literal.Lit.{Lit}
use Rattle.xm_lp.specs.Right.{MeetsAll}
use Rattle.xm_model.specs.Membership.{IsIn}
use Rattle.xm_proof.specs.Tests.{queue_columns}
use Rattle.xm_search.specs.Constraints.{constraints}
use Rattle.xm_search.specs.Trees.{has_alternative}

-- the literals hold the goal and no clash, each rule of each of them has an alternative among them, and the counts over
-- the denominator are at least 0 and meet the lemmas, the capacities and what the literals say
pub record IsCandidate (it : Designed) (lemmas : List Lemma) (goal : Lit) (lits : List Lit) (denominator : ℤ)
    (counts : List ℤ) : Type 0 where
  pub holds_goal : is_on_path lits goal ≡ true
  pub consistent : (ls : List Lit) → IsClash it ls → are_on_path lits ls ≡ false
  pub answered : (l : Lit) (rule : Inference) → is_on_path lits l ≡ true → IsIn (rules_of it l) rule
      → has_alternative lits rule.alternatives ≡ true
  pub met : MeetsAll (constraints it lemmas lits) (length (queue_columns it)) denominator counts
