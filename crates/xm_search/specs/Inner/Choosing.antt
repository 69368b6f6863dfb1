-- The rule by which a path is split.
use Rattle.std.specs.Prelude.{◌≡◌, ℕ, List, [], ◌∷◌, Bool, ◌&&◌, ◌||◌, Some, false, true, length, slice_get}
use Rattle.xm_design.specs.Designed.{Designed}
use Rattle.xm_lits.specs.Inference.{Inference, inference_of, rules_of}
use Rattle.xm_lits.specs.Paths.{is_on_path}
use Rattle.xm_lits.specs.declared.literal.Lit.{Lit}
use Rattle.xm_model.specs.Membership.{IsIn}
use Rattle.xm_proof.specs.Argument.{Split, Step}
use Rattle.xm_proof.specs.Tests.{find_rule}
use Rattle.xm_search.specs.Trees.{has_alternative}
use Rattle.xm_search.specs.declared.choosing.Chosen.{Chosen}
use Rattle.xm_search.specs.declared.choosing.Pick.{Pick}

-- each of the rules has an alternative wholly on the path
abbrev pub HaveAlternatives : List Lit → List Inference → Type 0
HaveAlternatives path rs = (r : Inference) → IsIn rs r → has_alternative path r.alternatives ≡ true

-- none of the rules is without alternatives
abbrev pub GoOn : List Inference → Type 0
GoOn rs = (r : Inference) → IsIn rs r → r.alternatives ≡ [] → ⊥

-- the rule at this place has no alternative wholly on the path; it has none at all
abbrev pub IsFresh : List Lit → List Inference → ℕ → Type 0
IsFresh path rs k = (r : Inference) × ((slice_get rs k ≡ Some r) × (has_alternative path r.alternatives ≡ false))

abbrev pub IsLast : List Inference → ℕ → Type 0
IsLast rs k = (r : Inference) × ((slice_get rs k ≡ Some r) × (r.alternatives ≡ []))

-- both of the rules of all literals of a path
abbrev pub AllAnswered : Designed → List Lit → Type 0
AllAnswered it path = (l : Lit) → is_on_path path l ≡ true → HaveAlternatives path (rules_of it l)

abbrev pub AllGoOn : Designed → List Lit → Type 0
AllGoOn it path = (l : Lit) → is_on_path path l ≡ true → GoOn (rules_of it l)

-- the same, as tests
abbrev pub all_have : List Lit → List Inference → Bool
all_have path [] = true
all_have path (r ∷ rs) = has_alternative path r.alternatives && all_have path rs

abbrev pub all_answered : Designed → List Lit → List Lit → Bool
all_answered it path [] = true
all_answered it path (l ∷ ls) = all_have path (rules_of it l) && all_answered it path ls

abbrev pub is_last : List (List Lit) → Bool
is_last [] = true
is_last (a ∷ others) = false

abbrev pub some_last : List Inference → Bool
some_last [] = false
some_last (r ∷ rs) = is_last r.alternatives || some_last rs

abbrev pub any_last : Designed → List Lit → Bool
any_last it [] = false
any_last it (l ∷ ls) = some_last (rules_of it l) || any_last it ls

-- the rule at the place is one of a literal of the path, and is fresh there
pub record IsPick (it : Designed) (path : List Lit) (p : Pick) : Type 0 where
  pub here : is_on_path path p.on ≡ true
  pub fresh : IsFresh path (rules_of it p.on) p.place

-- the rule is one of a literal of the path, found by its name, with no alternative wholly on the path
pub record IsChosen (it : Designed) (path : List Lit) (on : Lit) (rule : Inference) : Type 0 where
  pub here : is_on_path path on ≡ true
  pub found : find_rule (rules_of it on) rule.name rule.via ≡ Some rule
  pub of : IsIn (rules_of it on) rule
  pub fresh : has_alternative path rule.alternatives ≡ false

abbrev pub IsChoice : Designed → List Lit → Chosen → Type 0
IsChoice it path c = IsChosen it path c.on (inference_of c.rule)

-- the step that splits by it
abbrev pub split_by : Chosen → Step
split_by c = Split c.rule.name c.on c.rule.via (length c.rule.alternatives.items)

-- and has no alternatives
abbrev pub IsLastChoice : Designed → List Lit → Chosen → Type 0
IsLastChoice it path c = IsChoice it path c × ((inference_of c.rule).alternatives ≡ [])
