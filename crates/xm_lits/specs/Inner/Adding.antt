-- Clauses of functions that append.
use Rattle.std.specs.Prelude.{◌≡◌, List, ◌++◌, map}
use Rattle.xm_lits.specs.Inference.{Inference, alternatives_of, inference_of}
use Rattle.xm_lits.specs.declared.inference.Rule.{Rule}
use Rattle.xm_lits.specs.declared.literal.Lit.{Lit}
use Rattle.xm_model.specs.ListView.{ListView}

-- the rules after are those before, and these
abbrev pub AddsRules : ListView Rule → ListView Rule → List Inference → Type 0
AddsRules after before more = map inference_of after.items ≡ map inference_of before.items ++ more

-- the alternatives after are those before, and these
abbrev pub AddsAlternatives : ListView (ListView Lit) → ListView (ListView Lit) → List (List Lit) → Type 0
AddsAlternatives after before more = alternatives_of after.items ≡ alternatives_of before.items ++ more
