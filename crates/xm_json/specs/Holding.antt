-- Steps of tests, beside those of reading.
use Rattle.std.specs.Prelude.{ℕ, suc, List, [], ◌∷◌, ⊤, Option, Some, None, Result, Ok, Err}
use Rattle.xm_model.specs.Steps.{◌>>=◌}

-- there is no fault
abbrev pub refuse : {E : Type 0} → Option E → Result ⊤ E
refuse None = Ok tt
refuse (Some e) = Err e

-- a test for each item, with its place
abbrev pub each_holds_from : {A E : Type 0} → (ℕ → A → Result ⊤ E) → ℕ → List A → Result ⊤ E
each_holds_from f i [] = Ok tt
each_holds_from f i (x ∷ xs) = do
  _ ← f i x
  each_holds_from f (suc i) xs

abbrev pub each_holds : {A E : Type 0} → (ℕ → A → Result ⊤ E) → List A → Result ⊤ E
each_holds f xs = each_holds_from f 0 xs
