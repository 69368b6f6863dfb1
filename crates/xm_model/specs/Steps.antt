-- Steps of reading, one after another, up to the first fault.
use Rattle.std.specs.Prelude.{ℕ, suc, List, [], ◌∷◌, Bool, true, false, ⊤, Option, Some, None, Result, Ok, Err}

infixl 10 ◌>>=◌
abbrev pub ◌>>=◌ : {A B E : Type 0} → Result A E → (A → Result B E) → Result B E
(Ok x) >>= f = f x
(Err e) >>= f = Err e

-- the value, where there is one
abbrev pub demand : {A E : Type 0} → Option A → E → Result A E
demand None e = Err e
demand (Some x) e = Ok x

-- the test holds
abbrev pub check : {E : Type 0} → Bool → E → Result ⊤ E
check true e = Ok tt
check false e = Err e

-- a step for each item, with its place
abbrev pub each_from : {A B E : Type 0} → (ℕ → A → Result B E) → ℕ → List A → Result (List B) E
each_from f i [] = Ok []
each_from f i (x ∷ xs) = do
  y ← f i x
  ys ← each_from f (suc i) xs
  Ok (y ∷ ys)

abbrev pub each : {A B E : Type 0} → (ℕ → A → Result B E) → List A → Result (List B) E
each f xs = each_from f 0 xs
