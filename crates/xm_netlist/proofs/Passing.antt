-- What tests that passed say.
use Rattle.std.proofs.Common.{◌≡◌, ℕ, suc, List, [], ◌∷◌, ◌++◌, Result, Ok, Err, refl}
use Rattle.std.specs.Prelude.{⊤}
use Rattle.std.specs.List.{All}
use Rattle.std.proofs.lemmas.List.Elements.{All-cons, All-head, All-nil, All-tail}
use Rattle.xm_model.specs.Steps.{◌>>=◌, check}
use Rattle.xm_shape.specs.Fault.{Fault}
use Rattle.xm_json.specs.Holding.{each_holds_from}

pub both : (r s : Result ⊤ Fault) → (r >>= λ _. s) ≡ Ok tt → (r ≡ Ok tt) × (s ≡ Ok tt)
both (Ok x) s e = (refl, e)
both (Err f) s e = absurd cc

module _ {A : Type 0} where
  -- each item passed
  pub held : (f : ℕ → A → Result ⊤ Fault) (P : A → Type 0) → ((i : ℕ) (x : A) → f i x ≡ Ok tt → P x) → (i : ℕ) (xs : List A) → each_holds_from f i xs ≡ Ok tt → All P xs
  held f P one i [] e = All-nil P
  held f P one i (x ∷ xs) e = let b = both (f i x) (each_holds_from f (suc i) xs) e in All-cons P x xs (one i x b.0) (held f P one (suc i) xs b.1)

  pub All-front : (P : A → Type 0) (xs ys : List A) → All P (xs ++ ys) → All P xs
  All-front P [] ys h = All-nil P
  All-front P (x ∷ xs) ys h = All-cons P x xs (All-head P x (xs ++ ys) h) (All-front P xs ys (All-tail P x (xs ++ ys) h))

  pub All-back : (P : A → Type 0) (xs ys : List A) → All P (xs ++ ys) → All P ys
  All-back P [] ys h = h
  All-back P (x ∷ xs) ys h = All-back P xs ys (All-tail P x (xs ++ ys) h)
