-- Lemmas: what steps that found something, or a fault, say of their parts.
use Rattle.std.proofs.Common.{◌≡◌, ℕ, suc, Bool, true, false, List, [], ◌∷◌, length, Option, Some, None, Result, Ok, Err, refl, ap, subst}
use Rattle.std.specs.Prelude.{⊤, IfSome}
use Rattle.xm_model.specs.Steps.{◌>>=◌, check, demand, each_from}
use Rattle.xm_json.specs.Gives.{FailsBy, told_as}

module _ {E : Type 0} where
  pub bound : {A B : Type 0} (r : Result A E) (k : A → Result B E) (y : B) → (r >>= k) ≡ Ok y → (x : A) × (r ≡ Ok x) × (k x ≡ Ok y)
  bound (Ok x) k y e = (x, refl, e)
  bound (Err f) k y e = absurd cc

  pub passed : {B : Type 0} (r : Result ⊤ E) (rest : Result B E) (y : B) → (r >>= λ _. rest) ≡ Ok y → (r ≡ Ok tt) × (rest ≡ Ok y)
  passed (Ok u) rest y e = (refl, e)
  passed (Err f) rest y e = absurd cc

  pub demanded : {A : Type 0} (o : Option A) (f : E) (x : A) → demand o f ≡ Ok x → o ≡ Some x
  demanded None f x e = absurd cc
  demanded (Some y) f x e = let same : y ≡ x = cc in ap (λ z. Some z) same

  pub checked : (b : Bool) (f : E) → check b f ≡ Ok tt → b ≡ true
  checked true f e = refl
  checked false f e = absurd cc

  -- of a list that was read, the first item and the others
  pub record Cons {A B : Type 0} (f : ℕ → A → Result B E) (i : ℕ) (x : A) (xs : List A) (ys : List B) : Type 0 where
    pub first : B
    pub others : List B
    pub is_first : f i x ≡ Ok first
    pub are_others : each_from f (suc i) xs ≡ Ok others
    pub same : first ∷ others ≡ ys

  pub cons : {A B : Type 0} (f : ℕ → A → Result B E) (i : ℕ) (x : A) (xs : List A) (ys : List B) → each_from f i (x ∷ xs) ≡ Ok ys → Cons f i x xs ys
  cons f i x xs ys e =
      let one = bound (f i x) _ ys e in
      let rest = bound (each_from f (suc i) xs) _ ys one.2 in
      record { first = one.0; others = rest.0; is_first = one.1; are_others = rest.1; same = cc (rest.2) }

  pub each_length : {A B : Type 0} (f : ℕ → A → Result B E) (i : ℕ) (xs : List A) (ys : List B) → each_from f i xs ≡ Ok ys → length ys ≡ length xs
  each_length {A} {B} f i [] ys e = let none : [] ≡ ys = cc in subst (λ (l : List B). length l ≡ 0) none refl
  each_length {A} {B} f i (x ∷ xs) ys e =
      let c = cons f i x xs ys e in
      subst (λ (l : List B). length l ≡ length (x ∷ xs)) c.same (ap suc (each_length f (suc i) xs c.others c.are_others))

-- a step with faults in other words found the same
pub told_ok : {E F A : Type 0} (tell : E → F) (r : Result A E) (x : A) → told_as tell r ≡ Ok x → r ≡ Ok x
told_ok tell (Ok y) x e = let same : y ≡ x = cc in ap (λ z. Ok z) same
told_ok tell (Err f) x e = absurd cc

-- the fault of a step is that of all that goes on with it
module _ {E F : Type 0} (shown : E → Option F) where
  shows-bind : {A B : Type 0} (o : Option F) (r : Result A F) (k : A → Result B F) → IfSome o (λ fault. r ≡ Err fault) → IfSome o (λ fault. (r >>= k) ≡ Err fault)
  shows-bind None r k fails = tt
  shows-bind (Some fault) r k fails = rw fails refl

  pub Fails-bind : {A B : Type 0} (e : E) (r : Result A F) (k : A → Result B F) → FailsBy shown e r → FailsBy shown e (r >>= k)
  Fails-bind e r k fails = shows-bind (shown e) r k fails
