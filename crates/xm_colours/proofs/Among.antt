-- What stands in a list.
use Rattle.std.proofs.Common.{◌≡◌, ◌⊎◌, ℕ, zero, suc, ◌<◌, Bool, true, false, cond, List, [], ◌∷◌, ◌++◌, map, get_or, length, refl, ap, subst, inl, inr, arith}
use Rattle.std.specs.Prelude.{All}
use Rattle.xm_model.specs.Membership.{IsIn}

pub in_left : {X : Type 0} (x : X) (ys zs : List X) → IsIn ys x → IsIn (ys ++ zs) x
in_left x [] zs h = absurd h
in_left x (y ∷ ys) zs (inl e) = inl e
in_left x (y ∷ ys) zs (inr h) = inr (in_left x ys zs h)

pub in_right : {X : Type 0} (x : X) (ys zs : List X) → IsIn zs x → IsIn (ys ++ zs) x
in_right x [] zs h = h
in_right x (y ∷ ys) zs h = inr (in_right x ys zs h)

pub in_either : {X : Type 0} (x : X) (ys zs : List X) → IsIn (ys ++ zs) x → IsIn ys x ⊎ IsIn zs x
in_either x [] zs h = inr h
in_either x (y ∷ ys) zs (inl e) = inl (inl e)
in_either x (y ∷ ys) zs (inr h) = elim (in_either x ys zs h) [ inl i ↦ inl (inr i) | inr i ↦ inr i ]

-- the same by the word for colours
pub in_from : (xs : List ℕ) (x : ℕ) → IsIn xs x → IsIn xs x
in_from [] x h = absurd h
in_from (y ∷ ys) x (inl e) = inl e
in_from (y ∷ ys) x (inr h) = inr (in_from ys x h)

pub is_in : (xs : List ℕ) (x : ℕ) → IsIn xs x → IsIn xs x
is_in [] x h = absurd h
is_in (y ∷ ys) x (inl e) = inl e
is_in (y ∷ ys) x (inr h) = inr (is_in ys x h)

pub in_map : {X Y : Type 0} (f : X → Y) (x : X) (xs : List X) → IsIn xs x → IsIn (map f xs) (f x)
in_map f x [] h = absurd h
in_map f x (y ∷ ys) (inl e) = inl (ap f e)
in_map f x (y ∷ ys) (inr h) = inr (in_map f x ys h)

pub map_in : {X Y : Type 0} (f : X → Y) (z : Y) (xs : List X) → IsIn (map f xs) z → (x : X) × (IsIn xs x × (f x ≡ z))
map_in f z [] h = absurd h
map_in f z (y ∷ ys) (inl e) = (y, (inl refl, e))
map_in f z (y ∷ ys) (inr h) = let r = map_in f z ys h in (r.0, (inr r.1.0, r.1.1))

pub in_where : {X : Type 0} (b : Bool) (x z : X) → IsIn (cond b (x ∷ []) []) z → (b ≡ true) × (x ≡ z)
in_where true x z (inl e) = (refl, e)
in_where true x z (inr h) = absurd h
in_where false x z h = absurd h

pub where_in : {X : Type 0} (b : Bool) (x : X) → b ≡ true → IsIn (cond b (x ∷ []) []) x
where_in true x e = inl refl
where_in false x e = absurd cc

-- each element has what all have
pub all_in : (P : ℕ → Type 0) (xs : List ℕ) (x : ℕ) → All P xs → IsIn xs x → P x
all_in P [] x all h = absurd h
all_in P (y ∷ ys) x all (inl e) = subst P e (all 0 y (omega arith))
all_in P (y ∷ ys) x all (inr h) = all_in P ys x (λ i d below. all (suc i) d (omega arith)) h

pub place_in : {X : Type 0} (xs : List X) (i : ℕ) (d : X) → i < length xs → IsIn xs (get_or xs i d)
place_in [] i d h = absurd (omega arith)
place_in (x ∷ xs) zero d h = inl refl
place_in (x ∷ xs) (suc i) d h = inr (place_in xs i d (omega arith))
