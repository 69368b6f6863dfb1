-- The numbers of a list that rises, up to a number.
use Rattle.std.proofs.Common.{◌≡◌, ℕ, ◌+◌, ◌<◌, ◌≤◌, Bool, true, false, cond, nat_lt, List, [], ◌∷◌, ◌++◌, codes, Result, Ok, Err, refl, sym, ap, ◌∙◌, inl, inr, arith, append_assoc}
use Rattle.std.proofs.lemmas.Bool.{cases_lt, cond-false, cond-true, lt-ltb, le-ltb}
use Rattle.std.proofs.lemmas.Grind.{flat_map-append}
use Rattle.std.proofs.lemmas.List.{append-nil}
use Rattle.std.proofs.lemmas.List.Concat.{flat_map-cons}
use Rattle.xm_colours.specs.Lemmas.Rising.{above, rises_on}
use Rattle.xm_colours.specs.Family.{Rises}
use Rattle.std.specs.List.{flat_map}
use Rattle.std.specs.Prelude.{IsTrue, OnOk, ◌↔◌}
use Rattle.xm_model.specs.TextLines.{line}
use Rattle.xm_model.specs.Naming.{Naming}
use Rattle.xm_model.specs.Membership.{IsIn}
use Rattle.xm_report.specs.Check.{colour_if, colour_text}

-- those below d
abbrev pub up_to : ℕ → List ℕ → List ℕ
up_to d [] = []
up_to d (x ∷ xs) = cond (nat_lt x d) (x ∷ up_to d xs) (up_to d xs)

up_to-below : (d x : ℕ) (xs : List ℕ) → x < d → up_to d (x ∷ xs) ≡ x ∷ up_to d xs
up_to-below d x xs h = cond-true (nat_lt x d) (x ∷ up_to d xs) (up_to d xs) (lt-ltb x d h)

up_to-above : (d x : ℕ) (xs : List ℕ) → d ≤ x → up_to d (x ∷ xs) ≡ up_to d xs
up_to-above d x xs h = cond-false (nat_lt x d) (x ∷ up_to d xs) (up_to d xs) (le-ltb x d h)

pub up_to-none : (d : ℕ) (xs : List ℕ) → ((e : ℕ) → IsIn xs e → d ≤ e) → up_to d xs ≡ []
up_to-none d [] h = refl
up_to-none d (x ∷ xs) h = up_to-above d x xs (h x (inl refl)) ∙ up_to-none d xs (λ e inside. h e (inr inside))

pub up_to-all : (d : ℕ) (xs : List ℕ) → ((e : ℕ) → IsIn xs e → e < d) → up_to d xs ≡ xs
up_to-all d [] h = refl
up_to-all d (x ∷ xs) h = up_to-below d x xs (h x (inl refl)) ∙ ap (λ (l : List ℕ). x ∷ l) (up_to-all d xs (λ e inside. h e (inr inside)))

-- one more number, which is in the list, or not
pub up_to-in : (d : ℕ) (xs : List ℕ) → Rises xs → IsIn xs d → up_to (d + 1) xs ≡ up_to d xs ++ d ∷ []
up_to-in d [] rise inside = absurd inside
up_to-in d (x ∷ xs) rise (inl same) =
    let now = up_to-below (d + 1) x xs (omega arith) in
    let before = up_to-above d x xs (omega arith) in
    let none = up_to-none (d + 1) xs (λ e inside. let low = above x xs rise e inside in omega arith) in
    let none_before = up_to-none d xs (λ e inside. let low = above x xs rise e inside in omega arith) in
    rw (now, before, none, none_before, same) refl
up_to-in d (x ∷ xs) rise (inr rest) =
    let low = above x xs rise d rest in
    let now = up_to-below (d + 1) x xs (omega arith) in
    let before = up_to-below d x xs low in
    rw (now, before) (ap (λ (l : List ℕ). x ∷ l) (up_to-in d xs (rises_on x xs rise) rest))

pub up_to-out : (d : ℕ) (xs : List ℕ) → (IsIn xs d → ⊥) → up_to (d + 1) xs ≡ up_to d xs
up_to-out d [] out = refl
up_to-out d (x ∷ xs) out = elim (cases_lt x d) [
  | inl low ↦ up_to-below (d + 1) x xs (omega arith) ∙ ap (λ (l : List ℕ). x ∷ l) (up_to-out d xs (λ h. out (inr h))) ∙ sym (up_to-below d x xs low)
  | inr high ↦
      let differs : x ≡ d → ⊥ = λ e. out (inl e) in
      up_to-above (d + 1) x xs (omega arith) ∙ up_to-out d xs (λ h. out (inr h)) ∙ sym (up_to-above d x xs high)
]

-- a text of those below d goes on with d, where it is in the list
pub text_goes_on : (names : Naming) (test : Bool) (d : ℕ) (xs old text more : List ℕ) → Rises xs → (IsTrue test ↔ IsIn xs d) → text ≡ old ++ flat_map (colour_text names) (up_to d xs) → more ≡ text ++ colour_if names test d → more ≡ old ++ flat_map (colour_text names) (up_to (d + 1) xs)
text_goes_on names true d xs old text more rise tells so_far last =
    let f : ℕ → List ℕ = colour_text names in
    let next = up_to-in d xs rise (tells.0 refl) in
    let one : flat_map f (d ∷ []) ≡ f d = flat_map-cons f d [] ∙ append-nil (f d) in
    let both : flat_map f (up_to d xs ++ d ∷ []) ≡ flat_map f (up_to d xs) ++ f d = flat_map-append f (up_to d xs) (d ∷ []) ∙ ap (λ (l : List ℕ). flat_map f (up_to d xs) ++ l) one in
    last ∙ ap (λ (l : List ℕ). l ++ f d) so_far ∙ append_assoc old (flat_map f (up_to d xs)) (f d) ∙ ap (λ (l : List ℕ). old ++ l) (sym (ap (flat_map f) next ∙ both))
text_goes_on names false d xs old text more rise tells so_far last =
    let out : IsIn xs d → ⊥ = λ inside. (let h = tells.1 inside in cc) in
    let next = up_to-out d xs out in
    last ∙ append-nil text ∙ so_far ∙ ap (λ (l : List ℕ). old ++ flat_map (colour_text names) l) (sym next)

-- a name, the texts of all, and the end of the line
pub line_joined : {T E : Type 0} (names : Naming) (old name xs named text : List ℕ) (ys : List ℕ) (r : Result T E) (more : List ℕ) → named ≡ old ++ name → text ≡ named ++ flat_map (colour_text names) ys → ys ≡ xs
    → OnOk r (more ≡ text ++ codes "\n") → OnOk r (more ≡ old ++ line (name ++ flat_map (colour_text names) xs))
line_joined names old name xs named text ys (Err e) more begun texts all last = tt
line_joined names old name xs named text ys (Ok x) more begun texts all last =
    let f : List ℕ → List ℕ = flat_map (colour_text names) in
    last ∙ ap (λ (l : List ℕ). l ++ codes "\n") (texts ∙ ap (λ (l : List ℕ). named ++ f l) all ∙ ap (λ (l : List ℕ). l ++ f xs) begun ∙ append_assoc old name (f xs)) ∙ append_assoc old (name ++ f xs) (codes "\n")
