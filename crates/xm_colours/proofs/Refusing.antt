-- The first pair that a list refuses: of one entry, and of two lists from those of each.
use Rattle.std.proofs.Common.{◌≡◌, ◌⊎◌, ◌↔◌, ℕ, ◌+◌, ◌<◌, true, false, List, [], ◌∷◌, ◌++◌, Option, Some, None, length, map, take, get_or, refl, sym, ◌∙◌, ap, subst, inl, inr, arith}
use Rattle.std.proofs.lemmas.Bool.{cases_Bool}
use Rattle.std.proofs.lemmas.List.{map-append, take_more}
use Rattle.xm_colours.proofs.Among.{in_from, is_in}
use Rattle.xm_colours.proofs.Words.{of_has, of_tells}
use Rattle.xm_colours.specs.Allowing.{AllowsAll, IsFirstRefused, IsUpTo, Refuses}
use Rattle.xm_colours.specs.Inner.Refusing.{FoundFirst, IsFirstMissing, IsWithin}
use Rattle.xm_colours.specs.Inner.Words.{holds, set_of}
use Rattle.xm_colours.specs.declared.allow.ColourFault.{ColourFault}
use Rattle.xm_model.specs.Naming.{Allowed, allowed_of}
use Rattle.xm_model.specs.Membership.{IsIn}
use Rattle.xm_model.specs.declared.naming.Allow.{Allow}

refuses_left : (xs ys : List Allowed) (c d : ℕ) → Refuses xs c d → Refuses (xs ++ ys) c d
refuses_left [] ys c d h = absurd h
refuses_left (x ∷ xs) ys c d (inl h) = inl h
refuses_left (x ∷ xs) ys c d (inr h) = inr (refuses_left xs ys c d h)

refuses_right : (xs ys : List Allowed) (c d : ℕ) → Refuses ys c d → Refuses (xs ++ ys) c d
refuses_right [] ys c d h = h
refuses_right (x ∷ xs) ys c d h = inr (refuses_right xs ys c d h)

refuses_either : (xs ys : List Allowed) (c d : ℕ) → Refuses (xs ++ ys) c d → Refuses xs c d ⊎ Refuses ys c d
refuses_either [] ys c d h = inr h
refuses_either (x ∷ xs) ys c d (inl h) = inl (inl h)
refuses_either (x ∷ xs) ys c d (inr h) = elim (refuses_either xs ys c d h) [ inl i ↦ inl (inr i) | inr i ↦ inr i ]

up_to_on : (c d e f g h : ℕ) → IsUpTo c d e f → IsUpTo e f g h → IsUpTo c d g h
up_to_on c d e f g h (inl a) (inl b) = inl (omega arith)
up_to_on c d e f g h (inl a) (inr b) = inl (let same = b.0 in omega arith)
up_to_on c d e f g h (inr a) (inl b) = inl (let same = a.0 in omega arith)
up_to_on c d e f g h (inr a) (inr b) = inr (a.0 ∙ b.0, let x = a.1 in let y = b.1 in omega arith)

module _ (colours : ℕ → List ℕ) (xs ys : List Allowed) where
  none_of_both : AllowsAll colours xs → AllowsAll colours ys → AllowsAll colours (xs ++ ys)
  none_of_both none other c d i h = elim (refuses_either xs ys c d h) [ inl g ↦ none c d i g | inr g ↦ other c d i g ]

  -- the pair of one list that is up to those of the other
  left_of_both : (c d : ℕ) → IsFirstRefused colours xs c d → ((e f : ℕ) → IsIn (colours e) f → Refuses ys e f → IsUpTo c d e f) → IsFirstRefused colours (xs ++ ys) c d
  left_of_both c d it below = record {
    is_pair = it.is_pair;
    refused = refuses_left xs ys c d it.refused;
    first = λ e f i h. elim (refuses_either xs ys e f h) [ inl g ↦ it.first e f i g | inr g ↦ below e f i g ];
  }

  right_of_both : (c d : ℕ) → IsFirstRefused colours ys c d → ((e f : ℕ) → IsIn (colours e) f → Refuses xs e f → IsUpTo c d e f) → IsFirstRefused colours (xs ++ ys) c d
  right_of_both c d it below = record {
    is_pair = it.is_pair;
    refused = refuses_right xs ys c d it.refused;
    first = λ e f i h. elim (refuses_either xs ys e f h) [ inl g ↦ below e f i g | inr g ↦ it.first e f i g ];
  }

  pub found_none : (found other : Option ColourFault) → found ≡ None → other ≡ None → FoundFirst colours xs found → FoundFirst colours ys other → FoundFirst colours (xs ++ ys) None
  found_none found other e f h g = none_of_both (rw e at h) (rw f at g)

  pub found_left : (found other : Option ColourFault) (it : ColourFault) → found ≡ Some it → other ≡ None → FoundFirst colours xs found → FoundFirst colours ys other → FoundFirst colours (xs ++ ys) (Some it)
  found_left found other it e f h g = left_of_both it.channel it.colour (rw e at h) (λ c d i r. absurd ((rw f at g) c d i r))

  pub found_right : (found other : Option ColourFault) (it : ColourFault) → found ≡ None → other ≡ Some it → FoundFirst colours xs found → FoundFirst colours ys other → FoundFirst colours (xs ++ ys) (Some it)
  found_right found other it e f h g = right_of_both it.channel it.colour (rw f at g) (λ c d i r. absurd ((rw e at h) c d i r))

  pub found_lesser : (found other : Option ColourFault) (it that lesser : ColourFault) → found ≡ Some it → other ≡ Some that →
      (lesser ≡ it) ⊎ (lesser ≡ that) → IsUpTo lesser.channel lesser.colour it.channel it.colour → IsUpTo lesser.channel lesser.colour that.channel that.colour →
      FoundFirst colours xs found → FoundFirst colours ys other → FoundFirst colours (xs ++ ys) (Some lesser)
  found_lesser found other it that lesser e f either a b h g =
      let one : IsFirstRefused colours xs it.channel it.colour = rw e at h in
      let two : IsFirstRefused colours ys that.channel that.colour = rw f at g in
      elim either [
        | inl is ↦ subst (λ (x : ColourFault). IsFirstRefused colours (xs ++ ys) x.channel x.colour) (sym is) (left_of_both it.channel it.colour one
            (λ c d i r. up_to_on it.channel it.colour that.channel that.colour c d (subst (λ (x : ColourFault). IsUpTo x.channel x.colour that.channel that.colour) is b) (two.first c d i r)))
        | inr is ↦ subst (λ (x : ColourFault). IsFirstRefused colours (xs ++ ys) x.channel x.colour) (sym is) (right_of_both that.channel that.colour two
            (λ c d i r. up_to_on that.channel that.colour it.channel it.colour c d (subst (λ (x : ColourFault). IsUpTo x.channel x.colour it.channel it.colour) is a) (one.first c d i r)))
      ]

-- one entry, from the words of its channel's set and of its colours
module _ (colours : ℕ → List ℕ) (entry : Allowed) (listed : List ℕ) (word other : ℕ) (is : colours entry.channel ≡ set_of word) (same : listed ≡ entry.colours) (so : (d : ℕ) → d < 64 → (holds other d ≡ true) ↔ IsIn listed d) where
  in_word : (c d : ℕ) → entry.channel ≡ c → IsIn (colours c) d → (d < 64) × (holds word d ≡ true)
  in_word c d e i = of_tells word d (subst (λ (ds : List ℕ). IsIn ds d) is (subst (λ (k : ℕ). IsIn (colours k) d) (sym e) i))

  is_listed : (d : ℕ) → d < 64 → holds other d ≡ true → IsIn entry.colours d
  is_listed d below h = is_in entry.colours d (subst (λ (ds : List ℕ). IsIn ds d) same ((so d below).0 h))

  not_listed : (d : ℕ) → d < 64 → holds other d ≡ false → IsIn entry.colours d → ⊥
  not_listed d below h i =
      let there = (so d below).1 (subst (λ (ds : List ℕ). IsIn ds d) (sym same) (in_from entry.colours d i)) in
      absurd cc

  not_held : (d : ℕ) → d < 64 → (IsIn entry.colours d → ⊥) → holds other d ≡ false
  not_held d below h = elim (cases_Bool (holds other d)) [ inl yields ↦ absurd (h (is_listed d below yields)) | inr fails ↦ fails ]

  pub refused_none : IsWithin word other → AllowsAll colours (entry ∷ [])
  refused_none within c d i h = elim h [
    | inl r ↦ let w = in_word c d r.0 i in r.1 (is_listed d w.0 (within d w.0 w.1))
    | inr r ↦ r
  ]

  pub refused_some : (d : ℕ) → IsFirstMissing word other d → IsFirstRefused colours (entry ∷ []) entry.channel d
  refused_some d missing = record {
    is_pair = subst (λ (ds : List ℕ). IsIn ds d) (sym is) (of_has word d missing.below missing.has);
    refused = inl (refl, not_listed d missing.below missing.lacks);
    first = λ e f i h. elim h [
      | inl r ↦ let w = in_word e f r.0 i in inr (r.0, missing.first f w.0 w.1 (not_held f w.0 r.1))
      | inr r ↦ absurd r
    ];
  }

-- one entry more
pub found_more : (colours : ℕ → List ℕ) (entries : List Allow) (i : ℕ) (entry : Allow) (found : Option ColourFault) → i < length entries → entry ≡ get_or entries i entry →
    FoundFirst colours (map allowed_of (take i entries) ++ allowed_of entry ∷ []) found → FoundFirst colours (map allowed_of (take (i + 1) entries)) found
found_more colours entries i entry found inside is h =
    let more : take (i + 1) entries ≡ take i entries ++ entry ∷ [] = take_more entries i entry inside ∙ ap (λ (x : Allow). take i entries ++ x ∷ []) (sym is) in
    let same : map allowed_of (take (i + 1) entries) ≡ map allowed_of (take i entries) ++ allowed_of entry ∷ [] = ap (map allowed_of) more ∙ map-append allowed_of (take i entries) (entry ∷ []) in
    subst (λ (xs : List Allowed). FoundFirst colours xs found) (sym same) h
