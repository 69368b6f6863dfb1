-- What the words tell of the sets that callers see.
use Rattle.std.proofs.Common.{◌≡◌, ◌↔◌, ℕ, zero, suc, ◌+◌, ◌<◌, ◌≤◌, Bool, true, nat_lt, List, [], ◌∷◌, Some, length, get_or, slice_get, refl, sym, ◌∙◌, ap, subst, arith, length-append, add-one, ltb-true}
use Rattle.std.proofs.lemmas.List.{get_or_past, length-map}
use Rattle.std.specs.Prelude.{IsTrue}
use Rattle.xm_colours.proofs.Words.{of_count, of_has, of_none, of_place, of_tells}
use Rattle.xm_colours.specs.Family.{colours_at}
use Rattle.xm_colours.specs.Pairs.{pairs}
use Rattle.xm_colours.specs.Inner.Words.{holds, set_below, set_of, sets_of}
use Rattle.xm_model.specs.Membership.{IsIn}

set_at : (words : List ℕ) (c : ℕ) → c < length words → colours_at (sets_of words) c ≡ set_of (get_or words c 0)
set_at [] c inside = absurd (omega arith)
set_at (w ∷ ws) zero inside = refl
set_at (w ∷ ws) (suc c) inside = set_at ws c (omega arith)

pub set_past : (words : List ℕ) (c : ℕ) → length words ≤ c → colours_at (sets_of words) c ≡ set_of 0
set_past words c past = let whole = length-map words set_of in get_or_past (sets_of words) c [] (omega arith) ∙ sym of_none

-- the set of a channel, and its word
module _ (s : List ℕ) (word : ℕ) (is : s ≡ set_of word) where
  pub tells : (d : ℕ) → IsIn s d → (d < 64) × (holds word d ≡ true)
  tells d h = of_tells word d (subst (λ (ds : List ℕ). IsIn ds d) is h)

  pub has_where : (d : ℕ) (b : Bool) → d < 64 → b ≡ holds word d → IsTrue b ↔ IsIn s d
  has_where d b below e = (λ h. subst (λ (ds : List ℕ). IsIn ds d) (sym is) (of_has word d below (sym e ∙ h)), λ h. e ∙ (tells d h).1)

  pub has_not : (d : ℕ) → 64 ≤ d → IsTrue (nat_lt d 64) ↔ IsIn s d
  has_not d above = (
    λ h. let below = ltb-true d 64 h in absurd (omega arith),
    λ h. let below = (tells d h).0 in absurd (omega arith),
  )

  pub place : (d k : ℕ) → IsIn s d → k ≡ length (set_below word d) → slice_get s k ≡ Some d
  place d k h e =
      let r = tells d h in
      subst (λ (ds : List ℕ). slice_get ds k ≡ Some d) (sym is) (rw e (of_place word d r.0 r.1))

  pub count : (n : ℕ) → n ≡ length (set_below word 64) → n ≡ length s
  count n e = e ∙ of_count word 64 refl ∙ ap length (sym is)

pairs_more : (words : List ℕ) (n : ℕ) → n < length words → length (pairs (colours_at (sets_of words)) (n + 1)) ≡ length (pairs (colours_at (sets_of words)) n) + length (set_of (get_or words n 0))
pairs_more words n inside =
    let here = ap length (set_at words n inside) in
    rw add-one (simp (length-append, length-map) (omega arith))

-- the pairs of the first channels, and those of one more
pub pairs_word : (words : List ℕ) (n count here : ℕ) → n < length words → count ≡ length (pairs (colours_at (sets_of words)) n) → here ≡ length (set_below (get_or words n 0) 64) → count + here ≡ length (pairs (colours_at (sets_of words)) (n + 1))
pairs_word words n count here inside e f = let more = pairs_more words n inside in let all = of_count (get_or words n 0) 64 refl in omega arith

pub pairs_of : (sets : List (List ℕ)) (words : List ℕ) (n count : ℕ) → sets_of words ≡ sets → n ≡ length words → count ≡ length (pairs (colours_at (sets_of words)) n) → count ≡ length (pairs (colours_at sets) (length sets))
pairs_of sets words n count is e f =
    let all : length (sets_of words) ≡ length words = simp length-map refl in
    f ∙ ap (λ k. length (pairs (colours_at (sets_of words)) k)) (e ∙ sym all) ∙ ap (λ (s : List (List ℕ)). length (pairs (colours_at s) (length s))) is
