-- Names that become numbers.
use Rattle.std.proofs.Common.{◌≡◌, ℕ, suc, ◌+◌, ◌<◌, ◌≤◌, Bool, true, false, cond, List, [], ◌∷◌, length, get_or, map, String, Global, string_bytes, refl, sym, ap, subst, ◌∙◌, arith, Option, Some, None}
use Rattle.std.specs.Prelude.{nat_lt, unwrap_or}
use Rattle.std.specs.List.{All, position, position_or_len}
use Rattle.std.specs.Str.{bytes_eq}
use Rattle.std.proofs.lemmas.Bool.{ltb-false}
use Rattle.std.proofs.lemmas.List.{get_or-map, length-map}
use Rattle.std.proofs.lemmas.List.Recursion.{is_position_or_len}
use Rattle.xm_shape.specs.Views.{names_of}
use Rattle.xm_shape.specs.Names.{Name, number_in}

one_step : (b : Bool) (n : ℕ) → cond b 0 (suc n) ≡ cond b 0 (1 + n)
one_step true n = refl
one_step false n = omega arith

number_in-position : (ks : List (String Global)) (n : Name) → number_in (names_of ks) n ≡ position_or_len (λ k. bytes_eq n (string_bytes k)) ks
number_in-position ks n =
    is_position_or_len (λ ks. number_in (names_of ks) n) (λ k. bytes_eq n (string_bytes k)) refl (λ k ks. one_step (bytes_eq n (string_bytes k)) (number_in (names_of ks) n)) ks

pub number_in-within : (names : List Name) (n : Name) → number_in names n ≤ length names
number_in-within [] n = omega arith
number_in-within (m ∷ ms) n =
    let before = number_in-within ms n in
    elim (bytes_eq n m) as (λ b. cond b 0 (suc (number_in ms n)) ≤ length (m ∷ ms)) [ true ↦ omega arith | false ↦ omega arith ]

found_or : (p len : ℕ) → p ≤ len → p ≡ unwrap_or (cond (nat_lt p len) (Some p) None) len
found_or p len le =
    elim (nat_lt p len) as (λ b. nat_lt p len ≡ b → p ≡ unwrap_or (cond b (Some p) None) len) [
      | true ↦ λ e. refl
      | false ↦ λ e. (let ge = ltb-false p len e in omega arith)
    ] refl

-- what a look-up found, or the count of the names
pub number_found : (ks : List (String Global)) (n : Name) (found : Option ℕ) (count got : ℕ) → found ≡ position (λ k. bytes_eq n (string_bytes k)) ks → count ≡ length ks → got ≡ unwrap_or found count
    → got ≡ number_in (names_of ks) n
number_found ks n found count got is long made =
    let within : position_or_len (λ k. bytes_eq n (string_bytes k)) ks ≤ length ks = omega (arith, number_in-within (names_of ks) n, number_in-position ks n, length-map ks (string_bytes {Z = Global})) in
    made ∙ rw (is, long) (sym (found_or (position_or_len (λ k. bytes_eq n (string_bytes k)) ks) (length ks) within)) ∙ sym (number_in-position ks n)

-- the item at i of a list of the code, where each passes
pub seen_at : {X A : Type 0} (P : A → Type 0) (view : X → A) (xs : List X) (i : ℕ) (x : X) → All P (map view xs) → i < length xs → x ≡ get_or xs i x → P (view x)
seen_at P view xs i x all lt is =
    let h = all i (view x) (rw (length-map xs view) lt) in
    subst P (sym (ap view is ∙ sym (get_or-map view xs i x (view x) lt))) h
