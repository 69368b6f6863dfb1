-- Rows in one list, as they are appended and read.
use Rattle.std.proofs.Common.{◌≡◌, ℕ, zero, suc, ◌+◌, ◌*◌, ◌<◌, ◌≤◌, List, [], ◌∷◌, ◌++◌, length, get_or, take, drop, refl, sym, ap, ◌∙◌, append_assoc, subst, arith, length-drop}
use Rattle.std.proofs.Math.Seq.{drop-append_seam, take-length}
use Rattle.std.proofs.lemmas.List.{drop-append-le, drop-drop, take-append-le}
use Rattle.xm_model.specs.declared.state.Choice.{Choice}
use Rattle.xm_tape.specs.Inner.Flat.{IsLonger, added, rows_at}

-- ---- what is appended

pub added_behind : (old ys : List Choice) → added old (old ++ ys) ≡ ys
added_behind old ys = drop-append_seam old ys

pub added_more : (old new ys : List Choice) → IsLonger old new → added old (new ++ ys) ≡ added old new ++ ys
added_more old new ys longer =
    let e : new ++ ys ≡ old ++ (added old new ++ ys) = ap (λ (xs : List Choice). xs ++ ys) longer ∙ append_assoc old (added old new) ys in
    ap (added old) e ∙ added_behind old (added old new ++ ys)

pub longer_more : (old new ys : List Choice) → IsLonger old new → IsLonger old (new ++ ys)
longer_more old new ys longer =
    let e : new ++ ys ≡ old ++ (added old new ++ ys) = ap (λ (xs : List Choice). xs ++ ys) longer ∙ append_assoc old (added old new) ys in
    e ∙ ap (λ (xs : List Choice). old ++ xs) (sym (added_more old new ys longer))

pub added_further : (old mid new : List Choice) → IsLonger old mid → IsLonger mid new → added old new ≡ added old mid ++ added mid new
added_further old mid new longer further = ap (added old) further ∙ added_more old mid (added mid new) longer

pub longer_further : (old mid new : List Choice) → IsLonger old mid → IsLonger mid new → IsLonger old new
longer_further old mid new longer further = let P : List Choice → Type 0 = λ xs. IsLonger old xs in subst P (sym further) (longer_more old mid (added mid new) longer)

-- ---- rows

pub length-rows_at : (w n : ℕ) (flat : List Choice) → length (rows_at w n flat) ≡ n
length-rows_at w zero flat = refl
length-rows_at w (suc n) flat = ap suc (length-rows_at w n (drop w flat))

nothing : (xs ys : List Choice) → length xs ≡ 0 → xs ++ ys ≡ ys
nothing [] ys e = refl
nothing (x ∷ xs) ys e = absurd (omega arith)

rows_at-push : (w n : ℕ) (flat row : List Choice) → length flat ≡ n * w → length row ≡ w → rows_at w (suc n) (flat ++ row) ≡ rows_at w n flat ++ row ∷ []
rows_at-push w zero flat row long wide =
    let none : length flat ≡ 0 = omega arith in
    let e : take w (flat ++ row) ≡ row = rw (nothing flat row none, ← wide) (take-length row) in
    ap (λ (r : List Choice). r ∷ []) e
rows_at-push w (suc n) flat row long wide =
    let some : w ≤ length flat = omega arith in
    let rest : length (drop w flat) ≡ n * w = omega (arith, length-drop w flat) in
    rw (take-append-le w flat row some, drop-append-le w flat row some) (ap (λ (rs : List (List Choice)). take w flat ∷ rs) (rows_at-push w n (drop w flat) row rest wide))

pub rows_at-further : (w n : ℕ) (flat row : List Choice) → length flat ≡ n * w → length row ≡ w → rows_at w (n + 1) (flat ++ row) ≡ rows_at w n flat ++ row ∷ []
rows_at-further w n flat row long wide = let one : n + 1 ≡ suc n = omega arith in rw one (rows_at-push w n flat row long wide)

pub rows_at-front : (w n : ℕ) (flat more : List Choice) → n * w ≤ length flat → rows_at w n (flat ++ more) ≡ rows_at w n flat
rows_at-front w zero flat more h = refl
rows_at-front w (suc n) flat more h =
    let some : w ≤ length flat = omega arith in
    let rest : n * w ≤ length (drop w flat) = omega (arith, length-drop w flat) in
    rw (take-append-le w flat more some, drop-append-le w flat more some) (ap (λ (rs : List (List Choice)). take w flat ∷ rs) (rows_at-front w n (drop w flat) more rest))

pub rows_at-read : (w n r : ℕ) (flat : List Choice) → r < n → get_or (rows_at w n flat) r [] ≡ take w (drop (r * w) flat)
rows_at-read w zero r flat h = absurd (omega arith)
rows_at-read w (suc n) zero flat h = let e : zero * w ≡ 0 = omega arith in rw e refl
rows_at-read w (suc n) (suc r) flat h =
    let e : suc r * w ≡ w + r * w = omega arith in
    rw (e, ← drop-drop (r * w) w flat) (rows_at-read w n r (drop w flat) (omega arith))
