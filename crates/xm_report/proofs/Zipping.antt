-- Lines of two lists side by side.
use Rattle.std.proofs.Common.{◌≡◌, ℕ, ◌+◌, ◌≤◌, List, [], ◌∷◌, ◌++◌, length, take, ap, append_assoc, refl, sym, ◌∙◌, arith}
use Rattle.std.specs.List.{flat_map, zip}
use Rattle.std.proofs.lemmas.Grind.{flat_map-append}
use Rattle.std.proofs.lemmas.List.{append-nil, length-take-le}

zip_push : {K X : Type 0} (xs : List K) (ys : List X) (x : K) (y : X) → length xs ≡ length ys → zip (xs ++ x ∷ []) (ys ++ y ∷ []) ≡ zip xs ys ++ (x, y) ∷ []
zip_push [] [] x y same = refl
zip_push [] (b ∷ ys) x y same = absurd (omega arith)
zip_push (a ∷ xs) [] x y same = absurd (omega arith)
zip_push {K} {X} (a ∷ xs) (b ∷ ys) x y same = ap (λ (l : List (K × X)). (a, b) ∷ l) (zip_push xs ys x y (omega arith))

-- the text with one more line
pub lines_go_on : {K X : Type 0} (f : K × X → List ℕ) (xs : List K) (ys : List X) (k : ℕ) (x : K) (y : X) (begun text next : List ℕ) → k ≤ length xs → k ≤ length ys → take (k + 1) xs ≡ take k xs ++ x ∷ [] →
    take (k + 1) ys ≡ take k ys ++ y ∷ [] → text ≡ begun ++ flat_map f (zip (take k xs) (take k ys)) → next ≡ text ++ f (x, y) → next ≡ begun ++ flat_map f (zip (take (k + 1) xs) (take (k + 1) ys))
lines_go_on f xs ys k x y begun text next h g one other so_far more =
    let before = zip (take k xs) (take k ys) in
    let zipped : zip (take (k + 1) xs) (take (k + 1) ys) ≡ before ++ (x, y) ∷ [] = rw (one, other) (zip_push (take k xs) (take k ys) x y (length-take-le k xs h ∙ sym (length-take-le k ys g))) in
    more ∙ ap (λ (l : List ℕ). l ++ f (x, y)) so_far ∙ append_assoc begun (flat_map f before) (f (x, y))
    ∙ ap (λ (l : List ℕ). begun ++ l) (sym (ap (flat_map f) zipped ∙ flat_map-append f before ((x, y) ∷ []) ∙ ap (λ (l : List ℕ). flat_map f before ++ l) (append-nil (f (x, y)))))
