-- Lemmas: a loop that takes a step for each item, up to the first fault.
use Rattle.std.proofs.Common.{◌≡◌, ℕ, suc, ◌+◌, ◌<◌, List, [], ◌∷◌, ◌++◌, length, get_or, drop, map, Result, Ok, Err, refl, sym, ap, ◌∙◌, append_assoc, add-one}
use Rattle.xm_json.specs.Lemmas.Lists.{cut_at}
use Rattle.xm_model.specs.Steps.{◌>>=◌, each_from}

-- what was read before, and what is still read
abbrev pub with_front : {B E : Type 0} → List B → Result (List B) E → Result (List B) E
with_front front read = read >>= λ ys. Ok (front ++ ys)

pub regroup : {B E : Type 0} (front : List B) (y : B) (read : Result (List B) E) → with_front front (read >>= λ ys. Ok (y ∷ ys)) ≡ with_front (front ++ y ∷ []) read
regroup {B} front y (Ok ys) = ap (λ (l : List B). Ok l) (sym (append_assoc front (y ∷ []) ys))
regroup front y (Err e) = refl

-- the item x at i was read as y, by the step at k
pub goes_on : {X A B E : Type 0} (seen : X → A) (f : ℕ → A → Result B E) (front : List B) (xs : List X) (i k : ℕ) (x : X) (y : B) (total : Result (List B) E)
    → i < length xs → x ≡ get_or xs i x → f k (seen x) ≡ Ok y
    → with_front front (each_from f k (map seen (drop i xs))) ≡ total
    → with_front (front ++ y ∷ []) (each_from f (k + 1) (map seen (drop (i + 1) xs))) ≡ total
goes_on {X} seen f front xs i k x y total lt is ok so_far =
    let cut = cut_at xs i x x lt is in
    let one : with_front front (each_from f k (map seen (drop i xs))) ≡ with_front (front ++ y ∷ []) (each_from f (k + 1) (map seen (drop (i + 1) xs))) =
    rw (cut, ok, add-one k, add-one i) (regroup front y (each_from f (suc k) (map seen (drop (suc i) xs)))) in
    sym one ∙ so_far
