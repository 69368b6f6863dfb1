-- Lemmas: a loop that takes a step for each item, which sees what the item before gave.
use Rattle.std.proofs.Common.{◌≡◌, ℕ, suc, ◌+◌, ◌<◌, List, [], ◌∷◌, ◌++◌, length, get_or, drop, map, Option, Some, Result, Ok, sym, ◌∙◌, add-one}
use Rattle.xm_json.specs.Lemmas.Lists.{cut_at}
use Rattle.xm_json.specs.Lemmas.Walk.{regroup, with_front}
use Rattle.xm_json.specs.Path.{Path}
use Rattle.xm_proof_reader.specs.Reading.{each_after}

-- the item x at i was read as y, by the step at k
pub goes_on_after : {X A B : Type 0} (seen : X → A) (f : Option B → ℕ → A → Result B Path) (front : List B) (before : Option B) (xs : List X) (i k : ℕ) (x : X) (y : B) (total : Result (List B) Path)
    → i < length xs → x ≡ get_or xs i x → f before k (seen x) ≡ Ok y
    → with_front front (each_after f before k (map seen (drop i xs))) ≡ total
    → with_front (front ++ y ∷ []) (each_after f (Some y) (k + 1) (map seen (drop (i + 1) xs))) ≡ total
goes_on_after seen f front before xs i k x y total lt is ok so_far =
    let cut = cut_at xs i x x lt is in
    let one : with_front front (each_after f before k (map seen (drop i xs))) ≡ with_front (front ++ y ∷ []) (each_after f (Some y) (k + 1) (map seen (drop (i + 1) xs))) =
    rw (cut, ok, add-one k, add-one i) (regroup front y (each_after f (Some y) (suc k) (map seen (drop (suc i) xs)))) in
    sym one ∙ so_far
