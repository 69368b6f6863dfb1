-- The text of some cycles is as many dots.
use Rattle.std.proofs.Common.{◌≡◌, ℕ, zero, suc, ◌+◌, List, [], ◌∷◌, ◌++◌, replicate, refl, sym, ap, ap₂, ◌∙◌, arith}
use Rattle.std.proofs.lemmas.Grind.{replicate_next}
use Rattle.xm_work.specs.Rounds.{lines}
use Rattle.xm_tests_workers.specs.Inner.Dots.{IsDot}

pub dotted : (line : ℕ → List ℕ) → IsDot line → (from n : ℕ) → replicate n 46 ≡ lines line from n
dotted line dots from zero = refl
dotted line dots from (suc n) =
    let next : suc n ≡ n + 1 = omega arith in
    ap (λ (k : ℕ). replicate k 46) next ∙ replicate_next n 46
    ∙ ap₂ (λ (x y : List ℕ). x ++ y) (dotted line dots from n) (sym (dots (from + n)))
