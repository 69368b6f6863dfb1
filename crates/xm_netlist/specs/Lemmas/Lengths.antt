-- Lemmas: how long the lists are that names make.
use Rattle.std.proofs.Common.{◌≡◌, ℕ, zero, suc, true, false, List, [], ◌∷◌, length, replicate, refl, ◌∙◌, arith}
use Rattle.std.specs.Prelude.{slice_set}
use Rattle.std.proofs.lemmas.List.{length-append, length-replicate}
use Rattle.std.proofs.Math.ListN.{length-set}
use Rattle.xm_shape.specs.Names.{Name, number_in}
use Rattle.xm_netlist.specs.Numbered.{marks_of, numbers_below, set_each}

pub length-set_each : {A X : Type 0} (place : A → ℕ) (value : A → X) (as' : List A) (xs : List X) → length (set_each place value as' xs) ≡ length xs
length-set_each place value [] xs = refl
length-set_each place value (a ∷ rest) xs =
    length-set_each place value rest (slice_set xs (place a) (value a)) ∙ length-set xs (place a) (value a)

pub length-numbers_below : (n : ℕ) → length (numbers_below n) ≡ n
length-numbers_below zero = refl
length-numbers_below (suc n) = omega (arith, length-append (numbers_below n) (n ∷ []), length-numbers_below n)

pub length-marks_of : (colours names : List Name) → length (marks_of colours names) ≡ length colours
length-marks_of colours names =
    length-set_each (number_in colours) (λ (name : Name). true) names (replicate (length colours) false)
    ∙ length-replicate (length colours) false
