-- Texts of signals, joined by commas one after another.
use Rattle.std.proofs.Common.{◌≡◌, ℕ, ◌+◌, ◌<◌, zero, suc, false, List, [], ◌∷◌, ◌++◌, length, take, codes, refl, sym, ap, ◌∙◌, append_assoc, arith}
use Rattle.std.proofs.lemmas.Bool.{ne_eqb}
use Rattle.std.specs.Prelude.{◌==◌, if◌then◌else◌}
use Rattle.xm_model.specs.Naming.{Naming}
use Rattle.xm_order.specs.declared.signal.Signal.{Signal}
use Rattle.xm_report.specs.Lines.{signal_text, signals_text}

-- a comma before all but the first
abbrev pub comma_if : List Signal → List ℕ
comma_if [] = []
comma_if (σ ∷ rest) = codes ", "

pub signals_more : (names : Naming) (xs : List Signal) (σ : Signal) → signals_text names (xs ++ σ ∷ []) ≡ signals_text names xs ++ (comma_if xs ++ signal_text names σ)
signals_more names [] σ = refl
signals_more names (x ∷ []) σ = append_assoc (signal_text names x) (codes ", ") (signal_text names σ)
signals_more names (x ∷ y ∷ rest) σ =
    let tail = signals_more names (y ∷ rest) σ in
    ap (λ (l : List ℕ). (signal_text names x ++ codes ", ") ++ l) tail ∙ sym (append_assoc (signal_text names x ++ codes ", ") (signals_text names (y ∷ rest)) (codes ", " ++ signal_text names σ))

comma_taken : (xs : List Signal) (k : ℕ) → k < length xs → comma_if (take k xs) ≡ (if k == 0 then [] else codes ", ")
comma_taken [] k h = absurd (omega arith)
comma_taken (x ∷ xs) zero h = refl
comma_taken (x ∷ xs) (suc k) h = let off : (suc k == 0) ≡ false = ne_eqb (suc k) 0 (λ e. omega arith) in rw off refl

-- one more signal
pub text_goes_on : (names : Naming) (xs : List Signal) (k : ℕ) (σ : Signal) (old text comma more : List ℕ) → k < length xs → take (k + 1) xs ≡ take k xs ++ σ ∷ [] → text ≡ old ++ signals_text names (take k xs) →
    comma ≡ text ++ (if k == 0 then [] else codes ", ") → more ≡ comma ++ signal_text names σ → more ≡ old ++ signals_text names (take (k + 1) xs)
text_goes_on names xs k σ old text comma more below taken so_far on last =
    let all : signals_text names (take (k + 1) xs) ≡ signals_text names (take k xs) ++ (comma_if (take k xs) ++ signal_text names σ) = ap (signals_text names) taken ∙ signals_more names (take k xs) σ in
    let said : signals_text names (take (k + 1) xs) ≡ signals_text names (take k xs) ++ ((if k == 0 then [] else codes ", ") ++ signal_text names σ) = all ∙ ap (λ (l : List ℕ). signals_text names (take k xs) ++ (l ++ signal_text names σ)) (comma_taken xs k below) in
    last ∙ ap (λ (l : List ℕ). l ++ signal_text names σ) (on ∙ ap (λ (l : List ℕ). l ++ (if k == 0 then [] else codes ", ")) so_far)
    ∙ ap (λ (l : List ℕ). l ++ signal_text names σ) (append_assoc old (signals_text names (take k xs)) (if k == 0 then [] else codes ", "))
    ∙ append_assoc old (signals_text names (take k xs) ++ (if k == 0 then [] else codes ", ")) (signal_text names σ)
    ∙ ap (λ (l : List ℕ). old ++ l) (append_assoc (signals_text names (take k xs)) (if k == 0 then [] else codes ", ") (signal_text names σ) ∙ sym said)
