-- Lemmas: a front of a text, from what was appended of it.
use Rattle.std.proofs.Common.{◌≡◌, ℕ, ◌+◌, ◌≤◌, List, [], ◌++◌, take, length, Option, Some, None, Result, Ok, Err, sym}
use Rattle.std.proofs.Common.{ap, ◌∙◌, append_assoc, arith, subst}
use Rattle.std.proofs.Math.Seq.{take-append_seam, take-append-add}
use Rattle.std.proofs.lemmas.List.{append-nil, length-append, take-append-le}
use Rattle.std.specs.Prelude.{OnErr, OnOk}
use Rattle.std.specs.Io.KnownBytes.{Appends}
use Rattle.xm_io.specs.Lemmas.Appending.{Appends-then}
use Rattle.xm_io.specs.Bytes.{AppendsFront}

pub on_err : {T F : Type 0} {X : Type 0} (r : Result T F) → X → OnErr r X
on_err (Ok x) holds = tt
on_err (Err e) holds = holds

pub on_err_goes : {T F : Type 0} {X Y : Type 0} (r : Result T F) → (X → Y) → OnErr r X → OnErr r Y
on_err_goes (Ok x) goes holds = tt
on_err_goes (Err e) goes holds = goes holds

pub on_ok_goes : {T F : Type 0} {X Y : Type 0} (r : Result T F) → (X → Y) → OnOk r X → OnOk r Y
on_ok_goes (Ok x) goes holds = goes holds
on_ok_goes (Err e) goes holds = tt

pub appends_nothing : (held : Option (List ℕ)) → Appends held held []
appends_nothing None = tt
appends_nothing (Some xs) = sym (append-nil xs)

pub appends_same : (held now : Option (List ℕ)) (a b : List ℕ) → a ≡ b → Appends held now a → Appends held now b
appends_same held now a b same = subst (λ (t : List ℕ). Appends held now t) same

-- all that was appended is a front of a longer text
pub front_of : (held now : Option (List ℕ)) (before rest text : List ℕ) → text ≡ before ++ rest
    → Appends held now before → AppendsFront held now text
front_of held now before rest text same appended =
    let taken : take (length before) text ≡ before = ap (take (length before)) same ∙ take-append_seam before rest in (
      length before,
      omega (arith, ap length same ∙ length-append before rest),
      subst (λ (t : List ℕ). Appends held now t) (sym taken) appended,
    )

-- and then a front of the lines that follow
pub front_more : (held mid now : Option (List ℕ)) (before lines rest text : List ℕ) → text ≡ (before ++ lines) ++ rest
    → Appends held mid before → AppendsFront mid now lines → AppendsFront held now text
front_more held mid now before lines rest text same first more =
    let n = more.0 in
    let within : n ≤ length lines = more.1 in
    let taken : take (length before + n) text ≡ before ++ take n lines =
    (ap (take (length before + n)) (same ∙ append_assoc before lines rest) ∙ take-append-add before (lines ++ rest) n
    ∙ ap (λ (x : List ℕ). before ++ x) (take-append-le n lines rest within)) in (
      length before + n,
      omega (arith, within, ap length same, length-append (before ++ lines) rest, length-append before lines),
      subst (λ (t : List ℕ). Appends held now t) (sym taken)
          (Appends-then held mid now before (take n lines) first more.2),
    )

-- nothing is a front of every text
pub nothing_front : (held : Option (List ℕ)) (text : List ℕ) → AppendsFront held held text
nothing_front held text = (0, omega arith, appends_nothing held)

pub front_same : (held now : Option (List ℕ)) (a b : List ℕ) → a ≡ b → AppendsFront held now a → AppendsFront held now b
front_same held now a b same = subst (λ (t : List ℕ). AppendsFront held now t) same
