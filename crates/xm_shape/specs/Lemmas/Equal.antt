-- Lemmas: names with the same bytes.
use Rattle.std.proofs.Common.{◌≡◌, true, false, refl, sym, ◌∙◌, true≢false}
use Rattle.std.specs.Str.{bytes_eq}
use Rattle.std.proofs.lemmas.Bool.{false_from_ne_true}
use Rattle.std.proofs.lemmas.Slice.Eq.{bytes_eq-Decides}
use Rattle.xm_shape.specs.Names.{Name}

pub same_bytes : (a : Name) → bytes_eq a a ≡ true
same_bytes a = (bytes_eq-Decides a a).1 refl

pub same_names : (a b : Name) → bytes_eq a b ≡ true → a ≡ b
same_names a b e = (bytes_eq-Decides a b).0 e

pub swapped : (a b : Name) → bytes_eq a b ≡ false → bytes_eq b a ≡ false
swapped a b e =
    false_from_ne_true (bytes_eq b a) (λ t. let same : b
    ≡ a = same_names b a t in true≢false (sym (same_bytes a) ∙ (rw same at e)))
