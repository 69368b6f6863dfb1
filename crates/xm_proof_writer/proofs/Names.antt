-- Lemmas: names that are found tell what they name.
use Rattle.std.proofs.Common.{◌≡◌, ◌<◌, ◌+◌, ℕ, zero, suc, Bool, true, false, cond, List, [], ◌∷◌, Some, Option, slice_get, length, refl, ap, subst, ◌∙◌, arith}
use Rattle.std.specs.Str.{bytes_eq}
use Rattle.std.proofs.lemmas.Bool.{cond-false, cond-true, lt-ltb}
use Rattle.xm_design.specs.Designed.{Designed}
use Rattle.xm_model.specs.Component.{Component}
use Rattle.xm_model.specs.Naming.{IsNamed, Naming}
use Rattle.xm_model.specs.TextLines.{name_at}
use Rattle.xm_proof.specs.Tests.{is_queue}
use Rattle.xm_proof_reader.specs.Known.{known_by, only_below, only_queue, place_from}
use Rattle.xm_proof_writer.specs.Writable.{HasNames}
use Rattle.xm_shape.specs.Lemmas.Equal.{same_bytes, same_names, swapped}
use Rattle.xm_shape.specs.Names.{Name, number_in}
use Rattle.xm_writer.specs.Texts.{AreFound, IsFound}

same_test : (a b : Name) (c : Bool) → bytes_eq a b ≡ c → bytes_eq b a ≡ c
same_test a b true e = let same = same_names a b e in subst (λ (x : Name). bytes_eq x a ≡ true) same (same_bytes a)
same_test a b false e = swapped a b e

-- by cases on whether the first name is the one that is looked for, and what is known of the others
one_place : (n x : Name) (ns : List Name) (j i k : ℕ) (later : Option ℕ) (c : Bool) → bytes_eq x n ≡ c → cond c 0 (suc k) ≡ i → i < suc (length ns) → (k < length ns → later ≡ Some (suc j + k)) → cond (bytes_eq n x) (Some j) later ≡ Some (j + i)
one_place n x ns j i k later true e is lt rest =
    let place : j ≡ j + i = omega arith in
    cond-true {A = Option ℕ} (bytes_eq n x) (Some j) later (same_test x n true e) ∙ ap (λ (p : ℕ). Some p) place
one_place n x ns j i k later false e is lt rest =
    let place : suc j + k ≡ j + i = omega arith in
    cond-false {A = Option ℕ} (bytes_eq n x) (Some j) later (same_test x n false e) ∙ rest (omega arith) ∙ ap (λ (p : ℕ). Some p) place

-- a name that has a number stands at that place
numbered : (j i : ℕ) (names : List Name) (x : Name) → number_in names x ≡ i → i < length names → place_from j names x ≡ Some (j + i)
numbered j i [] x is lt = absurd (omega arith)
numbered j i (n ∷ ns) x is lt =
    one_place n x ns j i (number_in ns x) (place_from (suc j) ns x) (bytes_eq x n) refl is lt (numbered (suc j) (number_in ns x) ns x refl)

found_at : (names : List Name) → IsFound names → (i : ℕ) → i < length names → place_from 0 names (name_at names i) ≡ Some i
found_at names found i lt =
    let place : 0 + i ≡ i = omega arith in
    numbered 0 i names (name_at names i) (found i lt) lt ∙ ap (λ (p : ℕ). Some p) place

below : (n i : ℕ) → i < n → only_below n (Some i) ≡ Some i
below n i lt = rw (lt-ltb i n lt) refl

within : (prims : List Component) (q : ℕ) → is_queue (slice_get prims q) ≡ true → q < length prims
within [] q is = absurd cc
within (m ∷ ms) zero is = omega arith
within (m ∷ ms) (suc q) is = let lt = within ms q is in omega arith

module _ (it : Designed) (names : Naming) (found : AreFound names) (named : IsNamed it.net names) where
  channel : (c : ℕ) → c < it.net.channels → only_below it.net.channels (place_from 0 names.channels (name_at names.channels c)) ≡ Some c
  channel c lt = let same = named.channels in ap (only_below it.net.channels) (found_at names.channels found.channels c (omega arith)) ∙ below it.net.channels c lt

  colour : (d : ℕ) → d < it.net.colours → only_below it.net.colours (place_from 0 names.colours (name_at names.colours d)) ≡ Some d
  colour d lt = let same = named.colours in ap (only_below it.net.colours) (found_at names.colours found.colours d (omega arith)) ∙ below it.net.colours d lt

  queue : (q : ℕ) → is_queue (slice_get it.net.prims q) ≡ true → only_queue it.net (place_from 0 names.prims (name_at names.prims q)) ≡ Some q
  queue q is =
      let same = named.prims in let lt = within it.net.prims q is in
      ap (only_queue it.net) (found_at names.prims found.prims q (omega arith)) ∙ rw is refl

  pub tell : HasNames (known_by it names)
  tell = record { texts = found.texts; channels = channel; colours = colour; queues = queue }
