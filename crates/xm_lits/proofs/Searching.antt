-- A path holds a clash exactly where one of three searches finds it.
use Rattle.std.proofs.Common.{◌≡◌, ℕ, ◌+◌, ◌<◌, Bool, true, false, not, ◌&&◌, ◌||◌, nat_eq, cond, List, [], ◌∷◌, ◌++◌}
use Rattle.std.proofs.Common.{map, length, Some, refl, sym, ◌∙◌, ap, subst, inl, inr, arith}
use Rattle.std.proofs.lemmas.Bool.{and_from, and_parts, cases_Bool, eqb-true, ltb-true, or_cases, or_left, or_right}
use Rattle.std.specs.Prelude.{◌⊎◌}
use Rattle.xm_colours.specs.Family.{Rises, colours_at}
use Rattle.xm_design.specs.Designed.{Designed, IsDesigned}
use Rattle.xm_lits.proofs.Rising.{has_from, up_to, up_to-in, up_to-out}
use Rattle.xm_lits.specs.Clashes.{IsClash, all_idle, is_offering, is_offered, one_offers, one_outside, are_opposed}
use Rattle.xm_lits.specs.Clashes.{is_outside, two_opposed}
use Rattle.xm_lits.specs.Inference.{has_colour, idle_all}
use Rattle.xm_lits.specs.Paths.{are_on_path, any_idle_clash, any_opposed, any_outside, any_pair, idle_clash, is_on_path}
use Rattle.xm_lits.specs.Paths.{are_same}
use Rattle.xm_lits.specs.declared.literal.Lit.{Lit}
use Rattle.xm_lits.specs.declared.literal.Lit.TheVariants.{Stuck, Dead, Idle, Full, Has, Lacks}
use Rattle.xm_model.specs.Component.{Component}
use Rattle.xm_model.specs.Lemmas.PortCounts.{initiator_from}
use Rattle.xm_model.specs.Lemmas.PrimitiveFits.{prim_fits}
use Rattle.xm_model.specs.Net.{HasPrim, initiators, outputs}
use Rattle.xm_model.specs.Lemmas.ChannelEnds.{end_of}
use Rattle.xm_model.specs.Ports.{HasOutput, source_output}
use Rattle.xm_model.specs.Membership.{IsIn, times}

true_false : true ≡ false → ⊥
true_false e = cc

lit_from : (l m : Lit) → are_same l m ≡ true → l ≡ m
lit_from (Stuck c) (Stuck e) h = ap Stuck (eqb-true c e h)
lit_from (Dead c d) (Dead e f) h = let both = and_parts _ _ h in let x = eqb-true c e both.0 in let y = eqb-true d f both.1 in cc
lit_from (Idle c d) (Idle e f) h = let both = and_parts _ _ h in let x = eqb-true c e both.0 in let y = eqb-true d f both.1 in cc
lit_from (Full q) (Full r) h = ap Full (eqb-true q r h)
lit_from (Has q d) (Has r e) h = let both = and_parts _ _ h in let x = eqb-true q r both.0 in let y = eqb-true d e both.1 in cc
lit_from (Lacks q d) (Lacks r e) h = let both = and_parts _ _ h in let x = eqb-true q r both.0 in let y = eqb-true d e both.1 in cc
lit_from _ _ h = cc

-- a test that no literal of the path meets
none_met : (test : Lit → Bool) (any : List Lit → Bool) →
    ((l : Lit) (ls : List Lit) → any (l ∷ ls) ≡ (test l || any ls)) →
    (ls : List Lit) (l : Lit) → is_on_path ls l ≡ true → test l ≡ true → any ls ≡ true
none_met test any unfolds [] l on met = absurd (true_false (sym on))
none_met test any unfolds (x ∷ xs) l on met =
    unfolds x xs ∙ elim (or_cases (are_same x l) (is_on_path xs l) on) [
      | inl same ↦ or_left (test x) (any xs) (subst (λ (y : Lit). test y ≡ true) (sym (lit_from x l same)) met)
      | inr rest ↦ or_right (test x) (any xs) (none_met test any unfolds xs l rest met)
    ]

all-append : (path xs ys : List Lit) → are_on_path path xs ≡ true → are_on_path path ys ≡ true →
    are_on_path path (xs ++ ys) ≡ true
all-append path [] ys hx hy = hy
all-append path (x ∷ xs) ys hx hy =
    let both = and_parts (is_on_path path x) (are_on_path path xs) hx in
    and_from (is_on_path path x) (are_on_path path (xs ++ ys)) both.0 (all-append path xs ys both.1 hy)

map-append : (c : ℕ) (xs ys : List ℕ) →
    map (λ d. Idle c d) (xs ++ ys) ≡ map (λ d. Idle c d) xs ++ map (λ d. Idle c d) ys
map-append c [] ys = refl
map-append c (x ∷ xs) ys = ap (λ (l : List Lit). Idle c x ∷ l) (map-append c xs ys)

in_from : (ds : List ℕ) (d : ℕ) → has_colour ds d ≡ true → IsIn ds d
in_from ds d h = among ds (ltb-true 0 (times d ds) h) where
  among : (xs : List ℕ) → 0 < times d xs → IsIn xs d
  among [] some = absurd (omega arith)
  among (x ∷ xs) some = go (nat_eq x d) refl (among xs) some where
    go : (b : Bool) → nat_eq x d ≡ b → (0 < times d xs → IsIn xs d) → 0 < cond b 1 0 + times d xs → (x ≡ d) ⊎ IsIn xs d
    go true same rest some = inl (eqb-true x d same)
    go false differ rest some = inr (rest (omega arith))

out_from : (ds : List ℕ) (d : ℕ) → has_colour ds d ≡ false → IsIn ds d → ⊥
out_from ds d h inside = true_false (sym (has_from ds d inside) ∙ h)

-- those below d go on with d
pub idle_goes_on : (path : List Lit) (c d : ℕ) (ds : List ℕ) → Rises ds →
    are_on_path path (map (λ e. Idle c e) (up_to d ds)) ≡ true →
    (has_colour ds d && not (is_on_path path (Idle c d))) ≡ false →
    are_on_path path (map (λ e. Idle c e) (up_to (d + 1) ds)) ≡ true
idle_goes_on path c d ds rise so_far test = elim (cases_Bool (has_colour ds d)) [
  | inl there ↦ (
      let here : is_on_path path (Idle c d) ≡ true = shown (is_on_path path (Idle c d)) (ap (λ (b : Bool). b && not (is_on_path path (Idle c d))) (sym there) ∙ test) in
      ap (λ (l : List ℕ). are_on_path path (map (λ e. Idle c e) l)) (up_to-in d ds rise (in_from ds d there))
      ∙ ap (are_on_path path) (map-append c (up_to d ds) (d ∷ []))
      ∙ all-append path (map (λ e. Idle c e) (up_to d ds)) (Idle c d ∷ []) so_far (and_from (is_on_path path (Idle c d)) true here refl)
      )
  | inr none ↦ ap (λ (l : List ℕ). are_on_path path (map (λ e. Idle c e) l)) (up_to-out d ds (out_from ds d none)) ∙ so_far
] where
  shown : (b : Bool) → not b ≡ false → b ≡ true
  shown true h = refl
  shown false h = absurd (true_false h)

-- one colour of which the channel is not said to be idle
pub one_lacking : (path : List Lit) (c d : ℕ) (ds : List ℕ) →
    (has_colour ds d && not (is_on_path path (Idle c d))) ≡ true → are_on_path path (map (λ e. Idle c e) ds) ≡ false
one_lacking path c d ds test =
    let both = and_parts (has_colour ds d) (not (is_on_path path (Idle c d))) test in
    elim (cases_Bool (are_on_path path (map (λ e. Idle c e) ds))) [
      | inl all ↦ absurd (true_false (sym both.1 ∙ ap not (each ds (in_from ds d both.0) all)))
      | inr none ↦ none
    ] where
      each : (xs : List ℕ) → IsIn xs d → are_on_path path (map (λ e. Idle c e) xs) ≡ true →
          is_on_path path (Idle c d) ≡ true
      each [] inside all = absurd inside
      each (x ∷ xs) (inl same) all = subst (λ (e : ℕ). is_on_path path (Idle c e) ≡ true) same (and_parts (is_on_path path (Idle c x)) (are_on_path path (map (λ e. Idle c e) xs)) all).0
      each (x ∷ xs) (inr more) all = each xs more (and_parts (is_on_path path (Idle c x)) (are_on_path path (map (λ e. Idle c e) xs)) all).1

-- some colour of a channel on which such a source offers
offers_one : (it : Designed) → IsDesigned it → (c : ℕ) → is_offered it c ≡ true →
    (d : ℕ) × IsIn (colours_at it.colours c) d
offers_one it is c h = by_list (initiators it.net.prims c) refl h where
  by_colours : (cs : List ℕ) → 0 < length cs → ((d : ℕ) → IsIn cs d → IsIn (colours_at it.colours c) d) →
      (d : ℕ) × IsIn (colours_at it.colours c) d
  by_colours [] some within = absurd (omega arith)
  by_colours (d ∷ cs) some within = (d, within d (inl refl))

  by_prim : (p : ℕ) (m : Component) → HasPrim it.net p m → HasOutput m c → is_offering (Some m) ≡ true →
      (d : ℕ) × IsIn (colours_at it.colours c) d
  by_prim p m has (source_output {colours = cs} {mode = mode}) test = by_colours cs (prim_fits it.net is.net p _ has).0 (is.colours.closed p _ has)
  by_prim p m has _ test = absurd (true_false (sym test))

  by_list : (ps : List ℕ) → initiators it.net.prims c ≡ ps → one_offers it.net ps ≡ true →
      (d : ℕ) × IsIn (colours_at it.colours c) d
  by_list [] at test = absurd (true_false (sym test))
  by_list (p ∷ []) at test =
      let initiator = initiator_from it.net p c (end_of outputs it.net.prims c p at) in
      by_prim p initiator.prim initiator.has initiator.has_output (ap is_offering (sym initiator.has) ∙ test)
  by_list (p ∷ q ∷ ps) at test = absurd (true_false (sym test))

idle_there : (path : List Lit) (c d : ℕ) (xs : List ℕ) → IsIn xs d → are_on_path path (map (λ e. Idle c e) xs) ≡ true →
    is_on_path path (Idle c d) ≡ true
idle_there path c d [] inside all = absurd inside
idle_there path c d (x ∷ xs) (inl same) all = subst (λ (e : ℕ). is_on_path path (Idle c e) ≡ true) same (and_parts (is_on_path path (Idle c x)) (are_on_path path (map (λ e. Idle c e) xs)) all).0
idle_there path c d (x ∷ xs) (inr more) all = idle_there path c d xs more (and_parts (is_on_path path (Idle c x)) (are_on_path path (map (λ e. Idle c e) xs)) all).1

refused : (b : Bool) → (b ≡ true → ⊥) → b ≡ false
refused true no' = absurd (no' refl)
refused false no' = refl

pub no_clash : (it : Designed) → IsDesigned it → (path : List Lit) → any_pair path path ≡ false →
    any_outside it path ≡ false → any_idle_clash it path path ≡ false →
    (ls : List Lit) → IsClash it ls → are_on_path path ls ≡ false
no_clash it is path pairs outsides idles ls (two_opposed l m h) = refused (are_on_path path (l ∷ m ∷ [])) (λ all.
    let first = and_parts (is_on_path path l) (is_on_path path m && true) all in
    let second = and_parts (is_on_path path m) true first.1 in
    let there = none_met (are_opposed l) (any_opposed l) (λ x xs. refl) path m second.0 h in
    let some = none_met (λ x. any_opposed x path) (any_pair path) (λ x xs. refl) path l first.0 there in
    true_false (sym some ∙ pairs))
no_clash it is path pairs outsides idles ls (one_outside l h) = refused (are_on_path path (l ∷ [])) (λ all.
    let first = and_parts (is_on_path path l) true all in
    true_false (sym (none_met (is_outside it) (any_outside it) (λ x xs. refl) path l first.0 h) ∙ outsides))
no_clash it is path pairs outsides idles ls (all_idle c h) = refused (are_on_path path (idle_all (colours_at it.colours) c)) (λ all.
    let one = offers_one it is c h in
    let on = idle_there path c one.0 (colours_at it.colours c) one.1 all in
    let met : idle_clash it path (Idle c one.0) ≡ true = and_from (is_offered it c) (are_on_path path (idle_all (colours_at it.colours) c)) h all in
    true_false (sym (none_met (idle_clash it path) (any_idle_clash it path) (λ x xs. refl) path (Idle c one.0) on met) ∙ idles))
