-- A loop that makes a test of each item, up to the first fault.
use Rattle.std.proofs.Common.{◌≡◌, ℕ, ◌+◌, ◌<◌, List, [], ◌∷◌, ◌++◌, length, get_or, drop, map, take, Result, Ok, refl, sym, ap, ◌∙◌, add-one}
use Rattle.std.specs.Prelude.{⊤}
use Rattle.std.proofs.lemmas.List.{get_or-map, length-map, map_push, take_more}
use Rattle.xm_json.specs.Lemmas.StepFacts.{Fails-bind}
use Rattle.xm_shape.specs.Fault.{Fault}
use Rattle.xm_shape.specs.Gives.{Fails, fault_of}
use Rattle.xm_json.specs.Holding.{each_holds_from}
use Rattle.xm_json.specs.Lemmas.Lists.{cut_at}
use Rattle.xm_shape.specs.declared.fault.DocFault.{DocFault}

module _ {X A : Type 0} (view : X → A) (xs : List X) (i : ℕ) (x : X) (lt : i < length xs) (is : x ≡ get_or xs i x) where
  -- the items up to i
  pub taken : (before new : List A) → before ≡ take i (map view xs) → new ≡ before ++ view x ∷ [] → new ≡ take (i + 1) (map view xs)
  taken before new so more =
      let item : get_or (map view xs) i (view x) ≡ view x = get_or-map view xs i x (view x) lt ∙ ap view (sym is) in
      let long : i < length (map view xs) = rw (length-map xs view) lt in
      let all : take (i + 1) (map view xs) ≡ take i (map view xs) ++ view x ∷ [] = take_more (map view xs) i (view x) long ∙ ap (λ (y : A). take i (map view xs) ++ y ∷ []) item in
      more ∙ ap (λ (l : List A). l ++ view x ∷ []) so ∙ sym all

  -- the test of the item at i passed
  pub test_passed : (f : ℕ → A → Result ⊤ Fault) (total : Result ⊤ Fault) → f i (view x) ≡ Ok tt → each_holds_from f i (map view (drop i xs)) ≡ total → each_holds_from f (i + 1) (map view (drop (i + 1) xs)) ≡ total
  test_passed f total ok so_far =
      let cut = cut_at xs i x x lt is in
      let one : each_holds_from f i (map view (drop i xs)) ≡ each_holds_from f (i + 1) (map view (drop (i + 1) xs)) = rw (cut, ok, add-one) refl in
      sym one ∙ so_far

  -- it failed
  pub test_failed : (f : ℕ → A → Result ⊤ Fault) (total : Result ⊤ Fault) (e : DocFault) → Fails e (f i (view x)) → each_holds_from f i (map view (drop i xs)) ≡ total → Fails e total
  test_failed f total e fails so_far =
      let so : each_holds_from f i (map view (x ∷ drop (i + 1) xs)) ≡ total = sym (ap (λ (l : List X). each_holds_from f i (map view l)) (cut_at xs i x x lt is)) ∙ so_far in
      rw (← so) (Fails-bind fault_of e (f i (view x)) _ fails)

  -- what f gives of the items up to i
  pub name_taken : {B : Type 0} (f : A → B) (before new : List B) → before ≡ map f (take i (map view xs)) → new ≡ before ++ f (view x) ∷ [] → new ≡ map f (take (i + 1) (map view xs))
  name_taken {B} f before new so more =
      let all = taken (take i (map view xs)) (take i (map view xs) ++ view x ∷ []) refl refl in
      more ∙ ap (λ (l : List B). l ++ f (view x) ∷ []) so ∙ sym (ap (map f) (sym all) ∙ map_push f (take i (map view xs)) (view x))
