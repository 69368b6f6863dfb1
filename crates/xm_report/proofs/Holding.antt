-- The packets of a state's cells, and how often a colour is among the first packets.
use Rattle.std.proofs.Common.{◌≡◌, ℕ, ◌+◌, ◌<◌, List, [], ◌∷◌, ◌++◌, length, take, get_or, cond, nat_eq, map, slice_get, Option, Some, None, inl, inr, codes, decimal, refl, sym, ap, ◌∙◌, arith}
use Rattle.std.proofs.lemmas.List.{take_more}
use Rattle.std.proofs.lemmas.Option.{slice_get-map, slice_get_within}
use Rattle.std.specs.List.{flat_map}
use Rattle.std.specs.Option.{option_map}
use Rattle.xm_colours.specs.Family.{colours_at}
use Rattle.xm_colours.specs.Pairs.{queue_pairs}
use Rattle.xm_design.specs.Designed.{Designed}
use Rattle.xm_model.specs.Component.{Content, content_of}
use Rattle.xm_model.specs.Membership.{IsIn, times}
use Rattle.xm_model.specs.Naming.{Naming}
use Rattle.xm_model.specs.Signals.{packets_in}
use Rattle.xm_model.specs.TextLines.{line}
use Rattle.xm_model.specs.Views.{content_at, content_or}
use Rattle.xm_model.specs.declared.state.Cell.{Cell}
use Rattle.xm_proof.specs.Lemmas.QueuePairs.{of_a_queue}
use Rattle.xm_report.specs.Snap.{held_text, packets_text, snap_line}

times-push : (d : ℕ) (xs : List ℕ) (x : ℕ) → times d (xs ++ x ∷ []) ≡ times d xs + cond (nat_eq x d) 1 0
times-push d [] x = omega arith
times-push d (y ∷ ys) x = let rest = times-push d ys x in omega arith

pub times_more : (d : ℕ) (xs : List ℕ) (i e : ℕ) → i < length xs → times d (take (i + 1) xs) ≡ times d (take i xs) + cond (nat_eq (get_or xs i e) d) 1 0
times_more d xs i e within = ap (times d) (take_more xs i e within) ∙ times-push d (take i xs) (get_or xs i e)

flat_same : {X : Type 0} (f g : X → List ℕ) (xs : List X) → ((x : X) → IsIn xs x → f x ≡ g x) → flat_map f xs ≡ flat_map g xs
flat_same f g [] same = refl
flat_same f g (x ∷ xs) same = ap (λ (l : List ℕ). l ++ flat_map f xs) (same x (inl refl)) ∙ ap (λ (l : List ℕ). g x ++ l) (flat_same f g xs (λ y inside. same y (inr inside)))

content_is : (found : Option Cell) (x : Content) → option_map content_of found ≡ Some x → content_or found ≡ x
content_is None x same = cc
content_is (Some cell) x same = cc

module _ (names : Naming) (it : Designed) (t : ℕ) (cells : List Cell) (s : ℕ → Content) (holds : (q : ℕ) → q < length it.net.prims → slice_get (map content_of cells) q ≡ Some (s q)) where
  abbrev queues : List (ℕ × ℕ)
  queues = queue_pairs (colours_at it.colours) 0 it.net.prims

  same_text : (pair : ℕ × ℕ) → IsIn queues pair → held_text names (content_at cells) pair ≡ held_text names s pair
  same_text pair inside =
      let found = of_a_queue (colours_at it.colours) 0 it.net.prims pair inside in
      let below = slice_get_within it.net.prims found.0 _ found.2.queue in
      let there : pair.0 < length it.net.prims = omega (arith, below, found.1) in
      let same = content_is (slice_get cells pair.0) (s pair.0) (sym (slice_get-map content_of cells pair.0) ∙ holds pair.0 there) in
      ap (λ (c : Content). packets_text names pair (times pair.1 (packets_in c))) same

  -- the line of the cells is that of the state that they show
  pub line_of_state : (pairs : List (ℕ × ℕ)) (lent : List Cell) (old text : List ℕ) → pairs ≡ queues → lent ≡ cells → old ≡ [] → text ≡ old ++ line (codes "snap " ++ decimal t ++ flat_map (held_text names (content_at lent)) pairs)
      → text ≡ snap_line names it t s
  line_of_state pairs lent old text are same none said =
      let put : text ≡ [] ++ line (codes "snap " ++ decimal t ++ flat_map (held_text names (content_at cells)) queues) = rw (are, same, none) at said in
      put ∙ ap (λ (l : List ℕ). line (codes "snap " ++ decimal t ++ l)) (flat_same (held_text names (content_at cells)) (held_text names s) queues same_text)
