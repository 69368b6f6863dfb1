-- Walks: what is seen stays seen, and walks one after another.
use Rattle.std.proofs.Common.{◌≡◌, ℕ, inl, inr, List, [], ◌∷◌, ◌++◌, append_assoc, refl, sym, ◌∙◌, ap, subst}
use Rattle.std.proofs.lemmas.List.{append-nil}
use Rattle.xm_model.specs.Membership.{IsIn}
use Rattle.xm_search.specs.Inner.Walking.{Finishes}
use Rattle.xm_search.specs.Walk.{Walks, done, passed, entered}

module _ (next : ℕ → List ℕ) where
  -- what is seen stays seen
  pub still_seen : (seen visit left after : List ℕ) (x : ℕ) → Walks next seen visit left after → IsIn seen x → IsIn after x
  still_seen _ _ _ _ x (done seen) inside = inside
  still_seen _ _ _ _ x (passed seen visit left after c known w) inside = still_seen seen visit left after x w inside
  still_seen _ _ _ _ x (entered seen visit inner between left after c new first w) inside =
      still_seen between visit left after x w (still_seen (c ∷ seen) (next c) inner between x first (inr inside))

  -- a channel that is seen is passed
  pub skip : (seen visit left after : List ℕ) (x : ℕ) → Walks next seen (x ∷ visit) left after → IsIn seen x → Walks next seen visit left after
  skip _ _ _ _ _ (passed seen visit left after c known w) inside = w
  skip _ _ _ _ _ (entered seen visit inner between left after c new first w) inside = absurd (new inside)

  pub pass_all : (seen pre visit left after : List ℕ) → ((x : ℕ) → IsIn pre x → IsIn seen x) → Walks next seen visit left after →
      Walks next seen (pre ++ visit) left after
  pass_all seen [] visit left after all w = w
  pass_all seen (x ∷ pre) visit left after all w =
      passed seen (pre ++ visit) left after x (all x (inl refl)) (pass_all seen pre visit left after (λ y inside. all y (inr inside)) w)

  skip_all : (seen pre visit left after : List ℕ) → ((x : ℕ) → IsIn pre x → IsIn seen x) → Walks next seen (pre ++ visit) left after →
      Walks next seen visit left after
  skip_all seen [] visit left after all w = w
  skip_all seen (x ∷ pre) visit left after all w =
      skip_all seen pre visit left after (λ y inside. all y (inr inside)) (skip seen (pre ++ visit) left after x w (all x (inl refl)))

  nothing_left : (seen left after : List ℕ) → Walks next seen [] left after → (left ≡ []) × (after ≡ seen)
  nothing_left _ _ _ (done seen) = (refl, refl)

  -- a walk from one channel, and then one from others
  pub then_others : (seen visit made between left after : List ℕ) (x : ℕ) → Walks next seen (x ∷ []) made between →
      Walks next between visit left after → Walks next seen (x ∷ visit) (made ++ left) after
  then_others _ visit _ _ left after _ (passed seen none made between c known w) more =
      let end = nothing_left seen made between w in
      subst (λ (m : List ℕ). Walks next seen (c ∷ visit) (m ++ left) after) (sym end.0)
      (passed seen visit left after c known (subst (λ (b : List ℕ). Walks next b visit left after) end.1 more))
  then_others _ visit _ _ left after _ (entered seen none inner between made last c new first w) more =
      let end = nothing_left between made last w in
      subst (λ (l : List ℕ). Walks next seen (c ∷ visit) l after) (sym (ap (λ (m : List ℕ). inner ++ c ∷ m ++ left) end.0 ∙ append_assoc inner (c ∷ []) left))
      (entered seen visit inner between left after c new first (subst (λ (b : List ℕ). Walks next b visit left after) end.1 more))

  -- a channel of the path is entered that comes next behind its last one
  pub finish_entered : (seen path left after pre post : List ℕ) (last c : ℕ) → next last ≡ pre ++ c ∷ post →
      ((x : ℕ) → IsIn pre x → IsIn seen x) → (IsIn seen c → ⊥) → Finishes next (c ∷ seen) (c ∷ last ∷ path) left after →
      Finishes next seen (last ∷ path) left after
  finish_entered seen path left after pre post last c is known new f =
      let inner = f.0 in
      let between = f.1.0 in
      let first = f.1.1.1.0 in
      let g = f.1.1.1.1.0 in
      let whole = f.1.1.1.1.1 in
      let stays = λ (x : ℕ) (inside : IsIn (c ∷ seen) x). still_seen (c ∷ seen) (next c) inner between x first inside in
      let rest = skip between post g.0 g.1.0 c (skip_all between pre (c ∷ post) g.0 g.1.0 (λ x inside. stays x (inr (known x inside)))
      (subst (λ (l : List ℕ). Walks next between l g.0 g.1.0) is g.1.1.1.0)) (stays c (inl refl)) in
      let walk = pass_all seen pre (c ∷ post) (inner ++ c ∷ g.0) g.1.0 known (entered seen post inner between g.0 g.1.0 c new first rest) in (
        inner ++ c ∷ g.0,
        (
          g.1.0,
          (
            g.1.1.0,
            (
              subst (λ (l : List ℕ). Walks next seen l (inner ++ c ∷ g.0) g.1.0) (sym is) walk,
              (
                g.1.1.1.1.0,
                whole ∙ ap (λ (l : List ℕ). inner ++ c ∷ l) g.1.1.1.1.1 ∙ sym (append_assoc inner (c ∷ g.0) (last ∷ g.1.1.0)),
              ),
            ),
          ),
        ),
      )

  -- the last one is left, where all that come next behind it are seen
  pub finish_left : (seen path rest after : List ℕ) (last : ℕ) → ((x : ℕ) → IsIn (next last) x → IsIn seen x) →
      Finishes next seen path rest after → Finishes next seen (last ∷ path) (last ∷ rest) after
  finish_left seen path rest after last known f =
      let walk = subst (λ (l : List ℕ). Walks next seen l [] seen) (append-nil (next last)) (pass_all seen (next last) [] [] seen known (done seen)) in
      ([], (seen, (rest, (walk, (f, refl)))))

  -- a root is entered
  pub root_entered : (before rest after : List ℕ) (root : ℕ) → (IsIn before root → ⊥) → Finishes next (root ∷ before) (root ∷ []) rest after →
      Walks next before (root ∷ []) rest after
  root_entered before rest after root new f =
      let inner = f.0 in
      let between = f.1.0 in
      let end = f.1.1.1.1.0 in
      let whole : rest ≡ inner ++ root ∷ [] = f.1.1.1.1.1 ∙ ap (λ (l : List ℕ). inner ++ root ∷ l) end.0 in
      subst (λ (l : List ℕ). Walks next before (root ∷ []) l after) (sym whole)
      (subst (λ (a : List ℕ). Walks next before (root ∷ []) (inner ++ root ∷ []) a) (sym end.1)
      (entered before [] inner between [] between root new f.1.1.1.0 (done between)))
