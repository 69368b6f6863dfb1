-- The order of the goals has each pair once.
use Rattle.std.proofs.Common.{◌≡◌, ℕ, suc, zero, ◌+◌, ◌<◌, List, [], ◌∷◌, ◌++◌, true, map, refl, sym, subst, append_assoc, arith, inl, inr, None, Option, Some, slice_get}
use Rattle.std.specs.Prelude.{◌⊎◌, cond, nat_eq, nat_lt}
use Rattle.std.specs.List.{range_with_len}
use Rattle.std.proofs.lemmas.Bool.{and_from, and_parts, cases_eq, cond-true, eqb-true, eq-eqb, false_from_ne_true, lt-ltb, or_cases, or_left, or_right}
use Rattle.std.proofs.lemmas.List.{append-nil}
use Rattle.xm_colours.specs.Family.{colours_at, Rises}
use Rattle.xm_colours.specs.Pairs.{pairs}
use Rattle.xm_design.specs.Designed.{Designed, IsDesigned}
use Rattle.xm_lits.specs.Inference.{has_colour}
use Rattle.xm_lits.specs.Paths.{are_same, is_on_path}
use Rattle.xm_lits.specs.declared.literal.Lit.{Lit}
use Rattle.xm_lits.specs.declared.literal.Lit.TheVariants.{Dead}
use Rattle.xm_model.specs.Component.{Component}
use Rattle.xm_model.specs.Membership.{IsIn, times}
use Rattle.xm_model.specs.Net.{IsNet, Network, targets}
use Rattle.xm_proof.specs.Tests.{move_columns}
use Rattle.xm_proof.specs.Valid.{AreGoals, all_goals}
use Rattle.xm_search.proofs.Choices.{in_cases}
use Rattle.xm_search.proofs.Walks.{still_seen}
use Rattle.xm_search.proofs.Steps.{is_channel}
use Rattle.xm_search.specs.GoalOrder.{IsGoalOrder, goals_of, onward, outputs_of, outputs_of_one}
use Rattle.xm_search.specs.Walk.{Walks, done, passed, entered}

in_left : {X : Type 0} (x : X) (xs ys : List X) → IsIn xs x → IsIn (xs ++ ys) x
in_left x [] ys h = absurd h
in_left x (y ∷ xs) ys h = elim h [ inl e ↦ inl e | inr t ↦ inr (in_left x xs ys t) ]

in_right : {X : Type 0} (x : X) (xs ys : List X) → IsIn ys x → IsIn (xs ++ ys) x
in_right x [] ys h = h
in_right x (y ∷ xs) ys h = inr (in_right x xs ys h)

-- no number twice
abbrev Once : List ℕ → Type 0
Once [] = Unit {0}
Once (x ∷ xs) = (IsIn xs x → ⊥) × Once xs

once_append : (xs ys : List ℕ) → Once xs → Once ys → ((x : ℕ) → IsIn xs x → IsIn ys x → ⊥) → Once (xs ++ ys)
once_append [] ys a b apart = b
once_append (x ∷ xs) ys a b apart =
    ((λ h. elim (in_cases x xs ys h) [ inl l ↦ a.0 l | inr r ↦ apart x (inl refl) r ]), once_append xs ys a.1 b (λ y l r. apart y (inr l) r))

module _ (next : ℕ → List ℕ) where
  -- what is left was not seen, and is seen then
  left_new : (seen visit left after : List ℕ) (x : ℕ) → Walks next seen visit left after → IsIn left x → IsIn seen x → ⊥
  left_new _ _ _ _ x (done seen) h on = absurd h
  left_new _ _ _ _ x (passed seen visit left after c known w) h on = left_new seen visit left after x w h on
  left_new _ _ _ _ x (entered seen visit inner between left after c new first w) h on =
      elim (in_cases x inner (c ∷ left) h) [
        | inl l ↦ left_new (c ∷ seen) (next c) inner between x first l (inr on)
        | inr r ↦ elim r [
          | inl e ↦ new (subst (IsIn seen) (sym e) on)
          | inr t ↦ left_new between visit left after x w t (still_seen next (c ∷ seen) (next c) inner between x first (inr on))
        ]
      ]

  left_seen : (seen visit left after : List ℕ) (x : ℕ) → Walks next seen visit left after → IsIn left x → IsIn after x
  left_seen _ _ _ _ x (done seen) h = absurd h
  left_seen _ _ _ _ x (passed seen visit left after c known w) h = left_seen seen visit left after x w h
  left_seen _ _ _ _ x (entered seen visit inner between left after c new first w) h =
      elim (in_cases x inner (c ∷ left) h) [
        | inl l ↦ still_seen next between visit left after x w (left_seen (c ∷ seen) (next c) inner between x first l)
        | inr r ↦ elim r [
          | inl e ↦ still_seen next between visit left after x w (still_seen next (c ∷ seen) (next c) inner between x first (inl e))
          | inr t ↦ left_seen between visit left after x w t
        ]
      ]

  -- what is seen then was seen or is left
  seen_left : (seen visit left after : List ℕ) (x : ℕ) → Walks next seen visit left after → IsIn after x → IsIn seen x ⊎ IsIn left x
  seen_left _ _ _ _ x (done seen) h = inl h
  seen_left _ _ _ _ x (passed seen visit left after c known w) h = seen_left seen visit left after x w h
  seen_left _ _ _ _ x (entered seen visit inner between left after c new first w) h =
      elim (seen_left between visit left after x w h) [
        | inl b ↦ elim (seen_left (c ∷ seen) (next c) inner between x first b) [
          | inl s ↦ elim s [ inl e ↦ inr (in_right x inner (c ∷ left) (inl e)) | inr t ↦ inl t ]
          | inr i ↦ inr (in_left x inner (c ∷ left) i)
        ]
        | inr l ↦ inr (in_right x inner (c ∷ left) (inr l))
      ]

  -- what is to visit is seen then
  visit_seen : (seen visit left after : List ℕ) (x : ℕ) → Walks next seen visit left after → IsIn visit x → IsIn after x
  visit_seen _ _ _ _ x (done seen) h = absurd h
  visit_seen _ _ _ _ x (passed seen visit left after c known w) h =
      elim h [ inl e ↦ still_seen next seen visit left after x w (subst (IsIn seen) e known) | inr t ↦ visit_seen seen visit left after x w t ]
  visit_seen _ _ _ _ x (entered seen visit inner between left after c new first w) h =
      elim h [
        | inl e ↦ still_seen next between visit left after x w (still_seen next (c ∷ seen) (next c) inner between x first (inl e))
        | inr t ↦ visit_seen between visit left after x w t
      ]

  left_once : (seen visit left after : List ℕ) → Walks next seen visit left after → Once left
  left_once _ _ _ _ (done seen) = tt
  left_once _ _ _ _ (passed seen visit left after c known w) = left_once seen visit left after w
  left_once _ _ _ _ (entered seen visit inner between left after c new first w) =
      once_append inner (c ∷ left) (left_once (c ∷ seen) (next c) inner between first)
      ((λ h. left_new between visit left after c w h (still_seen next (c ∷ seen) (next c) inner between c first (inl refl))), left_once between visit left after w)
      (λ x i r. elim r [
        | inl e ↦ left_new (c ∷ seen) (next c) inner between x first i (inl e)
        | inr t ↦ left_new between visit left after x w t (left_seen (c ∷ seen) (next c) inner between x first i)
      ])

  -- all that is left meets what holds of all to visit and all that comes next
  left_meets : (P : ℕ → Type 0) → ((c x : ℕ) → P c → IsIn (next c) x → P x) → (seen visit left after : List ℕ) → Walks next seen visit left after →
      ((x : ℕ) → IsIn visit x → P x) → (x : ℕ) → IsIn left x → P x
  left_meets P on _ _ _ _ (done seen) all x h = absurd h
  left_meets P on _ _ _ _ (passed seen visit left after c known w) all x h = left_meets P on seen visit left after w (λ y t. all y (inr t)) x h
  left_meets P on _ _ _ _ (entered seen visit inner between left after c new first w) all x h =
      elim (in_cases x inner (c ∷ left) h) [
        | inl l ↦ left_meets P on (c ∷ seen) (next c) inner between first (λ y t. on c y (all c (inl refl)) t) x l
        | inr r ↦ elim r [
          | inl e ↦ all x (inl e)
          | inr t ↦ left_meets P on between visit left after w (λ y t. all y (inr t)) x t
        ]
      ]

-- numbers in a range
in_range : (n a x : ℕ) → IsIn (range_with_len a n) x → x < a + n
in_range zero a x h = absurd h
in_range (suc n) a x h = elim h [ inl e ↦ omega arith | inr t ↦ (let k = in_range n (a + 1) x t in omega arith) ]

range_has : (n a x : ℕ) → a < x + 1 → x < a + n → IsIn (range_with_len a n) x
range_has zero a x low high = absurd (omega arith)
range_has (suc n) a x low high =
    elim (cases_eq a x) [ inl e ↦ inl e | inr other ↦ inr (range_has n (a + 1) x (omega arith) (omega arith)) ]

-- the colours of a channel
above : (x : ℕ) (ys : List ℕ) (y : ℕ) → Rises (x ∷ ys) → IsIn ys y → x < y
above x [] y rise h = absurd h
above x (z ∷ zs) y rise h = elim h [ inl e ↦ (let low = rise.0 in omega arith) | inr t ↦ (let low = rise.0 in let k = above z zs y rise.1 t in omega arith) ]

rises_on : (x : ℕ) (xs : List ℕ) → Rises (x ∷ xs) → Rises xs
rises_on x [] rise = tt
rises_on x (y ∷ ys) rise = rise.1

rise_once : (ds : List ℕ) → Rises ds → Once ds
rise_once [] rise = tt
rise_once (d ∷ ds) rise = ((λ h. let k = above d ds d rise h in omega arith), rise_once ds (rises_on d ds rise))

counted_here : (a b : ℕ) → a ≡ 1 → 0 < a + b
counted_here a b h = omega arith

counted : (d : ℕ) (ds : List ℕ) → IsIn ds d → 0 < times d ds
counted d [] h = absurd h
counted d (x ∷ xs) h =
    elim h [
      | inl e ↦ counted_here (cond {A = ℕ} (nat_eq x d) 1 0) (times d xs) (cond-true {A = ℕ} (nat_eq x d) 1 0 (eq-eqb x d e))
      | inr t ↦ (let k = counted d xs t in omega arith)
    ]

has_from : (d : ℕ) (ds : List ℕ) → IsIn ds d → has_colour ds d ≡ true
has_from d ds h = lt-ltb 0 (times d ds) (counted d ds h)

-- what is on a path
on_left : (xs ys : List Lit) (l : Lit) → is_on_path xs l ≡ true → is_on_path (xs ++ ys) l ≡ true
on_left [] ys l h = cc
on_left (x ∷ xs) ys l h =
    elim (or_cases (are_same x l) (is_on_path xs l) h) [
      | inl e ↦ or_left (are_same x l) (is_on_path (xs ++ ys) l) e
      | inr t ↦ or_right (are_same x l) (is_on_path (xs ++ ys) l) (on_left xs ys l t)
    ]

on_right : (xs ys : List Lit) (l : Lit) → is_on_path ys l ≡ true → is_on_path (xs ++ ys) l ≡ true
on_right [] ys l h = h
on_right (x ∷ xs) ys l h = or_right (are_same x l) (is_on_path (xs ++ ys) l) (on_right xs ys l h)

on_either : (xs ys : List Lit) (l : Lit) → is_on_path (xs ++ ys) l ≡ true → (is_on_path xs l ≡ true) ⊎ (is_on_path ys l ≡ true)
on_either [] ys l h = inr h
on_either (x ∷ xs) ys l h =
    elim (or_cases (are_same x l) (is_on_path (xs ++ ys) l) h) [
      | inl e ↦ inl (or_left (are_same x l) (is_on_path xs l) e)
      | inr t ↦ elim (on_either xs ys l t) [ inl a ↦ inl (or_right (are_same x l) (is_on_path xs l) a) | inr b ↦ inr b ]
    ]

on_block : (c : ℕ) (ds : List ℕ) (d : ℕ) → IsIn ds d → is_on_path (map (λ e. Dead c e) ds) (Dead c d) ≡ true
on_block c [] d h = absurd h
on_block c (e ∷ ds) d h =
    elim h [
      | inl same ↦ or_left (are_same (Dead c e) (Dead c d)) (is_on_path (map (λ f. Dead c f) ds) (Dead c d))
          (and_from (nat_eq c c) (nat_eq e d) (eq-eqb c c refl) (eq-eqb e d same))
      | inr t ↦ or_right (are_same (Dead c e) (Dead c d)) (is_on_path (map (λ f. Dead c f) ds) (Dead c d)) (on_block c ds d t)
    ]

from_block : (c : ℕ) (ds : List ℕ) (k d : ℕ) → is_on_path (map (λ e. Dead c e) ds) (Dead k d) ≡ true → (c ≡ k) × IsIn ds d
from_block c [] k d h = absurd (cc)
from_block c (e ∷ ds) k d h =
    elim (or_cases (are_same (Dead c e) (Dead k d)) (is_on_path (map (λ f. Dead c f) ds) (Dead k d)) h) [
      | inl same ↦ (let both = and_parts (nat_eq c k) (nat_eq e d) same in (eqb-true c k both.0, inl (eqb-true e d both.1)))
      | inr t ↦ (let u = from_block c ds k d t in (u.0, inr u.1))
    ]

module _ (it : Designed) where
  -- the goals of one channel, and then others
  block_goals : (c : ℕ) (ds : List ℕ) (before rest : List Lit) → c < it.net.channels → ((d : ℕ) → IsIn ds d → IsIn (colours_at it.colours c) d) → Once ds →
      ((d : ℕ) → IsIn ds d → is_on_path before (Dead c d) ≡ true → ⊥) → AreGoals it (before ++ map (λ d. Dead c d) ds) rest →
      AreGoals it before (map (λ d. Dead c d) ds ++ rest)
  block_goals c [] before rest is of once new then = subst (λ (l : List Lit). AreGoals it l rest) (append-nil before) then
  block_goals c (d ∷ ds) before rest is of once new then = (
    and_from (nat_lt c it.net.channels) (has_colour (colours_at it.colours c) d) (lt-ltb c it.net.channels is) (has_from d (colours_at it.colours c) (of d (inl refl))),
    (
      false_from_ne_true (is_on_path before (Dead c d)) (new d (inl refl)),
      block_goals c ds (before ++ Dead c d ∷ []) rest is (λ e h. of e (inr h)) once.1
          (λ e h on. elim (on_either before (Dead c d ∷ []) (Dead c e) on) [
            | inl a ↦ new e (inr h) a
            | inr b ↦ (let u = from_block c (d ∷ []) c e b in elim u.1 [ inl same ↦ once.0 (subst (IsIn ds) (sym same) h) | inr none ↦ none ])
          ])
          (subst (λ (l : List Lit). AreGoals it l rest) (sym (append_assoc before (Dead c d ∷ []) (map (λ e. Dead c e) ds))) then),
    ),
  )

  channel_goals : ((c : ℕ) → Rises (colours_at it.colours c)) → (cs : List ℕ) (before : List Lit) → ((c : ℕ) → IsIn cs c → c < it.net.channels) → Once cs →
      ((c d : ℕ) → IsIn cs c → is_on_path before (Dead c d) ≡ true → ⊥) → AreGoals it before (goals_of (colours_at it.colours) cs)
  channel_goals rise [] before within once new = tt
  channel_goals rise (c ∷ cs) before within once new =
      let ds = colours_at it.colours c in
      block_goals c ds before (goals_of (colours_at it.colours) cs) (within c (inl refl)) (λ d h. h) (rise_once ds (rise c)) (λ d h on. new c d (inl refl) on)
      (channel_goals rise cs (before ++ map (λ d. Dead c d) ds) (λ e h. within e (inr h)) once.1
      (λ e d h on. elim (on_either before (map (λ f. Dead c f) ds) (Dead e d) on) [
        | inl a ↦ new e d (inr h) a
        | inr b ↦ (let u = from_block c ds e d b in once.0 (subst (IsIn cs) (sym u.0) h))
      ]))

  is_goal : (cs : List ℕ) (c d : ℕ) → IsIn cs c → IsIn (colours_at it.colours c) d → is_on_path (goals_of (colours_at it.colours) cs) (Dead c d) ≡ true
  is_goal [] c d h of = absurd h
  is_goal (e ∷ cs) c d h of =
      elim h [
        | inl same ↦ on_left (map (λ f. Dead e f) (colours_at it.colours e)) (goals_of (colours_at it.colours) cs) (Dead c d)
            (subst (λ (k : ℕ). is_on_path (map (λ f. Dead e f) (colours_at it.colours e)) (Dead k d) ≡ true) same
            (on_block e (colours_at it.colours e) d (subst (λ (k : ℕ). IsIn (colours_at it.colours k) d) (sym same) of)))
        | inr t ↦ on_right (map (λ f. Dead e f) (colours_at it.colours e)) (goals_of (colours_at it.colours) cs) (Dead c d) (is_goal cs c d t of)
      ]

all_append : (ls : List Lit) (xs ys : List (ℕ × ℕ)) → all_goals ls xs ≡ true → all_goals ls ys ≡ true → all_goals ls (xs ++ ys) ≡ true
all_append ls [] ys a b = b
all_append ls (x ∷ xs) ys a b =
    let both = and_parts (is_on_path ls (Dead x.0 x.1)) (all_goals ls xs) a in
    and_from (is_on_path ls (Dead x.0 x.1)) (all_goals ls (xs ++ ys)) both.0 (all_append ls xs ys both.1 b)

all_block : (ls : List Lit) (c : ℕ) (ds : List ℕ) → ((d : ℕ) → IsIn ds d → is_on_path ls (Dead c d) ≡ true) → all_goals ls (map (λ d. (c, d)) ds) ≡ true
all_block ls c [] each = refl
all_block ls c (d ∷ ds) each = and_from (is_on_path ls (Dead c d)) (all_goals ls (map (λ e. (c, e)) ds)) (each d (inl refl)) (all_block ls c ds (λ e h. each e (inr h)))

all_pairs : (ls : List Lit) (colours : ℕ → List ℕ) (n : ℕ) → ((c d : ℕ) → c < n → IsIn (colours c) d → is_on_path ls (Dead c d) ≡ true) → all_goals ls (pairs colours n) ≡ true
all_pairs ls colours zero each = refl
all_pairs ls colours (suc n) each =
    all_append ls (pairs colours n) (map (λ d. (n, d)) (colours n)) (all_pairs ls colours n (λ c d low h. each c d (omega arith) h)) (all_block ls n (colours n) (λ d h. each n d (omega arith) h))

-- what comes next behind a channel is a channel
below_of : (net : Network) → IsNet net → (p x : ℕ) (o : Option Component) → slice_get net.prims p ≡ o → IsIn (outputs_of o) x → x < net.channels
below_of net is p x None at h = absurd h
below_of net is p x (Some m) at h = is_channel net m p x is at h

below_one : (net : Network) → IsNet net → (ps : List ℕ) (x : ℕ) → IsIn (outputs_of_one net ps) x → x < net.channels
below_one net is [] x h = absurd h
below_one net is (p ∷ []) x h = below_of net is p x (slice_get net.prims p) refl h
below_one net is (p ∷ q ∷ ps) x h = absurd h

onward_below : (net : Network) → IsNet net → (c x : ℕ) → IsIn (onward net c) x → x < net.channels
onward_below net is c x h = below_one net is (targets net.prims c) x h

-- all channels are left, each once
pub order_goals : (it : Designed) → IsDesigned it → (ls : List Lit) → IsGoalOrder it ls → AreGoals it [] ls
order_goals it is ls o =
    let n = it.net.channels in
    let next = onward it.net in
    let w = o.leaving.1 in
    subst (AreGoals it []) (sym o.goals)
    (channel_goals it is.colours.rise o.channels [] (left_meets next (λ c. c < n) (λ c x low h. onward_below it.net is.net c x h) [] (range_with_len 0 n) o.channels o.leaving.0 w (λ x h. let k = in_range n 0 x h in omega arith))
    (left_once next [] (range_with_len 0 n) o.channels o.leaving.0 w) (λ c d h on. cc))

pub order_complete : (it : Designed) → (ls : List Lit) → IsGoalOrder it ls → all_goals ls (move_columns it) ≡ true
order_complete it ls o =
    let n = it.net.channels in
    let next = onward it.net in
    subst (λ (l : List Lit). all_goals l (move_columns it) ≡ true) (sym o.goals)
    (all_pairs (goals_of (colours_at it.colours) o.channels) (colours_at it.colours) n
    (λ c d low h. is_goal it o.channels c d
    (elim (seen_left next [] (range_with_len 0 n) o.channels o.leaving.0 c o.leaving.1 (visit_seen next [] (range_with_len 0 n) o.channels o.leaving.0 c o.leaving.1 (range_has n 0 c (omega arith) (omega arith)))) [
      | inl none ↦ absurd none
      | inr t ↦ t
    ]) h))
