-- What moves through a table is the image of what moves before it.
use Rattle.std.proofs.Common.{◌≡◌, ℕ, zero, suc, ◌+◌, ◌<◌, ◌≤◌, Bool, true, false, ◌&&◌, Option, Some, None, List, [], ◌∷◌, ◌++◌, map, slice_index, nat_eq, refl, sym, ◌∙◌, ap, inl, inr, arith, cond, pos, neg_ℤ, ℤ, ◌+ℤ◌, is_some, not, ◌||◌}
use Rattle.std.proofs.lemmas.Int.{ints}
use Rattle.std.proofs.lemmas.Bool.{cases_eq, eq-eqb, ne_eqb, cond-true, cond-false, eqb-true}
use Rattle.xm_flow.specs.FlowRows.{Column, Moves, Term, minus, plus, row_value, taken_to}
use Rattle.xm_model.specs.Frame.{ForkEquation, FunctionEquation, JoinEquation, SwitchEquation}
use Rattle.xm_model.specs.Next.{move}
use Rattle.xm_model.specs.Membership.{times}
use Rattle.xm_model.specs.Run.{is_offer, moves}
use Rattle.xm_model.specs.Signals.{Signals, at_side, only_if, takes_a, through, to_side_a, to_side_b}
use Rattle.xm_model.specs.declared.primitive.Side.{Side}
use Rattle.xm_model.specs.declared.primitive.Side.TheVariants.{A, B}

-- how often any of these colours moved
abbrev pub total : (ℕ → Signals) → ℕ → List ℕ → ℕ → ℕ
total φ c [] t = 0
total φ c (d ∷ ds) t = moves φ c d t + total φ c ds t

pub one_if : (x y : ℕ) → nat_eq x y ≡ nat_eq y x
one_if x y = elim (cases_eq x y) [
  | inl same ↦ eq-eqb x y same ∙ sym (eq-eqb y x (sym same))
  | inr differ ↦ ne_eqb x y differ ∙ sym (ne_eqb y x (λ same. differ (sym same)))
]

times-cond : (a : Bool) (x c : ℕ) (ts : List ℕ) → times x (cond a (c ∷ ts) ts) ≡ cond a (cond (nat_eq c x) 1 0 + times x ts) (times x ts)
times-cond true x c ts = refl
times-cond false x c ts = refl

go : (a b k : Bool) (r n : ℕ) → (k ≡ true → a ≡ b) → r ≡ cond b n 0 → cond a (cond k 1 0 + r) r ≡ cond b (cond k 1 0 + n) 0
go true true true r n h is = omega arith
go true true false r n h is = omega arith
go true false true r n h is = let same = h refl in cc
go true false false r n h is = omega arith
go false true true r n h is = let same = h refl in cc
go false true false r n h is = omega arith
go false false true r n h is = omega arith
go false false false r n h is = omega arith

-- how often a colour stands among those that a table takes to e
times_taken : (table : List ℕ) (e x : ℕ) (cs : List ℕ) → times x (taken_to table e cs) ≡ cond (nat_eq (slice_index table x) e) (times x cs) 0
times_taken table e x [] = elim (cases_eq (slice_index table x) e) [
  | inl same ↦ sym (cond-true {A = ℕ} (nat_eq (slice_index table x) e) 0 0 (eq-eqb (slice_index table x) e same))
  | inr differ ↦ sym (cond-false {A = ℕ} (nat_eq (slice_index table x) e) 0 0 (ne_eqb (slice_index table x) e differ))
]
times_taken table e x (c ∷ cs) =
    times-cond (nat_eq (slice_index table c) e) x c (taken_to table e cs)
    ∙ go (nat_eq (slice_index table c) e) (nat_eq (slice_index table x) e) (nat_eq c x) (times x (taken_to table e cs)) (times x cs)
    (λ same. ap (λ y. nat_eq (slice_index table y) e) (eqb-true c x same)) (times_taken table e x cs)

-- one more move of a colour of the list
step_total : (φ : ℕ → Signals) (c t : ℕ) (ds : List ℕ) (x : ℕ) → move (φ t) c ≡ Some x → total φ c ds (suc t) ≡ total φ c ds t + times x ds
step_total φ c t [] x is = omega arith
step_total φ c t (d ∷ ds) x is =
    let rest = step_total φ c t ds x is in
    let test : is_offer d (move (φ t) c) ≡ nat_eq x d = ap (is_offer d) is in
    let turned = one_if x d in
    rw (test, turned) (omega (arith, rest))

still_total : (φ : ℕ → Signals) (c t : ℕ) (ds : List ℕ) → move (φ t) c ≡ None → total φ c ds (suc t) ≡ total φ c ds t
still_total φ c t [] is = refl
still_total φ c t (d ∷ ds) is =
    let rest = still_total φ c t ds is in
    let test : is_offer d (move (φ t) c) ≡ false = ap (is_offer d) is in
    rw test (omega (arith, rest))

-- what moved through a table is what moved before it and is taken there
pub image_flow : (φ : ℕ → Signals) (input out cycles e : ℕ) (table cs : List ℕ) → ((t : ℕ) → t < cycles → move (φ t) out ≡ through table (move (φ t) input)) →
    ((t x : ℕ) → t < cycles → move (φ t) input ≡ Some x → times x cs ≡ 1) → (t : ℕ) → t ≤ cycles → moves φ out e t ≡ total φ input (taken_to table e cs) t
image_flow φ input out cycles e table cs image once zero h = none_yet (taken_to table e cs) where
  none_yet : (ds : List ℕ) → 0 ≡ total φ input ds 0
  none_yet [] = refl
  none_yet (d ∷ ds) = let rest = none_yet ds in omega (arith, rest)
image_flow φ input out cycles e table cs image once (suc t) h =
    by_move (move (φ t) input) refl (image_flow φ input out cycles e table cs image once t (omega arith)) where
      by_move : (o : Option ℕ) → move (φ t) input ≡ o → moves φ out e t ≡ total φ input (taken_to table e cs) t → moves φ out e (suc t) ≡ total φ input (taken_to table e cs) (suc t)
      by_move None is before =
          let moved : move (φ t) out ≡ None = image t (omega arith) ∙ ap (through table) is in
          let step = still_total φ input t (taken_to table e cs) is in
          rw (moved, step) (omega (arith, before))
      by_move (Some x) is before =
          let moved : move (φ t) out ≡ Some (slice_index table x) = image t (omega arith) ∙ ap (through table) is in
          let step = step_total φ input t (taken_to table e cs) x is in
          let counted = times_taken table e x cs in
          let one = once t x (omega arith) is in
          rw (moved, step, counted, one) (omega (arith, before))

-- the moves of a function and of a fork go through their tables
pub function_moves : (input out : ℕ) (table : List ℕ) (φ : Signals) → FunctionEquation input out table φ → move φ out ≡ through table (move φ input)
function_moves input out table φ e = rw (e.offer_out, e.ready_in) (swap (φ.ready out) (φ.offer input)) where
  swap : (r : Bool) (o : Option ℕ) → only_if r (through table o) ≡ through table (only_if r o)
  swap true o = refl
  swap false o = refl

pub fork_moves_a : (input a b : ℕ) (ta tb : List ℕ) (φ : Signals) → ForkEquation input a b ta tb φ → move φ a ≡ through ta (move φ input)
fork_moves_a input a b ta tb φ e = rw (e.offer_a, e.ready_in) (swap (φ.ready a) (φ.ready b) (φ.offer input)) where
  swap : (r q : Bool) (o : Option ℕ) → only_if r (only_if q (through ta o)) ≡ through ta (only_if (r && q) o)
  swap true true o = refl
  swap true false o = refl
  swap false q o = refl

pub value-append : (at : Column → ℤ) (xs ys : List Term) → row_value at (xs ++ ys) ≡ row_value at xs +ℤ row_value at ys
value-append at [] ys = omega (arith, ints)
value-append at (x ∷ xs) ys = let rest = value-append at xs ys in omega (arith, ints)

-- the moves of these colours, each taken once, and each taken away
pub value-minus : (at : Column → ℤ) (φ : ℕ → Signals) (c t : ℕ) → ((d : ℕ) → at (Moves c d) ≡ pos (moves φ c d t)) → (ds : List ℕ) → row_value at (map (λ d. minus (Moves c d)) ds) ≡ neg_ℤ (pos (total φ c ds t))
value-minus at φ c t is [] = omega (arith, ints)
value-minus at φ c t is (d ∷ ds) =
    let rest = value-minus at φ c t is ds in
    let here = is d in
    rw here (omega (arith, ints))

pub value-plus : (at : Column → ℤ) (φ : ℕ → Signals) (c t : ℕ) → ((d : ℕ) → at (Moves c d) ≡ pos (moves φ c d t)) → (ds : List ℕ) → row_value at (map (λ d. plus (Moves c d)) ds) ≡ pos (total φ c ds t)
value-plus at φ c t is [] = omega (arith, ints)
value-plus at φ c t is (d ∷ ds) =
    let rest = value-plus at φ c t is ds in
    let here = is d in
    rw here (omega (arith, ints))

pub fork_moves_b : (input a b : ℕ) (ta tb : List ℕ) (φ : Signals) → ForkEquation input a b ta tb φ → move φ b ≡ through tb (move φ input)
fork_moves_b input a b ta tb φ e = rw (e.offer_b, e.ready_in) (swap (φ.ready a) (φ.ready b) (φ.offer input)) where
  swap : (q r : Bool) (o : Option ℕ) → only_if r (only_if q (through tb o)) ≡ through tb (only_if (q && r) o)
  swap true true o = refl
  swap true false o = refl
  swap false true o = refl
  swap false false o = refl

-- all three channels of a join move together
pub join_moves : (a b out : ℕ) (pass : Side) (φ : Signals) → JoinEquation a b out pass φ → (move φ out ≡ at_side pass (move φ a) (move φ b)) × (is_some (move φ a) ≡ is_some (move φ b))
join_moves a b out pass φ e = rw (e.offer_out, e.ready_a, e.ready_b) (together pass (φ.ready out) (φ.offer a) (φ.offer b)) where
  together : (pass : Side) (r : Bool) (x y : Option ℕ) →
      (only_if r (only_if (is_some x && is_some y) (at_side pass x y)) ≡ at_side pass (only_if (r && is_some y) x) (only_if (r && is_some x) y))
      × (is_some (only_if (r && is_some y) x) ≡ is_some (only_if (r && is_some x) y))
  together A true (Some x) (Some y) = (refl, refl)
  together A true (Some x) None = (refl, refl)
  together A true None (Some y) = (refl, refl)
  together A true None None = (refl, refl)
  together A false x y = (refl, refl)
  together B true (Some x) (Some y) = (refl, refl)
  together B true (Some x) None = (refl, refl)
  together B true None (Some y) = (refl, refl)
  together B true None None = (refl, refl)
  together B false x y = (refl, refl)

-- what moves into a switch moves on its side
pub switch_moves : (input a b : ℕ) (to_a : List Bool) (φ : Signals) → SwitchEquation input a b to_a φ → (move φ a ≡ to_side_a to_a (move φ input)) × (move φ b ≡ to_side_b to_a (move φ input))
switch_moves input a b to_a φ e = rw (e.ready_in, e.offer_a, e.offer_b) (by_offer (φ.ready a) (φ.ready b) (φ.offer input)) where
  by_test : (t ra rb : Bool) (x : ℕ) (f : Option ℕ → Option ℕ) (g : Option ℕ → Option ℕ) → f None ≡ None → g None ≡ None → f (Some x) ≡ only_if t (Some x) → g (Some x) ≡ only_if (not t) (Some x) →
      (only_if ra (f (Some x)) ≡ f (only_if ((is_some (f (Some x)) && ra) || (is_some (g (Some x)) && rb)) (Some x)))
      × (only_if rb (g (Some x)) ≡ g (only_if ((is_some (f (Some x)) && ra) || (is_some (g (Some x)) && rb)) (Some x)))
  by_test true true true x f g f0 g0 f1 g1 = rw (f1, g1) ((cc), (cc))
  by_test true true false x f g f0 g0 f1 g1 = rw (f1, g1) ((cc), (cc))
  by_test true false true x f g f0 g0 f1 g1 = rw (f1, g1) ((cc), (cc))
  by_test true false false x f g f0 g0 f1 g1 = rw (f1, g1) ((cc), (cc))
  by_test false true true x f g f0 g0 f1 g1 = rw (f1, g1) ((cc), (cc))
  by_test false false true x f g f0 g0 f1 g1 = rw (f1, g1) ((cc), (cc))
  by_test false true false x f g f0 g0 f1 g1 = rw (f1, g1) ((cc), (cc))
  by_test false false false x f g f0 g0 f1 g1 = rw (f1, g1) ((cc), (cc))

  by_offer : (ra rb : Bool) (o : Option ℕ) →
      (only_if ra (to_side_a to_a o) ≡ to_side_a to_a (only_if ((is_some (to_side_a to_a o) && ra) || (is_some (to_side_b to_a o) && rb)) o))
      × (only_if rb (to_side_b to_a o) ≡ to_side_b to_a (only_if ((is_some (to_side_a to_a o) && ra) || (is_some (to_side_b to_a o) && rb)) o))
  by_offer ra rb (Some x) = by_test (takes_a to_a x) ra rb x (to_side_a to_a) (to_side_b to_a) refl refl refl refl
  by_offer true true None = (refl, refl)
  by_offer true false None = (refl, refl)
  by_offer false true None = (refl, refl)
  by_offer false false None = (refl, refl)

-- what moves alike is counted alike
pub same_moves : (φ : ℕ → Signals) (c e d cycles : ℕ) → ((t : ℕ) → t < cycles → is_offer d (move (φ t) c) ≡ is_offer d (move (φ t) e)) → (t : ℕ) → t ≤ cycles → moves φ c d t ≡ moves φ e d t
same_moves φ c e d cycles same zero h = refl
same_moves φ c e d cycles same (suc t) h =
    let before = same_moves φ c e d cycles same t (omega arith) in
    let now = same t (omega arith) in
    rw now (omega (arith, before))

-- what moves together is counted together
pub same_totals : (φ : ℕ → Signals) (a b cycles : ℕ) (ca cb : List ℕ) → ((t : ℕ) → t < cycles → is_some (move (φ t) a) ≡ is_some (move (φ t) b)) →
    ((t x : ℕ) → t < cycles → move (φ t) a ≡ Some x → times x ca ≡ 1) → ((t x : ℕ) → t < cycles → move (φ t) b ≡ Some x → times x cb ≡ 1) →
    (t : ℕ) → t ≤ cycles → total φ a ca t ≡ total φ b cb t
same_totals φ a b cycles ca cb same once_a once_b zero h = none_yet a ca ∙ sym (none_yet b cb) where
  none_yet : (c : ℕ) (ds : List ℕ) → total φ c ds 0 ≡ 0
  none_yet c [] = refl
  none_yet c (d ∷ ds) = let rest = none_yet c ds in omega (arith, rest)
same_totals φ a b cycles ca cb same once_a once_b (suc t) h =
    by_moves (move (φ t) a) (move (φ t) b) refl refl (same_totals φ a b cycles ca cb same once_a once_b t (omega arith)) where
      by_moves : (o u : Option ℕ) → move (φ t) a ≡ o → move (φ t) b ≡ u → total φ a ca t ≡ total φ b cb t → total φ a ca (suc t) ≡ total φ b cb (suc t)
      by_moves None None is_a is_b before = still_total φ a t ca is_a ∙ before ∙ sym (still_total φ b t cb is_b)
      by_moves (Some x) None is_a is_b before = let both = same t (omega arith) in let one = ap is_some is_a in let two = ap is_some is_b in absurd (cc)
      by_moves None (Some y) is_a is_b before = let both = same t (omega arith) in let one = ap is_some is_a in let two = ap is_some is_b in absurd (cc)
      by_moves (Some x) (Some y) is_a is_b before =
          let left = step_total φ a t ca x is_a in let right = step_total φ b t cb y is_b in
          let one = once_a t x (omega arith) is_a in let two = once_b t y (omega arith) is_b in
          omega (arith, left, right, one, two, before)

-- a colour that goes to a side is counted there as before the switch
pub to_a_same : (to_a : List Bool) (d : ℕ) (o : Option ℕ) → takes_a to_a d ≡ true → is_offer d (to_side_a to_a o) ≡ is_offer d o
to_a_same to_a d None goes = refl
to_a_same to_a d (Some x) goes = by_test (takes_a to_a x) refl where
  by_test : (t : Bool) → takes_a to_a x ≡ t → is_offer d (only_if t (Some x)) ≡ nat_eq x d
  by_test true is = refl
  by_test false is = sym (ne_eqb x d (λ same. let both = ap (takes_a to_a) same in cc))

pub to_b_same : (to_a : List Bool) (d : ℕ) (o : Option ℕ) → takes_a to_a d ≡ false → is_offer d (to_side_b to_a o) ≡ is_offer d o
to_b_same to_a d None goes = refl
to_b_same to_a d (Some x) goes = by_test (takes_a to_a x) refl where
  by_test : (t : Bool) → takes_a to_a x ≡ t → is_offer d (only_if (not t) (Some x)) ≡ nat_eq x d
  by_test false is = refl
  by_test true is = sym (ne_eqb x d (λ same. let both = ap (takes_a to_a) same in cc))
