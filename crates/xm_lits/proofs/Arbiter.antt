-- The arbiter of a merge, over cycles that repeat.
use Rattle.std.proofs.Common.{◌≡◌, ℕ, zero, suc, ◌+◌, ◌<◌, Bool, true, false, ◌&&◌, Option, Some, None, refl, sym, ◌∙◌}
use Rattle.std.proofs.Common.{ap, subst, inl, inr, is_some, arith, add-suc, add-zero, ◌-◌}
use Rattle.std.specs.Prelude.{◌⊎◌}
use Rattle.std.proofs.lemmas.Bool.{and_right, false_from_ne_true}
use Rattle.xm_design.specs.Lemmas.Offers.{is_some_true}
use Rattle.xm_lits.proofs.Repeat.{Dead, Stays}
use Rattle.xm_model.specs.Frame.{MergeEquation}
use Rattle.xm_model.specs.Next.{next_pref}
use Rattle.xm_model.specs.Signals.{Signals, grant, granted_offer, is_a, is_b, other}
use Rattle.xm_model.specs.declared.primitive.Side.{Side}
use Rattle.xm_model.specs.declared.primitive.Side.TheVariants.{A, B}

-- a merge in every cycle
pub record MergeRun (a b out : ℕ) (pref : ℕ → Side) (φ : ℕ → Signals) : Type 0 where
  pub equation : (t : ℕ) → MergeEquation a b out (pref t) (φ t)
  pub step : (t : ℕ) →
      pref (suc t) ≡ next_pref (pref t) (grant (pref t) ((φ t).offer a) ((φ t).offer b)) ((φ t).ready out)

-- what is granted offers
pub granted_some : (pref : Side) (x y : Option ℕ) (d : ℕ) → granted_offer (grant pref x y) x y ≡ Some d →
    ((grant pref x y ≡ Some A) × (x ≡ Some d)) ⊎ ((grant pref x y ≡ Some B) × (y ≡ Some d))
granted_some A (Some x) y d h = inl (refl, h)
granted_some A None (Some y) d h = inr (refl, h)
granted_some A None None d h = cc
granted_some B x (Some y) d h = inr (refl, h)
granted_some B (Some x) None d h = inl (refl, h)
granted_some B None None d h = cc

module _ (a b out : ℕ) (pref : ℕ → Side) (φ : ℕ → Signals) (run : MergeRun a b out pref φ) where
  abbrev pub granted : ℕ → Option Side
  granted t = grant (pref t) ((φ t).offer a) ((φ t).offer b)

  -- a stalled grant and its offer stay
  pub a_holds : (t d : ℕ) → Stays a φ → granted t ≡ Some A → (φ t).offer a ≡ Some d → (φ t).ready out ≡ false →
      (granted (suc t) ≡ Some A) × ((φ (suc t)).offer a ≡ Some d)
  a_holds t d stays is is_offered stuck =
      let e = run.equation t in
      let not_in : (φ t).ready a ≡ false = e.ready_a ∙ and_right (is_a (grant (pref t) ((φ t).offer a) ((φ t).offer b))) ((φ t).ready out) stuck in
      let again : (φ (suc t)).offer a ≡ Some d = stays t d is_offered not_in in
      let turn : pref (suc t) ≡ A = run.step t ∙ rw (is, stuck) in
      (rw (turn, again), again)

  pub b_holds : (t d : ℕ) → Stays b φ → granted t ≡ Some B → (φ t).offer b ≡ Some d → (φ t).ready out ≡ false →
      (granted (suc t) ≡ Some B) × ((φ (suc t)).offer b ≡ Some d)
  b_holds t d stays is is_offered stuck =
      let e = run.equation t in
      let not_in : (φ t).ready b ≡ false = e.ready_b ∙ and_right (is_b (grant (pref t) ((φ t).offer a) ((φ t).offer b))) ((φ t).ready out) stuck in
      let again : (φ (suc t)).offer b ≡ Some d = stays t d is_offered not_in in
      let turn : pref (suc t) ≡ B = run.step t ∙ rw (is, stuck) in
      (rw (turn, again), again)

  a_forever : (d : ℕ) → Stays a φ → Dead out d φ → granted 0 ≡ Some A → (φ 0).offer a ≡ Some d → (t : ℕ) →
      (granted t ≡ Some A) × ((φ t).offer a ≡ Some d)
  a_forever d stays dead is is_offered zero = (is, is_offered)
  a_forever d stays dead is is_offered (suc t) =
      let before = a_forever d stays dead is is_offered t in
      a_holds t d stays before.0 before.1 (dead t).1

  b_forever : (d : ℕ) → Stays b φ → Dead out d φ → granted 0 ≡ Some B → (φ 0).offer b ≡ Some d → (t : ℕ) →
      (granted t ≡ Some B) × ((φ t).offer b ≡ Some d)
  b_forever d stays dead is is_offered zero = (is, is_offered)
  b_forever d stays dead is is_offered (suc t) =
      let before = b_forever d stays dead is is_offered t in
      b_holds t d stays before.0 before.1 (dead t).1

  -- a dead output has a dead side
  pub dead_side : (d : ℕ) → Stays a φ → Stays b φ → Dead out d φ → (Dead a d φ) ⊎ (Dead b d φ)
  dead_side d stays_a stays_b dead =
      elim (granted_some (pref 0) ((φ 0).offer a) ((φ 0).offer b) d (sym (run.equation 0).offer_out ∙ (dead 0).0)) [
        | inl w ↦ inl (λ t. ((a_forever d stays_a dead w.0 w.1 t).1, (run.equation t).ready_a ∙ and_right _ ((φ t).ready out) (dead t).1))
        | inr w ↦ inr (λ t. ((b_forever d stays_b dead w.0 w.1 t).1, (run.equation t).ready_b ∙ and_right _ ((φ t).ready out) (dead t).1))
      ]

-- the two sides of a merge may be swapped
pub grant-other : (pref : Side) (x y : Option ℕ) →
    granted_offer (grant (other pref) y x) y x ≡ granted_offer (grant pref x y) x y
grant-other A (Some x) (Some y) = refl
grant-other A (Some x) None = refl
grant-other A None (Some y) = refl
grant-other A None None = refl
grant-other B (Some x) (Some y) = refl
grant-other B (Some x) None = refl
grant-other B None (Some y) = refl
grant-other B None None = refl

pub is_a-other : (pref : Side) (x y : Option ℕ) → is_a (grant (other pref) y x) ≡ is_b (grant pref x y)
is_a-other A (Some x) (Some y) = refl
is_a-other A (Some x) None = refl
is_a-other A None (Some y) = refl
is_a-other A None None = refl
is_a-other B (Some x) (Some y) = refl
is_a-other B (Some x) None = refl
is_a-other B None (Some y) = refl
is_a-other B None None = refl

pub is_b-other : (pref : Side) (x y : Option ℕ) → is_b (grant (other pref) y x) ≡ is_a (grant pref x y)
is_b-other A (Some x) (Some y) = refl
is_b-other A (Some x) None = refl
is_b-other A None (Some y) = refl
is_b-other A None None = refl
is_b-other B (Some x) (Some y) = refl
is_b-other B (Some x) None = refl
is_b-other B None (Some y) = refl
is_b-other B None None = refl

pub next_pref-other : (pref : Side) (x y : Option ℕ) (moved : Bool) →
    next_pref (other pref) (grant (other pref) y x) moved ≡ other (next_pref pref (grant pref x y) moved)
next_pref-other A (Some x) (Some y) true = refl
next_pref-other A (Some x) (Some y) false = refl
next_pref-other A (Some x) None true = refl
next_pref-other A (Some x) None false = refl
next_pref-other A None (Some y) true = refl
next_pref-other A None (Some y) false = refl
next_pref-other A None None moved = refl
next_pref-other B (Some x) (Some y) true = refl
next_pref-other B (Some x) (Some y) false = refl
next_pref-other B (Some x) None true = refl
next_pref-other B (Some x) None false = refl
next_pref-other B None (Some y) true = refl
next_pref-other B None (Some y) false = refl
next_pref-other B None None moved = refl

pub swapped : (a b out : ℕ) (pref : ℕ → Side) (φ : ℕ → Signals) → MergeRun a b out pref φ →
    MergeRun b a out (λ t. other (pref t)) φ
swapped a b out pref φ run =
    record {
      equation = λ t. record {
        offer_out = (run.equation t).offer_out ∙ sym (grant-other (pref t) ((φ t).offer a) ((φ t).offer b));
        ready_a = (run.equation t).ready_b ∙ ap (λ g. g && (φ t).ready out) (sym (is_a-other (pref t) ((φ t).offer a) ((φ t).offer b)));
        ready_b = (run.equation t).ready_a ∙ ap (λ g. g && (φ t).ready out) (sym (is_b-other (pref t) ((φ t).offer a) ((φ t).offer b)));
      };
      step = λ t. ap other (run.step t) ∙ sym (next_pref-other (pref t) ((φ t).offer a) ((φ t).offer b) ((φ t).ready out));
    }

-- where side a always offers, it is granted or the other side is
pub grant_cases : (pref : Side) (x y : Option ℕ) (d : ℕ) → x ≡ Some d →
    (grant pref x y ≡ Some A) ⊎ ((grant pref x y ≡ Some B) × (is_some y ≡ true))
grant_cases A (Some x) y d h = inl refl
grant_cases A None y d h = cc
grant_cases B x (Some y) d h = inr (refl, refl)
grant_cases B (Some x) None d h = inl refl
grant_cases B None None d h = cc

module _ (a b out : ℕ) (pref : ℕ → Side) (φ : ℕ → Signals) (run : MergeRun a b out pref φ) (n : ℕ) (is_long : 0 < n) (again : (t : ℕ) → φ (t + n) ≡ φ t) where
  abbrev pub grants : ℕ → Option Side
  grants t = grant (pref t) ((φ t).offer a) ((φ t).offer b)

  -- side a, once preferred, is granted and stalled for ever, where it always offers and is never ready
  held_up : (offering : (t : ℕ) → (d : ℕ) × ((φ t).offer a ≡ Some d)) → ((t : ℕ) → (φ t).ready a ≡ false) →
      (t : ℕ) → pref t ≡ A → (k : ℕ) → pref (t + k) ≡ A
  held_up offering never t is zero = rw add-zero is
  held_up offering never t is (suc k) =
      let before : pref (t + k) ≡ A = held_up offering never t is k in
      let o = offering (t + k) in
      let e = run.equation (t + k) in
      let granted_a : grant (pref (t + k)) ((φ (t + k)).offer a) ((φ (t + k)).offer b) ≡ Some A = rw (before, o.1) in
      let stalled : (φ (t + k)).ready out ≡ false = ap (λ g. is_a g && (φ (t + k)).ready out) (sym granted_a) ∙ sym e.ready_a ∙ never (t + k) in
      rw add-suc (run.step (t + k) ∙ rw (granted_a, stalled))

  -- then nothing moves on the output
  pub blocked : (offering : (t : ℕ) → (d : ℕ) × ((φ t).offer a ≡ Some d)) → ((t : ℕ) → (φ t).ready a ≡ false) →
      (t : ℕ) → (φ t).ready out ≡ false
  blocked offering never t =
      let o = offering t in
      let e = run.equation t in
      elim (grant_cases (pref t) ((φ t).offer a) ((φ t).offer b) o.0 o.1) [
        | inl is ↦ ap (λ g. is_a g && (φ t).ready out) (sym is) ∙ sym e.ready_a ∙ never t
        | inr w ↦ false_from_ne_true ((φ t).ready out) (λ moved.
            let turn : pref (suc t) ≡ A = run.step t ∙ rw (w.0, moved) in
            let b_ready : (φ t).ready b ≡ true = e.ready_b ∙ rw (w.0, moved) in
            let b_ready_again : (φ (t + n)).ready b ≡ true = ap (λ f. f.ready b) (again t) ∙ b_ready in
            let later : pref (t + n) ≡ A = subst (λ (m : ℕ). pref m ≡ A) (let m : suc t + (n - 1) ≡ t + n = omega arith in m) (held_up offering never (suc t) turn (n - 1)) in
            let p = offering (t + n) in
            let granted_a : grant (pref (t + n)) ((φ (t + n)).offer a) ((φ (t + n)).offer b) ≡ Some A = rw (later, p.1) in
            let b_not : (φ (t + n)).ready b ≡ false = (run.equation (t + n)).ready_b ∙ rw granted_a in
            cc)
      ]

  -- a side that always offers makes the output offer
  pub out_offers : (t d : ℕ) → (φ t).offer a ≡ Some d →
      (e : ℕ) × ((φ t).offer out ≡ Some e) × ((e ≡ d) ⊎ ((φ t).offer b ≡ Some e))
  out_offers t d h =
      elim (grant_cases (pref t) ((φ t).offer a) ((φ t).offer b) d h) [
        | inl is ↦ (d, (run.equation t).offer_out ∙ rw is h, inl refl)
        | inr w ↦ let y = is_some_true ((φ t).offer b) w.1 in (y.0, (run.equation t).offer_out ∙ rw w.0 y.1, inr y.1)
      ]

  -- an offer on a channel that is never ready stays
  pub stays_on : (c d : ℕ) → Stays c φ → ((t : ℕ) → (φ t).ready c ≡ false) → (φ 0).offer c ≡ Some d → (t : ℕ) →
      (φ t).offer c ≡ Some d
  stays_on c d stays never here zero = here
  stays_on c d stays never here (suc t) = stays t d (stays_on c d stays never here t) (never t)

  -- a dead side makes the output dead, with its colour or one that the other side offers
  pub dead_out : (d : ℕ) → Stays out φ → Dead a d φ → (e : ℕ) × Dead out e φ × ((e ≡ d) ⊎ ((φ 0).offer b ≡ Some e))
  dead_out d stays dead =
      let never : (t : ℕ) → (φ t).ready out ≡ false = blocked (λ t. (d, (dead t).0)) (λ t. (dead t).1) in
      let o = out_offers 0 d (dead 0).0 in
      (o.0, λ t. (stays_on out o.0 stays never o.1 t, never t), o.2)
