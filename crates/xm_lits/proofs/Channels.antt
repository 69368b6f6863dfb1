-- The rules of blocked and idle channels, primitive by primitive.
use Rattle.std.proofs.Common.{◌≡◌, ℕ, zero, suc, ◌+◌, ◌%◌, ◌<◌, Bool, true, false, ◌&&◌, Option, Some, None, List}
use Rattle.std.proofs.Common.{slice_index, refl, sym, ◌∙◌, ap, inl, inr, is_some, arith, add-suc, add-zero}
use Rattle.std.specs.Prelude.{◌⊎◌}
use Rattle.std.proofs.lemmas.Bool.{and_left, and_right, and_parts, and_from, and_cases, or_parts, false_from_ne_true}
use Rattle.xm_design.specs.Lemmas.Offers.{is_some_false, is_some_true, only_if-false, only_if-true, only_if_some}
use Rattle.xm_design.specs.Lemmas.Offers.{through_some, to_side_a_some, to_side_b_some}
use Rattle.xm_lits.proofs.Round.{at_remainder, bounded_search, from_one_on, offered_or_idle}
use Rattle.xm_lits.proofs.Repeat.{Dead, Idle, Stays, Stuck}
use Rattle.xm_persist.specs.Rights.{ReadyStays}
use Rattle.xm_model.specs.Frame.{ForkEquation, FunctionEquation, JoinEquation, SwitchEquation}
use Rattle.xm_model.specs.Signals.{Signals, at_side, takes_a, through}
use Rattle.xm_model.specs.declared.primitive.Side.{Side}
use Rattle.xm_model.specs.declared.primitive.Side.TheVariants.{A, B}

of_side : (pass : Side) (d v : ℕ) → at_side {X = Option ℕ} pass (Some d) (Some v) ≡ Some (at_side pass d v)
of_side A d v = refl
of_side B d v = refl

module _ (φ : ℕ → Signals) (n : ℕ) (is_long : 0 < n) (again : (t : ℕ) → φ (t + n) ≡ φ t) where
  goes_on : (c d : ℕ) → Stays c φ → ((u : ℕ) → (φ u).offer c ≡ Some d → (φ u).ready c ≡ false) → (t : ℕ) →
      (φ t).offer c ≡ Some d → (k : ℕ) → (φ (t + k)).offer c ≡ Some d
  goes_on c d stays shut t here zero = rw add-zero here
  goes_on c d stays shut t here (suc k) =
      let before = goes_on c d stays shut t here k in rw add-suc (stays (t + k) d before (shut (t + k) before))

  -- an offer that is never taken where it stands is dead
  pub dead_when : (c d : ℕ) → Stays c φ → ((u : ℕ) → (φ u).offer c ≡ Some d → (φ u).ready c ≡ false) → (t : ℕ) →
      (φ t).offer c ≡ Some d → Dead c d φ
  dead_when c d stays shut t here i =
      let always = from_one_on φ n is_long again (λ f. f.offer c ≡ Some d) t (goes_on c d stays shut t here) i in (always, shut i always)

  -- a channel offers in some cycle, or never
  pub offers_or_not : (c : ℕ) → ((t : ℕ) × ((d : ℕ) × ((φ t).offer c ≡ Some d))) ⊎ ((t : ℕ) → (φ t).offer c ≡ None)
  offers_or_not c =
      elim (bounded_search (λ t. is_some ((φ t).offer c)) n) [
        | inl w ↦ inl (w.0, is_some_true ((φ w.0).offer c) w.2)
        | inr none ↦ inr (λ t. is_some_false ((φ t).offer c) (ap (λ f. is_some (f.offer c)) (sym (at_remainder φ n is_long again t)) ∙ none (t % n) (omega arith)))
      ]

  pub stuck_is_dead_or_idle : (c : ℕ) → Stays c φ → Stuck c φ →
      ((d : ℕ) × Dead c d φ) ⊎ ((t : ℕ) → (φ t).offer c ≡ None)
  stuck_is_dead_or_idle c stays stuck =
      elim (offers_or_not c) [ inl w ↦ inl (w.1.0, dead_when c w.1.0 stays (λ u h. stuck u) w.0 w.1.1) | inr none ↦ inr none ]

  module _ (input out : ℕ) (table : List ℕ) (e : (t : ℕ) → FunctionEquation input out table (φ t)) where
    pub stuck_function : Stuck input φ → Stuck out φ
    stuck_function stuck t = sym (e t).ready_in ∙ stuck t

    pub dead_function_in : (d : ℕ) → Dead input d φ → Dead out (slice_index table d) φ
    dead_function_in d dead t = ((e t).offer_out ∙ ap (through table) (dead t).0, sym (e t).ready_in ∙ (dead t).1)

    pub dead_function_out : (d : ℕ) → Stays input φ → Dead out d φ →
        (x : ℕ) × (Dead input x φ × (slice_index table x ≡ d))
    dead_function_out d stays dead =
        let x = through_some table ((φ 0).offer input) d (sym (e 0).offer_out ∙ (dead 0).0) in
        (x.0, (dead_when input x.0 stays (λ u h. (e u).ready_in ∙ (dead u).1) 0 x.1, x.2))

    pub idle_function : (d x : ℕ) → Idle out d φ → slice_index table x ≡ d → Idle input x φ
    idle_function d x idle maps t here = idle t ((e t).offer_out ∙ ap (through table) here ∙ ap Some maps)

  module _ (input a b : ℕ) (ta tb : List ℕ) (e : (t : ℕ) → ForkEquation input a b ta tb (φ t)) where
    -- an output that is ready beside a stuck input stays ready
    pub stuck_fork : ((t : ℕ) → ReadyStays a (φ t) (φ (suc t))) → ((t : ℕ) → ReadyStays b (φ t) (φ (suc t))) →
        Stuck input φ → Stuck a φ ⊎ Stuck b φ
    stuck_fork ready_a ready_b stuck =
        elim (bounded_search (λ t. (φ t).ready a) n) [
          | inl w ↦ inr (λ t. other_shut t (from_one_on φ n is_long again (λ f. f.ready a ≡ true) w.0 (stays_ready w.0 w.2) t))
          | inr none ↦ inl (λ t. ap (λ f. f.ready a) (sym (at_remainder φ n is_long again t)) ∙ none (t % n) (omega arith))
        ] where
          other_shut : (t : ℕ) → (φ t).ready a ≡ true → (φ t).ready b ≡ false
          other_shut t is = let both = sym (e t).ready_in ∙ stuck t in rw is at both

          stays_ready : (t : ℕ) → (φ t).ready a ≡ true → (k : ℕ) → (φ (t + k)).ready a ≡ true
          stays_ready t is zero = rw add-zero is
          stays_ready t is (suc k) =
              let before = stays_ready t is k in
              rw add-suc (ready_a (t + k) before ((e (t + k)).offer_a ∙ only_if-false ((φ (t + k)).ready b) (through ta ((φ (t + k)).offer input)) (other_shut (t + k) before)))

    pub dead_fork_a : (d : ℕ) → Stays input φ → Dead a d φ → (x : ℕ) × (Dead input x φ × (slice_index ta x ≡ d))
    dead_fork_a d stays dead =
        let o = only_if_some ((φ 0).ready b) (through ta ((φ 0).offer input)) d (sym (e 0).offer_a ∙ (dead 0).0) in
        let x = through_some ta ((φ 0).offer input) d o.1 in
        (x.0, (dead_when input x.0 stays (λ u h. (e u).ready_in ∙ and_left ((φ u).ready a) ((φ u).ready b) (dead u).1) 0 x.1, x.2))

    pub idle_fork_a : (d x : ℕ) → Stays input φ → slice_index ta x ≡ d → Idle a d φ →
        Idle input x φ ⊎ (Dead input x φ × Stuck b φ)
    idle_fork_a d x stays maps idle =
        let shut : (u : ℕ) → (φ u).offer input ≡ Some x → (φ u).ready b ≡ false = λ u here. false_from_ne_true ((φ u).ready b) (λ is.
        idle u ((e u).offer_a ∙ only_if-true ((φ u).ready b) (through ta ((φ u).offer input)) is ∙ ap (through ta) here ∙ ap Some maps)) in
        elim (offered_or_idle φ n is_long again input x) [
          | inl w ↦
              let dead = dead_when input x stays (λ u here. (e u).ready_in ∙ and_right ((φ u).ready a) ((φ u).ready b) (shut u here)) w.0 w.1 in
              inr (dead, λ t. shut t (dead t).0)
          | inr none ↦ inl none
        ]

  module _ (a b out : ℕ) (pass : Side) (e : (t : ℕ) → JoinEquation a b out pass (φ t)) where
    -- beside a stuck side an offer is not taken
    beside_stuck : Stuck a φ → (v u : ℕ) → (φ u).offer b ≡ Some v → (φ u).ready out ≡ false
    beside_stuck stuck v u here = grind (arith, stuck u, (e u).ready_a, and_from)

    beside_dead : (v : ℕ) → Stays b φ → Stuck a φ → (t : ℕ) → (φ t).offer b ≡ Some v → Dead b v φ
    beside_dead v stays stuck t here =
        dead_when b v stays (λ u there. (e u).ready_b ∙ and_left ((φ u).ready out) (is_some ((φ u).offer a)) (beside_stuck stuck v u there)) t here

    pub stuck_join : Stays b φ → Stuck a φ → ((t : ℕ) → (φ t).offer b ≡ None) ⊎ Stuck out φ
    stuck_join stays stuck =
        elim (offers_or_not b) [
          | inl w ↦ let dead = beside_dead w.1.0 stays stuck w.0 w.1.1 in inr (λ t. beside_stuck stuck w.1.0 t (dead t).0)
          | inr none ↦ inl none
        ]

    out_of_both : (d v t : ℕ) → (φ t).offer a ≡ Some d → (φ t).offer b ≡ Some v →
        (φ t).offer out ≡ Some (at_side pass d v)
    out_of_both d v t on_a on_b = (e t).offer_out ∙ rw (on_a, on_b) (of_side pass d v)

    pub dead_join_side : (d : ℕ) → Stays b φ → Dead a d φ →
        ((t : ℕ) → (φ t).offer b ≡ None) ⊎ ((v : ℕ) × (Dead b v φ × Dead out (at_side pass d v) φ))
    dead_join_side d stays dead =
        elim (offers_or_not b) [
          | inl w ↦
              let v = w.1.0 in let dead_b = beside_dead v stays (λ t. (dead t).1) w.0 w.1.1 in
              inr (v, (dead_b, λ t. (out_of_both d v t (dead t).0 (dead_b t).0, beside_stuck (λ t. (dead t).1) v t (dead_b t).0)))
          | inr none ↦ inl none
        ]

    pub dead_join_out : (d : ℕ) → Stays a φ → Stays b φ → Dead out d φ →
        (x y : ℕ) × (Dead a x φ × Dead b y φ × (at_side pass x y ≡ d))
    dead_join_out d stays_a stays_b dead =
        let o = only_if_some (is_some ((φ 0).offer a) && is_some ((φ 0).offer b)) (at_side pass ((φ 0).offer a) ((φ 0).offer b)) d (sym (e 0).offer_out ∙ (dead 0).0) in
        let both = and_parts (is_some ((φ 0).offer a)) (is_some ((φ 0).offer b)) o.0 in
        let x = is_some_true ((φ 0).offer a) both.0 in
        let y = is_some_true ((φ 0).offer b) both.1 in
        let sides = of_side pass x.0 y.0 in let on_a = x.1 in let on_b = y.1 in let is_offered = o.1 in (
          x.0,
          y.0,
          (
            dead_when a x.0 stays_a (λ u here. (e u).ready_a ∙ and_left ((φ u).ready out) (is_some ((φ u).offer b)) (dead u).1) 0 x.1,
            dead_when b y.0 stays_b (λ u here. (e u).ready_b ∙ and_left ((φ u).ready out) (is_some ((φ u).offer a)) (dead u).1) 0 y.1,
            (cc),
          ),
        )

    pub idle_join : (d : ℕ) → pass ≡ A → Stays a φ → Idle out d φ →
        Idle a d φ ⊎ (Dead a d φ × ((t : ℕ) → (φ t).offer b ≡ None))
    idle_join d passes stays idle =
        let alone : (u : ℕ) → (φ u).offer a ≡ Some d → (φ u).offer b ≡ None = λ u here.
        is_some_false ((φ u).offer b) (false_from_ne_true (is_some ((φ u).offer b)) (λ is.
        let y = is_some_true ((φ u).offer b) is in
        idle u (out_of_both d y.0 u here y.1 ∙ rw passes))) in
        elim (offered_or_idle φ n is_long again a d) [
          | inl w ↦
              let dead = dead_when a d stays (λ u here. (e u).ready_a ∙ rw (alone u here) (and_right ((φ u).ready out) false refl)) w.0 w.1 in
              inr (dead, λ t. alone t (dead t).0)
          | inr none ↦ inl none
        ]

  module _ (input a b : ℕ) (to_a : List Bool) (e : (t : ℕ) → SwitchEquation input a b to_a (φ t)) where
    pub dead_switch_in : (d : ℕ) → Dead input d φ →
        (takes_a to_a d ≡ true → Dead a d φ) × (takes_a to_a d ≡ false → Dead b d φ)
    dead_switch_in d dead = (
      λ is t.
          let on_a : (φ t).offer a ≡ Some d = (e t).offer_a ∙ rw ((dead t).0, is) in
          (on_a, (grind (arith, dead t, (e t).ready_in, or_parts, and_cases))),
      λ is t.
          let on_b : (φ t).offer b ≡ Some d = (e t).offer_b ∙ rw ((dead t).0, is) in
          (on_b, (grind (arith, dead t, (e t).ready_in, or_parts, and_cases))),
    )

    pub dead_switch_a : (d : ℕ) → Dead a d φ → Dead input d φ
    dead_switch_a d dead t =
        let x = to_side_a_some to_a ((φ t).offer input) d (sym (e t).offer_a ∙ (dead t).0) in
        let none : (φ t).offer b ≡ None = (e t).offer_b ∙ x.1 in
        (x.0, (e t).ready_in ∙ rw (none, (dead t).0, (dead t).1))

    pub dead_switch_b : (d : ℕ) → Dead b d φ → Dead input d φ
    dead_switch_b d dead t =
        let x = to_side_b_some to_a ((φ t).offer input) d (sym (e t).offer_b ∙ (dead t).0) in
        let none : (φ t).offer a ≡ None = (e t).offer_a ∙ x.1 in
        (x.0, (e t).ready_in ∙ rw (none, (dead t).0, (dead t).1))

    pub idle_switch_a : (d : ℕ) → takes_a to_a d ≡ true → Idle a d φ → Idle input d φ
    idle_switch_a d is idle t here = idle t ((e t).offer_a ∙ rw (here, is))

    pub idle_switch_b : (d : ℕ) → takes_a to_a d ≡ false → Idle b d φ → Idle input d φ
    idle_switch_b d is idle t here = idle t ((e t).offer_b ∙ rw (here, is))
