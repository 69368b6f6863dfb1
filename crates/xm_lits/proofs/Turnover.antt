-- The turnover of a queue, over cycles that repeat.
use Rattle.std.proofs.Common.{◌≡◌, ◌≢◌, ℕ, zero, suc, ◌+◌, ◌-◌, ◌*◌, ◌%◌, ◌<◌, ◌≤◌, Bool, true, false, Option, Some}
use Rattle.std.proofs.Common.{None, List, [], ◌∷◌, length, drop, slice_get, refl, sym, ◌∙◌, ap, inl, inr, is_some}
use Rattle.std.proofs.Common.{arith, add-suc, add-zero, length-drop, length-append}
use Rattle.std.specs.Prelude.{◌⊎◌}
use Rattle.std.proofs.lemmas.Bool.{false_from_ne_true, ltb-false, lt-ltb, cases_Bool}
use Rattle.std.proofs.lemmas.Option.{slice_get_within}
use Rattle.xm_design.specs.Lemmas.Offers.{is_some_false, is_some_true, only_if-false, only_if-true}
use Rattle.xm_lits.proofs.Round.{again_many, at_remainder, bounded_search}
use Rattle.xm_lits.proofs.Repeat.{Dead, Idle, Stays, Stuck}
use Rattle.xm_model.specs.Frame.{QueueEquation}
use Rattle.xm_model.specs.Next.{joined, left, move}
use Rattle.xm_model.specs.Signals.{Signals}

-- a queue in every cycle
pub record QueueRun (input out capacity : ℕ) (ps : ℕ → List ℕ) (φ : ℕ → Signals) : Type 0 where
  pub holds_some : 0 < capacity
  pub fits : (t : ℕ) → length (ps t) ≤ capacity
  pub equation : (t : ℕ) → QueueEquation input out capacity (ps t) (φ t)
  pub step : (t : ℕ) → ps (suc t) ≡ joined (left (ps t) (move (φ t) out)) (move (φ t) input)

pub some_head : (ps : List ℕ) → 0 < length ps → (d : ℕ) × (slice_get ps 0 ≡ Some d)
some_head [] h = absurd (omega arith)
some_head (p ∷ ps) h = (p, refl)

pub length-joined : (ps : List ℕ) (d : ℕ) → length (joined ps (Some d)) ≡ suc (length ps)
length-joined ps d = simp length-append (omega arith)

module _ (input out capacity : ℕ) (ps : ℕ → List ℕ) (φ : ℕ → Signals) (run : QueueRun input out capacity ps φ) where
  pub full : Stuck input φ → (t : ℕ) → length (ps t) ≡ capacity
  full stuck t =
      let at_least : capacity ≤ length (ps t) = ltb-false (length (ps t)) capacity (sym (run.equation t).ready_in ∙ stuck t) in
      omega (arith, run.fits t)

  none_comes : Stuck input φ → (t : ℕ) → move (φ t) input ≡ None
  none_comes stuck t = only_if-false ((φ t).ready input) ((φ t).offer input) (stuck t)

  none_goes : Stuck input φ → (t : ℕ) → (φ t).ready out ≡ false
  none_goes stuck t = false_from_ne_true ((φ t).ready out) (λ goes.
      let now : length (ps t) ≡ capacity = full stuck t in
      let next : length (ps (suc t)) ≡ capacity = full stuck (suc t) in
      let some : 0 < length (ps t) = omega (arith, run.holds_some) in
      let head = some_head (ps t) some in
      let departs : move (φ t) out ≡ Some head.0 = only_if-true ((φ t).ready out) ((φ t).offer out) goes ∙ (run.equation t).offer_out ∙ head.1 in
      let shorter : ps (suc t) ≡ drop 1 (ps t) = run.step t ∙ rw (departs, none_comes stuck t) in
      let len : length (drop 1 (ps t)) ≡ length (ps t) - 1 = length-drop 1 (ps t) in
      let same : length (ps (suc t)) ≡ length (drop 1 (ps t)) = ap length shorter in
      omega arith)

  unchanged : Stuck input φ → (t : ℕ) → ps t ≡ ps 0
  unchanged stuck zero = refl
  unchanged stuck (suc t) =
      let stays : move (φ t) out ≡ None = only_if-false ((φ t).ready out) ((φ t).offer out) (none_goes stuck t) in
      run.step t ∙ rw (stays, none_comes stuck t) (unchanged stuck t)

  -- a stuck queue is full, and its output is dead
  pub stuck_queue : Stuck input φ → (length (ps 0) ≡ capacity) × ((e : ℕ) × Dead out e φ)
  stuck_queue stuck =
      let now : length (ps 0) ≡ capacity = full stuck 0 in
      let some : 0 < length (ps 0) = omega (arith, run.holds_some) in
      let head = some_head (ps 0) some in
      (now, (head.0, λ t. ((run.equation t).offer_out ∙ rw (unchanged stuck t) head.1, none_goes stuck t)))

-- where a packet stands after a cycle in which nothing leaves
pub place-joined : (ps : List ℕ) (arrival : Option ℕ) (j d : ℕ) → slice_get ps j ≡ Some d →
    slice_get (joined ps arrival) j ≡ Some d
place-joined ps None j d h = h
place-joined [] (Some a) j d h = cc
place-joined (p ∷ ps) (Some a) zero d h = h
place-joined (p ∷ ps) (Some a) (suc j) d h = place-joined ps (Some a) j d h

-- and after one in which the head leaves
pub place-left : (ps : List ℕ) (e : ℕ) (j d : ℕ) → slice_get ps (suc j) ≡ Some d →
    slice_get (left ps (Some e)) j ≡ Some d
place-left [] e j d h = cc
place-left (p ∷ ps) e j d h = h

-- what arrives stands in the queue
pub arrived : (ps : List ℕ) (d : ℕ) → (j : ℕ) × (slice_get (joined ps (Some d)) j ≡ Some d)
arrived [] d = (0, refl)
arrived (p ∷ ps) d = let rest = arrived ps d in (suc rest.0, rest.1)

-- the first cycle from a given one on in which the test holds
pub first_from : (p : ℕ → Bool) (t k : ℕ) → p (t + k) ≡ true →
    (m : ℕ) × (p (t + m) ≡ true) × ((i : ℕ) → i < m → p (t + i) ≡ false)
first_from p t zero h = (0, h, λ i below. absurd (omega arith))
first_from p t (suc k) h =
    elim (cases_Bool (p t)) [
      | inl now ↦ (0, rw add-zero now, λ i below. absurd (omega arith))
      | inr later ↦
          let shift : suc t + k ≡ t + suc k = omega arith in
          let rest = first_from p (suc t) k (ap p shift ∙ h) in
          (suc rest.0, ap p (let m : t + suc rest.0 ≡ suc t + rest.0 = omega arith in m) ∙ rest.1, λ i below. go i below rest.2 later)
    ] where
      go : (i : ℕ) → {m : ℕ} → i < suc m → ((i : ℕ) → i < m → p (suc t + i) ≡ false) → p t ≡ false → p (t + i) ≡ false
      go zero below before later = rw add-zero later
      go (suc i) below before later = ap p (let m : t + suc i ≡ suc t + i = omega arith in m) ∙ before i (omega arith)

pub length_more : (ps : List ℕ) (arrival : Option ℕ) → length ps ≤ length (joined ps arrival)
length_more ps None = omega arith
length_more ps (Some d) = omega (arith, length-joined ps d)

module _ (input out capacity : ℕ) (ps : ℕ → List ℕ) (φ : ℕ → Signals) (run : QueueRun input out capacity ps φ) (n : ℕ) (is_long : 0 < n) (again : (t : ℕ) → φ (t + n) ≡ φ t) where
  abbrev pub goes : ℕ → Bool
  goes t = is_some (move (φ t) out)

  -- a move comes again after any cycle
  goes_later : (t i : ℕ) → goes t ≡ true → goes (i + (t + i * n - i)) ≡ true
  goes_later t i h =
      let below : i ≤ i * n = grind arith in
      ap (λ f. is_some (move f out)) (ap φ (let m : i + (t + i * n - i) ≡ t + i * n = omega arith in m) ∙ again_many φ n is_long again t i) ∙ h

  -- a packet comes one place nearer, once the head moves
  nearer : (t m j d : ℕ) → goes (t + m) ≡ true → ((i : ℕ) → i < m → goes (t + i) ≡ false) →
      slice_get (ps t) (suc j) ≡ Some d →
      (u : ℕ) × (slice_get (ps u) j ≡ Some d)
  nearer t zero j d moves before here =
      let e = is_some_true (move (φ t) out) (rw add-zero at moves) in
      (suc t, rw (run.step t, e.1) (place-joined (left (ps t) (Some e.0)) (move (φ t) input) j d (place-left (ps t) e.0 j d here)))
  nearer t (suc m) j d moves before here =
      let still : move (φ t) out ≡ None = is_some_false (move (φ t) out) (rw add-zero at (before 0 (omega arith))) in
      let there : slice_get (ps (suc t)) (suc j) ≡ Some d = rw (run.step t, still) (place-joined (ps t) (move (φ t) input) (suc j) d here) in
      nearer (suc t) m j d (ap goes (let s : suc t + m ≡ t + suc m = omega arith in s) ∙ moves)
      (λ i below. ap goes (let s : suc t + i ≡ t + suc i = omega arith in s) ∙ before (suc i) (omega arith)) there

  -- no packet that is never offered is in a queue that moves
  not_inside : (d t : ℕ) → Idle out d φ → goes t ≡ true → (j i : ℕ) → slice_get (ps i) j ≡ Some d → ⊥
  not_inside d t idle moves zero i here = idle i ((run.equation i).offer_out ∙ here)
  not_inside d t idle moves (suc j) i here =
      let first = first_from goes i (t + i * n - i) (goes_later t i moves) in
      let next = nearer i first.0 j d first.1 first.2 here in
      not_inside d t idle moves j next.0 next.1

  not_taken : (d t : ℕ) → Idle out d φ → goes t ≡ true → (i : ℕ) → (φ i).offer input ≡ Some d →
      (φ i).ready input ≡ false
  not_taken d t idle moves i is_offered = false_from_ne_true ((φ i).ready input) (λ takes.
      let arrives : move (φ i) input ≡ Some d = only_if-true ((φ i).ready input) ((φ i).offer input) takes ∙ is_offered in
      let there = arrived (left (ps i) (move (φ i) out)) d in
      not_inside d t idle moves there.0 (suc i) (rw (run.step i, arrives) there.1))

  waits : (d t : ℕ) → Idle out d φ → goes t ≡ true → Stays input φ → (i : ℕ) → (φ i).offer input ≡ Some d → (k : ℕ) →
      (φ (i + k)).offer input ≡ Some d
  waits d t idle moves stays i is_offered zero = rw add-zero is_offered
  waits d t idle moves stays i is_offered (suc k) =
      let before = waits d t idle moves stays i is_offered k in
      rw add-suc (stays (i + k) d before (not_taken d t idle moves (i + k) before))

  -- after the head has moved there is room, where nothing arrives
  room_after : (i : ℕ) → goes i ≡ true → (φ i).ready input ≡ false → (φ (suc i)).ready input ≡ true
  room_after i moves shut =
      let e = is_some_true (move (φ i) out) moves in
      let none_in : move (φ i) input ≡ None = only_if-false ((φ i).ready input) ((φ i).offer input) shut in
      let shorter : ps (suc i) ≡ drop 1 (ps i) = run.step i ∙ rw (e.1, none_in) in
      let len : length (drop 1 (ps i)) ≡ length (ps i) - 1 = length-drop 1 (ps i) in
      let same : length (ps (suc i)) ≡ length (drop 1 (ps i)) = ap length shorter in
      let fits : length (ps i) ≤ capacity = run.fits i in
      let some : 0 < capacity = run.holds_some in
      (run.equation (suc i)).ready_in ∙ lt-ltb (length (ps (suc i))) capacity (omega arith)

  not_offered : (d t : ℕ) → Idle out d φ → goes t ≡ true → Stays input φ → Idle input d φ
  not_offered d t idle moves stays i is_offered =
      let k = t + i * n - i in
      let on : (k : ℕ) → (φ (i + k)).offer input ≡ Some d = waits d t idle moves stays i is_offered in
      let shut : (k : ℕ) → (φ (i + k)).ready input ≡ false = λ k. not_taken d t idle moves (i + k) (on k) in
      let open_now : (φ (suc (i + k))).ready input ≡ true = room_after (i + k) (goes_later t i moves) (shut k) in
      let shut_now : (φ (suc (i + k))).ready input ≡ false = rw add-suc at (shut (suc k)) in
      cc

  -- a queue whose output never moves
  module _ (still : (t : ℕ) → goes t ≡ false) where
    stands : (t : ℕ) → move (φ t) out ≡ None
    stands t = is_some_false (move (φ t) out) (still t)

    head_stands : (d : ℕ) → slice_get (ps 0) 0 ≡ Some d → (t : ℕ) → slice_get (ps t) 0 ≡ Some d
    head_stands d here zero = here
    head_stands d here (suc t) = rw (run.step t, stands t) (place-joined (ps t) (move (φ t) input) 0 d (head_stands d here t))

    never_ready : (d : ℕ) → slice_get (ps 0) 0 ≡ Some d → (t : ℕ) → (φ t).ready out ≡ false
    never_ready d here t = false_from_ne_true ((φ t).ready out) (λ is.
        let departs : move (φ t) out ≡ Some d = only_if-true ((φ t).ready out) ((φ t).offer out) is ∙ (run.equation t).offer_out ∙ head_stands d here t in
        let none = stands t in cc)

    grows : (t k : ℕ) → length (ps t) ≤ length (ps (t + k))
    grows t zero = rw add-zero (omega arith)
    grows t (suc k) =
        let before = grows t k in
        let e : ps (suc (t + k)) ≡ joined (ps (t + k)) (move (φ (t + k)) input) = run.step (t + k) ∙ rw (stands (t + k)) in
        rw (add-suc, e) (omega (arith, before, length_more (ps (t + k)) (move (φ (t + k)) input)))

    module _ (ps_again : (t : ℕ) → ps (t + n) ≡ ps t) (empty : ps 0 ≡ []) where
      ps_again_many : (t k : ℕ) → ps (t + k * n) ≡ ps t
      ps_again_many t zero = ap ps (let m : t + 0 * n ≡ t = omega arith in m)
      ps_again_many t (suc k) = ap ps (let m : t + suc k * n ≡ t + k * n + n = omega arith in m) ∙ ps_again (t + k * n) ∙ ps_again_many t k

      stays_empty : (t : ℕ) → length (ps t) ≡ 0
      stays_empty t =
          let below : t ≤ t * n = grind arith in
          let grown : length (ps t) ≤ length (ps (t + (t * n - t))) = grows t (t * n - t) in
          let back : ps (t + (t * n - t)) ≡ [] = ap ps (let m : t + (t * n - t) ≡ 0 + t * n = omega arith in m) ∙ ps_again_many 0 t ∙ empty in
          let none : length (ps (t + (t * n - t))) ≡ 0 = ap length back in
          omega arith

      nothing_offered : (d : ℕ) → Idle input d φ
      nothing_offered d t is_offered =
          let now : length (ps t) ≡ 0 = stays_empty t in
          let takes : (φ t).ready input ≡ true = (run.equation t).ready_in ∙ lt-ltb (length (ps t)) capacity (omega (arith, run.holds_some)) in
          let arrives : move (φ t) input ≡ Some d = only_if-true ((φ t).ready input) ((φ t).offer input) takes ∙ is_offered in
          let there = arrived (left (ps t) (move (φ t) out)) d in
          let at_place : slice_get (ps (suc t)) there.0 ≡ Some d = rw (run.step t, arrives) there.1 in
          let within : there.0 < length (ps (suc t)) = slice_get_within (ps (suc t)) there.0 d at_place in
          let next : length (ps (suc t)) ≡ 0 = stays_empty (suc t) in
          omega arith

-- a colour that a queue never gives is neither in it nor offered to it, or its output is dead with another
pub idle_queue : (input out capacity : ℕ) (ps : ℕ → List ℕ) (φ : ℕ → Signals) → QueueRun input out capacity ps φ →
    (n : ℕ) → 0 < n →
    ((t : ℕ) → φ (t + n) ≡ φ t) → ((t : ℕ) → ps (t + n) ≡ ps t) → (d : ℕ) → Stays input φ → Idle out d φ →
    (((j : ℕ) → slice_get (ps 0) j ≢ Some d) × Idle input d φ) ⊎ ((e : ℕ) × (Dead out e φ × (e ≢ d)))
idle_queue input out capacity ps φ run n is_long again ps_again d stays idle =
    elim (bounded_search (goes input out capacity ps φ run n is_long again) n) [
      | inl w ↦ inl (
        λ j here. not_inside input out capacity ps φ run n is_long again d w.0 idle w.2 j 0 here,
        not_offered input out capacity ps φ run n is_long again d w.0 idle w.2 stays,
      )
      | inr none ↦
          let still : (t : ℕ) → goes input out capacity ps φ run n is_long again t ≡ false = λ t.
          ap (λ f. is_some (move f out)) (sym (at_remainder φ n is_long again t)) ∙ none (t % n) (omega arith) in
          by_head (ps 0) refl still
    ] where
      by_head : (first : List ℕ) → ps 0 ≡ first →
          ((t : ℕ) → goes input out capacity ps φ run n is_long again t ≡ false) →
          (((j : ℕ) → slice_get (ps 0) j ≢ Some d) × Idle input d φ) ⊎ ((e : ℕ) × (Dead out e φ × (e ≢ d)))
      by_head [] is still = inl (λ j here. let none = rw is at here in cc, nothing_offered input out capacity ps φ run n is_long again still ps_again is d)
      by_head (e ∷ rest) is still =
          let here : slice_get (ps 0) 0 ≡ Some e = rw is in
          inr (
            e,
            (
              λ t. (
                (run.equation t).offer_out ∙ head_stands input out capacity ps φ run n is_long again still e here t,
                never_ready input out capacity ps φ run n is_long again still e here t,
              ),
              λ same. idle 0 ((run.equation 0).offer_out ∙ here ∙ ap Some same),
            ),
          )
