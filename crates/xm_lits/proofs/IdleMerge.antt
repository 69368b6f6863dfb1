-- A colour that a merge never gives is offered to it by neither side, or its output is dead.
use Rattle.std.proofs.Common.{◌≡◌, ◌≢◌, ℕ, zero, suc, ◌+◌, ◌<◌, false, Some, ◌∙◌, ap, inl, inr, add-suc, add-zero}
use Rattle.std.specs.Prelude.{◌⊎◌}
use Rattle.xm_lits.proofs.Arbiter.{MergeRun, blocked, grant_cases, out_offers, stays_on, swapped}
use Rattle.xm_lits.proofs.Round.{from_one_on, offered_or_idle}
use Rattle.xm_lits.proofs.Repeat.{Dead, Idle, Stays}
use Rattle.xm_model.specs.Signals.{Signals, other}
use Rattle.xm_model.specs.declared.primitive.Side.{Side}

module _ (a b out : ℕ) (pref : ℕ → Side) (φ : ℕ → Signals) (run : MergeRun a b out pref φ) (n : ℕ) (is_long : 0 < n) (again : (t : ℕ) → φ (t + n) ≡ φ t) where
  -- an offer of what the output never gives is not granted
  not_ready : (d t : ℕ) → Idle out d φ → (φ t).offer a ≡ Some d → (φ t).ready a ≡ false
  not_ready d t idle is =
      let e = run.equation t in
      elim (grant_cases (pref t) ((φ t).offer a) ((φ t).offer b) d is) [
        | inl granted_a ↦ absurd (idle t (e.offer_out ∙ rw granted_a is))
        | inr w ↦ e.ready_a ∙ rw w.0
      ]

  keeps_on : (d t : ℕ) → Stays a φ → Idle out d φ → (φ t).offer a ≡ Some d → (k : ℕ) → (φ (t + k)).offer a ≡ Some d
  keeps_on d t stays idle here zero = rw add-zero here
  keeps_on d t stays idle here (suc k) =
      let before = keeps_on d t stays idle here k in
      rw add-suc (stays (t + k) d before (not_ready d (t + k) idle before))

  pub dead_if_offered : (d t : ℕ) → Stays a φ → Stays out φ → Idle out d φ → (φ t).offer a ≡ Some d →
      (e : ℕ) × (Dead out e φ × (e ≢ d))
  dead_if_offered d t stays stays_out idle here =
      let always : (i : ℕ) → (φ i).offer a ≡ Some d = from_one_on φ n is_long again (λ f. f.offer a ≡ Some d) t (keeps_on d t stays idle here) in
      let never : (i : ℕ) → (φ i).ready out ≡ false =
      blocked a b out pref φ run n is_long again (λ i. (d, always i)) (λ i. not_ready d i idle (always i)) in
      let o = out_offers a b out pref φ run n is_long again 0 d (always 0) in
      let dead : Dead out o.0 φ = λ i. (stays_on a b out pref φ run n is_long again out o.0 stays_out never o.1 i, never i) in
      (o.0, (dead, λ same. idle 0 (o.1 ∙ ap Some same)))

pub idle_merge : (a b out : ℕ) (pref : ℕ → Side) (φ : ℕ → Signals) → MergeRun a b out pref φ → (n : ℕ) → 0 < n →
    ((t : ℕ) → φ (t + n) ≡ φ t) →
    (d : ℕ) → Stays a φ → Stays b φ → Stays out φ → Idle out d φ →
    (Idle a d φ × Idle b d φ) ⊎ ((e : ℕ) × (Dead out e φ × (e ≢ d)))
idle_merge a b out pref φ run n is_long again d stays_a stays_b stays_out idle =
    elim (offered_or_idle φ n is_long again a d) [
      | inl w ↦ inr (dead_if_offered a b out pref φ run n is_long again d w.0 stays_a stays_out idle w.1)
      | inr idle_a ↦ elim (offered_or_idle φ n is_long again b d) [
        | inl w ↦ inr (dead_if_offered b a out (λ t. other (pref t)) φ (swapped a b out pref φ run) n is_long again d w.0 stays_b stays_out idle w.1)
        | inr idle_b ↦ inl (idle_a, idle_b)
      ]
    ]
