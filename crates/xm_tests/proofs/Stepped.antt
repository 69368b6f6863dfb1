-- Far moves that are set from one part after another, and rows that are made one after another.
use Rattle.std.proofs.Common.{◌≡◌, ℕ, zero, suc, ◌≤◌, ◌+◌, Bool, true, false, List, [], ◌∷◌, ◌++◌, length, length-append, map, ap, ◌∙◌, subst, arith, inl, inr, Some, slice_get}
use Rattle.std.specs.Prelude.{Option, cond}
use Rattle.std.proofs.lemmas.Bool.{cases_eq, cases_lt}
use Rattle.xm_model.specs.Net.{Network}
use Rattle.xm_model.specs.Signals.{Signals}
use Rattle.xm_model.specs.declared.state.Wire.{Wire}
use Rattle.xm_order.specs.Lemmas.Items.{push_cases}
use Rattle.xm_parts.specs.Far.{AreFarFrom, SetFrom}
use Rattle.xm_parts.specs.Partition.{channels_in}
use Rattle.xm_parts.specs.Passing.{passing}
use Rattle.xm_parts.specs.Projection.{IsCycle, far_moves, wire_of}
use Rattle.xm_parts.specs.Rows.{row_of}
use Rattle.xm_parts.specs.declared.row.PartRow.{PartRow}
use Rattle.xm_tests.specs.Inner.Stepped.{AreRows, AreSetFrom}

-- what holds of each item holds of each where one more stands at the end
pub push_each : {X : Type 0} (P : ℕ → X → Type 0) (xs : List X) (y : X) (n : ℕ) → length xs ≡ n → ((k : ℕ) (x : X) → slice_get xs k ≡ Some x → P k x) → P n y →
    (k : ℕ) (x : X) → slice_get (xs ++ y ∷ []) k ≡ Some x → P k x
push_each {X} P xs y n len each last k x at =
    elim (push_cases xs y k x at) [
      | inl h ↦ each k x h
      | inr h ↦ (let place : n ≡ k = (let is = h.0 in omega arith) in subst (λ (z : X). P k z) h.1 (subst (λ (i : ℕ). P i y) place last))
    ]

-- one of the rows, with its far moves, is of the cycle that all are of
abbrev pub cycle_of : {net : Network} {label : ℕ → ℕ} {count : ℕ} {rows : List PartRow} (h : AreRows net label count rows) (p : ℕ) (row : PartRow) (far : List (Option ℕ)) → slice_get rows p ≡ Some row →
    far ≡ far_moves net label p h.frame → IsCycle net label p (row_of row) far
cycle_of h p row far at is = record { state = h.state; choices = h.choices; frame = h.frame; is_frame = h.is_frame; row_is = h.of.are p row at; far_is = is }

-- no more numbers pass than there are
pub passing_few : (test : ℕ → Bool) (n : ℕ) → length (passing test n) ≤ n
passing_few test zero = omega arith
passing_few test (suc n) = last (test n) (passing_few test n) where
  last : (b : Bool) → length (passing test n) ≤ n → length (passing test n ++ cond b (n ∷ []) []) ≤ suc n
  last true h = simp length-append (omega arith)
  last false h = simp length-append (omega arith)

module _ (net : Network) (label : ℕ → ℕ) (p q : ℕ) (φ : Signals) (old new : List (Option ℕ)) (wires : List Wire) (set : SetFrom net label p q wires old new) (is : wires ≡ map (wire_of φ) (channels_in net label q)) where
  -- what was set from a part of the frame stays, where another part of the frame is set
  pub set_keeps : (r : ℕ) → AreFarFrom net label p r φ old → AreFarFrom net label p r φ new
  set_keeps r before = λ k c cut.
      elim (cases_eq r q) [
        | inl same ↦ set.here φ is k c (record { queue = cut.queue; stands = cut.stands; far = cut.far; lies = cut.lies ∙ same })
        | inr other ↦ set.rest r k c cut other ∙ before k c cut
      ]

  pub set_more : (near : List ℕ) (n : ℕ) → slice_get near n ≡ Some q → AreSetFrom net label p near n φ old → AreSetFrom net label p near (n + 1) φ new
  set_more near n at before = λ k r less there.
      elim (cases_lt k n) [
        | inl earlier ↦ set_keeps r (before k r earlier there)
        | inr late ↦ (let last : k ≡ n = omega arith in let here : slice_get near k ≡ Some q = ap (slice_get near) last ∙ at in let same : q ≡ r = cc in subst (λ (t : ℕ). AreFarFrom net label p t φ new) same (set.here φ is))
      ]
