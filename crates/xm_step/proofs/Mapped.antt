-- Things that hold cells, past a cycle: first those of the queues, then those of the other primitives.
use Rattle.std.proofs.Common.{◌≡◌, ℕ, ◌+◌, ◌<◌, List, Some, length, map, set, get_or, slice_get, sym, ◌∙◌, subst, arith}
use Rattle.std.proofs.Math.ListN.{get_or-map}
use Rattle.std.proofs.lemmas.List.{length-map, map-set}
use Rattle.xm_model.specs.Component.{Component, Queue}
use Rattle.xm_model.specs.Signals.{Signals}
use Rattle.xm_model.specs.declared.state.Cell.{Cell}
use Rattle.xm_step.specs.Advanced.{IsAdvanced}
use Rattle.xm_step.specs.Inner.Cells.{CanAdvance, CanGoOn, HaveGone, IsGuardedBy}
use Rattle.xm_step.specs.Inner.Kinds.{AreKindsTo, IsAmongBoth, IsAmongQueues}
use Rattle.xm_step.specs.Roomy.{IsRoomy}
use Rattle.xm_step.specs.declared.kinds.Holder.{Holder}
use Rattle.xm_step.specs.declared.kinds.QueuePlace.{QueuePlace}
use Rattle.xm_step.proofs.Going.{other_can, other_gone, other_within, queue_can, queue_gone, queue_within}

pub same_length : {X : Type 0} (cell : X → Cell) (xs ys : List X) → length xs ≡ length ys → length (map cell xs) ≡ length (map cell ys)
same_length cell xs ys e = length-map xs cell ∙ e ∙ sym (length-map ys cell)

module _ {X : Type 0} (cell : X → Cell) (ms : List Component) (old : List X) (φ : Signals) (queues : List QueuePlace) (others : List Holder) (n : ℕ) (kinds : AreKindsTo ms n queues others) (roomy : IsRoomy ms (map cell old))
    (guarded : IsGuardedBy ms (map cell old) φ) (whole : n ≡ length (map cell old)) where
  module _ (now : List X) (len : length now ≡ length old) (k : ℕ) (it : QueuePlace) (at : slice_get queues k ≡ Some it) (before : HaveGone ms (map cell old) (map cell now) φ (IsAmongQueues queues k)) where
    pub queue_within_by : it.prim < length now
    queue_within_by =
        let h = queue_within ms (map cell old) φ queues others n kinds roomy guarded whole (map cell now) (same_length cell now old len) k it at before in
        let same = length-map now cell in
        omega arith

    pub queue_can_by : (d : X) → (capacity : ℕ) × CanAdvance it.input it.out capacity (cell (get_or now it.prim d)) φ
    queue_can_by d =
        subst (λ (x : Cell). (capacity : ℕ) × CanAdvance it.input it.out capacity x φ) (get_or-map cell now it.prim d)
        (queue_can ms (map cell old) φ queues others n kinds roomy guarded whole (map cell now) (same_length cell now old len) k it at before (cell d))

    pub queue_gone_by : (d here : X) → ((capacity : ℕ) (initial : List ℕ) → CanAdvance it.input it.out capacity (cell (get_or now it.prim d)) φ → IsAdvanced (Queue it.input it.out capacity initial) (cell (get_or now it.prim d)) (cell here) φ) →
        HaveGone ms (map cell old) (map cell (set now it.prim here)) φ (IsAmongQueues queues (k + 1))
    queue_gone_by d here went =
        subst (λ (xs : List Cell). HaveGone ms (map cell old) xs φ (IsAmongQueues queues (k + 1))) (sym (map-set cell now it.prim here))
        (queue_gone ms (map cell old) φ queues others n kinds roomy guarded whole (map cell now) (same_length cell now old len) k it at before (cell d) (cell here)
        (subst (λ (x : Cell). (capacity : ℕ) (initial : List ℕ) → CanAdvance it.input it.out capacity x φ → IsAdvanced (Queue it.input it.out capacity initial) x (cell here) φ) (sym (get_or-map cell now it.prim d)) went))

  module _ (now : List X) (len : length now ≡ length old) (i : ℕ) (it : Holder) (at : slice_get others i ≡ Some it) (before : HaveGone ms (map cell old) (map cell now) φ (IsAmongBoth queues others i)) where
    pub other_within_by : it.prim < length now
    other_within_by =
        let h = other_within ms (map cell old) φ queues others n kinds roomy guarded whole (map cell now) (same_length cell now old len) i it at before in
        let same = length-map now cell in
        omega arith

    pub other_can_by : (d : X) → (m : Component) × CanGoOn it.holds m (cell (get_or now it.prim d)) φ
    other_can_by d =
        subst (λ (x : Cell). (m : Component) × CanGoOn it.holds m x φ) (get_or-map cell now it.prim d)
        (other_can ms (map cell old) φ queues others n kinds roomy guarded whole (map cell now) (same_length cell now old len) i it at before (cell d))

    pub other_gone_by : (d here : X) → ((m : Component) → CanGoOn it.holds m (cell (get_or now it.prim d)) φ → IsAdvanced m (cell (get_or now it.prim d)) (cell here) φ) → HaveGone ms (map cell old) (map cell (set now it.prim here)) φ (IsAmongBoth queues others (i + 1))
    other_gone_by d here went =
        subst (λ (xs : List Cell). HaveGone ms (map cell old) xs φ (IsAmongBoth queues others (i + 1))) (sym (map-set cell now it.prim here))
        (other_gone ms (map cell old) φ queues others n kinds roomy guarded whole (map cell now) (same_length cell now old len) i it at before (cell d) (cell here)
        (subst (λ (x : Cell). (m : Component) → CanGoOn it.holds m x φ → IsAdvanced m x (cell here) φ) (sym (get_or-map cell now it.prim d)) went))
