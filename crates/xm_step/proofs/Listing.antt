-- The queues of a net and its other primitives that hold something, one more in its list.
use Rattle.std.proofs.Common.{◌≡◌, ℕ, ◌+◌, ◌<◌, List, [], ◌∷◌, ◌++◌, Some, length, slice_get, Result, Ok, Err, OnOk, ap, subst, inl, inr, arith}
use Rattle.std.proofs.lemmas.Bool.{cases_lt}
use Rattle.xm_model.specs.Component.{Component, Fork, Function, Join, Merge, Queue, Sink, Source, Switch}
use Rattle.xm_order.specs.Lemmas.Items.{get-append_left, get-push_last, push_cases}
use Rattle.xm_step.specs.Inner.Kinds.{AreKindsTo, IsHolderAt, IsHoldingOf, IsIdleAt, IsQueueAt}
use Rattle.xm_step.specs.Still.{HoldsNothing}
use Rattle.xm_step.specs.declared.kinds.Holding.{Holding}
use Rattle.xm_step.specs.declared.kinds.Holding.TheVariants as holding
use Rattle.xm_step.specs.declared.kinds.Holder.{Holder}
use Rattle.xm_step.specs.declared.kinds.QueuePlace.{QueuePlace}

pub none_listed : (ms : List Component) → AreKindsTo ms 0 [] []
none_listed ms = record {
  queue_at = λ k it at. absurd cc;
  other_at = λ k it at. absurd cc;
  whole = λ p h. absurd (omega arith);
  queues_once = λ j k x y at_j at_k same. absurd cc;
  others_once = λ j k x y at_j at_k same. absurd cc;
  apart = λ j k x y at_j at_k same. absurd cc;
}

-- places that stand once each do so with one more, which is later
once_more : {A : Type 0} (place : A → ℕ) (n : ℕ) (xs : List A) (it : A) → place it ≡ n → ((k : ℕ) (x : A) → slice_get xs k ≡ Some x → place x < n) →
    ((j k : ℕ) (x y : A) → slice_get xs j ≡ Some x → slice_get xs k ≡ Some y → place x ≡ place y → j ≡ k) →
    (j k : ℕ) (x y : A) → slice_get (xs ++ it ∷ []) j ≡ Some x → slice_get (xs ++ it ∷ []) k ≡ Some y → place x ≡ place y → j ≡ k
once_more place n xs it is_n below once j k x y at_j at_k same = elim (push_cases xs it j x at_j) [
  | inl old_j ↦ elim (push_cases xs it k y at_k) [
    | inl old_k ↦ once j k x y old_j old_k same
    | inr new_k ↦ absurd (let b = below j x old_j in let e = ap place new_k.1 in omega arith)
  ]
  | inr new_j ↦ elim (push_cases xs it k y at_k) [
    | inl old_k ↦ absurd (let b = below k y old_k in let e = ap place new_j.1 in omega arith)
    | inr new_k ↦ (let a = new_j.0 in let b = new_k.0 in omega arith)
  ]
]

pub other_listed : (ms : List Component) (n : ℕ) (queues : List QueuePlace) (others : List Holder) (it : Holder) → it.prim ≡ n → IsHolderAt ms it → AreKindsTo ms n queues others → AreKindsTo ms (n + 1) queues (others ++ it ∷ [])
other_listed ms n queues others it is_n is_holder before = record {
  queue_at = λ k x at. let h = before.queue_at k x at in (h.0, (let b = h.1 in omega arith));
  other_at = λ k x at. elim (push_cases others it k x at) [
    | inl old ↦ (let h = before.other_at k x old in (h.0, (let b = h.1 in omega arith)))
    | inr new ↦ (subst (λ (y : Holder). IsHolderAt ms y) new.1 is_holder, (let e = ap (λ (y : Holder). y.prim) new.1 in omega arith))
  ];
  whole = λ p h. elim (cases_lt p n) [
    | inl less ↦ elim (before.whole p less) [
      | inl queue ↦ inl queue
      | inr rest ↦ elim rest [
        | inl other ↦ inr (inl (other.0, (other.1.0, (get-append_left others (it ∷ []) other.0 other.1.0 other.1.1.0, other.1.1.1))))
        | inr idle ↦ inr (inr idle)
      ]
    ]
    | inr late ↦ inr (inl (length others, (it, (get-push_last others it, (omega arith)))))
  ];
  queues_once = before.queues_once;
  others_once = once_more (λ (x : Holder). x.prim) n others it is_n (λ k x at. (before.other_at k x at).1) before.others_once;
  apart = λ j k x y at_j at_k same. elim (push_cases others it k y at_k) [
    | inl old ↦ before.apart j k x y at_j old same
    | inr new ↦ (let h = before.queue_at j x at_j in let b = h.1 in let e = ap (λ (z : Holder). z.prim) new.1 in absurd (omega arith))
  ];
}

pub queue_listed : (ms : List Component) (n : ℕ) (queues : List QueuePlace) (others : List Holder) (it : QueuePlace) → it.prim ≡ n → IsQueueAt ms it → AreKindsTo ms n queues others → AreKindsTo ms (n + 1) (queues ++ it ∷ []) others
queue_listed ms n queues others it is_n is_queue before = record {
  queue_at = λ k x at. elim (push_cases queues it k x at) [
    | inl old ↦ (let h = before.queue_at k x old in (h.0, (let b = h.1 in omega arith)))
    | inr new ↦ (subst (λ (y : QueuePlace). IsQueueAt ms y) new.1 is_queue, (let e = ap (λ (y : QueuePlace). y.prim) new.1 in omega arith))
  ];
  other_at = λ k x at. let h = before.other_at k x at in (h.0, (let b = h.1 in omega arith));
  whole = λ p h. elim (cases_lt p n) [
    | inl less ↦ elim (before.whole p less) [
      | inl queue ↦ inl (queue.0, (queue.1.0, (get-append_left queues (it ∷ []) queue.0 queue.1.0 queue.1.1.0, queue.1.1.1)))
      | inr rest ↦ inr rest
    ]
    | inr late ↦ inl (length queues, (it, (get-push_last queues it, (omega arith))))
  ];
  queues_once = once_more (λ (x : QueuePlace). x.prim) n queues it is_n (λ k x at. (before.queue_at k x at).1) before.queues_once;
  others_once = before.others_once;
  apart = λ j k x y at_j at_k same. elim (push_cases queues it j x at_j) [
    | inl old ↦ before.apart j k x y old at_k same
    | inr new ↦ (let h = before.other_at k y at_k in let b = h.1 in let e = ap (λ (z : QueuePlace). z.prim) new.1 in absurd (omega arith))
  ];
}

pub idle_listed : (ms : List Component) (n : ℕ) (queues : List QueuePlace) (others : List Holder) → IsIdleAt ms n → AreKindsTo ms n queues others → AreKindsTo ms (n + 1) queues others
idle_listed ms n queues others is_idle before = record {
  queue_at = λ k x at. let h = before.queue_at k x at in (h.0, (let b = h.1 in omega arith));
  other_at = λ k x at. let h = before.other_at k x at in (h.0, (let b = h.1 in omega arith));
  whole = λ p h. elim (cases_lt p n) [
    | inl less ↦ before.whole p less
    | inr late ↦ (let is : n ≡ p = omega arith in inr (inr (subst (λ (q : ℕ). IsIdleAt ms q) is is_idle)))
  ];
  queues_once = before.queues_once;
  others_once = before.others_once;
  apart = before.apart;
}

-- what holds nothing is told by its holding, and what holds packets is a queue
pub idle_told : (ms : List Component) (p : ℕ) (m : Component) (h : Holding) → slice_get ms p ≡ Some m → IsHoldingOf h m → h ≡ holding.Nothing → IsIdleAt ms p
idle_told ms p (Source o cs md) h has is none = absurd cc
idle_told ms p (Sink i md) h has is none = absurd cc
idle_told ms p (Queue i o cap ini) h has is none = absurd cc
idle_told ms p (Function i o t) h has is none = record { prim = Function i o t; has = has; idle = tt }
idle_told ms p (Fork i a b t u) h has is none = record { prim = Fork i a b t u; has = has; idle = tt }
idle_told ms p (Join a b o s) h has is none = record { prim = Join a b o s; has = has; idle = tt }
idle_told ms p (Switch i a b t) h has is none = record { prim = Switch i a b t; has = has; idle = tt }
idle_told ms p (Merge a b o) h has is none = absurd cc

pub busy_told : (m : Component) (h : Holding) → IsHoldingOf h m → (h ≡ holding.Nothing → ⊥) → HoldsNothing m → ⊥
busy_told (Source o cs md) h is busy idle = idle
busy_told (Sink i md) h is busy idle = idle
busy_told (Queue i o cap ini) h is busy idle = idle
busy_told (Function i o t) h is busy idle = busy is
busy_told (Fork i a b t u) h is busy idle = busy is
busy_told (Join a b o s) h is busy idle = busy is
busy_told (Switch i a b t) h is busy idle = busy is
busy_told (Merge a b o) h is busy idle = idle

pub queue_told : (ms : List Component) (p : ℕ) (m : Component) (h : Holding) (input out : ℕ) → slice_get ms p ≡ Some m → IsHoldingOf h m → h ≡ holding.Packets input out → IsQueueAt ms (record { prim = p; input = input; out = out })
queue_told ms p (Queue i o cap ini) h input out has is packets = record {
  capacity = cap;
  initial = ini;
  has = let same_input : i ≡ input = cc in let same_out : o ≡ out = cc in subst (λ (c : ℕ). slice_get ms p ≡ Some (Queue c out cap ini)) same_input (subst (λ (c : ℕ). slice_get ms p ≡ Some (Queue i c cap ini)) same_out has);
}
queue_told ms p (Source o cs md) h input out has is packets = absurd cc
queue_told ms p (Sink i md) h input out has is packets = absurd cc
queue_told ms p (Function i o t) h input out has is packets = absurd cc
queue_told ms p (Fork i a b t u) h input out has is packets = absurd cc
queue_told ms p (Join a b o s) h input out has is packets = absurd cc
queue_told ms p (Switch i a b t) h input out has is packets = absurd cc
queue_told ms p (Merge a b o) h input out has is packets = absurd cc

pub on_ok : {T E : Type 0} → (r : Result T E) (P Q : Type 0) → (P → Q) → OnOk r P → OnOk r Q
on_ok (Ok x) P Q f h = f h
on_ok (Err e) P Q f h = h
