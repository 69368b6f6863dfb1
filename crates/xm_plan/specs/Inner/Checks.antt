-- Inner: tests by which a list of tasks is checked. No public clause cites these.
use Rattle.std.specs.Prelude.{◌≡◌, ℕ, ◌+◌, Bool, true, false, ◌&&◌, ◌||◌, cond, nat_eq, nat_le, List, Some, slice_get, slice_index}
use Rattle.xm_design.specs.declared.tasks.Task.{Task}
use Rattle.xm_model.specs.Component.{Component, Fork, Function, Join, Merge, Queue, Sink, Source, Switch}
use Rattle.xm_order.specs.Loop.{rank}
use Rattle.xm_order.specs.declared.signal.Signal.{Signal}
use Rattle.xm_order.specs.declared.signal.Signal.TheVariants as signal

-- whether the place is at an output port
abbrev pub is_output : Component → ℕ → Bool
is_output (Source out _ _) c = nat_eq out c
is_output (Sink _ _) c = false
is_output (Queue _ out _ _) c = nat_eq out c
is_output (Function _ out _) c = nat_eq out c
is_output (Fork _ a b _ _) c = nat_eq a c || nat_eq b c
is_output (Join _ _ out _) c = nat_eq out c
is_output (Switch _ a b _) c = nat_eq a c || nat_eq b c
is_output (Merge _ _ out) c = nat_eq out c

-- and at an input port
abbrev pub is_input : Component → ℕ → Bool
is_input (Source _ _ _) c = false
is_input (Sink input _) c = nat_eq input c
is_input (Queue input _ _ _) c = nat_eq input c
is_input (Function input _ _) c = nat_eq input c
is_input (Fork input _ _ _ _) c = nat_eq input c
is_input (Join a b _ _) c = nat_eq a c || nat_eq b c
is_input (Switch input _ _ _) c = nat_eq input c
is_input (Merge a b _) c = nat_eq a c || nat_eq b c

abbrev pub is_maker : Component → Signal → Bool
is_maker m (signal.Offer c) = is_output m c
is_maker m (signal.Ready c) = is_input m c

-- the positions count from 1, and 0 is that of a signal of no task
abbrev pub stands_by : List ℕ → ℕ → Signal → Bool
stands_by positions k σ = nat_le (slice_index positions (rank σ)) k

-- whether all that an offer needs pass the test
abbrev pub offer_follows : (Signal → Bool) → Component → ℕ → Bool
offer_follows P (Function input _ _) c = P (signal.Offer input)
offer_follows P (Fork input a b _ _) c =
    P (signal.Offer input)
    && (cond (nat_eq c a) (P (signal.Ready b)) true && cond (nat_eq c b) (P (signal.Ready a)) true)
offer_follows P (Join a b _ _) c = P (signal.Offer a) && P (signal.Offer b)
offer_follows P (Switch input _ _ _) c = P (signal.Offer input)
offer_follows P (Merge a b _) c = P (signal.Offer a) && P (signal.Offer b)
offer_follows P _ c = true

-- and all that a readiness needs
abbrev pub ready_follows : (Signal → Bool) → Component → ℕ → Bool
ready_follows P (Function _ out _) c = P (signal.Ready out)
ready_follows P (Fork _ a b _ _) c = P (signal.Ready a) && P (signal.Ready b)
ready_follows P (Join a b out _) c =
    P (signal.Ready out)
    && (cond (nat_eq c a) (P (signal.Offer b)) true && cond (nat_eq c b) (P (signal.Offer a)) true)
ready_follows P (Switch input a b _) c = P (signal.Offer input) && (P (signal.Ready a) && P (signal.Ready b))
ready_follows P (Merge a b out) c = P (signal.Offer a) && (P (signal.Offer b) && P (signal.Ready out))
ready_follows P _ c = true

abbrev pub follows : (Signal → Bool) → Component → Signal → Bool
follows P m (signal.Offer c) = offer_follows P m c
follows P m (signal.Ready c) = ready_follows P m c

-- the task, number k, stands where its signal is said to stand, and after all that it needs
pub record IsInOrder (prims : List Component) (positions : List ℕ) (task : Task) (k : ℕ) : Type 0 where
  pub prim : Component
  pub has : slice_get prims task.prim ≡ Some prim
  pub maker : is_maker prim task.signal ≡ true
  pub stands : slice_index positions (rank task.signal) ≡ k + 1
  pub after : follows (stands_by positions k) prim task.signal ≡ true

abbrev pub IsAmong : List Task → Task → Type 0
IsAmong tasks task = (j : ℕ) × (slice_get tasks j ≡ Some task)

abbrev pub AreAmong : List Task → List Task → Type 0
AreAmong tasks others = (k : ℕ) (task : Task) → slice_get others k ≡ Some task → IsAmong tasks task
