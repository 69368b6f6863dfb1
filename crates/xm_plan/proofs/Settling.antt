-- Tasks that are done in the order of a schedule are settled.
use Rattle.std.proofs.Common.{◌≡◌, ◌≢◌, ℕ, suc, ◌+◌, ◌<◌, ◌≤◌, Bool, List, [], ◌∷◌, Some, cond, nat_eq, length, take, slice_get, refl, sym, ap, ◌∙◌, subst, arith, inl, inr, add-one}
use Rattle.std.proofs.lemmas.Bool.{cases_lt}
use Rattle.std.proofs.lemmas.Bool.Decides.{eqb_tells}
use Rattle.xm_design.specs.declared.tasks.Task.{Task}
use Rattle.xm_model.specs.Component.{Component, Content, Fork, Join}
use Rattle.xm_model.specs.Lemmas.PortCounts.{at_first}
use Rattle.xm_model.specs.Ports
use Rattle.xm_model.specs.Ports.{HasInput, HasOutput}
use Rattle.xm_model.specs.Signals.{Signals, held_in, offer_chosen, pending_in, ready_chosen}
use Rattle.xm_model.specs.declared.state.Choice.{Choice}
use Rattle.xm_order.specs.Dependence
use Rattle.xm_order.specs.Dependence.{Needs}
use Rattle.xm_order.specs.Settle.{Same}
use Rattle.xm_order.specs.Sides.{offer_side, ready_side}
use Rattle.xm_order.specs.declared.signal.Signal.{Signal}
use Rattle.xm_order.specs.declared.signal.Signal.TheVariants as signal
use Rattle.xm_plan.specs.Inner.Made.{AreMade, AreSettledTo, IsDone, IsLeft, IsStep}
use Rattle.xm_plan.specs.Inner.Operations
use Rattle.xm_plan.specs.Inner.Operations.{FitsOperation, IsOperationOf, MayStay, all_tasks, prim_of, signals_made, task_of}
use Rattle.xm_plan.proofs.Operating.{signal_at, tasks_length}
use Rattle.std.proofs.lemmas.List.{take_all}
use Rattle.std.proofs.lemmas.Option.{slice_get_within}
use Rattle.xm_plan.specs.Lemmas.Standing.{held_ready, standing_offer}
use Rattle.xm_plan.specs.Shown.{AreShown, IsShown}
use Rattle.xm_plan.specs.declared.operation.Operation.{Operation}
use Rattle.xm_plan.specs.declared.operation.Operation.TheVariants as operation
use Rattle.xm_plan.specs.Schedule.{AreSettled, IsMadeFrom, IsMaker, IsSchedule, LeavesOthers}

-- the choice by the first of two ports that may be one
by_port : {X : Type 0} (a b : ℕ) (x y u v : X) → (b ≡ a → x ≡ u) → y ≡ v → cond (nat_eq b a) x y ≡ cond (nat_eq b a) u v
by_port a b x y u v h i = elim (eqb_tells b a) [
  | inl t ↦ rw t.0 (h t.1)
  | inr t ↦ rw t.0 i
]

-- a side is the same where all that it needs is
offer_side_same : (m : Component) (s : Content) (w : Choice) (φ ψ : Signals) (c : ℕ) → HasOutput m c → ((τ : Signal) → Needs m (signal.Offer c) τ → Same φ ψ τ) → offer_side m s w φ c ≡ offer_side m s w ψ c
offer_side_same m s w φ ψ c Ports.source_output same = refl
offer_side_same m s w φ ψ c Ports.queue_output same = refl
offer_side_same m s w φ ψ c Ports.function_output same = let x = same _ Dependence.function_offer in cc
offer_side_same m s w φ ψ c (Ports.fork_output_a {a = a}) same = let x = same _ Dependence.fork_offer_a_in in let y = same _ Dependence.fork_offer_a_b in at_first a _ _ ∙ (cc) ∙ sym (at_first a _ _)
offer_side_same m s w φ ψ c (Ports.fork_output_b {input = input} {a = a} {table_a = ta} {table_b = tb}) same =
    let x = same _ Dependence.fork_offer_b_in in
    by_port a c _ _ _ _
    (λ is_a. let y = same (signal.Ready c) (subst (λ (d : ℕ). Needs (Fork input a c ta tb) (signal.Offer d) (signal.Ready c)) (sym is_a) Dependence.fork_offer_a_b) in cc)
    (let y = same _ Dependence.fork_offer_b_a in cc)
offer_side_same m s w φ ψ c Ports.join_output same = let x = same _ Dependence.join_offer_a in let y = same _ Dependence.join_offer_b in cc
offer_side_same m s w φ ψ c Ports.switch_output_a same = let x = same _ Dependence.switch_offer_a in cc
offer_side_same m s w φ ψ c Ports.switch_output_b same = let x = same _ Dependence.switch_offer_b in cc
offer_side_same m s w φ ψ c Ports.merge_output same = let x = same _ Dependence.merge_offer_a in let y = same _ Dependence.merge_offer_b in cc

ready_side_same : (m : Component) (s : Content) (w : Choice) (φ ψ : Signals) (c : ℕ) → HasInput m c → ((τ : Signal) → Needs m (signal.Ready c) τ → Same φ ψ τ) → ready_side m s w φ c ≡ ready_side m s w ψ c
ready_side_same m s w φ ψ c Ports.sink_input same = refl
ready_side_same m s w φ ψ c Ports.queue_input same = refl
ready_side_same m s w φ ψ c Ports.function_input same = let x = same _ Dependence.function_ready in cc
ready_side_same m s w φ ψ c Ports.fork_input same = let x = same _ Dependence.fork_ready_a in let y = same _ Dependence.fork_ready_b in cc
ready_side_same m s w φ ψ c Ports.join_input_a same = let x = same _ Dependence.join_ready_a_out in let y = same _ Dependence.join_ready_a_b in
    at_first c _ _ ∙ (cc) ∙ sym (at_first c _ _)
ready_side_same m s w φ ψ c (Ports.join_input_b {a = a} {out = out} {pass = pass}) same =
    let x = same _ Dependence.join_ready_b_out in
    by_port a c _ _ _ _
    (λ is_a. let y = same (signal.Offer c) (subst (λ (d : ℕ). Needs (Join a c out pass) (signal.Ready d) (signal.Offer c)) (sym is_a) Dependence.join_ready_a_b) in cc)
    (let y = same _ Dependence.join_ready_b_a in cc)
ready_side_same m s w φ ψ c Ports.switch_input same = let x = same _ Dependence.switch_ready_in in let y = same _ Dependence.switch_ready_a in let z = same _ Dependence.switch_ready_b in cc
ready_side_same m s w φ ψ c Ports.merge_input_a same = let x = same _ Dependence.merge_ready_a_a in let y = same _ Dependence.merge_ready_a_b in let z = same _ Dependence.merge_ready_a_out in cc
ready_side_same m s w φ ψ c Ports.merge_input_b same = let x = same _ Dependence.merge_ready_b_a in let y = same _ Dependence.merge_ready_b_b in let z = same _ Dependence.merge_ready_b_out in cc

-- what was made from φ is made from ψ, where all that it needs is the same
made_again : (m : Component) (s : Content) (w : Choice) (φ ψ χ : Signals) (σ : Signal) → IsMaker m σ → ((τ : Signal) → Needs m σ τ → Same φ ψ τ) → IsMadeFrom m s w φ χ σ → IsMadeFrom m s w ψ χ σ
made_again m s w φ ψ χ (signal.Offer c) maker same made = made ∙ offer_side_same m s w φ ψ c maker same
made_again m s w φ ψ χ (signal.Ready c) maker same made = made ∙ ready_side_same m s w φ ψ c maker same

-- a signal that has not changed
made_still : (m : Component) (s : Content) (w : Choice) (φ ψ χ : Signals) (σ : Signal) → Same ψ χ σ → IsMadeFrom m s w φ ψ σ → IsMadeFrom m s w φ χ σ
made_still m s w φ ψ χ (signal.Offer c) same made = sym same ∙ made
made_still m s w φ ψ χ (signal.Ready c) same made = sym same ∙ made

same_after : (φ ψ χ : Signals) (σ : Signal) → Same φ ψ σ → Same ψ χ σ → Same φ χ σ
same_after φ ψ χ (signal.Offer c) x y = x ∙ y
same_after φ ψ χ (signal.Ready c) x y = x ∙ y

module _ (prims : List Component) (s : ℕ → Content) (w : ℕ → Choice) (tasks : List Task) (schedule : IsSchedule prims tasks) (first : Signals) where
  its_maker : (k : ℕ) (task : Task) (m : Component) → slice_get tasks k ≡ Some task → slice_get prims task.prim ≡ Some m → IsMaker m task.signal
  its_maker k task m at has =
      let h = schedule.made k task at in
      let there = h.has in
      let same : h.prim ≡ m = cc in
      subst (λ (n : Component). IsMaker n task.signal) same h.maker

  -- what a task needs is made by none that comes no earlier
  needs_apart : (k n : ℕ) (it task : Task) (m : Component) → k < suc n → slice_get tasks k ≡ Some it → slice_get tasks n ≡ Some task → slice_get prims it.prim ≡ Some m → (τ : Signal) → Needs m it.signal τ → τ ≢ task.signal
  needs_apart k n it task m h at_k at_n has τ needs same =
      let before = schedule.after n k task it m at_n at_k has (subst (λ (x : Signal). Needs m it.signal x) same needs) in
      absurd (omega arith)

  module _ (φ ψ : Signals) (n : ℕ) (task : Task) (m : Component) (before : AreSettledTo prims s w tasks first n φ) (at_n : slice_get tasks n ≡ Some task) (has_m : slice_get prims task.prim ≡ Some m) (step : IsStep m (s task.prim) (w task.prim) φ ψ task.signal) where
    one_settled : (k : ℕ) (it : Task) (l : Component) → k < suc n → slice_get tasks k ≡ Some it → slice_get prims it.prim ≡ Some l → IsMadeFrom l (s it.prim) (w it.prim) ψ ψ it.signal
    one_settled k it l h at_k has_l =
        let unchanged : (τ : Signal) → Needs l it.signal τ → Same φ ψ τ = λ τ needs. step.only τ (needs_apart k n it task l h at_k at_n has_l τ needs) in
        let maker = its_maker k it l at_k has_l in
        elim (cases_lt k n) [
          | inl earlier ↦ made_again l _ _ φ ψ ψ it.signal maker unchanged
              (made_still l _ _ φ φ ψ it.signal (step.only it.signal (λ same. let one = schedule.once k n it task at_k at_n same in absurd (omega arith))) (before.settled k it l earlier at_k has_l))
          | inr late ↦
              let is_n : k ≡ n = omega arith in
              let there : slice_get tasks k ≡ slice_get tasks n = ap (slice_get tasks) is_n in
              let same : task ≡ it = cc in
              let is_m : m ≡ l = let x = ap (λ (t : Task). slice_get prims t.prim) same in cc in
              made_again l _ _ φ ψ ψ it.signal maker unchanged
              (subst (λ (t : Task). IsMadeFrom l (s t.prim) (w t.prim) φ ψ t.signal) same (subst (λ (x : Component). IsMadeFrom x (s task.prim) (w task.prim) φ ψ task.signal) is_m step.value))
        ]

    one_more : AreSettledTo prims s w tasks first (suc n) ψ
    one_more = record {
      settled = one_settled;
      others = λ σ none. same_after first φ ψ σ (before.others σ (λ k it h at. none k it (omega arith) at)) (step.only σ (λ same. none n task (omega arith) at_n (sym same)));
    }

  -- all signals of an operation
  pub settled_more : (p : ℕ) (m : Component) (σs : List Signal) (n : ℕ) (φ ψ : Signals) → slice_get prims p ≡ Some m → AreSettledTo prims s w tasks first n φ →
      ((j : ℕ) (σ : Signal) → slice_get σs j ≡ Some σ → slice_get tasks (n + j) ≡ Some (task_of p σ)) → AreMade m (s p) (w p) φ σs ψ → AreSettledTo prims s w tasks first (n + length σs) ψ
  settled_more p m [] n φ ψ has before at made =
      let none : n + 0 ≡ n = omega arith in
      subst (λ (i : ℕ). AreSettledTo prims s w tasks first i ψ) (sym none) (subst (λ (χ : Signals). AreSettledTo prims s w tasks first n χ) made before)
  settled_more p m (σ ∷ σs) n φ ψ has before at made =
      let here : n + 0 ≡ n = omega arith in
      let one = one_more φ made.0 n (task_of p σ) m before (subst (λ (i : ℕ). slice_get tasks i ≡ Some (task_of p σ)) here (at 0 σ refl)) has made.1.0 in
      let rest = settled_more p m σs (suc n) made.0 ψ has one (λ j τ e. subst (λ (i : ℕ). slice_get tasks i ≡ Some (task_of p τ)) (next n j) (at (suc j) τ e)) made.1.1 in
      subst (λ (i : ℕ). AreSettledTo prims s w tasks first i ψ) (sym (next n (length σs))) rest where
        next : (n j : ℕ) → n + suc j ≡ suc n + j
        next n j = omega arith

pub same_self : (φ : Signals) (σ : Signal) → Same φ φ σ
same_self φ (signal.Offer c) = refl
same_self φ (signal.Ready c) = refl

pub none_settled : (prims : List Component) (s : ℕ → Content) (w : ℕ → Choice) (tasks : List Task) (φ : Signals) → AreSettledTo prims s w tasks φ 0 φ
none_settled prims s w tasks φ = record { settled = λ k task m h. absurd (omega arith); others = λ σ none. same_self φ σ }

-- one operation more
pub operation_settled : (prims : List Component) (s : ℕ → Content) (w : ℕ → Choice) (ops : List Operation) → IsSchedule prims (all_tasks ops) → (first φ ψ : Signals) (choices : List ℕ) (k : ℕ) (op : Operation) →
    slice_get ops k ≡ Some op → FitsOperation prims choices op → AreSettledTo prims s w (all_tasks ops) first (length (all_tasks (take k ops))) φ → IsDone prims s w φ op ψ →
    AreSettledTo prims s w (all_tasks ops) first (length (all_tasks (take (k + 1) ops))) ψ
operation_settled prims s w ops schedule first φ ψ choices k op at fits before done =
    rw (add-one, tasks_length ops k op at)
    (settled_more prims s w (all_tasks ops) schedule first (prim_of op) fits.prim (signals_made op) (length (all_tasks (take k ops))) φ ψ fits.has before (λ j σ e. signal_at ops k j op σ at e) (done fits.prim fits.has))

same_step : (m : Component) (s : Content) (w : Choice) (φ : Signals) (σ : Signal) → IsMadeFrom m s w φ φ σ → IsStep m s w φ φ σ
same_step m s w φ σ value = record { value = value; only = λ τ other. same_self φ τ }

-- signals that show what the primitive holds need not be made
pub shown_done : (choices : List ℕ) (m : Component) (s : Content) (w : Choice) (φ : Signals) (op : Operation) → MayStay op → IsOperationOf choices op m → IsShown m s φ → AreMade m s w φ (signals_made op) φ
shown_done choices m s w φ (operation.Source p out choice mode) may (Operations.source {colours = colours} at eager) shown =
    (φ, (same_step m s w φ (signal.Offer out) (shown.1 ∙ sym (standing_offer mode colours (pending_in s) (offer_chosen w) shown.0)), refl))
shown_done choices m s w φ (operation.Sink p input choice mode) may (Operations.sink at) shown =
    (φ, (same_step m s w φ (signal.Ready input) (shown.1 ∙ sym (held_ready mode (held_in s) (ready_chosen w) shown.0)), refl))
shown_done choices m s w φ (operation.Queue p input out capacity) may Operations.queue shown =
    (φ, (same_step m s w φ (signal.Offer out) shown.0, (φ, (same_step m s w φ (signal.Ready input) shown.1, refl))))
shown_done choices m s w φ (operation.Function p input out) may is shown = absurd may
shown_done choices m s w φ (operation.ForkPlain p input a b n) may is shown = absurd may
shown_done choices m s w φ (operation.Fork p input a b) may is shown = absurd may
shown_done choices m s w φ (operation.Join p a b out pass) may is shown = absurd may
shown_done choices m s w φ (operation.SwitchOffers p input a b) may is shown = absurd may
shown_done choices m s w φ (operation.SwitchReady p input a b) may is shown = absurd may
shown_done choices m s w φ (operation.Merge p a b out) may is shown = absurd may
shown_done choices m s w φ (operation.One task) may is shown = absurd may

-- what was shown is shown still, where the operation's signals are the same
shown_still : (choices : List ℕ) (m : Component) (s : Content) (φ ψ : Signals) (op : Operation) → MayStay op → IsOperationOf choices op m → ((i : ℕ) (σ : Signal) → slice_get (signals_made op) i ≡ Some σ → Same φ ψ σ) → IsShown m s φ → IsShown m s ψ
shown_still choices m s φ ψ (operation.Source p out choice mode) may (Operations.source at eager) same shown = (shown.0, sym (same 0 (signal.Offer out) refl) ∙ shown.1)
shown_still choices m s φ ψ (operation.Sink p input choice mode) may (Operations.sink at) same shown = (shown.0, sym (same 0 (signal.Ready input) refl) ∙ shown.1)
shown_still choices m s φ ψ (operation.Queue p input out capacity) may Operations.queue same shown = (sym (same 0 (signal.Offer out) refl) ∙ shown.0, sym (same 1 (signal.Ready input) refl) ∙ shown.1)
shown_still choices m s φ ψ (operation.Function p input out) may is same shown = absurd may
shown_still choices m s φ ψ (operation.ForkPlain p input a b n) may is same shown = absurd may
shown_still choices m s φ ψ (operation.Fork p input a b) may is same shown = absurd may
shown_still choices m s φ ψ (operation.Join p a b out pass) may is same shown = absurd may
shown_still choices m s φ ψ (operation.SwitchOffers p input a b) may is same shown = absurd may
shown_still choices m s φ ψ (operation.SwitchReady p input a b) may is same shown = absurd may
shown_still choices m s φ ψ (operation.Merge p a b out) may is same shown = absurd may
shown_still choices m s φ ψ (operation.One task) may is same shown = absurd may

-- the primitive of an operation that fits
pub operation_of : (prims : List Component) (choices : List ℕ) (op : Operation) (m : Component) → FitsOperation prims choices op → slice_get prims (prim_of op) ≡ Some m → IsOperationOf choices op m
operation_of prims choices op m fits has =
    let there = fits.has in
    let same : fits.prim ≡ m = cc in
    subst (λ (n : Component). IsOperationOf choices op n) same fits.is

-- what an operation may leave is shown still
pub left_settled : (prims : List Component) (s : ℕ → Content) (w : ℕ → Choice) (changed : List Bool) (ops : List Operation) → IsSchedule prims (all_tasks ops) → (first φ : Signals) (choices : List ℕ) (k : ℕ) (op : Operation) →
    slice_get ops k ≡ Some op → FitsOperation prims choices op → AreShown prims s changed first → AreSettledTo prims s w (all_tasks ops) first (length (all_tasks (take k ops))) φ → IsLeft prims s changed φ op
left_settled prims s w changed ops schedule first φ choices k op at fits shown before = λ m has unchanged may.
    let n = length (all_tasks (take k ops)) in
    shown_still choices m (s (prim_of op)) first φ op may (operation_of prims choices op m fits has)
    (λ i σ e. before.others σ (λ j task less there same.
    let one = schedule.once j (n + i) task (task_of (prim_of op) σ) there (signal_at ops k i op σ at e) same in absurd (omega arith)))
    (shown (prim_of op) m has unchanged)

-- all operations
pub all_settled : (prims : List Component) (s : ℕ → Content) (w : ℕ → Choice) (ops : List Operation) (first φ : Signals) (k : ℕ) → length ops ≤ k →
    AreSettledTo prims s w (all_tasks ops) first (length (all_tasks (take k ops))) φ → AreSettled prims s w (all_tasks ops) φ × LeavesOthers (all_tasks ops) first φ
all_settled prims s w ops first φ k whole so_far =
    let same : length (all_tasks (take k ops)) ≡ length (all_tasks ops) = ap (λ (xs : List Operation). length (all_tasks xs)) (take_all k ops whole) in (
      λ j task m at has. so_far.settled j task m (let h = slice_get_within (all_tasks ops) j task at in omega arith) at has,
      λ σ none. so_far.others σ (λ j task h at. none j task at),
    )
