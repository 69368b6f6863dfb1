-- A plan for the cycles of a design: what it asks of the design, and that its signals are a frame.
use Rattle.std.proofs.Common.{◌≡◌, ℕ, ◌<◌, List, Option, Some, None, length, slice_get, refl, sym, ap, ◌∙◌, subst, inl, inr}
use Rattle.std.specs.Prelude.{option_map}
use Rattle.std.proofs.lemmas.List.Elements.{All-get_or}
use Rattle.std.proofs.lemmas.Option.{get_or_from_slice_get, slice_get-map, slice_get_within}
use Rattle.xm_design.specs.Designed.{Designed, IsDesigned}
use Rattle.xm_design.specs.Numbers.{IsOracles}
use Rattle.xm_design.specs.Tasks.{AreTasks, Makes}
use Rattle.xm_design.specs.declared.tasks.Task.{Task}
use Rattle.xm_model.specs.Component.{Component, Content}
use Rattle.xm_model.specs.Frame.{IsFrame}
use Rattle.xm_model.specs.Lemmas.PortCounts.{counted, input_below, output_below}
use Rattle.xm_model.specs.Net.{HasPrim, IsNet, Network}
use Rattle.xm_model.specs.Signals.{Signals}
use Rattle.xm_model.specs.Views.{choice_at, choice_or, oracles_below}
use Rattle.xm_model.specs.declared.state.Choice.{Choice}
use Rattle.xm_order.specs.Dependence.{IsOrder}
use Rattle.xm_order.specs.Settle.{IsMade, SettleLaw}
use Rattle.xm_order.specs.declared.signal.Signal.{Signal}
use Rattle.xm_order.specs.declared.signal.Signal.TheVariants as signal
use Rattle.xm_plan.specs.Planned.{Planned, choice_for}
use Rattle.xm_plan.specs.Schedule.{ArePlaced, AreSettled, HasMaker, IsMadeFrom, IsMaker, IsSchedule}
use Rattle.xm_step.specs.Inner.Planning.{IsPlanFor}

pub placed_in : (net : Network) → IsNet net → ArePlaced net.prims net.channels
placed_in net is_net p m c has port = elim port [
  | inl has_output ↦ output_below net (counted net is_net) p m c has has_output
  | inr has_input ↦ input_below net (counted net is_net) p m c has has_input
]

task_made : (net : Network) (task : Task) → Makes net task.prim task.signal → HasMaker net.prims task
task_made net task makes = by_signal task.signal refl makes where
  by_signal : (σ : Signal) → task.signal ≡ σ → Makes net task.prim σ → HasMaker net.prims task
  by_signal (signal.Offer c) is makes = record { prim = makes.prim; has = makes.has; maker = subst (λ (σ : Signal). IsMaker makes.prim σ) (sym is) makes.has_output }
  by_signal (signal.Ready c) is makes = record { prim = makes.prim; has = makes.has; maker = subst (λ (σ : Signal). IsMaker makes.prim σ) (sym is) makes.has_input }

module _ (net : Network) (order : List Signal) (tasks : List Task) (is_order : IsOrder net order) (are : AreTasks net order tasks) where
  its_signal : (k : ℕ) (task : Task) → slice_get tasks k ≡ Some task → slice_get order k ≡ Some task.signal
  its_signal k task at =
      sym (ap (λ (xs : List Signal). slice_get xs k) are.listed) ∙ slice_get-map (λ (t : Task). t.signal) tasks k ∙ ap (option_map (λ (t : Task). t.signal)) at

  its_maker : (k : ℕ) (task : Task) → slice_get tasks k ≡ Some task → HasMaker net.prims task
  its_maker k task at =
      task_made net task (subst (λ (t : Task). Makes net t.prim t.signal) (get_or_from_slice_get tasks k task task at)
      (All-get_or (λ (t : Task). Makes net t.prim t.signal) tasks k task (slice_get_within tasks k task at) are.made))

  pub schedule_of : IsSchedule net.prims tasks
  schedule_of = record {
    made = its_maker;
    once = λ j k first second at_j at_k same. is_order.once j k first.signal (its_signal j first at_j) (its_signal k second at_k ∙ ap Some (sym same));
    after = λ j k first second m at_j at_k has needs.
        let before = is_order.after k second.signal first.signal (its_signal k second at_k) (record { place = second.prim; prim = m; has = has; needs = needs }) in
        let same = is_order.once j before.0 first.signal (its_signal j first at_j) before.1.1 in
        subst (λ (i : ℕ). i < k) (sym same) before.1.0;
  }

  -- the task of a signal of the order
  task_at : (k : ℕ) (σ : Signal) → slice_get order k ≡ Some σ → (task : Task) × (slice_get tasks k ≡ Some task) × (task.signal ≡ σ)
  task_at k σ at = cases (slice_get tasks k) refl where
    there : (o : Option Task) → slice_get tasks k ≡ o → option_map (λ (t : Task). t.signal) o ≡ Some σ
    there o is = ap (option_map (λ (t : Task). t.signal)) (sym is) ∙ sym (slice_get-map (λ (t : Task). t.signal) tasks k) ∙ ap (λ (xs : List Signal). slice_get xs k) are.listed ∙ at

    cases : (o : Option Task) → slice_get tasks k ≡ o → (task : Task) × (slice_get tasks k ≡ Some task) × (task.signal ≡ σ)
    cases None is = absurd (let h = there None is in cc)
    cases (Some task) is = (task, is, (let h = there (Some task) is in cc))

-- a primitive's choice stands where the plan's list says
chosen : (prims : List Component) (choices : List ℕ) (row : List Choice) (p : ℕ) (m : Component) → IsOracles prims choices → slice_get prims p ≡ Some m → choice_for choices row p ≡ choice_at prims row p
chosen prims choices row p m oracles has =
    ap (λ (k : ℕ). choice_or (slice_get row k)) (get_or_from_slice_get choices p (oracles_below prims p) 0 (oracles.at p (slice_get_within prims p m has)))

-- one made signal of the frame
made_by : (net : Network) (s : ℕ → Content) (w : ℕ → Choice) (order : List Signal) (φ : Signals) (σ : Signal) (p : ℕ) (m : Component) → SettleLaw net s w order → HasPrim net p m → IsMaker m σ → IsMadeFrom m (s p) (w p) φ φ σ → IsMade net s w φ φ σ
made_by net s w order φ (signal.Offer c) p m law has maker made = law.offers φ φ p m c has maker made
made_by net s w order φ (signal.Ready c) p m law has maker made = law.readies φ φ p m c has maker made

pub frame_from : (it : Designed) (plan : Planned) (s : ℕ → Content) (row : List Choice) (φ : Signals) → IsDesigned it → IsPlanFor it plan → SettleLaw it.net s (choice_at it.net.prims row) it.order →
    AreSettled plan.prims s (choice_for plan.choices row) plan.tasks φ → IsFrame it.net s (choice_at it.net.prims row) φ
frame_from it plan s row φ designed is_plan law settled = law.all φ made where
  made : (k : ℕ) (σ : Signal) → k < length it.order → slice_get it.order k ≡ Some σ → IsMade it.net s (choice_at it.net.prims row) φ φ σ
  made k σ h at =
      let task = task_at it.net it.order is_plan.tasks designed.order is_plan.are_tasks k σ at in
      let maker = its_maker it.net it.order is_plan.tasks designed.order is_plan.are_tasks k task.0 task.1 in
      let place = is_plan.same.to k task.0 task.1 in
      let has : slice_get plan.prims task.0.prim ≡ Some maker.prim = ap (λ (ms : List Component). slice_get ms task.0.prim) is_plan.prims ∙ maker.has in
      let value = settled place.0 task.0 maker.prim place.1 has in
      subst (λ (τ : Signal). IsMade it.net s (choice_at it.net.prims row) φ φ τ) task.2
      (made_by it.net s (choice_at it.net.prims row) it.order φ task.0.signal task.0.prim maker.prim law maker.has maker.maker
      (subst (λ (v : Choice). IsMadeFrom maker.prim (s task.0.prim) v φ φ task.0.signal) (chosen it.net.prims plan.choices row task.0.prim maker.prim is_plan.choices maker.has) value))
