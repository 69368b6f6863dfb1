-- Operations and their tasks.
use Rattle.std.proofs.Common.{◌≡◌, ◌≢◌, ℕ, zero, suc, ◌+◌, ◌<◌, List, [], ◌∷◌, ◌++◌, Option, Some, None, length, map, take, get_or, slice_get, refl, sym, ap, ◌∙◌, subst, arith, inl, inr, append_assoc, length-append}
use Rattle.std.specs.Prelude.{option_map}
use Rattle.std.proofs.lemmas.List.{length-map}
use Rattle.std.proofs.lemmas.Option.{slice_get-map, slice_get_read, slice_get_within}
use Rattle.xm_design.specs.declared.tasks.Task.{Task}
use Rattle.xm_model.specs.Component.{Component, Content, Fork, Function, Join, Merge, Queue, Sink, Source, Switch, component_of, content_of}
use Rattle.xm_design.specs.Lemmas.Components.{component_at}
use Rattle.xm_model.specs.Views.{content_at, content_or}
use Rattle.xm_model.specs.declared.primitive.Primitive.{Primitive}
use Rattle.xm_model.specs.declared.state.Cell.{Cell}
use Rattle.xm_model.specs.Ports.{fork_input, fork_output_a, fork_output_b, function_input, function_output, join_input_a, join_input_b, join_output, merge_input_a, merge_input_b, merge_output, queue_input, queue_output, sink_input, source_output, switch_input, switch_output_a, switch_output_b}
use Rattle.xm_model.specs.Signals.{Signals}
use Rattle.xm_model.specs.declared.state.Choice.{Choice}
use Rattle.xm_order.specs.Dependence.{channel_of}
use Rattle.xm_order.specs.Lemmas.Items.{get-append_left, get-append_right, push_cases}
use Rattle.xm_order.specs.declared.signal.Signal.{Signal}
use Rattle.xm_order.specs.declared.signal.Signal.TheVariants as signal
use Rattle.xm_plan.specs.Inner.Made.{AreMade, IsDone}
use Rattle.xm_plan.specs.Inner.Operations
use Rattle.xm_plan.specs.Inner.Operations.{AllFit, AreApart, AreBelow, FitsOperation, IsOperationOf, Keeps, all_tasks, places_of, prim_of, signals_made, singles, table_a_in, table_b_in, table_in, task_of, tasks_of, to_a_in}
use Rattle.xm_plan.specs.Schedule.{ArePlaced, IsMaker, IsSchedule, SameTasks}
use Rattle.xm_plan.specs.Inner.Kept.{AreFor}
use Rattle.xm_plan.specs.declared.operation.Operation.{Operation}
use Rattle.xm_plan.specs.declared.operation.Operation.TheVariants as operation
use Rattle.xm_model.specs.declared.primitive.Side.{Side}
use Rattle.xm_model.specs.declared.primitive.SinkMode.{SinkMode}
use Rattle.xm_model.specs.declared.primitive.SourceMode.{SourceMode}
use Rattle.xm_model.specs.declared.primitive.SourceMode.TheVariants as source_mode

-- the tasks of one operation more
pub all_tasks-more : (ops : List Operation) (k : ℕ) (op : Operation) → slice_get ops k ≡ Some op →
    all_tasks (take (suc k) ops) ≡ all_tasks (take k ops) ++ tasks_of op
all_tasks-more [] k op e = absurd cc
all_tasks-more (o ∷ ops) zero op e = let same : o ≡ op = cc in append_nil (tasks_of o) ∙ ap tasks_of same where
  append_nil : (xs : List Task) → xs ++ [] ≡ xs
  append_nil [] = refl
  append_nil (x ∷ xs) = ap (λ (rest : List Task). x ∷ rest) (append_nil xs)
all_tasks-more (o ∷ ops) (suc k) op e = ap (λ (rest : List Task). tasks_of o ++ rest) (all_tasks-more ops k op e) ∙ sym (append_assoc (tasks_of o) (all_tasks (take k ops)) (tasks_of op))

pub tasks_length : (ops : List Operation) (k : ℕ) (op : Operation) → slice_get ops k ≡ Some op →
    length (all_tasks (take (suc k) ops)) ≡ length (all_tasks (take k ops)) + length (signals_made op)
tasks_length ops k op e = ap length (all_tasks-more ops k op e) ∙ length-append (all_tasks (take k ops)) (tasks_of op) ∙ ap (λ (n : ℕ). length (all_tasks (take k ops)) + n) (length-map (signals_made op) (task_of (prim_of op)))

-- where the tasks of an operation stand among all
pub tasks_at : (ops : List Operation) (k j : ℕ) (op : Operation) (task : Task) → slice_get ops k ≡ Some op → slice_get (tasks_of op) j ≡ Some task →
    slice_get (all_tasks ops) (length (all_tasks (take k ops)) + j) ≡ Some task
tasks_at [] k j op task e at = absurd cc
tasks_at (o ∷ ops) zero j op task e at =
    let same : o ≡ op = cc in
    let start : 0 + j ≡ j = omega arith in
    subst (λ (i : ℕ). slice_get (all_tasks (o ∷ ops)) i ≡ Some task) (sym start)
    (get-append_left (tasks_of o) (all_tasks ops) j task (subst (λ (x : Operation). slice_get (tasks_of x) j ≡ Some task) (sym same) at))
tasks_at (o ∷ ops) (suc k) j op task e at =
    let rest = tasks_at ops k j op task e at in
    get-append_right (tasks_of o) (all_tasks ops) (length (tasks_of o ++ all_tasks (take k ops)) + j) (length (all_tasks (take k ops)) + j)
    (let whole = length-append (tasks_of o) (all_tasks (take k ops)) in omega arith) ∙ rest

pub signal_at : (ops : List Operation) (k j : ℕ) (op : Operation) (σ : Signal) → slice_get ops k ≡ Some op → slice_get (signals_made op) j ≡ Some σ →
    slice_get (all_tasks ops) (length (all_tasks (take k ops)) + j) ≡ Some (task_of (prim_of op) σ)
signal_at ops k j op σ e at = tasks_at ops k j op (task_of (prim_of op) σ) e (slice_get-map (task_of (prim_of op)) (signals_made op) j ∙ ap (option_map (task_of (prim_of op))) at)

-- one fitting operation more
pub all_fit-more : (prims : List Component) (choices : List ℕ) (ops : List Operation) (op : Operation) → AllFit prims choices ops → FitsOperation prims choices op → AllFit prims choices (ops ++ op ∷ [])
all_fit-more prims choices ops op fit here k it at = elim (push_cases ops op k it at) [
  | inl old ↦ fit k it old
  | inr new ↦ subst (λ (x : Operation). FitsOperation prims choices x) new.1 here
]

-- an operation's places are ports of its primitive
module _ (prims : List Component) (choices : List ℕ) (n : ℕ) (placed : ArePlaced prims n) where
  maker_below : (p : ℕ) (m : Component) (σ : Signal) → slice_get prims p ≡ Some m → IsMaker m σ → channel_of σ < n
  maker_below p m (signal.Offer c) has maker = placed p m c has (inl maker)
  maker_below p m (signal.Ready c) has maker = placed p m c has (inr maker)

  below : (op : Operation) (m : Component) → slice_get prims (prim_of op) ≡ Some m → IsOperationOf choices op m → AreBelow n (places_of op)
  below op m has (Operations.source at eager) = (placed _ _ _ has (inl source_output), tt)
  below op m has (Operations.sink at) = (placed _ _ _ has (inr sink_input), tt)
  below op m has Operations.queue = (placed _ _ _ has (inr queue_input), (placed _ _ _ has (inl queue_output), tt))
  below op m has Operations.function = (placed _ _ _ has (inr function_input), (placed _ _ _ has (inl function_output), tt))
  below op m has (Operations.fork_plain apart ka kb) = (placed _ _ _ has (inr fork_input), (placed _ _ _ has (inl fork_output_a), (placed _ _ _ has (inl fork_output_b), tt)))
  below op m has (Operations.fork apart) = (placed _ _ _ has (inr fork_input), (placed _ _ _ has (inl fork_output_a), (placed _ _ _ has (inl fork_output_b), tt)))
  below op m has (Operations.join apart) = (placed _ _ _ has (inr join_input_a), (placed _ _ _ has (inr join_input_b), (placed _ _ _ has (inl join_output), tt)))
  below op m has (Operations.switch_offers apart) = (placed _ _ _ has (inr switch_input), (placed _ _ _ has (inl switch_output_a), (placed _ _ _ has (inl switch_output_b), tt)))
  below op m has Operations.switch_ready = (placed _ _ _ has (inr switch_input), (placed _ _ _ has (inl switch_output_a), (placed _ _ _ has (inl switch_output_b), tt)))
  below op m has (Operations.merge apart) = (placed _ _ _ has (inr merge_input_a), (placed _ _ _ has (inr merge_input_b), (placed _ _ _ has (inl merge_output), tt)))
  below op m has (Operations.one {task = task} maker) = (maker_below _ _ task.signal has maker, tt)

  pub places_below : (op : Operation) → FitsOperation prims choices op → AreBelow n (places_of op)
  places_below op fits = below op fits.prim fits.has fits.is

-- what was made of the operation's own primitive, with what it holds and what was chosen
pub done_from : (prims : List Component) (choices : List ℕ) (s : ℕ → Content) (w : ℕ → Choice) (φ ψ : Signals) (op : Operation) → (fits : FitsOperation prims choices op) → (x : Content) (v : Choice) →
    x ≡ s (prim_of op) → v ≡ w (prim_of op) → AreMade fits.prim x v φ (signals_made op) ψ → IsDone prims s w φ op ψ
done_from prims choices s w φ ψ op fits x v holds chosen made m has =
    let there = fits.has in
    let same : fits.prim ≡ m = cc in
    subst (λ (n : Component). AreMade n (s (prim_of op)) (w (prim_of op)) φ (signals_made op) ψ) same
    (subst (λ (y : Content). AreMade fits.prim y (w (prim_of op)) φ (signals_made op) ψ) holds
    (subst (λ (u : Choice). AreMade fits.prim x u φ (signals_made op) ψ) chosen made))

-- what the code reads of the operation's primitive
pub prim_within : (xs : List Primitive) (choices : List ℕ) (op : Operation) → FitsOperation (map component_of xs) choices op → prim_of op < length xs
prim_within xs choices op fits = let h = slice_get_within (map component_of xs) (prim_of op) fits.prim fits.has in omega (arith, h, length-map xs component_of)

pub component_read : (xs : List Primitive) (p : ℕ) (x : Primitive) (m : Component) → p < length xs → x ≡ get_or xs p x → slice_get (map component_of xs) p ≡ Some m → component_of x ≡ m
component_read xs p x m h read has = let there = component_at xs p x h read in cc

pub cell_read : {X : Type 0} (cell : X → Cell) (xs : List X) (p : ℕ) (x : X) → p < length xs → x ≡ get_or xs p x → content_of (cell x) ≡ content_at (map cell xs) p
cell_read cell xs p x h read = ap content_or (sym (slice_get-map cell xs p ∙ ap (option_map cell) (slice_get_read xs (length xs) p x refl h read)))

-- signals that were made of the operation's primitive, kind by kind
pub source_done : (choices : List ℕ) (m : Component) (s : Content) (w : Choice) (φ ψ : Signals) (p out choice : ℕ) (mode : SourceMode) → IsOperationOf choices (operation.Source p out choice mode) m →
    ((colours : List ℕ) → mode ≢ source_mode.Eager → AreMade (Source out colours mode) s w φ (signal.Offer out ∷ []) ψ) → AreMade m s w φ (signal.Offer out ∷ []) ψ
source_done choices m s w φ ψ p out choice mode (Operations.source {colours = colours} at eager) made = made colours eager

pub sink_done : (choices : List ℕ) (m : Component) (s : Content) (w : Choice) (φ ψ : Signals) (p input choice : ℕ) (mode : SinkMode) → IsOperationOf choices (operation.Sink p input choice mode) m →
    AreMade (Sink input mode) s w φ (signal.Ready input ∷ []) ψ → AreMade m s w φ (signal.Ready input ∷ []) ψ
sink_done choices m s w φ ψ p input choice mode (Operations.sink at) made = made

pub queue_done : (choices : List ℕ) (m : Component) (s : Content) (w : Choice) (φ ψ : Signals) (p input out capacity : ℕ) (σs : List Signal) → IsOperationOf choices (operation.Queue p input out capacity) m →
    ((initial : List ℕ) → AreMade (Queue input out capacity initial) s w φ σs ψ) → AreMade m s w φ σs ψ
queue_done choices m s w φ ψ p input out capacity σs (Operations.queue {initial = initial}) made = made initial

pub function_done : (choices : List ℕ) (m : Component) (s : Content) (w : Choice) (φ ψ : Signals) (p input out : ℕ) (σs : List Signal) → IsOperationOf choices (operation.Function p input out) m →
    AreMade (Function input out (table_in m)) s w φ σs ψ → AreMade m s w φ σs ψ
function_done choices m s w φ ψ p input out σs Operations.function made = made

pub fork_plain_done : (choices : List ℕ) (m : Component) (s : Content) (w : Choice) (φ ψ : Signals) (p input a b n : ℕ) (σs : List Signal) → IsOperationOf choices (operation.ForkPlain p input a b n) m →
    ((ta tb : List ℕ) → AreApart input a b → Keeps n ta → Keeps n tb → AreMade (Fork input a b ta tb) s w φ σs ψ) → AreMade m s w φ σs ψ
fork_plain_done choices m s w φ ψ p input a b n σs (Operations.fork_plain {ta = ta} {tb = tb} apart ka kb) made = made ta tb apart ka kb

pub fork_done : (choices : List ℕ) (m : Component) (s : Content) (w : Choice) (φ ψ : Signals) (p input a b : ℕ) (σs : List Signal) → IsOperationOf choices (operation.Fork p input a b) m →
    (AreApart input a b → AreMade (Fork input a b (table_a_in m) (table_b_in m)) s w φ σs ψ) → AreMade m s w φ σs ψ
fork_done choices m s w φ ψ p input a b σs (Operations.fork apart) made = made apart

pub join_done : (choices : List ℕ) (m : Component) (s : Content) (w : Choice) (φ ψ : Signals) (p a b out : ℕ) (pass : Side) (σs : List Signal) → IsOperationOf choices (operation.Join p a b out pass) m →
    (AreApart out a b → AreMade (Join a b out pass) s w φ σs ψ) → AreMade m s w φ σs ψ
join_done choices m s w φ ψ p a b out pass σs (Operations.join apart) made = made apart

pub switch_offers_done : (choices : List ℕ) (m : Component) (s : Content) (w : Choice) (φ ψ : Signals) (p input a b : ℕ) (σs : List Signal) → IsOperationOf choices (operation.SwitchOffers p input a b) m →
    (AreApart input a b → AreMade (Switch input a b (to_a_in m)) s w φ σs ψ) → AreMade m s w φ σs ψ
switch_offers_done choices m s w φ ψ p input a b σs (Operations.switch_offers apart) made = made apart

pub switch_ready_done : (choices : List ℕ) (m : Component) (s : Content) (w : Choice) (φ ψ : Signals) (p input a b : ℕ) (σs : List Signal) → IsOperationOf choices (operation.SwitchReady p input a b) m →
    AreMade (Switch input a b (to_a_in m)) s w φ σs ψ → AreMade m s w φ σs ψ
switch_ready_done choices m s w φ ψ p input a b σs Operations.switch_ready made = made

pub merge_done : (choices : List ℕ) (m : Component) (s : Content) (w : Choice) (φ ψ : Signals) (p a b out : ℕ) (σs : List Signal) → IsOperationOf choices (operation.Merge p a b out) m →
    (AreApart out a b → AreMade (Merge a b out) s w φ σs ψ) → AreMade m s w φ σs ψ
merge_done choices m s w φ ψ p a b out σs (Operations.merge apart) made = made apart

-- where the choice of a source or a sink stands
pub source_choice : (choices : List ℕ) (m : Component) (p out choice : ℕ) (mode : SourceMode) → IsOperationOf choices (operation.Source p out choice mode) m → slice_get choices p ≡ Some choice
source_choice choices m p out choice mode (Operations.source at eager) = at

pub sink_choice : (choices : List ℕ) (m : Component) (p input choice : ℕ) (mode : SinkMode) → IsOperationOf choices (operation.Sink p input choice mode) m → slice_get choices p ≡ Some choice
sink_choice choices m p input choice mode (Operations.sink at) = at

-- each task by itself
pub all_tasks-singles : (tasks : List Task) → all_tasks (singles tasks) ≡ tasks
all_tasks-singles [] = refl
all_tasks-singles (task ∷ tasks) = ap (λ (rest : List Task). task ∷ rest) (all_tasks-singles tasks)

pub singles_fit : (prims : List Component) (choices : List ℕ) (tasks : List Task) → IsSchedule prims tasks → AllFit prims choices (singles tasks)
singles_fit prims choices tasks schedule k op at = fits (slice_get tasks k) refl where
  there : (o : Option Task) → slice_get tasks k ≡ o → option_map operation.One o ≡ Some op
  there o is = ap (option_map operation.One) (sym is) ∙ sym (slice_get-map operation.One tasks k) ∙ at

  fits : (o : Option Task) → slice_get tasks k ≡ o → FitsOperation prims choices op
  fits None is = absurd (let h = there None is in cc)
  fits (Some task) is =
      let same : operation.One task ≡ op = let h = there (Some task) is in cc in
      let h = schedule.made k task is in
      subst (λ (x : Operation). FitsOperation prims choices x) same (record { prim = h.prim; has = h.has; is = Operations.one h.maker })

pub singles_for : (prims : List Component) (choices : List ℕ) (tasks : List Task) → IsSchedule prims tasks → AreFor prims choices tasks (singles tasks)
singles_for prims choices tasks schedule =
    let same = all_tasks-singles tasks in
    record {
      schedule = subst (λ (xs : List Task). IsSchedule prims xs) (sym same) schedule;
      fit = singles_fit prims choices tasks schedule;
      same = subst (λ (xs : List Task). SameTasks tasks xs) (sym same) (record { to = λ k task at. (k, at); from = λ k task at. (k, at) });
    }
