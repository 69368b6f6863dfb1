-- Inner: operations, and the primitives whose signals they make. No public clause cites these.
use Rattle.std.specs.Prelude.{◌≡◌, ◌≢◌, ℕ, ◌<◌, nat_lt, cond, Bool, List, [], ◌∷◌, ◌++◌, map, slice_get, slice_index, Option, Some, None}
use Rattle.xm_design.specs.declared.tasks.Task.{Task}
use Rattle.xm_model.specs.Component.{Component, Fork, Function, Join, Merge, Queue, Sink, Source, Switch}
use Rattle.xm_model.specs.declared.primitive.Side.{Side}
use Rattle.xm_model.specs.declared.primitive.SinkMode.{SinkMode}
use Rattle.xm_model.specs.declared.primitive.SourceMode.{SourceMode}
use Rattle.xm_model.specs.declared.primitive.SourceMode.TheVariants as source_mode
use Rattle.xm_order.specs.Dependence.{channel_of}
use Rattle.xm_order.specs.declared.signal.Signal.{Signal}
use Rattle.xm_order.specs.declared.signal.Signal.TheVariants as signal
use Rattle.xm_plan.specs.Schedule.{IsMaker}
use Rattle.xm_plan.specs.declared.operation.Operation.{Operation}
use Rattle.xm_plan.specs.declared.operation.Operation.TheVariants as operation

-- a colour below n stays, any other becomes colour 0
abbrev pub kept : ℕ → Option ℕ → Option ℕ
kept n None = None
kept n (Some d) = Some (cond (nat_lt d n) d 0)

-- the map keeps each of n colours
abbrev pub Keeps : ℕ → List ℕ → Type 0
Keeps n table = (d : ℕ) → slice_index table d ≡ cond (nat_lt d n) d 0

-- three places, each another
abbrev pub AreApart : ℕ → ℕ → ℕ → Type 0
AreApart x a b = (a ≢ b) × ((a ≢ x) × (b ≢ x))

abbrev pub prim_of : Operation → ℕ
prim_of (operation.Source p _ _ _) = p
prim_of (operation.Sink p _ _ _) = p
prim_of (operation.Queue p _ _ _) = p
prim_of (operation.Function p _ _) = p
prim_of (operation.ForkPlain p _ _ _ _) = p
prim_of (operation.Fork p _ _ _) = p
prim_of (operation.Join p _ _ _ _) = p
prim_of (operation.SwitchOffers p _ _ _) = p
prim_of (operation.SwitchReady p _ _ _) = p
prim_of (operation.Merge p _ _ _) = p
prim_of (operation.One task) = task.prim

-- its primitive's signals may stay as they are
abbrev pub MayStay : Operation → Type 0
MayStay (operation.Source _ _ _ _) = Unit {0}
MayStay (operation.Sink _ _ _ _) = Unit {0}
MayStay (operation.Queue _ _ _ _) = Unit {0}
MayStay _ = ⊥

-- the signals that it makes, one after another
abbrev pub signals_made : Operation → List Signal
signals_made (operation.Source _ out _ _) = signal.Offer out ∷ []
signals_made (operation.Sink _ input _ _) = signal.Ready input ∷ []
signals_made (operation.Queue _ input out _) = signal.Offer out ∷ signal.Ready input ∷ []
signals_made (operation.Function _ input out) = signal.Offer out ∷ signal.Ready input ∷ []
signals_made (operation.ForkPlain _ input a b _) = signal.Offer a ∷ signal.Offer b ∷ signal.Ready input ∷ []
signals_made (operation.Fork _ input a b) = signal.Offer a ∷ signal.Offer b ∷ signal.Ready input ∷ []
signals_made (operation.Join _ a b out _) = signal.Offer out ∷ signal.Ready a ∷ signal.Ready b ∷ []
signals_made (operation.SwitchOffers _ input a b) = signal.Offer a ∷ signal.Offer b ∷ []
signals_made (operation.SwitchReady _ input a b) = signal.Ready input ∷ []
signals_made (operation.Merge _ a b out) = signal.Offer out ∷ signal.Ready a ∷ signal.Ready b ∷ []
signals_made (operation.One task) = task.signal ∷ []

-- the places that it reads or writes
abbrev pub places_of : Operation → List ℕ
places_of (operation.Source _ out _ _) = out ∷ []
places_of (operation.Sink _ input _ _) = input ∷ []
places_of (operation.Queue _ input out _) = input ∷ out ∷ []
places_of (operation.Function _ input out) = input ∷ out ∷ []
places_of (operation.ForkPlain _ input a b _) = input ∷ a ∷ b ∷ []
places_of (operation.Fork _ input a b) = input ∷ a ∷ b ∷ []
places_of (operation.Join _ a b out _) = a ∷ b ∷ out ∷ []
places_of (operation.SwitchOffers _ input a b) = input ∷ a ∷ b ∷ []
places_of (operation.SwitchReady _ input a b) = input ∷ a ∷ b ∷ []
places_of (operation.Merge _ a b out) = a ∷ b ∷ out ∷ []
places_of (operation.One task) = channel_of task.signal ∷ []

abbrev pub task_of : ℕ → Signal → Task
task_of p σ = record { signal = σ; prim = p }

abbrev pub tasks_of : Operation → List Task
tasks_of op = map (task_of (prim_of op)) (signals_made op)

-- the tasks of all, in order
abbrev pub all_tasks : List Operation → List Task
all_tasks [] = []
all_tasks (op ∷ ops) = tasks_of op ++ all_tasks ops

-- the operation is one of the primitive's, at its places
pub data IsOperationOf : List ℕ → Operation → Component → Type 0 where
  source : {choices : List ℕ} {p out choice : ℕ} {colours : List ℕ} {mode : SourceMode} →
      slice_get choices p ≡ Some choice → mode ≢ source_mode.Eager →
      IsOperationOf choices (operation.Source p out choice mode) (Source out colours mode)
  sink : {choices : List ℕ} {p input choice : ℕ} {mode : SinkMode} → slice_get choices p ≡ Some choice →
      IsOperationOf choices (operation.Sink p input choice mode) (Sink input mode)
  queue : {choices : List ℕ} {p input out capacity : ℕ} {initial : List ℕ} →
      IsOperationOf choices (operation.Queue p input out capacity) (Queue input out capacity initial)
  function : {choices : List ℕ} {p input out : ℕ} {table : List ℕ} →
      IsOperationOf choices (operation.Function p input out) (Function input out table)
  fork_plain : {choices : List ℕ} {p input a b n : ℕ} {ta tb : List ℕ} → AreApart input a b → Keeps n ta → Keeps n tb →
      IsOperationOf choices (operation.ForkPlain p input a b n) (Fork input a b ta tb)
  fork : {choices : List ℕ} {p input a b : ℕ} {ta tb : List ℕ} → AreApart input a b →
      IsOperationOf choices (operation.Fork p input a b) (Fork input a b ta tb)
  join : {choices : List ℕ} {p a b out : ℕ} {pass : Side} → AreApart out a b →
      IsOperationOf choices (operation.Join p a b out pass) (Join a b out pass)
  switch_offers : {choices : List ℕ} {p input a b : ℕ} {to_a : List Bool} → AreApart input a b →
      IsOperationOf choices (operation.SwitchOffers p input a b) (Switch input a b to_a)
  switch_ready : {choices : List ℕ} {p input a b : ℕ} {to_a : List Bool} →
      IsOperationOf choices (operation.SwitchReady p input a b) (Switch input a b to_a)
  merge : {choices : List ℕ} {p a b out : ℕ} → AreApart out a b →
      IsOperationOf choices (operation.Merge p a b out) (Merge a b out)
  one : {choices : List ℕ} {m : Component} {task : Task} → IsMaker m task.signal →
      IsOperationOf choices (operation.One task) m

-- the operation is one of primitive p, which is m
abbrev pub Operates : List ℕ → ℕ → Component → Operation → Type 0
Operates choices p m op = (prim_of op ≡ p) × IsOperationOf choices op m

-- it is one of a primitive of the list
pub record FitsOperation (prims : List Component) (choices : List ℕ) (op : Operation) : Type 0 where
  pub prim : Component
  pub has : slice_get prims (prim_of op) ≡ Some prim
  pub is : IsOperationOf choices op prim

-- the tables of a primitive; of another kind, an empty one
abbrev pub table_in : Component → List ℕ
table_in (Function _ _ table) = table
table_in _ = []

abbrev pub table_a_in : Component → List ℕ
table_a_in (Fork _ _ _ table_a _) = table_a
table_a_in _ = []

abbrev pub table_b_in : Component → List ℕ
table_b_in (Fork _ _ _ _ table_b) = table_b
table_b_in _ = []

abbrev pub to_a_in : Component → List Bool
to_a_in (Switch _ _ _ to_a) = to_a
to_a_in _ = []

abbrev pub AllFit : List Component → List ℕ → List Operation → Type 0
AllFit prims choices ops = (k : ℕ) (op : Operation) → slice_get ops k ≡ Some op → FitsOperation prims choices op

abbrev pub AreBelow : ℕ → List ℕ → Type 0
AreBelow n [] = Unit {0}
AreBelow n (c ∷ cs) = (c < n) × AreBelow n cs

abbrev pub singles : List Task → List Operation
singles tasks = map operation.One tasks
