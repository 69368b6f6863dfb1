-- What is kept of a part: its primitives with their ports renamed to places, and its signals in order.
use Rattle.std.specs.Prelude.{◌≡◌, ℕ, ◌+◌, ◌<◌, ◌≤◌, cond, Bool, List, map, filter, length, Some, slice_get, slice_index}
use Rattle.xm_design.specs.Designed.{Designed, IsDesigned}
use Rattle.xm_design.specs.Tasks.{Makes}
use Rattle.xm_model.specs.Component.{Component, Source, Sink, Queue, Function, Fork, Join, Switch, Merge, component_of}
use Rattle.xm_model.specs.Views.{oracles_below}
use Rattle.xm_model.specs.Net.{HasPrim, Network}
use Rattle.xm_order.specs.Dependence.{channel_of}
use Rattle.xm_order.specs.declared.signal.Signal.{Signal}
use Rattle.xm_order.specs.declared.signal.Signal.TheVariants as signal
use Rattle.xm_parts.specs.Near.{AreNear}
use Rattle.xm_parts.specs.Partition.{IsPartition, channels_in, cuts_in, far_at, is_cut, lies_in, prims_in}
use Rattle.xm_parts.specs.Passing.{place}
use Rattle.xm_plan.specs.Planned.{Planned}
use Rattle.xm_plan.specs.Schedule.{SameTasks}
use Rattle.xm_parts.specs.declared.part.Cut.{Cut}
use Rattle.xm_parts.specs.declared.part.Part.{Part}
use Rattle.xm_design.specs.declared.tasks.Task.{Task}

-- the primitive with its ports renamed
abbrev pub renamed : (ℕ → ℕ) → Component → Component
renamed r (Source out colours mode) = Source (r out) colours mode
renamed r (Sink input mode) = Sink (r input) mode
renamed r (Queue input out capacity initial) = Queue (r input) (r out) capacity initial
renamed r (Function input out table) = Function (r input) (r out) table
renamed r (Fork input a b table_a table_b) = Fork (r input) (r a) (r b) table_a table_b
renamed r (Join a b out pass) = Join (r a) (r b) (r out) pass
renamed r (Switch input a b to_a) = Switch (r input) (r a) (r b) to_a
renamed r (Merge a b out) = Merge (r a) (r b) (r out)

-- where a channel stands among those of its part
abbrev pub channel_place : (ℕ → ℕ) → ℕ → ℕ → ℕ
channel_place label p c = place (lies_in label p) c

-- where a port of primitive i stands in part p: an own channel at its place, the far channel of a cut queue at
-- the queue's place behind all own channels
abbrev pub port_place : Network → (ℕ → ℕ) → ℕ → ℕ → ℕ → ℕ
port_place net label p i c = cond (lies_in label p c) (channel_place label p c)
    (place (lies_in label p) net.channels + place (is_cut net label p) i)

-- where a port stands as the plan of part p sees it: it reads and makes nothing of a far channel, which stands at 0
abbrev pub near_place : (ℕ → ℕ) → ℕ → ℕ → ℕ
near_place label p c = cond (lies_in label p c) (channel_place label p c) 0

-- the signals of part p, in the order of all
abbrev pub lies_at : (ℕ → ℕ) → ℕ → Signal → Bool
lies_at label p σ = lies_in label p (channel_of σ)

abbrev pub signals_in : List Signal → (ℕ → ℕ) → ℕ → List Signal
signals_in order label p = filter (lies_at label p) order

abbrev pub placed : (ℕ → ℕ) → ℕ → Signal → Signal
placed label p (signal.Offer c) = signal.Offer (channel_place label p c)
placed label p (signal.Ready c) = signal.Ready (channel_place label p c)

-- the signal by place, with the place of the primitive that makes it
pub record IsTask (net : Network) (label : ℕ → ℕ) (p : ℕ) (σ : Signal) (task : Task) : Type 0 where
  pub signal_is : task.signal ≡ placed label p σ
  pub maker : ℕ
  pub makes : Makes net maker σ
  pub prim_is : slice_get (prims_in net label p) task.prim ≡ Some maker

pub record AreTasksOf (it : Designed) (label : ℕ → ℕ) (p : ℕ) (tasks : List Task) : Type 0 where
  pub whole : length tasks ≡ length (signals_in it.order label p)
  pub each : (k : ℕ) (σ : Signal) (task : Task) → slice_get (signals_in it.order label p) k ≡ Some σ →
      slice_get tasks k ≡ Some task → IsTask it.net label p σ task

-- each cut queue with the part of its far channel and that channel's place there
pub record AreCutsOf (net : Network) (label : ℕ → ℕ) (p : ℕ) (cuts : List Cut) : Type 0 where
  pub whole : length cuts ≡ length (cuts_in net label p)
  pub each : (k i c : ℕ) (cut : Cut) → slice_get (cuts_in net label p) k ≡ Some i → far_at net label p i ≡ Some c →
      slice_get cuts k ≡ Some cut →
      (cut.part ≡ label c) × (cut.wire ≡ channel_place label (label c) c)

-- the primitives with their ports by place
pub record AreRenamed (net : Network) (label : ℕ → ℕ) (p : ℕ) (r : ℕ → ℕ → ℕ) (locals : List Component) : Type 0 where
  pub whole : length locals ≡ length (prims_in net label p)
  pub each : (k i : ℕ) (m : Component) → slice_get (prims_in net label p) k ≡ Some i → HasPrim net i m →
      slice_get locals k ≡ Some (renamed (r i) m)

abbrev pub AreLocalsOf : Network → (ℕ → ℕ) → ℕ → List Component → Type 0
AreLocalsOf net label p locals = AreRenamed net label p (port_place net label p) locals

-- the plan makes the signals of the part's channels from its primitives and the choices for these
pub record IsPlanOf (it : Designed) (label : ℕ → ℕ) (p : ℕ) (plan : Planned) : Type 0 where
  pub prims : AreRenamed it.net label p (λ i. near_place label p) plan.prims
  pub places : plan.places ≡ length (channels_in it.net label p)
  pub choices : plan.choices ≡ map (oracles_below it.net.prims) (prims_in it.net label p)
  pub tasks : List Task
  pub are_tasks : AreTasksOf it label p tasks
  pub same : SameTasks tasks plan.tasks

pub record IsPartOf (it : Designed) (label : ℕ → ℕ) (p : ℕ) (part : Part) : Type 0 where
  pub prims : part.prims.items ≡ prims_in it.net label p
  pub locals : AreLocalsOf it.net label p (map component_of part.locals.items)
  pub channels : part.channels.items ≡ channels_in it.net label p
  pub planned : map component_of part.planned.items ≡ part.plan.prims
  pub plan : IsPlanOf it label p part.plan
  pub cuts : AreCutsOf it.net label p part.cuts.items
  pub neighbours : AreNear it.net label p part.neighbours.items

-- a design with a label for each channel, and the number of parts
pub record Division : Type 0 where
  pub design : Designed
  pub labels : List ℕ
  pub count : ℕ

abbrev pub label_at : List ℕ → ℕ → ℕ
label_at labels c = slice_index labels c

-- the labels are a partition into so many parts, and each part is kept
pub record AreParts (it : Division) (parts : List Part) : Type 0 where
  pub designed : IsDesigned it.design
  pub whole : length it.labels ≡ it.design.net.channels
  pub few : it.count ≤ 64
  pub partition : IsPartition it.design.net (label_at it.labels)
  pub below : (c : ℕ) → c < it.design.net.channels → label_at it.labels c < it.count
  pub each : (p : ℕ) (part : Part) → slice_get parts p ≡ Some part → IsPartOf it.design (label_at it.labels) p part
