use Rattle.std.proofs.Common.{◌≡◌, ◌<◌, true, false, length, take, take_all, get_or, refl, Some, slice_get, ap, sym, ◌∙◌, arith}
use Rattle.std.specs.Prelude.{filter}
use Rattle.std.proofs.lemmas.Bool.{eqb-true}
use Rattle.std.proofs.lemmas.List.{length-map}
use Rattle.std.proofs.lemmas.Option.{slice_get-get_or, slice_get-map}
use Rattle.xm_design.specs.Tasks.{Makes, made_signals}
use Rattle.xm_design.specs.declared.tasks.Task.{Task}
use Rattle.xm_order.specs.Dependence.{channel_of}
use Rattle.xm_order.specs.declared.signal.Signal.TheVariants.{Offer}
use Rattle.xm_parts.proofs.Listing.{task_is, tasks_push, tasks_skip}
use Rattle.xm_parts.specs.Kept.{label_at, lies_at, signals_in}
use Rattle.xm_design.specs.declared.tasks.Task.{Task}
use Rattle.xm_parts.proofs.build.tasks_of.Goals as goal
use Rattle.xm_parts.proofs.build.tasks_of.Goals.{then-lies_in+in_ok-push, else-lies_in}

abbrev no_task : Task
no_task = record { signal = Offer 0; prim = 0 }

pub loop-k-preserved : goal.loop-k-preserved
loop-k-preserved c =
    let net = c.args.design.now.net in let label = label_at c.args.labels.now in
    let tasks = c.tasks-tasks.result.now in
    let task = get_or tasks c.loop-k.k no_task in
    let at : slice_get (made_signals tasks) c.loop-k.k ≡ Some task.signal = rw (slice_get-map (λ (x : Task). x.signal) tasks c.loop-k.k, slice_get-get_or tasks c.loop-k.k no_task c.loop-k-test.true) refl in
    let in_order : slice_get c.args.design.now.order c.loop-k.k ≡ Some task.signal = rw (← c.tasks-tasks.ensures.listed) at in
    let below : channel_of task.signal < net.channels = c.net-net.ensures.design.order.within c.loop-k.k task.signal in_order in
    let makes : Makes net task.prim task.signal = c.tasks-tasks.ensures.made c.loop-k.k no_task c.loop-k-test.true in
    let tested : c.lies_in.result ≡ lies_at label c.args.p task.signal = rw (← c.channel.ensures) c.lies_in.ensures in
    elim c.if-lies_in.branch [
      | then-lies_in+in_ok-push w ↦
          (let is : lies_at label c.args.p task.signal ≡ true = sym tested ∙ w.if-lies_in.true in
          let lies : label (channel_of task.signal) ≡ c.args.p = eqb-true (label (channel_of task.signal)) c.args.p is in
          let new = task_is net c.args.labels.now c.args.places.now c.args.cells.now c.args.p c.requires.whole c.requires.places c.requires.cells task.signal task.prim makes below lies in
          rw w.made-is (rw w.in_ok-push.ensures.ok (tasks_push net (made_signals tasks) label c.args.p c.loop-k.k task.signal at c.loop-k.made.items _ is (rw (w.placed_signal.ensures, w.read.ensures) new) c.loop-k.invariant)))
      | else-lies_in w ↦
          (let is : lies_at label c.args.p task.signal ≡ false = sym tested ∙ w.if-lies_in.false in
          rw w.made-is (tasks_skip net (made_signals tasks) label c.args.p c.loop-k.k task.signal at c.loop-k.made.items is c.loop-k.invariant))
    ]

pub returns : goal.returns
returns c =
    let label = label_at c.args.labels.now in
    let tasks = c.tasks-tasks.result.now in
    let long : length (made_signals tasks) ≡ length tasks = length-map tasks (λ (x : Task). x.signal) in
    let e = c.loop-k-test.false in let u = c.loop-k.auto.k-end in
    let all : take c.loop-k.k (made_signals tasks) ≡ made_signals tasks = take_all c.loop-k.k (made_signals tasks) (omega arith) in
    let same : filter (lies_at label c.args.p) (take c.loop-k.k (made_signals tasks)) ≡ signals_in c.args.design.now.order label c.args.p = ap (filter (lies_at label c.args.p)) (all ∙ c.tasks-tasks.ensures.listed) in
    record {
      whole = c.loop-k.invariant.whole ∙ ap length same;
      each = λ k σ task at stands. c.loop-k.invariant.each k σ task (rw same at) stands;
    }
