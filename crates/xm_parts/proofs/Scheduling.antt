-- The signals of a part, by place, are a schedule for its plan.
use Rattle.std.proofs.Common.{◌≡◌, ℕ, ◌<◌, true, List, length, refl, ap, sym, ◌∙◌, subst, inl, inr, arith, eq-eqb, Some, slice_get}
use Rattle.std.proofs.lemmas.Bool.{cond-false}
use Rattle.std.proofs.lemmas.Bool.Decides.{eqb_tells}
use Rattle.std.proofs.lemmas.Option.{slice_get_within}
use Rattle.xm_design.specs.Designed.{Designed, IsDesigned}
use Rattle.xm_design.specs.Tasks.{Makes}
use Rattle.xm_design.specs.declared.tasks.Task.{Task}
use Rattle.xm_model.specs.Component.{Component, Source, Sink, Queue, Function, Fork, Join, Switch, Merge}
use Rattle.xm_model.specs.Lemmas.Local.{IsPort}
use Rattle.xm_model.specs.Net.{HasPrim, Network}
use Rattle.xm_model.specs.Ports.{HasOutput, HasInput, fork_output_a, fork_output_b, fork_input, function_output, function_input, join_output, join_input_a, join_input_b, merge_output, merge_input_a, merge_input_b, queue_output, queue_input, sink_input, source_output, switch_output_a, switch_output_b, switch_input}
use Rattle.xm_order.specs.Dependence.{Depends, Needs, channel_of, fork_offer_a_b, fork_offer_a_in, fork_offer_b_a, fork_offer_b_in, fork_ready_a, fork_ready_b, function_offer, function_ready, join_offer_a, join_offer_b, join_ready_a_b, join_ready_a_out, join_ready_b_a, join_ready_b_out, merge_offer_a, merge_offer_b, merge_ready_a_a, merge_ready_a_b, merge_ready_a_out, merge_ready_b_a, merge_ready_b_b, merge_ready_b_out, switch_offer_a, switch_offer_b, switch_ready_a, switch_ready_b, switch_ready_in}
use Rattle.xm_order.specs.declared.signal.Signal.{Signal}
use Rattle.xm_order.specs.declared.signal.Signal.TheVariants as signal
use Rattle.xm_parts.proofs.Cut.{joint}
use Rattle.xm_parts.proofs.Parting.{port_below, slice_get-found}
use Rattle.xm_parts.proofs.PartOrder.{IsPartOrder, part_order, placed_once}
use Rattle.xm_parts.proofs.Passing.{passing_from, passing_length, place_below}
use Rattle.xm_parts.proofs.Solving.{own_place}
use Rattle.xm_parts.proofs.Touching.{touched}
use Rattle.xm_parts.proofs.Viewing.{port_from}
use Rattle.xm_parts.specs.Kept.{AreRenamed, AreTasksOf, IsTask, near_place, placed, renamed, signals_in}
use Rattle.xm_parts.specs.Partition.{IsPartition, channels_in, lies_in, prims_in, touches_at}
use Rattle.xm_parts.specs.Passing.{place}
use Rattle.xm_plan.specs.Schedule.{ArePlaced, HasMaker, IsMaker, IsSchedule}

abbrev mapped : (ℕ → ℕ) → Signal → Signal
mapped r (signal.Offer c) = signal.Offer (r c)
mapped r (signal.Ready c) = signal.Ready (r c)

-- what a renamed primitive needs is what the primitive needs, renamed
pub record IsRenamedNeed (r : ℕ → ℕ) (m : Component) (σ τ : Signal) : Type 0 where
  pub first : Signal
  pub second : Signal
  pub needs : Needs m first second
  pub first_is : mapped r first ≡ σ
  pub second_is : mapped r second ≡ τ

need : (r : ℕ → ℕ) (m : Component) (first second : Signal) → Needs m first second → IsRenamedNeed r m (mapped r first) (mapped r second)
need r m first second h = record { first = first; second = second; needs = h; first_is = refl; second_is = refl }

need_from : (r : ℕ → ℕ) (m : Component) (σ τ : Signal) → Needs (renamed r m) σ τ → IsRenamedNeed r m σ τ
need_from r (Source out cs mode) σ τ h = elim h [ ]
need_from r (Sink input mode) σ τ h = elim h [ ]
need_from r (Queue input out k ps) σ τ h = elim h [ ]
need_from r (Function input out t) σ τ function_offer = need r (Function input out t) (signal.Offer out) (signal.Offer input) function_offer
need_from r (Function input out t) σ τ function_ready = need r (Function input out t) (signal.Ready input) (signal.Ready out) function_ready
need_from r (Fork input a b ta tb) σ τ fork_offer_a_in = need r (Fork input a b ta tb) (signal.Offer a) (signal.Offer input) fork_offer_a_in
need_from r (Fork input a b ta tb) σ τ fork_offer_a_b = need r (Fork input a b ta tb) (signal.Offer a) (signal.Ready b) fork_offer_a_b
need_from r (Fork input a b ta tb) σ τ fork_offer_b_in = need r (Fork input a b ta tb) (signal.Offer b) (signal.Offer input) fork_offer_b_in
need_from r (Fork input a b ta tb) σ τ fork_offer_b_a = need r (Fork input a b ta tb) (signal.Offer b) (signal.Ready a) fork_offer_b_a
need_from r (Fork input a b ta tb) σ τ fork_ready_a = need r (Fork input a b ta tb) (signal.Ready input) (signal.Ready a) fork_ready_a
need_from r (Fork input a b ta tb) σ τ fork_ready_b = need r (Fork input a b ta tb) (signal.Ready input) (signal.Ready b) fork_ready_b
need_from r (Join a b out pass) σ τ join_offer_a = need r (Join a b out pass) (signal.Offer out) (signal.Offer a) join_offer_a
need_from r (Join a b out pass) σ τ join_offer_b = need r (Join a b out pass) (signal.Offer out) (signal.Offer b) join_offer_b
need_from r (Join a b out pass) σ τ join_ready_a_out = need r (Join a b out pass) (signal.Ready a) (signal.Ready out) join_ready_a_out
need_from r (Join a b out pass) σ τ join_ready_a_b = need r (Join a b out pass) (signal.Ready a) (signal.Offer b) join_ready_a_b
need_from r (Join a b out pass) σ τ join_ready_b_out = need r (Join a b out pass) (signal.Ready b) (signal.Ready out) join_ready_b_out
need_from r (Join a b out pass) σ τ join_ready_b_a = need r (Join a b out pass) (signal.Ready b) (signal.Offer a) join_ready_b_a
need_from r (Switch input a b t) σ τ switch_offer_a = need r (Switch input a b t) (signal.Offer a) (signal.Offer input) switch_offer_a
need_from r (Switch input a b t) σ τ switch_offer_b = need r (Switch input a b t) (signal.Offer b) (signal.Offer input) switch_offer_b
need_from r (Switch input a b t) σ τ switch_ready_in = need r (Switch input a b t) (signal.Ready input) (signal.Offer input) switch_ready_in
need_from r (Switch input a b t) σ τ switch_ready_a = need r (Switch input a b t) (signal.Ready input) (signal.Ready a) switch_ready_a
need_from r (Switch input a b t) σ τ switch_ready_b = need r (Switch input a b t) (signal.Ready input) (signal.Ready b) switch_ready_b
need_from r (Merge a b out) σ τ merge_offer_a = need r (Merge a b out) (signal.Offer out) (signal.Offer a) merge_offer_a
need_from r (Merge a b out) σ τ merge_offer_b = need r (Merge a b out) (signal.Offer out) (signal.Offer b) merge_offer_b
need_from r (Merge a b out) σ τ merge_ready_a_a = need r (Merge a b out) (signal.Ready a) (signal.Offer a) merge_ready_a_a
need_from r (Merge a b out) σ τ merge_ready_a_b = need r (Merge a b out) (signal.Ready a) (signal.Offer b) merge_ready_a_b
need_from r (Merge a b out) σ τ merge_ready_a_out = need r (Merge a b out) (signal.Ready a) (signal.Ready out) merge_ready_a_out
need_from r (Merge a b out) σ τ merge_ready_b_a = need r (Merge a b out) (signal.Ready b) (signal.Offer a) merge_ready_b_a
need_from r (Merge a b out) σ τ merge_ready_b_b = need r (Merge a b out) (signal.Ready b) (signal.Offer b) merge_ready_b_b
need_from r (Merge a b out) σ τ merge_ready_b_out = need r (Merge a b out) (signal.Ready b) (signal.Ready out) merge_ready_b_out

-- the ports of a renamed primitive are the renamed ports
output_renamed : (r : ℕ → ℕ) (m : Component) (c : ℕ) → HasOutput m c → HasOutput (renamed r m) (r c)
output_renamed r m c source_output = source_output
output_renamed r m c queue_output = queue_output
output_renamed r m c function_output = function_output
output_renamed r m c fork_output_a = fork_output_a
output_renamed r m c fork_output_b = fork_output_b
output_renamed r m c join_output = join_output
output_renamed r m c switch_output_a = switch_output_a
output_renamed r m c switch_output_b = switch_output_b
output_renamed r m c merge_output = merge_output

input_renamed : (r : ℕ → ℕ) (m : Component) (c : ℕ) → HasInput m c → HasInput (renamed r m) (r c)
input_renamed r m c sink_input = sink_input
input_renamed r m c queue_input = queue_input
input_renamed r m c function_input = function_input
input_renamed r m c fork_input = fork_input
input_renamed r m c join_input_a = join_input_a
input_renamed r m c join_input_b = join_input_b
input_renamed r m c switch_input = switch_input
input_renamed r m c merge_input_a = merge_input_a
input_renamed r m c merge_input_b = merge_input_b

-- the maker of a signal
pub record IsMade (net : Network) (i : ℕ) (σ : Signal) : Type 0 where
  pub prim : Component
  pub has : HasPrim net i prim
  pub port : IsPort prim (channel_of σ)
  pub maker : (r : ℕ → ℕ) → IsMaker (renamed r prim) (mapped r σ)

made_by : (net : Network) (i : ℕ) (σ : Signal) → Makes net i σ → IsMade net i σ
made_by net i (signal.Offer c) h = record { prim = h.prim; has = h.has; port = inl h.has_output; maker = λ r. output_renamed r h.prim c h.has_output }
made_by net i (signal.Ready c) h = record { prim = h.prim; has = h.has; port = inr h.has_input; maker = λ r. input_renamed r h.prim c h.has_input }

-- a signal of the part stands at its place
mapped_near : (label : ℕ → ℕ) (p : ℕ) (σ : Signal) → label (channel_of σ) ≡ p → mapped (near_place label p) σ ≡ placed label p σ
mapped_near label p (signal.Offer c) lies = ap signal.Offer (own_place label p c 0 lies)
mapped_near label p (signal.Ready c) lies = ap signal.Ready (own_place label p c 0 lies)

module _ (it : Designed) (designed : IsDesigned it) (label : ℕ → ℕ) (partition : IsPartition it.net label) (p : ℕ)
    (prims : List Component) (are : AreRenamed it.net label p (λ i. near_place label p) prims) where
  -- the primitive of the net that a place of the part has
  pub record NearAt (k : ℕ) (m : Component) : Type 0 where
    pub place : ℕ
    pub prim : Component
    pub has : HasPrim it.net place prim
    pub touch : touches_at it.net label p place ≡ true
    pub same : renamed (near_place label p) prim ≡ m

  near_at : (k : ℕ) (m : Component) → slice_get prims k ≡ Some m → NearAt k m
  near_at k m at =
      let inside = slice_get_within prims k m at in
      let i = slice_get-found (prims_in it.net label p) k (let w = are.whole in omega arith) in
      let passes = passing_from (touches_at it.net label p) (length it.net.prims) k i.0 i.1 in
      let found = slice_get-found it.net.prims i.0 passes.below in
      let there = are.each k i.0 found.0 i.1 found.1 in
      record { place = i.0; prim = found.0; has = found.1; touch = passes.passes; same = cc }

  near_below : (m : Component) (i c : ℕ) → HasPrim it.net i m → touches_at it.net label p i ≡ true → IsPort m c → near_place label p c < place (lies_in label p) it.net.channels
  near_below m i c has touch port =
      elim (eqb_tells (label c) p) [
        | inl t ↦ (let below = place_below (lies_in label p) c it.net.channels (port_below it.net designed.net i m c has port) t.0 in
            let at = own_place label p c 0 t.1 in omega arith)
        | inr t ↦ (let own = touched it.net label p i m has touch in
            let below = place_below (lies_in label p) own.channel it.net.channels (port_below it.net designed.net i m own.channel has own.port) (eq-eqb (label own.channel) p own.lies) in
            let at : near_place label p c ≡ 0 = cond-false {A = ℕ} (lies_in label p c) _ _ t.0 in omega arith)
      ]

  pub are_placed : ArePlaced prims (length (channels_in it.net label p))
  are_placed k m c at port =
      let near = near_at k m at in
      let from = port_from (near_place label p) near.prim c (subst (λ (x : Component). IsPort x c) (sym near.same) port) in
      let below = near_below near.prim near.place from.0 near.has near.touch from.1 in
      let same = from.2 in let count = passing_length (lies_in label p) it.net.channels in omega arith

  module _ (tasks : List Task) (of : AreTasksOf it label p tasks) where
    order : IsPartOrder it.net label p (signals_in it.order label p)
    order = part_order it.net label p it.order designed.order partition

    -- the signal that a task makes
    pub record IsTaskAt (k : ℕ) (task : Task) : Type 0 where
      pub the_signal : Signal
      pub stands : slice_get (signals_in it.order label p) k ≡ Some the_signal
      pub lies : label (channel_of the_signal) ≡ p
      pub is : IsTask it.net label p the_signal task
      pub made : IsMade it.net is.maker the_signal

    task_at : (k : ℕ) (task : Task) → slice_get tasks k ≡ Some task → IsTaskAt k task
    task_at k task at =
        let found = slice_get-found (signals_in it.order label p) k (let h = of.whole in let inside = slice_get_within tasks k task at in omega arith) in
        let by = of.each k found.0 task found.1 at in
        record { the_signal = found.0; stands = found.1; lies = order.lies k found.0 found.1; is = by; made = made_by it.net by.maker found.0 by.makes }

    has_maker : (k : ℕ) (task : Task) → slice_get tasks k ≡ Some task → HasMaker prims task
    has_maker k task at =
        let t = task_at k task at in
        record {
          prim = renamed (near_place label p) t.made.prim;
          has = are.each task.prim t.is.maker t.made.prim t.is.prim_is t.made.has;
          maker = subst (λ (x : Signal). IsMaker (renamed (near_place label p) t.made.prim) x) (mapped_near label p t.the_signal t.lies ∙ sym t.is.signal_is) (t.made.maker (near_place label p));
        }

    signal_once : (σ : Signal) (k : ℕ) (task : Task) (t : IsTaskAt k task) → label (channel_of σ) ≡ p → mapped (near_place label p) σ ≡ task.signal → σ ≡ t.the_signal
    signal_once σ k task t lies same =
        placed_once label p σ t.the_signal lies t.lies (sym (mapped_near label p σ lies) ∙ same ∙ t.is.signal_is)

    stands_after : (j k : ℕ) (first second : Task) (m : Component) → slice_get tasks j ≡ Some first → slice_get tasks k ≡ Some second → slice_get prims second.prim ≡ Some m → Needs m second.signal first.signal → j < k
    stands_after j k first second m at_first at_second there needs =
        let one = task_at j first at_first in let two = task_at k second at_second in
        let listed = are.each second.prim two.is.maker two.made.prim two.is.prim_is two.made.has in
        let same : m ≡ renamed (near_place label p) two.made.prim = cc in
        let need = need_from (near_place label p) two.made.prim second.signal first.signal (subst (λ (x : Component). Needs x second.signal first.signal) same needs) in
        let both = joint two.made.prim need.first need.second need.needs in
        let first_lies : label (channel_of need.first) ≡ p = partition.together two.is.maker two.made.prim (channel_of need.first) (channel_of two.the_signal) two.made.has both.no_queue both.first two.made.port ∙ two.lies in
        let second_lies : label (channel_of need.second) ≡ p = partition.together two.is.maker two.made.prim (channel_of need.second) (channel_of two.the_signal) two.made.has both.no_queue both.second two.made.port ∙ two.lies in
        let first_is = signal_once need.first k second two first_lies need.first_is in
        let second_is = signal_once need.second j first one second_lies need.second_is in
        let depends : Depends it.net need.first need.second = record { place = two.is.maker; prim = two.made.prim; has = two.made.has; needs = need.needs } in
        let before = order.after k need.first need.second (two.stands ∙ ap Some (sym first_is)) depends in
        let at_once = order.once j before.0 need.second (one.stands ∙ ap Some (sym second_is)) before.1.1 in
        let less = before.1.0 in omega arith

    pub is_schedule : IsSchedule prims tasks
    is_schedule = record {
      made = has_maker;
      once = λ j k first second at_first at_second same.
          let one = task_at j first at_first in let two = task_at k second at_second in
          let is = placed_once label p one.the_signal two.the_signal one.lies two.lies (sym one.is.signal_is ∙ same ∙ two.is.signal_is) in
          order.once j k two.the_signal (one.stands ∙ ap Some is) two.stands;
      after = stands_after;
    }
