use Rattle.std.proofs.Common.{◌≡◌, ◌≤◌, ◌+◌, ◌-◌, [], ℕ, suc, Some, slice_get, ap, sym, subst, ◌∙◌, arith, length}
use Rattle.xm_board.proofs.InOrder.{left_is, none_of, nothing_taken, round_more, round_next, suc_is, taken_on}
use Rattle.xm_board.specs.Inner.Merging.{AreTaken, part_of, round_rest}
use Rattle.xm_design.specs.Designed.{Designed}
use Rattle.xm_model.specs.ListView.{ListView}
use Rattle.xm_model.specs.Net.{Network}
use Rattle.xm_parts.specs.Kept.{label_at}
use Rattle.xm_trace.specs.Moves.{cycle_moves, round_moves}
use Rattle.xm_trace.specs.declared.trace.Move.{Move}
use Rattle.std.proofs.lemmas.List.{length-replicate}
use Rattle.xm_board.proofs.merging.merged.Goals as goal

pub take_cycle-requires-clause-channels : goal.take_cycle-requires-clause-channels
take_cycle-requires-clause-channels c =
    c.channels-channels.ensures.value ∙ (ap (λ (n : Network). n.channels) c.net.ensures.net ∙ sym (ap (λ (d : Designed). d.net.channels) c.requires.design))

pub loop-t-init : goal.loop-t-init
loop-t-init c =
    let label = label_at c.args.parts.now.labels in
    record {
      long = ap length c.in_ok-places.ensures ∙ (length-replicate c.count.result 0 ∙ c.count.ensures.value);
      taken = λ φ are. nothing_taken label c.args.all.now c.in_ok-places.places.items c.new-made.result.items φ c.channels-channels.result c.args.from c.args.to c.count.result c.in_ok-places.ensures c.new-made.ensures.items are;
    }

pub loop-t-preserved : goal.loop-t-preserved
loop-t-preserved c =
    let label = label_at c.args.parts.now.labels in let all = c.args.all.now in let t = c.loop-t.t in let n = c.channels-channels.result in
    let from = c.args.from in let to = c.args.to in
    record {
      long = c.in_ok-take_cycle.ensures.places ∙ c.loop-t.invariant.long;
      taken = λ φ are.
          let before = c.loop-t.invariant.taken φ are in
          let rest = round_rest φ n (suc t) (to - (t + 1)) in
          let step = c.in_ok-take_cycle.ensures.taken (φ t) rest (none_of φ n t (to - (t + 1)))
          (left_is label all c.loop-t.places.items c.loop-t.made.items _ _ (round_next φ n t to c.loop-t-test.true) before.are_left) in
          let after : from ≤ t = omega arith in
          subst (λ (j : ℕ). AreTaken label all [] (round_moves φ n from (t + 1 - from)) (round_rest φ n j (to - (t + 1))) c.take_cycle.new.places.items c.take_cycle.new.made.items) (suc_is t)
          (taken_on label all [] (round_moves φ n from (t - from)) c.loop-t.made.items (cycle_moves (φ t) t n) (round_moves φ n from (t + 1 - from)) rest c.take_cycle.new.places.items c.take_cycle.new.made.items before.made_is (round_more φ n from t after) step);
    }

pub returns : goal.returns
returns c φ are =
    let same : c.channels-channels.result ≡ c.args.design.now.net.channels = c.channels-channels.ensures.value ∙ ap (λ (n : Network). n.channels) c.net.ensures.net in
    let is = c.loop-t.invariant.taken φ (subst (λ (k : ℕ). (p : ℕ) (ms : ListView Move) → slice_get c.args.all.now p ≡ Some ms → ms.items ≡ part_of (label_at c.args.parts.now.labels) p (round_moves φ k c.args.from (c.args.to - c.args.from))) (sym same) are) in
    let end : c.loop-t.t ≡ c.args.to = (let order = c.requires.order in omega arith) in
    is.made_is ∙ (ap (λ (k : ℕ). round_moves φ k c.args.from (c.loop-t.t - c.args.from)) same ∙ ap (λ (t : ℕ). round_moves φ c.args.design.now.net.channels c.args.from (t - c.args.from)) end)
