use Rattle.std.proofs.Common.{◌≡◌, ◌+◌, ◌-◌, ◌++◌, ℕ, suc, List, sym, subst, ◌∙◌, refl, arith}
use Rattle.xm_board.proofs.InOrder.{cycle_begins, cycle_ends, cycle_next, left_is, none_at, none_taken, suc_is, taken_on}
use Rattle.xm_board.specs.Inner.Merging.{AreTaken, cycle_rest}
use Rattle.xm_model.specs.Next.{move}
use Rattle.xm_parts.specs.Kept.{label_at}
use Rattle.xm_trace.specs.Moves.{cycle_moves, moved_on}
use Rattle.xm_trace.specs.declared.trace.Move.{Move}
use Rattle.xm_board.proofs.merging.take_cycle.Goals as goal

pub loop-c-init : goal.loop-c-init
loop-c-init c = record {
  long = refl;
  taken = λ φ left none are. none_taken (label_at c.args.parts.now.labels) c.args.all.now c.args.places.now.items c.args.made.now.items _
      (left_is (label_at c.args.parts.now.labels) c.args.all.now c.args.places.now.items c.args.made.now.items _ _ (cycle_begins φ c.args.t c.args.channels left) are);
}

pub loop-c-preserved : goal.loop-c-preserved
loop-c-preserved c =
    let label = label_at c.args.parts.now.labels in let all = c.args.all.now in let t = c.args.t in let k = c.loop-c.c in let n = c.args.channels in
    record {
      long = c.in_ok-take_move.ensures.places ∙ c.loop-c.invariant.long;
      taken = λ φ left none are.
          let before = c.loop-c.invariant.taken φ left none are in
          let next = cycle_next φ t k n left c.loop-c-test.true in
          let rest = cycle_rest φ t (suc k) (n - (k + 1)) ++ left in
          let step = c.in_ok-take_move.ensures.taken label (move φ k) rest (sym c.of-p.ensures.value) (none_at φ t k (n - (k + 1)) left none)
          (left_is label all c.loop-c.places.items c.loop-c.made.items _ _ next before.are_left) in
          subst (λ (j : ℕ). AreTaken label all c.args.made.now.items (cycle_moves φ t j) (cycle_rest φ t j (n - (k + 1)) ++ left) c.take_move.new.places.items c.take_move.new.made.items) (suc_is k)
          (taken_on label all c.args.made.now.items (cycle_moves φ t k) c.loop-c.made.items (moved_on t k (move φ k)) (cycle_moves φ t (suc k)) rest c.take_move.new.places.items c.take_move.new.made.items before.made_is refl step);
    }

pub returns-clause-taken : goal.returns-clause-taken
returns-clause-taken c φ left none are =
    let label = label_at c.args.parts.now.labels in
    let is = c.loop-c.invariant.taken φ left none are in
    let end : c.loop-c.c ≡ c.args.channels = omega arith in
    let moves = subst (λ (k : ℕ). AreTaken label c.args.all.now c.args.made.now.items (cycle_moves φ c.args.t k) (cycle_rest φ c.args.t c.loop-c.c (c.args.channels - c.loop-c.c) ++ left) c.loop-c.places.items c.loop-c.made.items) end is in
    subst (λ (ms : List Move). AreTaken label c.args.all.now c.args.made.now.items (cycle_moves φ c.args.t c.args.channels) ms c.loop-c.places.items c.loop-c.made.items)
    (cycle_ends φ c.args.t c.loop-c.c c.args.channels left (omega arith)) moves
