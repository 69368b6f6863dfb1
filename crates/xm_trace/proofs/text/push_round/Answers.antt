use Rattle.std.proofs.Common.{◌≡◌, ◌∙◌, ◌+◌, length, refl}
use Rattle.xm_model.specs.Naming.{naming_of}
use Rattle.xm_trace.proofs.Cycles.{ends_there, line_more}
use Rattle.xm_trace.proofs.text.push_round.Goals as goal

pub loop-k-preserved : goal.loop-k-preserved
loop-k-preserved c = record {
  within = c.cycle_end-end.ensures.within;
  done = λ φ is.
      let names = naming_of c.args.names.now in
      let before = c.loop-k.invariant.done φ is in
      let all : c.as_slice-moves.result.now ≡ _ = c.as_slice-moves.ensures ∙ is in (
        ends_there φ (length names.channels) c.args.from c.loop-k.k c.args.part.now.cycles (c.args.from + c.loop-k.k) c.loop-k-test.true refl c.as_slice-moves.result.now all c.loop-k.start c.cycle_end-end.result before.0 c.cycle_end-end.ensures.end,
        line_more φ (length names.channels) c.args.from c.loop-k.k c.args.part.now.cycles (c.args.from + c.loop-k.k) c.loop-k-test.true refl c.as_slice-moves.result.now all c.loop-k.start c.cycle_end-end.result before.0 c.cycle_end-end.ensures.end
            names refl c.args.text.now.items c.loop-k.text.items _ before.1 c.in_ok-push_cycle.ensures,
      );
}
