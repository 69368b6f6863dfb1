use Rattle.std.proofs.Common.{◌≡◌, suc, sym, ◌∙◌, subst, arith, rules}
use Rattle.std.specs.Io.KnownBytes.{Appends}
use Rattle.xm_work.specs.Rounds.{lines}
use Rattle.xm_work.proofs.Joining.{appends_round, front_round, counts_go_on}
use Rattle.xm_work.proofs.rounds.run_rounds.Goals as goal

pub returns-in-Err-clause-front : goal.returns-in-Err-clause-front
returns-in-Err-clause-front g c = λ line is.
    let so_far = c.loop.invariant.2 in
    front_round line _ _ _ _ (suc c.loop.last) (omega (arith, so_far.later)) c.args.cycles
    (omega (arith, so_far.within))
    (so_far.written line is)
    (c.in-Err.ensures.front line (subst (λ w. g.B.Rounds.has_lines w line) (sym so_far.whole) is))

pub returns-then-last-cycles-clause-text : goal.returns-then-last-cycles-clause-text
returns-then-last-cycles-clause-text g c = λ line is.
    let so_far = c.loop.invariant.2 in
    let ends : suc c.loop.last ≡ c.args.cycles = omega (arith, so_far.within) in
    subst (λ n. Appends (g.K.Sink.held c.args.out.now) (g.K.Sink.held c.one_round.new.out) (lines line 0 n)) ends
    (appends_round line _ _ _ _ (suc c.loop.last) (omega (arith, so_far.later)) (so_far.written line is)
    (c.in-Ok.ensures.text line (subst (λ w. g.B.Rounds.has_lines w line) (sym so_far.whole) is)))

pub loop-preserved : goal.loop-preserved
loop-preserved g c =
    let so_far = c.loop.invariant.2 in
    let done = c.in-Ok.ensures in
    let next = c.next_round.ensures in
    let told = done.next in
    let ends = c.round_end-last-in-loop.ensures in
    let moved = next.next in (
      tt,
      tt,
      record {
        whole = next.whole ∙ done.whole ∙ so_far.whole;
        within = search rules;
        target = next.target;
        later = search rules;
        written = λ line is.
            subst (λ n. Appends (g.K.Sink.held c.args.out.now) (g.K.Sink.held c.one_round.new.out) (lines line 0 n))
            (sym (next.next ∙ told))
            (appends_round line _ _ _ _ (suc c.loop.last) (omega (arith, so_far.later)) (so_far.written line is)
            (done.text line (subst (λ w. g.B.Rounds.has_lines w line) (sym so_far.whole) is)));
      },
      counts_go_on g.B.Bench.is_of g.B.Bench.cycle_of c.args.wanted c.args.cycles _ _ c.loop.last _ _ next.goes_on
          (omega (arith, next.floor, done.floor)) done.counts,
      done.kept ∙ c.loop.invariant.4,
    )
