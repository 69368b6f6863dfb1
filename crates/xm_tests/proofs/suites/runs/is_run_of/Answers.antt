use Rattle.std.proofs.Common.{◌<◌, ◌+◌, ◌^◌, ◌∙◌, ap, arith}
use Rattle.xm_design.specs.Designed.{Designed}
use Rattle.xm_trace.specs.Lemmas.Joining.{moved_next}
use Rattle.xm_tests.proofs.suites.runs.is_run_of.Goals as goal

-- the first round follows a text that has had no cycle
pub add-requires-clause-follows : goal.add-requires-clause-follows
add-requires-clause-follows c =
    let design = c.args.evaluator.now in
    let designed = c.design-design.ensures.designed in
    let channels = c.in-Ok-new.ensures.channels ∙ ap (λ (it : Designed). it.net.channels) c.design-design.ensures.value in
    let begun = c.in-Ok-new.told in
    let made = c.in-Ok-run_round.trace in
    let few : begun.cycles + made.cycles < 2 ^ 32 = omega (arith, c.in-Ok-new.ensures.none, c.in-Ok-run_round.ensures.cycles, c.if-cycles-gt10000.false) in
    c.rounds_follow.ensures design.net design.order c.args.tape.now begun made.cycles made.moves.items designed.net designed.order channels (λ s φ run. c.in-Ok-new.ensures.had φ)
    (moved_next design.net c.args.tape.now begun 0 _ made.cycles made.moves.items c.in-Ok-new.ensures.none c.in-Ok-run_round.ensures.cycles c.in-Ok-run_round.ensures.moves) few
