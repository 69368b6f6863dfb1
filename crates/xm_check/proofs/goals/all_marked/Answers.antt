use Rattle.std.proofs.Common.{◌<◌, ◌-◌, map, sym, ◌∙◌, arith}
use Rattle.xm_check.proofs.Marking.{goals_last, last_false, last_true}
use Rattle.xm_check.proofs.goals.all_marked.Goals as goal
use Rattle.xm_colours.specs.Family.{colours_at}
use Rattle.xm_colours.specs.Pairs.{pairs}
use Rattle.xm_proof.specs.Valid.{all_goals}

pub returns-then-not-branch : goal.returns-then-not-branch
returns-then-not-branch c before are =
    let it = c.args.design.now in
    let n = c.loop-channel.channel in
    let colours = colours_at it.colours in
    let some : 0 < n = omega (arith, c.loop-channel-test.true) in
    sym (c.loop-channel.invariant before are ∙ goals_last before colours n some
    ∙ last_false (all_goals before (pairs colours (n - 1))) (all_goals before (map (λ d. (n - 1, d)) (colours (n - 1))))
    (sym (c.in_ok-is_channel_marked.ensures before are) ∙ c.if-not-branch.true))

pub loop-channel-preserved : goal.loop-channel-preserved
loop-channel-preserved c before are =
    let it = c.args.design.now in
    let n = c.loop-channel.channel in
    let colours = colours_at it.colours in
    let some : 0 < n = omega (arith, c.loop-channel-test.true) in
    c.loop-channel.invariant before are ∙ goals_last before colours n some
    ∙ last_true (all_goals before (pairs colours (n - 1))) (all_goals before (map (λ d. (n - 1, d)) (colours (n - 1))))
    (sym (c.in_ok-is_channel_marked.ensures before are) ∙ c.if-not-branch.false)
