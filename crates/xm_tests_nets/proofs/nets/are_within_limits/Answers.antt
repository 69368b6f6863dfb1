use Rattle.std.proofs.Common.{refl}
use Rattle.xm_tests_nets.proofs.Within.{within_limits}
use Rattle.xm_tests_nets.proofs.nets.are_within_limits.Goals as goal

pub returns : goal.returns
returns c = λ fit.
    let prims = c.if-not-is_within.ensures refl in
    let channels = c.if-not-is_within-2.ensures refl in
    let colours = c.if-not-is_within-3.ensures refl in
    within_limits c.args.channels c.args.colours c.args.prims.now prims.0 prims.1 channels.0 channels.1 colours.0 colours.1 (c.all_fit.ensures fit)
