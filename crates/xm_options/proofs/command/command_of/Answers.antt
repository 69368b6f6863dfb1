use Rattle.xm_options.proofs.Building.{more_options}
use Rattle.xm_options.proofs.command.command_of.Goals as goal

pub loop-option-preserved : goal.loop-option-preserved
loop-option-preserved c =
    more_options c.args.options.now c.loop-option.option-index _ _ _ c.loop-option-test.true c.loop-option.invariant c.in_ok-command.ensures
