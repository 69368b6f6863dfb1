use Rattle.std.proofs.Common.{◌≡◌, take}
use Rattle.clap.specs.Simple.{app_of}
use Rattle.xm_options.specs.Inner.Command.{command_with}
use Rattle.xm_options.proofs.command.command_of.Given as goal

abbrev pub invariant-loop-option : goal.invariant-loop-option
invariant-loop-option l = app_of l.command ≡ command_with (take l.option-index l.options)
