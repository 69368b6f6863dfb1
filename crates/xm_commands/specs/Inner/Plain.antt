-- Inner: the commands that need no workers.
use Rattle.std.specs.Prelude.{◌≤◌}
use Rattle.xm_commands.specs.declared.command.Command.{Command}
use Rattle.xm_commands.specs.declared.command.Command.TheVariants as command

-- all but `sim`; a search has a budget from 1 to 10,000,000
abbrev pub IsPlain : Command → Type 0
IsPlain (command.Prove budget) = (1 ≤ budget) × (budget ≤ 10000000)
IsPlain (command.Simulate it) = ⊥
IsPlain _ = Unit {0}
