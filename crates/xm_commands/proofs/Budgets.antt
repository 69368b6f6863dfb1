-- The budget that the words give is within its range.
use Rattle.std.proofs.Common.{ℕ, List, [], ◌∷◌, arith, refl}
use Rattle.std.specs.Prelude.{Option, Some, None}
use Rattle.xm_commands.specs.Inner.Plain.{IsPlain}
use Rattle.xm_commands.specs.Words.{budget_of, budget_option}
use Rattle.xm_commands.specs.declared.command.Command.TheVariants as command
use Rattle.xm_options.specs.Grammar.{AreWithin}

pub budget_within : (values : List (Option ℕ)) → AreWithin (budget_option ∷ []) values → IsPlain (command.Prove (budget_of values))
budget_within [] within = (omega arith, omega arith)
budget_within (None ∷ rest) within = (omega arith, omega arith)
budget_within (Some n ∷ rest) within = within 0 budget_option n refl refl
