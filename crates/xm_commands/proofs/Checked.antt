-- The text of the check is the output of `check`.
use Rattle.std.proofs.Common.{◌≡◌, ℕ, List, ap, sym, subst, ◌∙◌}
use Rattle.xm_model.specs.Naming.{naming_of}
use Rattle.xm_report.specs.Check.{check_text}
use Rattle.xm_commands.specs.Output.{IsOutput, of_check}
use Rattle.xm_commands.specs.Inner.Prepared.{IsPrepared}
use Rattle.xm_commands.specs.declared.command.Command.TheVariants as command
use Rattle.xm_commands.specs.declared.command.Outcome.TheVariants as outcome
use Rattle.xm_commands.specs.declared.prepared.Prepared.{Prepared}

pub checked : (bytes : List ℕ) (it : Prepared) → IsPrepared bytes it → (text : List ℕ) → text ≡ check_text (naming_of it.names) it.design → IsOutput bytes command.Check outcome.Yes text
checked bytes it is text same =
    subst (IsOutput bytes command.Check outcome.Yes) (sym (same ∙ ap (λ names. check_text names it.design) is.names)) (of_check is.doc it.design is.read is.design)
