-- What it is worth that `prove` finds a proof.
use Rattle.std.specs.Prelude.{ℕ, List}
use Rattle.xm_commands.specs.Output.{IsOutput}
use Rattle.xm_commands.specs.declared.command.Command.TheVariants as command
use Rattle.xm_commands.specs.declared.command.Outcome.TheVariants as outcome
use Rattle.xm_proof.specs.declared.verdict.Verdict.TheVariants as verdict
use Rattle.xm_report.specs.Verdict.{verdict_text}

-- the text that it prints is a document of which `verify` says yes
abbrev pub ProvedVerify : Type 0
ProvedVerify = (bytes text : List ℕ) (budget : ℕ) → IsOutput bytes (command.Prove budget) outcome.Yes text
    → IsOutput text command.Verify outcome.Yes (verdict_text verdict.Yes)
