-- What it is worth that `verify` says yes.
use Rattle.std.specs.Prelude.{◌≡◌, ◌<◌, ℕ, List, Ok}
use Rattle.xm_commands.specs.Output.{IsOutput}
use Rattle.xm_commands.specs.declared.command.Command.TheVariants as command
use Rattle.xm_commands.specs.declared.command.Outcome.TheVariants as outcome
use Rattle.xm_lits.specs.Repeating.{IsFair, IsJammed, IsRepeating, Repetition}
use Rattle.xm_model.specs.Net.{Network}
use Rattle.xm_netlist.specs.Doc.{Doc}
use Rattle.xm_netlist.specs.Reading.{document_in}

-- on no run from reset that repeats and is fair a channel is jammed
abbrev pub NeverJams : Network → Type 0
NeverJams net =
    (r : Repetition) → IsRepeating net r → IsFair net r → (c : ℕ) → c < net.channels → IsJammed r c → ⊥

-- the bytes are a document whose net never jams
pub record IsDeadlockFree (bytes : List ℕ) : Type 0 where
  pub doc : Doc
  pub read : document_in bytes ≡ Ok doc
  pub never : NeverJams doc.net

-- where `verify` says yes, the document's net never jams
abbrev pub VerifiedHold : Type 0
VerifiedHold = (bytes text : List ℕ) → IsOutput bytes command.Verify outcome.Yes text → IsDeadlockFree bytes
