-- A command has one answer for given bytes.
use Rattle.std.specs.Prelude.{◌≡◌, ◌⊎◌, ◌==◌, ℕ, Bool, true, false, List, Ok}
use Rattle.xm_commands.specs.Output.{IsOutput}
use Rattle.xm_commands.specs.Refusal.{Refuses}
use Rattle.xm_commands.specs.declared.command.Command.{Command}
use Rattle.xm_commands.specs.declared.command.Command.TheVariants as command
use Rattle.xm_commands.specs.declared.command.Outcome.{Outcome}
use Rattle.xm_design.specs.Designed.{IsLoopRefused}
use Rattle.xm_netlist.specs.Doc.{Doc}
use Rattle.xm_netlist.specs.Reading.{document_in}
use Rattle.xm_order.specs.declared.signal.Signal.{Signal}
use Rattle.xm_report.specs.Lines.{loop_line}

-- a command but `prove`, which may search in many ways
abbrev pub has_one_refusal : Command → Bool
has_one_refusal (command.Prove budget) = false
has_one_refusal _ = true

-- and but `sim` with snapshots, which may be taken at many cycles
abbrev pub has_one_output : Command → Bool
has_one_output (command.Prove budget) = false
has_one_output (command.Simulate it) = it.watch == 0
has_one_output _ = true

-- a search may leave 128 bits where another one would not
abbrev pub may_differ : Command → ℕ → Bool
may_differ (command.Prove budget) status = status == 8
may_differ _ status = false

-- A command but `prove`, and `sim` with snapshots, has at most one output for given bytes, and it turns out in one way.
abbrev pub OneOutput : Type 0
OneOutput = (bytes : List ℕ) (it : Command) (turned other_turned : Outcome) (text other_text : List ℕ)
    → has_one_output it ≡ true → IsOutput bytes it turned text → IsOutput bytes it other_turned other_text
    → (turned ≡ other_turned) × (text ≡ other_text)

-- Bytes that a command refuses have no output, but that a search may leave 128 bits or not.
abbrev pub NoOutputOfRefused : Type 0
NoOutputOfRefused = (bytes : List ℕ) (it : Command) (status : ℕ) (turned : Outcome) (line text : List ℕ)
    → may_differ it status ≡ false → Refuses bytes it status line → IsOutput bytes it turned text → ⊥

-- the line names a loop of the document that the bytes are
pub record NamesLoop (bytes line : List ℕ) : Type 0 where
  pub doc : Doc
  pub loop : List Signal
  pub read : document_in bytes ≡ Ok doc
  pub refused : IsLoopRefused doc.net doc.allow loop
  pub named : line ≡ loop_line doc.names loop

-- Two refusals of the same bytes by the same command, but by `prove`, have the same status, and the same line; or both name a loop, and
-- either may name any.
abbrev pub OneRefusal : Type 0
OneRefusal = (bytes : List ℕ) (it : Command) (status other_status : ℕ) (line other_line : List ℕ)
    → has_one_refusal it ≡ true → Refuses bytes it status line → Refuses bytes it other_status other_line
    → (status ≡ other_status) × ((line ≡ other_line) ⊎ (NamesLoop bytes line × NamesLoop bytes other_line))
