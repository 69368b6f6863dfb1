-- What is printed by a call that reads no document.
use Rattle.std.specs.Prelude.{◌≡◌, ℕ, ◌||◌, ◌==◌, Bool, List, Option, Ok}
use Rattle.std.specs.Io.KnownBytes.{Appends}
use Rattle.xm_commands.specs.Demonstrating.{IsDemonstration}
use Rattle.xm_commands.specs.declared.call.Call.{Call}
use Rattle.xm_commands.specs.declared.call.Call.TheVariants as call
use Rattle.xm_commands.specs.declared.call.Demonstration.{Demonstration}
use Rattle.xm_generate.specs.Generated.{generated}
use Rattle.xm_io.specs.Bytes.{AppendsFront}
use Rattle.xm_netlist.specs.Reading.{document_in}
use Rattle.xm_writer.specs.Writing.{text_of}

-- the statuses that it ends with: the text was written whole, or a front of it, or there was no memory
abbrev pub ends_drawn : ℕ → Bool
ends_drawn n = (n == 0) || (n == 7) || (n == 9)

-- The text of such a call: of `gen` that of the document of a line, which is that document when it is read, and of `demo`
-- what is counted of the run of that document, whatever the parts and the workers.
pub data IsDrawn : Call → List ℕ → Type 0 where
  of_generate : (size seed : ℕ) → document_in (text_of (generated size seed)) ≡ Ok (generated size seed)
      → IsDrawn (call.Generate size seed) (text_of (generated size seed))
  of_demonstrate : (it : Demonstration) (text : List ℕ) → IsDemonstration it.size it.seed text
      → IsDrawn (call.Demonstrate it) text

-- its text was appended whole
abbrev pub PrintsDrawn : Call → Option (List ℕ) → Option (List ℕ) → Type 0
PrintsDrawn it held_before held_after = (text : List ℕ) × IsDrawn it text × Appends held_before held_after text

-- a front of it was
abbrev pub PrintsDrawnFront : Call → Option (List ℕ) → Option (List ℕ) → Type 0
PrintsDrawnFront it held_before held_after = (text : List ℕ) × IsDrawn it text × AppendsFront held_before held_after text
