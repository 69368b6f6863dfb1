-- Which proofs can be written so that they are read again.
use Rattle.std.specs.Prelude.{◌≡◌, ℕ, ◌<◌, List, [], ◌∷◌, Option, Some, None, true, All, length}
use Rattle.xm_design.specs.Designed.{Designed}
use Rattle.xm_elim.specs.Ordered.{IsOrdered}
use Rattle.xm_flow.specs.FlowRows.{Flow, IsKept}
use Rattle.xm_flow.specs.Holding.{IsFlowOf, pair_count, queue_pair_count}
use Rattle.xm_flow.specs.ValidLemma.{IsValid, Lemma}
use Rattle.xm_flow.specs.declared.invariant.Part.{Part}
use Rattle.xm_model.specs.Naming.{Naming}
use Rattle.xm_model.specs.TextLines.{name_at}
use Rattle.xm_netlist.specs.Doc.{Doc}
use Rattle.xm_netlist.specs.Valid as document
use Rattle.xm_proof.specs.Argument.{Argument}
use Rattle.xm_proof.specs.Form.{IsFormed}
use Rattle.xm_proof.specs.OfNet.{IsChannel, IsColour, IsGoalOf, IsPlace, IsQueue}
use Rattle.xm_proof_reader.specs.Known.{Known, channel_named, colour_named, known_by, queue_named}
use Rattle.xm_proof_reader.specs.Reading.{rises_to}
use Rattle.xm_rows.specs.Row.{Fits128, IsRow}
use Rattle.xm_rows.specs.declared.row.Entry.{Entry}
use Rattle.xm_writer.specs.Texts.{HasTexts}

-- each name is a text, and tells its channel, colour or queue
pub record HasNames (known : Known) : Type 0 where
  pub texts : HasTexts known.names
  pub channels : (c : ℕ) → IsChannel known.net c → channel_named known (name_at known.names.channels c) ≡ Some c
  pub colours : (d : ℕ) → IsColour known.net d → colour_named known (name_at known.names.colours d) ≡ Some d
  pub queues : (q : ℕ) → IsQueue known.net q → queue_named known (name_at known.names.prims q) ≡ Some q

-- ---- lemmas

pub record IsPartOf (part : Part) : Type 0 where
  pub flow : IsPlace part.flow
  pub factor : Fits128 part.factor

-- the flow rows of parts rise
abbrev pub AreParts : Option Part → List Part → Type 0
AreParts before [] = Unit {0}
AreParts before (p ∷ ps) = IsPartOf p × (rises_to before p ≡ true) × AreParts (Some p) ps

pub record IsLemmaOf (known : Known) (l : Lemma) : Type 0 where
  pub row : IsRow l.row
  pub columns : All (λ (e : Entry). e.column < length known.pairs) l.row.entries
  pub few_entries : IsPlace (length l.row.entries)
  pub scale : Fits128 l.scale
  pub parts : AreParts None l.parts
  pub few_parts : IsPlace (length l.parts)

-- the proof has the form that is read
pub record CanBeWritten (known : Known) (proof : Argument) : Type 0 where
  pub names : HasNames known
  pub formed : IsFormed proof
  pub lemmas : All (IsLemmaOf known) proof.lemmas
  pub goals : All (IsGoalOf known.net) proof.goals

-- those of a valid document whose net is the design's tell what they name
abbrev pub NamesTell : Type 0
NamesTell = (doc : Doc) (it : Designed) → document.IsValid doc → it.net ≡ doc.net → HasNames (known_by it doc.names)

-- the invariants that an elimination leaves can be written
abbrev pub InvariantsCanBeWritten : Type 0
InvariantsCanBeWritten = (it : Designed) (names : Naming) (flow : Flow) (lemmas : List Lemma) → IsFlowOf it flow → IsKept flow
    → All (IsValid (pair_count it) (queue_pair_count it) flow.rows) lemmas → All IsOrdered lemmas
    → All (IsLemmaOf (known_by it names)) lemmas
