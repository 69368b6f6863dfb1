-- Inner: what a search is given, and what is written of what it finds.
use Rattle.std.specs.Prelude.{◌≡◌, All, List, Some, Ok}
use Rattle.serde_json.specs.Data.{Data}
use Rattle.xm_commands.specs.Output.{IsSearched}
use Rattle.xm_commands.specs.declared.prepared.Prepared.{Prepared}
use Rattle.xm_design.specs.Designed.{Designed}
use Rattle.xm_elim.specs.Ordered.{IsOrdered}
use Rattle.xm_flow.specs.ValidLemma.{Lemma}
use Rattle.xm_model.specs.Naming.{naming_of}
use Rattle.xm_netlist.specs.Valid.{IsPart}
use Rattle.xm_proof.specs.Argument.{Argument}
use Rattle.xm_proof_reader.specs.Known.{Known, known_by}
use Rattle.xm_proof_reader.specs.Reading.{proof_in}
use Rattle.xm_proof_writer.specs.Writing.{proof_data}

-- lemmas that a search may cite, in the form in which they are written
pub record AreCited (design : Designed) (lemmas : List Lemma) : Type 0 where
  pub searched : IsSearched design lemmas
  pub ordered : All IsOrdered lemmas

-- what is known of the names of what was prepared
abbrev pub known_in : Prepared → Known
known_in it = known_by it.design (naming_of it.names)

-- the value of the proof; it can stand in a document, and is read as the proof again
pub record IsValueOf (known : Known) (p : Argument) (value : Data) : Type 0 where
  pub same : value ≡ proof_data known p
  pub again : proof_in known (Some value) ≡ Ok p
  pub part : IsPart value
