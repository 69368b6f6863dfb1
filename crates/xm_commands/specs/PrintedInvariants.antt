-- Each invariant that `inv` prints holds at each state of each run of the document's net.
use Rattle.std.specs.Prelude.{◌≡◌, ℕ, ◌≤◌, List, Ok}
use Rattle.xm_commands.specs.Output.{HoldIn, IsDesignOf, IsOutput}
use Rattle.xm_commands.specs.declared.command.Command.TheVariants as command
use Rattle.xm_commands.specs.declared.command.Outcome.{Outcome}
use Rattle.xm_design.specs.Designed.{Designed}
use Rattle.xm_flow.specs.ValidLemma.{Lemma}
use Rattle.xm_model.specs.Component.{Content}
use Rattle.xm_model.specs.Net.{Network}
use Rattle.xm_model.specs.Run.{IsRun, TapeFits}
use Rattle.xm_model.specs.Signals.{Signals}
use Rattle.xm_model.specs.declared.state.Choice.{Choice}
use Rattle.xm_netlist.specs.Doc.{Doc}
use Rattle.xm_netlist.specs.Reading.{document_in}
use Rattle.xm_report.specs.Invariants.{invariant_text}

-- the row of each holds of the packets of each state of each run
abbrev pub HoldOnRuns : Network → Designed → List Lemma → Type 0
HoldOnRuns net design lemmas =
    (cycles : ℕ) (w : ℕ → ℕ → Choice) (s : ℕ → ℕ → Content) (φ : ℕ → Signals) → TapeFits net cycles w
    → IsRun net cycles w s φ → (t : ℕ) → t ≤ cycles → HoldIn design lemmas (s t)

-- the text is that of invariants which hold on the runs of the document's net
pub record PrintsHolding (bytes text : List ℕ) : Type 0 where
  pub doc : Doc
  pub design : Designed
  pub lemmas : List Lemma
  pub read : document_in bytes ≡ Ok doc
  pub is_design : IsDesignOf doc design
  pub printed : text ≡ invariant_text doc.names design lemmas
  pub hold : HoldOnRuns doc.net design lemmas

abbrev pub PrintedHold : Type 0
PrintedHold = (bytes text : List ℕ) (turned : Outcome) → IsOutput bytes command.Inv turned text
    → PrintsHolding bytes text
