-- What a command prints for the bytes of a document.
use Rattle.serde_json.specs.Data.{Data}
use Rattle.serde_json.specs.Written.{compact_text}
use Rattle.std.specs.List.{flat_map}
use Rattle.std.specs.Prelude.{◌≡◌, ◌≤◌, ◌<◌, ◌==◌, if◌then◌else◌, ◌++◌, ◌∷◌, [], ℕ, List, length, slice_get, All, Result, Ok, Some}
use Rattle.std.specs.Prelude.{ℤ, pos}
use Rattle.xm_check.specs.Break.{IsVerdict}
use Rattle.xm_colours.specs.Allowing.{AllowsAll}
use Rattle.xm_colours.specs.Family.{colours_at}
use Rattle.xm_commands.specs.declared.command.Command.{Command}
use Rattle.xm_commands.specs.declared.command.Command.TheVariants as command
use Rattle.xm_commands.specs.declared.command.Outcome.{Outcome}
use Rattle.xm_commands.specs.declared.command.Outcome.TheVariants as outcome
use Rattle.xm_commands.specs.declared.command.Simulation.{Simulation}
use Rattle.xm_design.specs.Designed.{Designed, IsDesigned}
use Rattle.xm_elim.specs.Basis.{IsReducedBasis}
use Rattle.xm_elim.specs.Elimination.{EndsWith}
use Rattle.xm_flow.specs.FlowRows.{Flow, IsKept}
use Rattle.xm_flow.specs.Holding.{IsFlowOf, count_columns, count_value, most_pairs, pair_count, point, queue_pair_count}
use Rattle.xm_flow.specs.ValidLemma.{Lemma}
use Rattle.xm_model.specs.Component.{Content}
use Rattle.xm_model.specs.Naming.{Naming}
use Rattle.xm_model.specs.Signals.{Signals}
use Rattle.xm_netlist.specs.Doc.{Doc}
use Rattle.xm_json.specs.Path.{Path}
use Rattle.xm_netlist.specs.Reading.{document_in}
use Rattle.xm_persist.specs.Rights.{AllGranted}
use Rattle.xm_lits.specs.declared.literal.Lit.{Lit}
use Rattle.xm_proof.specs.Argument.{Argument, Refutation}
use Rattle.xm_proof.specs.Valid.{IsProof}
use Rattle.xm_proof.specs.declared.verdict.Verdict.{Verdict}
use Rattle.xm_proof.specs.declared.verdict.Verdict.TheVariants as verdict
use Rattle.xm_proof_reader.specs.Known.{known_by}
use Rattle.xm_proof_reader.specs.Reading.{proof_in}
use Rattle.xm_report.specs.Check.{check_text}
use Rattle.xm_report.specs.Invariants.{invariant_lines, invariant_text}
use Rattle.xm_proof_writer.specs.Writing.{proof_data}
use Rattle.xm_report.specs.Search.{open_text, spent_text}
use Rattle.xm_report.specs.Snap.{snap_line}
use Rattle.xm_report.specs.Verdict.{verdict_text}
use Rattle.xm_rows.specs.Points.{Meets}
use Rattle.xm_search.specs.Searched.{IsOpen, IsSpent, IsWithinBudget}
use Rattle.xm_tape.specs.Reading.{tape_in}
use Rattle.xm_tape.specs.Taped.{Taped, cycles_of}
use Rattle.xm_trace.specs.Runs.{IsRunOf}
use Rattle.xm_trace.specs.Text.{IsTextOfRun, run_text}
use Rattle.xm_work.specs.Counts.{least_cycle}
use Rattle.xm_writer.specs.Writing.{text_of}

-- a design of the document's net, whose list of allowed colours refuses nothing
pub record IsDesignOf (doc : Doc) (design : Designed) : Type 0 where
  pub net : design.net ≡ doc.net
  pub designed : IsDesigned design
  pub allowed : AllowsAll (colours_at design.colours) doc.allow

-- the flow rows of a design that has not too many pairs for them
pub record HasFlow (design : Designed) (flow : Flow) : Type 0 where
  pub narrow : pair_count design ≤ most_pairs
  pub kept : IsKept flow
  pub is_flow : IsFlowOf design flow

-- what the elimination of the flow rows ends with: a reduced basis of all that they say of packets alone
pub record AreInvariants (design : Designed) (lemmas : List Lemma) : Type 0 where
  pub rows : Flow
  pub has_flow : HasFlow design rows
  pub left : EndsWith (pair_count design) (queue_pair_count design) rows.rows lemmas
  pub basis : IsReducedBasis (pair_count design) (queue_pair_count design) rows.rows lemmas

-- the row of each holds of the packets of a state
abbrev pub HoldIn : Designed → List Lemma → (ℕ → Content) → Type 0
HoldIn design lemmas s = All (λ it. Meets it.row (pos 1) (point (count_columns design) (count_value s))) lemmas

-- the document's proof, with the names of its design, or the path where its form is first broken
abbrev pub proof_of : Doc → Designed → Result Argument Path
proof_of doc design = proof_in (known_by design doc.names) doc.proof

-- what is said of the document's proof over the flow rows of its design, each of whose channels is granted a
-- persistent initiator
pub record IsVerdictOf (doc : Doc) (design : Designed) (said : Verdict) : Type 0 where
  pub argument : Argument
  pub proof : proof_of doc design ≡ Ok argument
  pub granted : AllGranted design.net
  pub rows : Flow
  pub has_flow : HasFlow design rows
  pub is_verdict : IsVerdict design rows.rows argument said

abbrev pub outcome_of : Verdict → Outcome
outcome_of verdict.Yes = outcome.Yes
outcome_of (verdict.No at why) = outcome.No

-- the value of a proof, with the names of a design
abbrev pub data_of_proof : Doc → Designed → Argument → Data
data_of_proof doc design p = proof_data (known_by design doc.names) p

-- the document, with this proof in the place of its own
abbrev pub with_proof : Doc → Data → Doc
with_proof doc proof = record doc { proof = Some proof }

-- the text of the document with a proof, from which document and proof are read again
pub record HasProofText (doc : Doc) (design : Designed) (p : Argument) (text : List ℕ) : Type 0 where
  pub written : text ≡ text_of (with_proof doc (data_of_proof doc design p))
  pub read : document_in text ≡ Ok (with_proof doc (data_of_proof doc design p))
  pub proof : proof_of (with_proof doc (data_of_proof doc design p)) design ≡ Ok p

-- a design each of whose channels is granted a persistent initiator, and the lemmas that a search may cite
pub record IsSearched (design : Designed) (lemmas : List Lemma) : Type 0 where
  pub granted : AllGranted design.net
  pub invariants : AreInvariants design lemmas

-- a proof that no channel of the design jams
pub record IsProved (design : Designed) (p : Argument) : Type 0 where
  pub rows : Flow
  pub has_flow : HasFlow design rows
  pub is_proof : IsProof design rows.rows p

-- What a search in so many nodes and pivots finds, and its text: the document with a proof, a candidate of a deadlock
-- for the first goal that is not refuted, or that the budget is spent.
pub data Finds (budget : ℕ) (doc : Doc) (design : Designed) (lemmas : List Lemma) : Outcome → List ℕ → Type 0 where
  a_proof : (p : Argument) (text : List ℕ) → IsProved design p → IsWithinBudget design lemmas budget p.goals
      → HasProofText doc design p text → Finds budget doc design lemmas outcome.Yes text
  a_candidate : (goal : Lit) (lits : List Lit) (denominator : ℤ) (counts : List ℤ)
      → IsOpen design lemmas goal lits denominator counts
      → Finds budget doc design lemmas outcome.No (open_text doc.names design goal lits counts denominator)
  no_end : (p : Argument) (before : List Refutation) (last : Refutation) (nodes pivots : ℕ)
      → IsSpent design lemmas budget p nodes pivots → p.goals ≡ before ++ last ∷ []
      → Finds budget doc design lemmas outcome.No
      (spent_text doc.names nodes pivots last.lit (compact_text (data_of_proof doc design p)))

-- the lines of the snapshots of a run at these cycles
abbrev pub snap_lines : Naming → Designed → (ℕ → ℕ → Content) → List ℕ → List ℕ
snap_lines names design s cycles = flat_map (λ t. snap_line names design t (s t)) cycles

-- The cycles of so many snapshots of a run of n cycles, none where it has none: the i-th is not before its least one, and
-- they never fall. Least cycles are spread over the run, and the last is its last; a snapshot may be later than its own.
pub record AreSnapCycles (watch n : ℕ) (cycles : List ℕ) : Type 0 where
  pub many : length cycles ≡ (if n == 0 then 0 else watch)
  pub due : (i t : ℕ) → slice_get cycles i ≡ Some t → least_cycle watch n i ≤ t
  pub within : (i t : ℕ) → slice_get cycles i ≡ Some t → t < n
  pub rise : (i j t u : ℕ) → i < j → slice_get cycles i ≡ Some t → slice_get cycles j ≡ Some u → t ≤ u

-- the text of the run of a tape, and behind it the lines of its invariants and of so many snapshots, in each of which the
-- invariants hold
pub record IsWatchedText (doc : Doc) (design : Designed) (tape : Taped) (watch : ℕ) (text : List ℕ) : Type 0 where
  pub states : ℕ → ℕ → Content
  pub frames : ℕ → Signals
  pub run : IsRunOf doc.net tape states frames
  pub lemmas : List Lemma
  pub invariants : AreInvariants design lemmas
  pub cycles : List ℕ
  pub are_cycles : AreSnapCycles watch (cycles_of tape) cycles
  pub hold : (i t : ℕ) → slice_get cycles i ≡ Some t → HoldIn design lemmas (states t)
  pub same : text ≡ run_text doc.names frames (cycles_of tape) ++ invariant_lines doc.names design lemmas
      ++ snap_lines doc.names design states cycles

-- The output of a command for the bytes of a document, and how it turned out: of `check` the sizes and colours of its
-- design, of `run` the text of the run of its tape, of `inv` that of its invariants, of `verify` the verdict on its
-- proof, which may be no, of `prove` what a search finds, which may be no proof, and of `sim` that of `run`, whatever the
-- parts and the workers, with invariants and snapshots where these are wanted.
pub data IsOutput (bytes : List ℕ) : Command → Outcome → List ℕ → Type 0 where
  of_check : (doc : Doc) (design : Designed) → document_in bytes ≡ Ok doc → IsDesignOf doc design
      → IsOutput bytes command.Check outcome.Yes (check_text doc.names design)
  of_run : (doc : Doc) (design : Designed) (tape : Taped) (text : List ℕ) → document_in bytes ≡ Ok doc
      → IsDesignOf doc design → tape_in doc.net doc.tape ≡ Ok tape → IsTextOfRun doc.net doc.names tape text
      → IsOutput bytes command.Run outcome.Yes text
  of_inv : (doc : Doc) (design : Designed) (lemmas : List Lemma) → document_in bytes ≡ Ok doc → IsDesignOf doc design
      → AreInvariants design lemmas
      → IsOutput bytes command.Inv outcome.Yes (invariant_text doc.names design lemmas)
  of_verify : (doc : Doc) (design : Designed) (said : Verdict) → document_in bytes ≡ Ok doc → IsDesignOf doc design
      → IsVerdictOf doc design said → IsOutput bytes command.Verify (outcome_of said) (verdict_text said)
  of_prove : (doc : Doc) (design : Designed) (budget : ℕ) (lemmas : List Lemma) (turned : Outcome) (text : List ℕ)
      → document_in bytes ≡ Ok doc → IsDesignOf doc design → IsSearched design lemmas
      → Finds budget doc design lemmas turned text → IsOutput bytes (command.Prove budget) turned text
  of_sim : (it : Simulation) (text : List ℕ) → it.watch ≡ 0 → IsOutput bytes command.Run outcome.Yes text
      → IsOutput bytes (command.Simulate it) outcome.Yes text
  of_watched : (it : Simulation) (doc : Doc) (design : Designed) (tape : Taped) (text : List ℕ) → 0 < it.watch
      → document_in bytes ≡ Ok doc → IsDesignOf doc design → tape_in doc.net doc.tape ≡ Ok tape
      → IsWatchedText doc design tape it.watch text → IsOutput bytes (command.Simulate it) outcome.Yes text
