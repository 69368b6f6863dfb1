-- What `verify` writes is the verdict on the document's proof, why it refuses, and what a yes is worth.
use Rattle.std.proofs.Common.{◌≡◌, ◌<◌, ◌∙◌, ℕ, List, Result, Ok, Err, Bor, ap₂, refl, subst, sym}
use Rattle.serde_json.specs.Data.{Data}
use Rattle.serde_json.specs.View.{view}
use Rattle.serde_json.specs.declared.value.Value.{Value}
use Rattle.std.specs.Prelude.{Option, option_copied, option_map}
use Rattle.xm_check.specs.Break.{IsVerdict, lemma_breaks, goals_break, valid}
use Rattle.xm_check.specs.Laws.{ProofsHold}
use Rattle.xm_commands.proofs.Ran.{lent_value}
use Rattle.xm_commands.specs.Inner.Prepared.{IsPrepared}
use Rattle.xm_commands.specs.Inner.Verifying.{IsPersistFault, proof_read}
use Rattle.xm_commands.specs.Output.{HasFlow, IsOutput, IsVerdictOf, of_verify, outcome_of, proof_of}
use Rattle.xm_commands.specs.Refusal.{HasProof}
use Rattle.xm_commands.specs.VerifiedProof.{IsDeadlockFree, VerifiedHold}
use Rattle.xm_commands.specs.declared.command.Command.TheVariants as command
use Rattle.xm_commands.specs.declared.command.Outcome.{Outcome}
use Rattle.xm_commands.specs.declared.command.Outcome.TheVariants as outcome
use Rattle.xm_commands.specs.declared.prepared.Prepared.{Prepared}
use Rattle.xm_design.specs.Designed.{Designed}
use Rattle.xm_flow.specs.FlowRows.{Flow}
use Rattle.xm_lits.specs.Repeating.{IsFair, IsRepeating}
use Rattle.xm_model.specs.Naming.{Naming, naming_of}
use Rattle.xm_model.specs.Net.{Network}
use Rattle.xm_persist.specs.Rights.{AllGranted, IsFirstUngranted}
use Rattle.xm_persist.specs.declared.fault.PersistFault.{PersistFault}
use Rattle.xm_persist.specs.declared.fault.PersistFault.TheVariants as faults
use Rattle.xm_proof.specs.Argument.{Argument}
use Rattle.xm_proof.specs.Valid.{IsProof}
use Rattle.xm_proof.specs.declared.verdict.Verdict.{Verdict}
use Rattle.xm_proof_reader.specs.Known.{Known, known_by}
use Rattle.xm_proof_reader.specs.Reading.{proof_in}
use Rattle.xm_report.specs.Verdict.{verdict_text}
use Rattle.xm_rows.specs.Row.{SparseRow}

-- what was read of the prepared document is its proof
pub proof_of_read : (bytes : List ℕ) (it : Prepared) (is : IsPrepared bytes it) → proof_of is.doc it.design ≡ proof_read it
proof_of_read bytes it is = ap₂ (λ (names : Naming) (p : Option Data). proof_in (known_by it.design names) p) (sym is.names) (sym is.proof)

-- what was read with what is known of the names, where the proof was lent
pub known_read : (it : Prepared) (known : Known) (lent : Option (Bor Value)) → known ≡ known_by it.design (naming_of it.names) → option_copied lent ≡ it.proof → proof_in known (option_map (λ v. view v.now) lent) ≡ proof_read it
known_read it known lent same copied = ap₂ proof_in same (lent_value it.proof lent copied)

pub proof_found : (bytes : List ℕ) (it : Prepared) (is : IsPrepared bytes it) (argument : Argument) → proof_read it ≡ Ok argument → HasProof is.doc it.design
proof_found bytes it is argument read = record { argument = argument; proof = proof_of_read bytes it is ∙ read }

-- the fault of a net that is not persistent, from the clause of the call that tests it
pub persist_fault : {T : Type 0} (r : Result T PersistFault) (net : Network) (fault : PersistFault) → r ≡ Err fault → ((c : ℕ) → r ≡ Err (faults.NotPersistent c) → IsFirstUngranted net c) → IsPersistFault net fault
persist_fault r net (faults.NotPersistent c) is refused = refused c is
persist_fault r net faults.OutOfMemory is refused = tt

pub verdict_printed : (bytes : List ℕ) (it : Prepared) (is : IsPrepared bytes it) (argument : Argument) (said : Verdict) (rows : Flow) → proof_read it ≡ Ok argument → AllGranted it.design.net → HasFlow it.design rows
    → IsVerdict it.design rows.rows argument said → IsVerdictOf is.doc it.design said
verdict_printed bytes it is argument said rows read granted has verdict = record {
  argument = argument;
  proof = proof_of_read bytes it is ∙ read;
  granted = granted;
  rows = rows;
  has_flow = has;
  is_verdict = verdict;
}

pub said_printed : (bytes : List ℕ) (it : Prepared) (said : Verdict) (turned : Outcome) (text : List ℕ) (is : IsPrepared bytes it) → IsVerdictOf is.doc it.design said → turned ≡ outcome_of said → text ≡ verdict_text said
    → IsOutput bytes command.Verify turned text
said_printed bytes it said turned text is verdict same same_text =
    subst (IsOutput bytes command.Verify turned) (sym same_text) (subst (λ (o : Outcome). IsOutput bytes command.Verify o (verdict_text said)) (sym same) (of_verify is.doc it.design said is.read is.design verdict))

-- ---- a yes

proof_of_yes : {it : Designed} {rows : List SparseRow} {p : Argument} {said : Verdict} → IsVerdict it rows p said → outcome_of said ≡ outcome.Yes → IsProof it rows p
proof_of_yes (valid is) said_yes = is
proof_of_yes (lemma_breaks k why breaks) said_yes = absurd cc
proof_of_yes (goals_break at why are breaks) said_yes = absurd cc

free : ProofsHold → {bytes text : List ℕ} {turned : Outcome} → IsOutput bytes command.Verify turned text → turned ≡ outcome.Yes → IsDeadlockFree bytes
free law (of_verify doc design said read is v) turned_yes = record {
  doc = doc;
  read = read;
  never = λ r repeating fair c below jammed.
      law design v.rows.rows v.argument v.has_flow.is_flow.rows (proof_of_yes v.is_verdict turned_yes) r
      (record { designed = is.designed; granted = v.granted; repeating = subst (λ (net : Network). IsRepeating net r) (sym is.net) repeating; fair = subst (λ (net : Network). IsFair net r) (sym is.net) fair })
      c (subst (λ (net : Network). c < net.channels) (sym is.net) below) jammed;
}

pub verified_hold : ProofsHold → VerifiedHold
verified_hold law = λ bytes text output. free law output refl
