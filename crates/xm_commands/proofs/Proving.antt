-- What `prove` writes is what a search finds, and why it refuses.
use Rattle.std.specs.Prelude.{IfOk, option_map}
use Rattle.std.proofs.lemmas.List.{length-map}
use Rattle.std.proofs.lemmas.Option.{get_or_from_slice_get, slice_get-get_or, slice_get-map}
use Rattle.xm_elim.specs.Basis.{IsReducedBasis, LeadsAt}
use Rattle.xm_rows.specs.declared.row.Entry.{Entry}
use Rattle.std.proofs.Common.{Result, zero, suc, ◌<◌, ◌≤◌, length, get_or, slice_get, map, arith, ◌≡◌, ◌∙◌, ◌++◌, ◌∷◌, [], ℕ, List, Some, Ok, Err, All, take, ap, ap₂, refl, subst, sym, ℤ}
use Rattle.serde_json.specs.Data.{Data}
use Rattle.serde_json.specs.View.{view}
use Rattle.serde_json.specs.Written.{compact_text}
use Rattle.serde_json.specs.declared.value.Value.{Value}
use Rattle.std.proofs.lemmas.List.Elements.{All-head, All-tail}
use Rattle.xm_commands.specs.Inner.Prepared.{IsPrepared}
use Rattle.xm_commands.specs.Inner.Proving.{AreCited, IsValueOf, known_in}
use Rattle.xm_commands.specs.Output.{HasProofText, Finds, IsDesignOf, IsOutput, IsProved, IsSearched, a_candidate, a_proof, data_of_proof, no_end, of_prove, of_verify, with_proof}
use Rattle.xm_commands.specs.ProvedText.{ProvedVerify}
use Rattle.xm_commands.specs.declared.command.Command.TheVariants as command
use Rattle.xm_commands.specs.declared.command.Outcome.{Outcome}
use Rattle.xm_commands.specs.declared.command.Outcome.TheVariants as outcome
use Rattle.xm_commands.specs.declared.prepared.Prepared.{Prepared}
use Rattle.xm_design.specs.Designed.{Designed}
use Rattle.xm_flow.specs.Holding.{pair_count, queue_pair_count}
use Rattle.xm_flow.specs.ValidLemma.{IsValid, Lemma, TestFits}
use Rattle.xm_lits.specs.declared.literal.Lit.{Lit}
use Rattle.xm_model.specs.Naming.{Naming, naming_of}
use Rattle.xm_check.specs.Break as verdicts
use Rattle.xm_netlist.specs.Doc.{Doc}
use Rattle.xm_netlist.specs.Reading.{document_in}
use Rattle.xm_netlist.specs.Valid.{IsPart, IsValid as IsValidDocument}
use Rattle.xm_model.specs.declared.memory.OutOfMemory.{OutOfMemory}
use Rattle.xm_model.specs.ListView.{ListView}
use Rattle.xm_proof.specs.Argument.{Argument, Refutation, refutation_of}
use Rattle.xm_proof.specs.declared.proof.Goal.{Goal}
use Rattle.xm_proof.specs.Valid.{AreLemmas}
use Rattle.xm_proof.specs.declared.verdict.Verdict.TheVariants as verdict
use Rattle.xm_proof_reader.specs.Known.{Known, known_by}
use Rattle.xm_proof_reader.specs.Reading.{proof_in}
use Rattle.xm_proof_writer.specs.Writable.{CanBeWritten, HasNames, InvariantsCanBeWritten, NamesTell}
use Rattle.xm_proof_writer.specs.Writing.{proof_data}
use Rattle.xm_report.specs.Search.{open_text, spent_text}
use Rattle.xm_report.specs.Verdict.{verdict_text}
use Rattle.xm_rows.specs.Row.{SparseRow}
use Rattle.xm_search.specs.Searched.{IsFull, IsOfForm, IsOpen, IsSpent}
use Rattle.xm_writer.specs.Writing.{text_of}

-- what an elimination leaves follows from flow rows, and its tests stay within 128 bits
pub are_lemmas : (it : Designed) (rows : List SparseRow) (ls : List Lemma) → All (IsValid (pair_count it) (queue_pair_count it) rows) ls → All (TestFits rows) ls → AreLemmas it rows ls
are_lemmas it rows [] valid fit = tt
are_lemmas it rows (l ∷ ls) valid fit = (
  record { valid = All-head (IsValid (pair_count it) (queue_pair_count it) rows) l ls valid; fits = All-head (TestFits rows) l ls fit },
  are_lemmas it rows ls (All-tail (IsValid (pair_count it) (queue_pair_count it) rows) l ls valid) (All-tail (TestFits rows) l ls fit),
)

-- what is said of a proof with these lemmas is said of its own, which are the same
pub full_own : (it : Designed) (lemmas : List Lemma) (budget : ℕ) (p : Argument) → IsFull it lemmas budget p → IsFull it p.lemmas budget p
full_own it lemmas budget p full = subst (λ (ls : List Lemma). IsFull it ls budget p) (sym full.form.cites) full

pub spent_own : (it : Designed) (lemmas : List Lemma) (budget : ℕ) (p : Argument) (nodes pivots : ℕ) → IsSpent it lemmas budget p nodes pivots → IsSpent it p.lemmas budget p nodes pivots
spent_own it lemmas budget p nodes pivots spent = subst (λ (ls : List Lemma). IsSpent it ls budget p nodes pivots) (sym spent.form.cites) spent

pub cited_own : (it : Designed) (lemmas : List Lemma) (p : Argument) → IsOfForm it lemmas p → AreCited it lemmas → AreCited it p.lemmas
cited_own it lemmas p form cited = subst (AreCited it) (sym form.cites) cited

-- ---- the lemmas of a reduced basis are no more than the columns

leads_within : (c counts : ℕ) (es : List Entry) → LeadsAt c es → All (λ e. e.column < counts) es → c < counts
leads_within c counts [] leads within = absurd leads
leads_within c counts (e ∷ es) leads within = let here = All-head (λ (f : Entry). f.column < counts) e es within in let same = leads.0 in omega arith

module _ (moves counts : ℕ) (flow : List SparseRow) (ls : List Lemma) (basis : IsReducedBasis moves counts flow ls) where
  abbrev rows : List SparseRow
  rows = map (λ (l : Lemma). l.row) ls

  count : length rows ≡ length ls
  count = length-map ls (λ (l : Lemma). l.row)

  rises : (i : ℕ) → i < length rows → i ≤ basis.reduced.lead i
  rises zero within = omega arith
  rises (suc i) within = let before = rises i (omega arith) in let up = basis.reduced.rise i (suc i) (omega arith) within in omega arith

  lead_within : (i : ℕ) (l : Lemma) → slice_get ls i ≡ Some l → i < length ls → basis.reduced.lead i < counts
  lead_within i l at within =
      let there : slice_get rows i ≡ Some l.row = slice_get-map (λ (m : Lemma). m.row) ls i ∙ ap (option_map (λ (m : Lemma). m.row)) at in
      let is : get_or ls i l ≡ l = get_or_from_slice_get ls i l l at in
      leads_within (basis.reduced.lead i) counts l.row.entries (basis.reduced.leads i l.row there)
      (subst (λ (m : Lemma). All (λ e. e.column < counts) m.row.entries) is (basis.valid i l within).within)

  last_within : (i : ℕ) → suc i ≡ length ls → (l : Lemma) → length ls ≤ counts
  last_within i same l =
      let at = slice_get-get_or ls i l (omega arith) in
      let low = lead_within i (get_or ls i l) at (omega arith) in
      let size = count in
      let up = rises i (omega arith) in
      omega arith

pub few_lemmas : (moves counts : ℕ) (flow : List SparseRow) (ls : List Lemma) → IsReducedBasis moves counts flow ls → length ls ≤ counts
few_lemmas moves counts flow [] basis = omega arith
few_lemmas moves counts flow (l ∷ ls) basis = last_within moves counts flow (l ∷ ls) basis (length ls) refl l

-- ---- a document with a proof

pub valid_with : (doc : Doc) (proof : Data) → IsValidDocument doc → IsPart proof → IsValidDocument (with_proof doc proof)
valid_with doc proof valid part = record {
  net = valid.net;
  named = valid.named;
  prims = valid.prims;
  channels = valid.channels;
  colours = valid.colours;
  numbered = valid.numbered;
  sources = valid.sources;
  allow = valid.allow;
  tape = valid.tape;
  proof = part;
}

-- what was written is the document of the bytes with the proof
module _ (bytes : List ℕ) (found doc written : Doc) (proof : Data) (r : Result (ListView ℕ) OutOfMemory) where
  same_document : written ≡ with_proof found proof → document_in bytes ≡ Ok found → document_in bytes ≡ Ok doc → written ≡ with_proof doc proof
  same_document same read again = let e : found ≡ doc = cc in same ∙ ap (λ (x : Doc). with_proof x proof) e

  pub text_by : written ≡ with_proof found proof → document_in bytes ≡ Ok found → document_in bytes ≡ Ok doc → IfOk r (λ text. text.items ≡ text_of written)
      → IfOk r (λ text. text.items ≡ text_of (with_proof doc proof))
  text_by same read again = subst (λ (x : Doc). IfOk r (λ text. text.items ≡ text_of x)) (same_document same read again)

  pub again_by : written ≡ with_proof found proof → document_in bytes ≡ Ok found → document_in bytes ≡ Ok doc → IfOk r (λ text. document_in text.items ≡ Ok written)
      → IfOk r (λ text. document_in text.items ≡ Ok (with_proof doc proof))
  again_by same read again = subst (λ (x : Doc). IfOk r (λ text. document_in text.items ≡ Ok x)) (same_document same read again)

-- the value that was written is that of the proof
pub value_of : (known other : Known) (p : Argument) (r : Result Value OutOfMemory) → known ≡ other → IfOk r (λ v. view v ≡ proof_data known p) → IfOk r (λ v. proof_in known (Some (view v)) ≡ Ok p)
    → IfOk r (λ v. IsPart (view v)) → IfOk r (λ v. IsValueOf other p (view v))
value_of known other p (Ok v) same value again part = subst (λ (k : Known). IsValueOf k p (view v)) same (record { same = value; again = again; part = part })
value_of known other p (Err e) same value again part = tt

-- the goals of a partial proof end with its last
split : (xs : List Goal) (i : ℕ) (d : Goal) → suc i ≡ length xs → xs ≡ take i xs ++ get_or xs i d ∷ []
split [] i d h = absurd (omega arith)
split (x ∷ []) zero d h = refl
split (x ∷ y ∷ xs) zero d h = absurd (omega arith)
split (x ∷ xs) (suc i) d h = ap (λ (l : List Goal). x ∷ l) (split xs i d (omega arith))

mapped : (xs : List Goal) (x : Goal) → map refutation_of (xs ++ x ∷ []) ≡ map refutation_of xs ++ refutation_of x ∷ []
mapped [] x = refl
mapped (y ∷ xs) x = ap (λ (l : List Refutation). refutation_of y ∷ l) (mapped xs x)

pub last_goals : (xs : List Goal) (x : Goal) (i : ℕ) → suc i ≡ length xs → x ≡ get_or xs i x → map refutation_of xs ≡ map refutation_of (take i xs) ++ refutation_of x ∷ []
last_goals xs x i same is =
    ap (λ (l : List Goal). map refutation_of l) (split xs i x same ∙ ap (λ (y : Goal). take i xs ++ y ∷ []) (sym is)) ∙ mapped (take i xs) x

-- ---- what is written for a document

module _ (bytes : List ℕ) (it : Prepared) (is : IsPrepared bytes it) where
  -- a proof of this form, with lemmas that may be cited, can be written
  pub can_be_written : NamesTell → InvariantsCanBeWritten → (p : Argument) → AreCited it.design p.lemmas → IsOfForm it.design p.lemmas p → CanBeWritten (known_in it) p
  can_be_written tell written p cited form =
      let found = cited.searched.invariants in
      record {
        names = subst (λ (names : Naming). HasNames (known_by it.design names)) (sym is.names) (tell is.doc it.design is.valid is.design.net);
        formed = form.formed;
        lemmas = written it.design (naming_of it.names) found.rows p.lemmas found.has_flow.is_flow found.has_flow.kept found.basis.valid cited.ordered;
        goals = form.goals;
      }

  value_named : (p : Argument) (value : Data) → IsValueOf (known_in it) p value → value ≡ data_of_proof is.doc it.design p
  value_named p value of = of.same ∙ ap (λ (names : Naming). proof_data (known_by it.design names) p) is.names

  proof_text_of : (p : Argument) (value : Data) (text : List ℕ) → IsValueOf (known_in it) p value → text ≡ text_of (with_proof is.doc value) → document_in text ≡ Ok (with_proof is.doc value)
      → HasProofText is.doc it.design p text
  proof_text_of p value text of same again =
      let e = value_named p value of in
      record {
        written = same ∙ ap (λ (v : Data). text_of (with_proof is.doc v)) e;
        read = again ∙ ap (λ (v : Data). Ok (with_proof is.doc v)) e;
        proof = ap₂ (λ (names : Naming) (v : Data). proof_in (known_by it.design names) (Some v)) (sym is.names) (sym e) ∙ of.again;
      }

  pub proof_output : (budget : ℕ) (p : Argument) (value : Data) (text : List ℕ) → AreCited it.design p.lemmas → IsFull it.design p.lemmas budget p → IsValueOf (known_in it) p value
      → text ≡ text_of (with_proof is.doc value) → document_in text ≡ Ok (with_proof is.doc value) → IsOutput bytes (command.Prove budget) outcome.Yes text
  proof_output budget p value text cited full of same again =
      let found = cited.searched.invariants in
      let proved : IsProved it.design p = record {
        rows = found.rows;
        has_flow = found.has_flow;
        is_proof = full.proof found.rows.rows (are_lemmas it.design found.rows.rows p.lemmas found.basis.valid found.left.tested);
      } in
      of_prove is.doc it.design budget p.lemmas outcome.Yes text is.read is.design cited.searched (a_proof p text proved full.paid (proof_text_of p value text of same again))

  pub open_output : (budget : ℕ) (lemmas : List Lemma) (goal : Lit) (lits : List Lit) (denominator : ℤ) (counts : List ℤ) (text : List ℕ) → IsSearched it.design lemmas
      → IsOpen it.design lemmas goal lits denominator counts → text ≡ open_text (naming_of it.names) it.design goal lits counts denominator → IsOutput bytes (command.Prove budget) outcome.No text
  open_output budget lemmas goal lits denominator counts text searched open_goal same =
      subst (IsOutput bytes (command.Prove budget) outcome.No) (sym (same ∙ ap (λ (names : Naming). open_text names it.design goal lits counts denominator) is.names))
      (of_prove is.doc it.design budget lemmas outcome.No _ is.read is.design searched (a_candidate goal lits denominator counts open_goal))

  pub spent_output : (budget : ℕ) (p : Argument) (before : List Refutation) (last : Refutation) (nodes pivots : ℕ) (text : List ℕ) → IsSearched it.design p.lemmas
      → IsSpent it.design p.lemmas budget p nodes pivots → p.goals ≡ before ++ last ∷ [] → text ≡ spent_text (naming_of it.names) nodes pivots last.lit (compact_text (proof_data (known_in it) p))
      → IsOutput bytes (command.Prove budget) outcome.No text
  spent_output budget p before last nodes pivots text searched spent goals same =
      subst (IsOutput bytes (command.Prove budget) outcome.No)
      (sym (same ∙ ap (λ (names : Naming). spent_text names nodes pivots last.lit (compact_text (proof_data (known_by it.design names) p))) is.names))
      (of_prove is.doc it.design budget p.lemmas outcome.No _ is.read is.design searched (no_end p before last nodes pivots spent goals))

-- ---- a proof that was found

pub proved_verify : ProvedVerify
proved_verify bytes text budget output = by_output output refl where
  by_found : {budget : ℕ} {doc : Doc} {design : Designed} {lemmas : List Lemma} {turned : Outcome} {said : List ℕ} → IsDesignOf doc design → IsSearched design lemmas → Finds budget doc design lemmas turned said
      → turned ≡ outcome.Yes → IsOutput said command.Verify outcome.Yes (verdict_text verdict.Yes)
  by_found {doc = doc} {design = design} is searched (a_proof p said proved paid has) turned_yes =
      of_verify (with_proof doc (data_of_proof doc design p)) design verdict.Yes has.read
      (record { net = is.net; designed = is.designed; allowed = is.allowed })
      (record { argument = p; proof = has.proof; granted = searched.granted; rows = proved.rows; has_flow = proved.has_flow; is_verdict = verdicts.valid proved.is_proof })
  by_found is searched (a_candidate goal lits denominator counts open_goal) turned_yes = absurd cc
  by_found is searched (no_end p before last nodes pivots spent goals) turned_yes = absurd cc

  by_output : {turned : Outcome} {said : List ℕ} → IsOutput bytes (command.Prove budget) turned said → turned ≡ outcome.Yes → IsOutput said command.Verify outcome.Yes (verdict_text verdict.Yes)
  by_output (of_prove doc design _ lemmas _ _ read is searched found) turned_yes = by_found is searched found turned_yes
