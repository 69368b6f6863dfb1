-- One answer for given bytes: one output, no output of what is refused, one refusal but for its loop.
use Rattle.std.proofs.Common.{◌≡◌, ℕ, true, false, List, [], length, Result, Ok, Err, refl, sym, ap, ap₂, ◌∙◌, inl, inr, subst, arith}
use Rattle.std.proofs.Common.{◌⊎◌}
use Rattle.std.proofs.lemmas.Bool.{cases_order, eqb-true}
use Rattle.serde_json.specs.Data.{Data}
use Rattle.serde_json.specs.Find.{get}
use Rattle.std.specs.Prelude.{◌<◌, ◌≤◌, ◌==◌, Option, Some, None, codes}
use Rattle.xm_colours.specs.Family.{IsClosed, colours_at}
use Rattle.xm_check.specs.Laws.{OneVerdict}
use Rattle.xm_commands.proofs.OneBasis.{not_both_ends, same_overflow, same_pairs, same_proof, same_said, same_sets, same_text}
use Rattle.xm_commands.proofs.OneColours.{same_first}
use Rattle.xm_commands.proofs.OneText.{same_text as same_run_text}
use Rattle.xm_commands.specs.OneAnswer.{NamesLoop, NoOutputOfRefused, OneOutput, OneRefusal, has_one_output, has_one_refusal, may_differ}
use Rattle.xm_commands.specs.Output.{AreInvariants, IsDesignOf, IsOutput, IsVerdictOf, of_check, of_inv, of_prove, of_run, of_sim, of_verify, of_watched, outcome_of, proof_of}
use Rattle.xm_commands.specs.Refusal.{AsksForFlow, AsksForInvariants, AsksForRights, AsksForTape, HasTape, Refuses, document_status, of_colour, of_document, of_form, of_loop, of_overflow, of_persistency, of_pivots, of_tape, of_width}
use Rattle.xm_commands.specs.declared.command.Command.{Command}
use Rattle.xm_commands.specs.declared.command.Command.TheVariants as command
use Rattle.xm_commands.specs.declared.command.Outcome.{Outcome}
use Rattle.xm_commands.specs.declared.command.Simulation.{Simulation}
use Rattle.xm_design.specs.Designed.{Designed, IsColourRefused, IsLoopRefused}
use Rattle.xm_elim.specs.Determined.{OneEnd, OneOverflow}
use Rattle.xm_elim.specs.Elimination.{ExclusiveEnds}
use Rattle.xm_flow.specs.Holding.{most_pairs, pair_count}
use Rattle.xm_flow.specs.ValidLemma.{Lemma}
use Rattle.xm_model.specs.Net.{IsNet, Network}
use Rattle.xm_model.specs.Steps.{◌>>=◌, demand}
use Rattle.xm_netlist.specs.Doc.{Doc}
use Rattle.xm_netlist.specs.Numbered.{check_wiring, naming_in, net_of}
use Rattle.xm_netlist.specs.Reading.{doc_from, document_in, document_of, json_of, number_net}
use Rattle.xm_netlist.specs.Checks.{check_colours, check_names, check_sizes}
use Rattle.xm_order.specs.Dependence.{IsOrder}
use Rattle.xm_order.specs.Loop.{IsLoop, NoLoop}
use Rattle.xm_order.specs.OneRun.{OneRun}
use Rattle.xm_order.specs.declared.signal.Signal.{Signal}
use Rattle.xm_report.specs.Check.{check_text}
use Rattle.xm_report.specs.Invariants.{invariant_text}
use Rattle.xm_persist.specs.Rights.{AllGranted, IsFirstUngranted}
use Rattle.xm_proof.specs.declared.verdict.Verdict.{Verdict}
use Rattle.xm_report.specs.Lines.{colour_line, document_line, form_line, overflow_line, persistency_line, tape_line, width_line}
use Rattle.xm_report.specs.Verdict.{verdict_text}
use Rattle.xm_shape.specs.NamedNet.{NamedNet}
use Rattle.xm_shape.specs.Fault.{Fault, not_json}
use Rattle.xm_shape.specs.Shape.{named_net_in}
use Rattle.xm_tape.specs.Fault as tape
use Rattle.xm_tape.specs.Reading.{tape_in}
use Rattle.xm_tape.specs.Taped.{Taped, chosen, cycles_of, rows_of}
use Rattle.xm_trace.specs.Text.{IsTextOfRun}

one_document : (bytes : List ℕ) (doc other : Doc) → document_in bytes ≡ Ok doc → document_in bytes ≡ Ok other → doc ≡ other
one_document bytes doc other p q = cc

-- the design of one document is of the other
design_of : (bytes : List ℕ) (doc other : Doc) (design : Designed) → document_in bytes ≡ Ok doc → document_in bytes ≡ Ok other → IsDesignOf doc design → IsDesignOf other design
design_of bytes doc other design p q is = subst (λ (x : Doc). IsDesignOf x design) (one_document bytes doc other p q) is

-- ---- a document names its channels

-- what a step that another follows gave
bound : {A B : Type 0} (r : Result A Fault) (f : A → Result B Fault) (y : B) → (r >>= f) ≡ Ok y → (x : A) × (f x ≡ Ok y)
bound (Ok x) f y e = (x, e)
bound (Err fault) f y e = cc

names_of_draft : (draft : NamedNet) (tape proof : Option Data) (doc : Doc) → number_net draft tape proof ≡ Ok doc → length doc.names.channels ≡ doc.net.channels
unfolding number_net net_of naming_in
names_of_draft draft tape proof doc e =
    let names = bound (check_names draft) _ doc e in
    let colours = bound (check_colours draft) _ doc names.1 in
    let sizes = bound (check_sizes draft) _ doc colours.1 in
    let wires = bound (check_wiring (net_of draft) (naming_in draft)) _ doc sizes.1 in
    let same : doc_from draft tape proof ≡ doc = cc (wires.1) in
    subst (λ (x : Doc). length x.names.channels ≡ x.net.channels) same refl

names_of_data : (d : Data) (doc : Doc) → document_of d ≡ Ok doc → length doc.names.channels ≡ doc.net.channels
unfolding document_of
names_of_data d doc e =
    let draft = bound (named_net_in d) _ doc e in
    names_of_draft draft.0 (get (codes "tape") d) (get (codes "proof") d) doc draft.1

channels_named : (bytes : List ℕ) (doc : Doc) → document_in bytes ≡ Ok doc → length doc.names.channels ≡ doc.net.channels
unfolding document_in
channels_named bytes doc e =
    let value = bound (demand (json_of bytes) not_json) _ doc e in
    names_of_data value.0 doc value.1

-- ---- one output

check_texts : (doc : Doc) (a b : Designed) → IsDesignOf doc a → IsDesignOf doc b → check_text doc.names a ≡ check_text doc.names b
check_texts doc a b is_a is_b =
    ap₂ (λ (net : Network) (colours : List (List ℕ)). check_text doc.names (record { net = net; colours = colours; order = [] })) (is_a.net ∙ sym is_b.net) (same_sets doc a b is_a is_b)

run_texts : OneRun → (doc : Doc) (design : Designed) (tape : Taped) (text other : List ℕ) → IsDesignOf doc design → length doc.names.channels ≡ doc.net.channels → IsTextOfRun doc.net doc.names tape text
    → IsTextOfRun doc.net doc.names tape other → text ≡ other
run_texts one_run doc design tape text other is channels a b =
    let is_net = subst IsNet is.net is.designed.net in
    let is_order = subst (λ (net : Network). IsOrder net design.order) is.net is.designed.order in
    let one = one_run doc.net design.order (cycles_of tape) (chosen doc.net.prims (rows_of tape)) is_net is_order in
    let both = one.1 a.states b.states a.frames b.frames a.run b.run in
    a.same ∙ same_run_text doc.net doc.names channels a.frames b.frames (cycles_of tape) both.1 ∙ sym b.same

-- both turned out so, with this text
abbrev pub Same : Outcome → Outcome → List ℕ → List ℕ → Type 0
Same turned other_turned text other = (turned ≡ other_turned) × (text ≡ other)

-- without snapshots there are none
watched_twice : (it : Simulation) → 0 < it.watch → (it.watch == 0) ≡ true → ⊥
watched_twice it some none = (let zero_is = eqb-true it.watch 0 none in omega arith)

pub outputs : OneRun → OneEnd → OneVerdict → {bytes : List ℕ} {it : Command} {turned other_turned : Outcome} {text other : List ℕ} → has_one_output it ≡ true → IsOutput bytes it turned text → IsOutput bytes it other_turned other → Same turned other_turned text other
outputs one_run one_end one_verdict {bytes = bytes} determined (of_check doc a read is_a) (of_check other b read' is_b) =
    let same = one_document bytes doc other read read' in
    (refl, check_texts doc a b is_a (design_of bytes other doc b read' read is_b) ∙ ap (λ (x : Doc). check_text x.names b) same)
outputs one_run one_end one_verdict {bytes = bytes} {text = text} {other = said} determined (of_run doc a tape _ read is_a taped run) (of_run other b tape' _ read' is_b taped' run') =
    let same = one_document bytes other doc read' read in
    let again = subst (λ (x : Doc). tape_in x.net x.tape ≡ Ok tape') same taped' in
    let tapes : tape' ≡ tape = cc in
    let run'' = subst (λ (t : Taped). IsTextOfRun doc.net doc.names t said) tapes (subst (λ (x : Doc). IsTextOfRun x.net x.names tape' said) same run') in
    (refl, run_texts one_run doc a tape text said is_a (channels_named bytes doc read) run run'')
outputs one_run one_end one_verdict {bytes = bytes} determined (of_inv doc a ls read is_a p) (of_inv other b ks read' is_b q) =
    let same = one_document bytes doc other read read' in
    (refl, same_text doc a b is_a (design_of bytes other doc b read' read is_b) one_end ls ks p q ∙ ap (λ (x : Doc). invariant_text x.names b ks) same)
outputs one_run one_end one_verdict {bytes = bytes} determined (of_verify doc a v read is_a p) (of_verify other b w read' is_b q) =
    let same = one_document bytes other doc read' read in
    let said = same_said doc a b is_a (design_of bytes other doc b read' read is_b) one_verdict v w p (subst (λ (x : Doc). IsVerdictOf x b w) same q) in
    (ap outcome_of said, ap verdict_text said)
outputs one_run one_end one_verdict determined (of_prove _ _ _ _ _ _ _ _ _ _) (of_prove _ _ _ _ _ _ _ _ _ _) = absurd cc
outputs one_run one_end one_verdict determined (of_sim it text none p) (of_sim it' text' none' q) = outputs one_run one_end one_verdict refl p q
outputs one_run one_end one_verdict determined (of_watched it _ _ _ _ some _ _ _ _) _ = absurd (watched_twice it some determined)
outputs one_run one_end one_verdict determined _ (of_watched it _ _ _ _ some _ _ _ _) = absurd (watched_twice it some determined)

-- ---- what is refused has no design, or no tape

colour_excluded : (doc : Doc) (design : Designed) (c d : ℕ) → IsDesignOf doc design → IsColourRefused doc.net doc.allow c d → ⊥
colour_excluded doc design c d is refused =
    let closed = subst (λ (net : Network). IsClosed net (colours_at design.colours)) is.net is.designed.colours.closed in
    is.allowed c d (refused.are_colours.least (colours_at design.colours) closed c d refused.first.is_pair) refused.first.refused

loop_excluded : NoLoop → (doc : Doc) (design : Designed) (loop : List Signal) → IsDesignOf doc design → IsLoopRefused doc.net doc.allow loop → ⊥
loop_excluded none doc design loop is refused =
    none design.net design.order loop is.designed.net is.designed.order (subst (λ (net : Network). IsLoop net loop) (sym is.net) refused.looped)

-- the bytes are a document that has a design
record HasDesign (bytes : List ℕ) : Type 0 where
  doc : Doc
  design : Designed
  read : document_in bytes ≡ Ok doc
  is : IsDesignOf doc design

has_design : {bytes : List ℕ} {it : Command} {turned : Outcome} {text : List ℕ} → IsOutput bytes it turned text → HasDesign bytes
has_design (of_check doc design read is) = record { doc = doc; design = design; read = read; is = is }
has_design (of_run doc design tape text read is taped run) = record { doc = doc; design = design; read = read; is = is }
has_design (of_inv doc design lemmas read is are) = record { doc = doc; design = design; read = read; is = is }
has_design (of_verify doc design said read is it) = record { doc = doc; design = design; read = read; is = is }
has_design (of_prove doc design budget lemmas turned text read is searched found) = record { doc = doc; design = design; read = read; is = is }
has_design (of_sim it text none run) = has_design run
has_design (of_watched it doc design tape text some read is taped watched) = record { doc = doc; design = design; read = read; is = is }

record HasRun (bytes : List ℕ) : Type 0 where
  doc : Doc
  tape : Taped
  read : document_in bytes ≡ Ok doc
  taped : tape_in doc.net doc.tape ≡ Ok tape

-- a command that runs the tape and has an output found one
has_run : {bytes text : List ℕ} {it : Command} {turned : Outcome} → AsksForTape it → IsOutput bytes it turned text → HasRun bytes
has_run asks (of_run doc design tape text read is taped run) = record { doc = doc; tape = tape; read = read; taped = taped }
has_run asks (of_sim it text none run) = has_run tt run
has_run asks (of_watched it doc design tape text some read is taped watched) = record { doc = doc; tape = tape; read = read; taped = taped }
has_run asks _ = absurd asks

record HasInvariants (bytes : List ℕ) : Type 0 where
  doc : Doc
  design : Designed
  lemmas : List Lemma
  read : document_in bytes ≡ Ok doc
  is : IsDesignOf doc design
  are : AreInvariants design lemmas

record HasVerdict (bytes : List ℕ) : Type 0 where
  doc : Doc
  design : Designed
  said : Verdict
  read : document_in bytes ≡ Ok doc
  is : IsDesignOf doc design
  verdict : IsVerdictOf doc design said

has_verdict : {bytes text : List ℕ} {turned : Outcome} → IsOutput bytes command.Verify turned text → HasVerdict bytes
has_verdict (of_verify doc design said read is it) = record { doc = doc; design = design; said = said; read = read; is = is; verdict = it }

-- a command that asks for flow rows and has an output found no more pairs than there may be
narrow : {bytes : List ℕ} {it : Command} {turned : Outcome} {text : List ℕ} (doc : Doc) (design : Designed) → AsksForFlow it doc design → document_in bytes ≡ Ok doc → IsDesignOf doc design → IsOutput bytes it turned text
    → pair_count design ≤ most_pairs
narrow doc design asks read is (of_check _ _ _ _) = absurd asks
narrow doc design asks read is (of_run _ _ _ _ _ _ _ _) = absurd asks
narrow {bytes = bytes} doc design asks read is (of_inv other b _ read' is_b are) =
    let pairs = same_pairs doc b design (design_of bytes other doc b read' read is_b) is in
    omega (arith, pairs, are.has_flow.narrow)
narrow {bytes = bytes} doc design asks read is (of_verify other b _ read' is_b said) =
    let pairs = same_pairs doc b design (design_of bytes other doc b read' read is_b) is in
    omega (arith, pairs, said.has_flow.narrow)
narrow {bytes = bytes} doc design asks read is (of_prove other b _ _ _ _ read' is_b searched _) =
    let pairs = same_pairs doc b design (design_of bytes other doc b read' read is_b) is in
    omega (arith, pairs, searched.invariants.has_flow.narrow)
narrow doc design asks read is (of_sim it text none run) = (let some = asks.0 in absurd (omega arith))
narrow {bytes = bytes} doc design asks read is (of_watched it other b tape text some read' is_b taped watched) =
    let pairs = same_pairs doc b design (design_of bytes other doc b read' read is_b) is in
    omega (arith, pairs, watched.invariants.has_flow.narrow)

-- a command that asks for rights and has an output found that they are granted
granted : {bytes : List ℕ} {it : Command} {turned : Outcome} {text : List ℕ} (doc : Doc) (design : Designed) → AsksForRights it doc design → document_in bytes ≡ Ok doc → IsDesignOf doc design → IsOutput bytes it turned text
    → AllGranted design.net
granted doc design asks read is (of_check _ _ _ _) = absurd asks
granted doc design asks read is (of_run _ _ _ _ _ _ _ _) = absurd asks
granted doc design asks read is (of_inv _ _ _ _ _ _) = absurd asks
granted {bytes = bytes} doc design asks read is (of_verify other b _ read' is_b said) =
    subst AllGranted ((design_of bytes other doc b read' read is_b).net ∙ sym is.net) said.granted
granted {bytes = bytes} doc design asks read is (of_prove other b _ _ _ _ read' is_b searched _) =
    subst AllGranted ((design_of bytes other doc b read' read is_b).net ∙ sym is.net) searched.granted
granted doc design asks read is (of_sim _ _ _ _) = absurd asks
granted doc design asks read is (of_watched _ _ _ _ _ _ _ _ _ _) = absurd asks

-- a command that asks for invariants and has one output found them
invariants : {bytes : List ℕ} {it : Command} {turned : Outcome} {text : List ℕ} (of : Doc) (design : Designed) → AsksForInvariants it of design → may_differ it 8 ≡ false → IsOutput bytes it turned text → HasInvariants bytes
invariants of design asks same (of_check _ _ _ _) = absurd asks
invariants of design asks same (of_run _ _ _ _ _ _ _ _) = absurd asks
invariants of design asks same (of_inv doc b lemmas read is are) = record { doc = doc; design = b; lemmas = lemmas; read = read; is = is; are = are }
invariants of design asks same (of_verify _ _ _ _ _ _) = absurd asks
invariants of design asks same (of_prove _ _ _ _ _ _ _ _ _ _) = absurd cc
invariants of design asks same (of_sim it text none run) = (let some = asks.0 in absurd (omega arith))
invariants of design asks same (of_watched it doc b tape text some read is taped watched) =
    record { doc = doc; design = b; lemmas = watched.lemmas; read = read; is = is; are = watched.invariants }

-- what was said of a proof is of the other document, which is the same
said_of : {bytes : List ℕ} (doc : Doc) → document_in bytes ≡ Ok doc → (has : HasVerdict bytes) → IsVerdictOf doc has.design has.said × IsDesignOf doc has.design
said_of {bytes = bytes} doc read has =
    let same = one_document bytes has.doc doc has.read read in
    (subst (λ (x : Doc). IsVerdictOf x has.design has.said) same has.verdict, design_of bytes has.doc doc has.design has.read read has.is)

pub excludes : NoLoop → ExclusiveEnds → {bytes : List ℕ} {it : Command} {status : ℕ} {turned : Outcome} {line text : List ℕ} → may_differ it status ≡ false → Refuses bytes it status line → IsOutput bytes it turned text → ⊥
excludes none exclusive same (of_document fault failed) is = (let has = has_design is in let read = has.read in cc)
excludes none exclusive {bytes = bytes} same (of_colour doc c d read refused) is =
    let has = has_design is in
    colour_excluded doc has.design c d (design_of bytes has.doc doc has.design has.read read has.is) refused
excludes none exclusive {bytes = bytes} same (of_loop doc loop read refused) is =
    let has = has_design is in
    loop_excluded none doc has.design loop (design_of bytes has.doc doc has.design has.read read has.is) refused
excludes none exclusive {bytes = bytes} same (of_tape doc design fault read made asks failed) is =
    let has = has_run asks is in
    let taped = subst (λ (x : Doc). tape_in x.net x.tape ≡ Ok has.tape) (one_document bytes has.doc doc has.read read) has.taped in
    cc
excludes none exclusive same (of_form doc design path read made failed) is =
    let has = has_verdict is in
    let said = said_of doc read has in
    let proof = same_proof doc has.design design said.1 made in
    let found = said.0.proof in
    cc
excludes none exclusive same (of_persistency doc design c read made asks first) is = first.ungranted (granted doc design asks read made is c first.is_channel)
excludes none exclusive same (of_width doc design read made asks wide) is = let few = narrow doc design asks read made is in absurd (omega (arith, wide, few))
excludes none exclusive {bytes = bytes} same (of_overflow doc design flow r s column read made asks rows meets) is =
    let has = invariants doc design asks same is in
    not_both_ends doc has.design design (design_of bytes has.doc doc has.design has.read read has.is) made exclusive has.lemmas flow r s column has.are rows meets
excludes none exclusive same (of_pivots doc design budget lemmas path pivots read made searched leaves) is = absurd cc

-- ---- one refusal

-- the same status, and the same line, or both lines name a loop
abbrev pub Agree : List ℕ → ℕ → ℕ → List ℕ → List ℕ → Type 0
Agree bytes status other line said = (status ≡ other) × ((line ≡ said) ⊎ (NamesLoop bytes line × NamesLoop bytes said))

-- a list that refuses a pair does not let a loop be sought
not_both : (doc : Doc) (c d : ℕ) (loop : List Signal) → IsColourRefused doc.net doc.allow c d → IsLoopRefused doc.net doc.allow loop → ⊥
not_both doc c d loop colour looped =
    looped.allowed c d (colour.are_colours.least looped.colours looped.are_colours.closed c d colour.first.is_pair) colour.first.refused

-- the design that is refused for what is asked of it; none where there is no design
abbrev designed : {bytes : List ℕ} {it : Command} {status : ℕ} {line : List ℕ} → Refuses bytes it status line → Option (HasDesign bytes)
designed (of_document fault failed) = None
designed (of_colour doc c d read refused) = None
designed (of_loop doc loop read refused) = None
designed (of_tape doc design fault read made asks failed) = Some (record { doc = doc; design = design; read = read; is = made })
designed (of_form doc design path read made failed) = Some (record { doc = doc; design = design; read = read; is = made })
designed (of_persistency doc design c read made proof first) = Some (record { doc = doc; design = design; read = read; is = made })
designed (of_width doc design read made asks wide) = Some (record { doc = doc; design = design; read = read; is = made })
designed (of_overflow doc design flow r s column read made asks rows meets) = Some (record { doc = doc; design = design; read = read; is = made })
designed (of_pivots doc design budget lemmas path pivots read made searched leaves) = Some (record { doc = doc; design = design; read = read; is = made })

-- where there is a design no refusal is for want of one
undesigned : NoLoop → {bytes : List ℕ} {it : Command} {status : ℕ} {line : List ℕ} (p : Refuses bytes it status line) → designed p ≡ None → HasDesign bytes → ⊥
undesigned none (of_document fault failed) e has = (let read = has.read in cc)
undesigned none {bytes = bytes} (of_colour doc c d read refused) e has = colour_excluded doc has.design c d (design_of bytes has.doc doc has.design has.read read has.is) refused
undesigned none {bytes = bytes} (of_loop doc loop read refused) e has = loop_excluded none doc has.design loop (design_of bytes has.doc doc has.design has.read read has.is) refused
undesigned none (of_tape doc design fault read made asks failed) e has = absurd cc
undesigned none (of_form doc design path read made failed) e has = absurd cc
undesigned none (of_persistency doc design c read made proof first) e has = absurd cc
undesigned none (of_width doc design read made asks wide) e has = absurd cc
undesigned none (of_overflow doc design flow r s column read made asks rows meets) e has = absurd cc
undesigned none (of_pivots doc design budget lemmas path pivots read made searched leaves) e has = absurd cc

-- two refusals of what has no design
both_undesigned : {bytes : List ℕ} {it : Command} {status other : ℕ} {line said : List ℕ} (p : Refuses bytes it status line) (q : Refuses bytes it other said) → designed p ≡ None → designed q ≡ None
    → Agree bytes status other line said
both_undesigned (of_document fault failed) (of_document fault' failed') e f = let same : fault ≡ fault' = cc in (ap document_status same, inl (ap document_line same))
both_undesigned (of_document fault failed) (of_colour doc c d read refused) e f = absurd cc
both_undesigned (of_document fault failed) (of_loop doc loop read refused) e f = absurd cc
both_undesigned (of_colour doc c d read refused) (of_document fault failed) e f = absurd cc
both_undesigned {bytes = bytes} (of_colour doc c d read refused) (of_colour doc' c' d' read' refused') e f =
    let same = one_document bytes doc' doc read' read in
    let again = subst (λ (x : Doc). IsColourRefused x.net x.allow c' d') same refused' in
    let pair = same_first doc.net doc.allow refused.colours again.colours c d c' d' refused.are_colours again.are_colours refused.first again.first in
    (refl, inl (ap₂ (colour_line doc.names) pair.0 pair.1 ∙ ap (λ (x : Doc). colour_line x.names c' d') (sym same)))
both_undesigned {bytes = bytes} (of_colour doc c d read refused) (of_loop doc' loop read' refused') e f =
    absurd (not_both doc c d loop refused (subst (λ (x : Doc). IsLoopRefused x.net x.allow loop) (one_document bytes doc' doc read' read) refused'))
both_undesigned (of_loop doc loop read refused) (of_document fault failed) e f = absurd cc
both_undesigned {bytes = bytes} (of_loop doc loop read refused) (of_colour doc' c d read' refused') e f =
    absurd (not_both doc c d loop (subst (λ (x : Doc). IsColourRefused x.net x.allow c d) (one_document bytes doc' doc read' read) refused') refused)
both_undesigned (of_loop doc loop read refused) (of_loop doc' loop' read' refused') e f =
    (refl, inr (record { doc = doc; loop = loop; read = read; refused = refused; named = refl }, record { doc = doc'; loop = loop'; read = read'; refused = refused'; named = refl }))
both_undesigned _ _ e f = absurd cc

one_ungranted : (net : Network) (c e : ℕ) → IsFirstUngranted net c → IsFirstUngranted net e → c ≡ e
one_ungranted net c e p q = elim (cases_order c e) [
  | inl same ↦ same
  | inr (inl below) ↦ absurd (p.ungranted (q.granted_below c below))
  | inr (inr above) ↦ absurd (q.ungranted (p.granted_below e above))
]

-- two designs of the same bytes, for one of the documents
module _ (bytes : List ℕ) (doc other : Doc) (a b : Designed) (read : document_in bytes ≡ Ok doc) (read' : document_in bytes ≡ Ok other) (is_a : IsDesignOf doc a) (is_b : IsDesignOf other b) where
  other_of : IsDesignOf doc b
  other_of = design_of bytes other doc b read' read is_b

  same_doc : other ≡ doc
  same_doc = one_document bytes other doc read' read

  both_pairs : pair_count a ≡ pair_count b
  both_pairs = same_pairs doc a b is_a other_of

  both_proofs : proof_of doc a ≡ proof_of other b
  both_proofs = same_proof doc a b is_a other_of ∙ ap (λ (x : Doc). proof_of x b) (sym same_doc)

  granted_both : AllGranted a.net → (c : ℕ) → IsFirstUngranted b.net c → ⊥
  granted_both granted c first = first.ungranted (subst AllGranted (is_a.net ∙ sym other_of.net) granted c first.is_channel)

  same_ungranted : (c e : ℕ) → IsFirstUngranted a.net c → IsFirstUngranted b.net e → persistency_line doc.names c ≡ persistency_line other.names e
  same_ungranted c e first first' =
      let here = subst (λ (net : Network). IsFirstUngranted net e) (other_of.net ∙ sym is_a.net) first' in
      ap₂ (λ (x : Doc) (i : ℕ). persistency_line x.names i) (sym same_doc) (one_ungranted a.net c e first here)

-- a command that asks for flow rows was granted the rights that it asks for
rights_granted : (it : Command) (doc other : Doc) (a b : Designed) → AsksForRights it doc a → AsksForFlow it other b → AllGranted b.net
rights_granted command.Check doc other a b rights flow = absurd rights
rights_granted command.Run doc other a b rights flow = absurd rights
rights_granted command.Inv doc other a b rights flow = absurd rights
rights_granted command.Verify doc other a b rights flow = flow.1
rights_granted (command.Prove budget) doc other a b rights flow = flow
rights_granted (command.Simulate it) doc other a b rights flow = absurd rights

-- no command but `prove` asks for rights and for invariants
not_both_asked : (it : Command) (doc other : Doc) (a b : Designed) → has_one_refusal it ≡ true → AsksForRights it doc a → AsksForInvariants it other b → ⊥
not_both_asked command.Check doc other a b one rights asks = rights
not_both_asked command.Run doc other a b one rights asks = rights
not_both_asked command.Inv doc other a b one rights asks = rights
not_both_asked command.Verify doc other a b one rights asks = asks
not_both_asked (command.Prove budget) doc other a b one rights asks = absurd cc
not_both_asked (command.Simulate it) doc other a b one rights asks = rights

-- a command that runs the tape asks for no rights
not_run_with_rights : (it : Command) (doc : Doc) (a : Designed) → AsksForTape it → AsksForRights it doc a → ⊥
not_run_with_rights command.Run doc a tape rights = rights
not_run_with_rights (command.Simulate it) doc a tape rights = rights
not_run_with_rights _ doc a tape rights = tape

-- and asks for flow rows, or for invariants, only where there is a tape
run_with_flow : (it : Command) (doc : Doc) (a : Designed) → AsksForTape it → AsksForFlow it doc a → HasTape doc
run_with_flow command.Run doc a tape flow = absurd flow
run_with_flow (command.Simulate it) doc a tape flow = flow.1
run_with_flow _ doc a tape flow = absurd tape

run_with_invariants : (it : Command) (doc : Doc) (a : Designed) → AsksForTape it → AsksForInvariants it doc a → HasTape doc
run_with_invariants command.Run doc a tape asks = absurd asks
run_with_invariants (command.Simulate it) doc a tape asks = asks.1
run_with_invariants _ doc a tape asks = absurd tape

-- the tape of a document has a fault, or none
tape_or_fault : (bytes : List ℕ) (doc other : Doc) (fault : tape.Fault) → document_in bytes ≡ Ok doc → document_in bytes ≡ Ok other → tape_in doc.net doc.tape ≡ Err fault → HasTape other → ⊥
tape_or_fault bytes doc other fault read read' failed has =
    let again = subst (λ (x : Doc). tape_in x.net x.tape ≡ Ok has.taped) (one_document bytes other doc read' read) has.tape in
    cc

-- two refusals of what has a design
both_designed : OneOverflow → {bytes : List ℕ} {it : Command} {status other : ℕ} {line said : List ℕ} → has_one_refusal it ≡ true → (p : Refuses bytes it status line) (q : Refuses bytes it other said) (x y : HasDesign bytes) → designed p ≡ Some x → designed q ≡ Some y
    → Agree bytes status other line said
both_designed one {bytes = bytes} determined (of_tape doc design tape read made asks failed) (of_tape doc' design' tape' read' made' asks' failed') x y e f =
    let again = subst (λ (x : Doc). tape_in x.net x.tape ≡ Err tape') (one_document bytes doc' doc read' read) failed' in
    let same : tape ≡ tape' = cc in
    (refl, inl (ap tape_line same))
both_designed one {bytes = bytes} {it = it} determined (of_tape doc a tape read made runs failed) (of_width doc' b read' made' asks wide) x y e f =
    absurd (tape_or_fault bytes doc doc' tape read read' failed (run_with_flow it doc' b runs asks))
both_designed one {bytes = bytes} {it = it} determined (of_width doc a read made asks wide) (of_tape doc' b tape read' made' runs failed) x y e f =
    absurd (tape_or_fault bytes doc' doc tape read' read failed (run_with_flow it doc a runs asks))
both_designed one {bytes = bytes} determined (of_form doc a path read made failed) (of_form doc' b path' read' made' failed') x y e f =
    let proofs = both_proofs bytes doc doc' a b read read' made made' in
    let same : path ≡ path' = cc in
    (refl, inl (ap form_line same))
both_designed one {bytes = bytes} determined (of_form doc a path read made failed) (of_persistency doc' b c read' made' has first) x y e f =
    let proofs = both_proofs bytes doc doc' a b read read' made made' in
    let found = has.proof in
    absurd cc
both_designed one determined (of_form doc a path read made failed) (of_overflow doc' b flow r s column read' made' asks rows meets) x y e f = absurd asks
both_designed one determined (of_overflow doc a flow r s column read made asks rows meets) (of_form doc' b path read' made' failed) x y e f = absurd asks
both_designed one {bytes = bytes} {it = it} determined (of_tape doc a tape read made runs failed) (of_overflow doc' b flow r s column read' made' asks rows meets) x y e f =
    absurd (tape_or_fault bytes doc doc' tape read read' failed (run_with_invariants it doc' b runs asks))
both_designed one {bytes = bytes} {it = it} determined (of_overflow doc a flow r s column read made asks rows meets) (of_tape doc' b tape read' made' runs failed) x y e f =
    absurd (tape_or_fault bytes doc' doc tape read' read failed (run_with_invariants it doc a runs asks))
both_designed one determined (of_tape doc a tape read made runs failed) (of_form doc' b path read' made' broken) x y e f = absurd runs
both_designed one determined (of_form doc a path read made broken) (of_tape doc' b tape read' made' runs failed) x y e f = absurd runs
both_designed one {it = it} determined (of_tape doc a tape read made runs failed) (of_persistency doc' b c read' made' asks first) x y e f = absurd (not_run_with_rights it doc' b runs asks)
both_designed one {it = it} determined (of_persistency doc a c read made asks first) (of_tape doc' b tape read' made' runs failed) x y e f = absurd (not_run_with_rights it doc a runs asks)
both_designed one {it = it} determined (of_persistency doc a c read made rights first) (of_overflow doc' b flow r s column read' made' asks rows meets) x y e f =
    absurd (not_both_asked it doc doc' a b determined rights asks)
both_designed one {it = it} determined (of_overflow doc a flow r s column read made asks rows meets) (of_persistency doc' b c read' made' rights first) x y e f =
    absurd (not_both_asked it doc' doc b a determined rights asks)
both_designed one {bytes = bytes} determined (of_form doc a path read made failed) (of_width doc' b read' made' asks wide) x y e f =
    let proofs = both_proofs bytes doc doc' a b read read' made made' in
    let found = asks.0.proof in
    absurd cc
both_designed one {bytes = bytes} determined (of_persistency doc a c read made has first) (of_form doc' b path read' made' failed) x y e f =
    let proofs = both_proofs bytes doc doc' a b read read' made made' in
    let found = has.proof in
    absurd cc
both_designed one {bytes = bytes} determined (of_persistency doc a c read made has first) (of_persistency doc' b c' read' made' has' first') x y e f =
    (refl, inl (same_ungranted bytes doc doc' a b read read' made made' c c' first first'))
both_designed one {bytes = bytes} {it = it} determined (of_persistency doc a c read made has first) (of_width doc' b read' made' asks wide) x y e f =
    absurd (granted_both bytes doc' doc b a read' read made' made (rights_granted it doc doc' a b has asks) c first)
both_designed one {bytes = bytes} determined (of_width doc a read made asks wide) (of_form doc' b path read' made' failed) x y e f =
    let proofs = both_proofs bytes doc doc' a b read read' made made' in
    let found = asks.0.proof in
    absurd cc
both_designed one {bytes = bytes} {it = it} determined (of_width doc a read made asks wide) (of_persistency doc' b c read' made' has first) x y e f =
    absurd (granted_both bytes doc doc' a b read read' made made' (rights_granted it doc' doc b a has asks) c first)
both_designed one {bytes = bytes} determined (of_width doc a read made asks wide) (of_width doc' b read' made' asks' wide') x y e f =
    (refl, inl (ap width_line (both_pairs bytes doc doc' a b read read' made made')))
both_designed one {bytes = bytes} determined (of_width doc a read made asks wide) (of_overflow doc' b flow r s column read' made' _ rows meets) x y e f =
    let pairs = both_pairs bytes doc doc' a b read read' made made' in
    absurd (omega (arith, pairs, wide, rows.narrow))
both_designed one {bytes = bytes} determined (of_overflow doc a flow r s column read made _ rows meets) (of_width doc' b read' made' asks wide) x y e f =
    let pairs = both_pairs bytes doc doc' a b read read' made made' in
    absurd (omega (arith, pairs, wide, rows.narrow))
both_designed one {bytes = bytes} determined (of_overflow doc a flow r s column read made _ rows meets) (of_overflow doc' b flow' t u other read' made' _ rows' meets') x y e f =
    (refl, inl (ap overflow_line (same_overflow doc a b made (design_of bytes doc' doc b read' read made') one flow flow' r s t u column other rows rows' meets meets')))
both_designed one determined _ _ x y e f = absurd cc

pub refusals : NoLoop → OneOverflow → {bytes : List ℕ} {it : Command} {status other : ℕ} {line said : List ℕ} → has_one_refusal it ≡ true → Refuses bytes it status line → Refuses bytes it other said → Agree bytes status other line said
refusals none one {bytes = bytes} {it = it} {status = status} {other = other} {line = line} {said = said} determined p q = by_design (designed p) refl (designed q) refl
  where
    by_design : (x : Option (HasDesign bytes)) → designed p ≡ x → (y : Option (HasDesign bytes)) → designed q ≡ y → Agree bytes status other line said
    by_design None e None f = both_undesigned p q e f
    by_design None e (Some has) f = absurd (undesigned none p e has)
    by_design (Some has) e None f = absurd (undesigned none q f has)
    by_design (Some has) e (Some has') f = both_designed one determined p q has has' e f

-- ---- the laws

pub one_output : OneRun → OneEnd → OneVerdict → OneOutput
one_output one_run one_end one_verdict = λ bytes it turned other_turned text other determined p q. outputs one_run one_end one_verdict determined p q

pub no_output : NoLoop → ExclusiveEnds → NoOutputOfRefused
no_output none exclusive = λ bytes it status turned line text same p q. excludes none exclusive same p q

pub one_refusal : NoLoop → OneOverflow → OneRefusal
one_refusal none one = λ bytes it status other line said determined p q. refusals none one determined p q
