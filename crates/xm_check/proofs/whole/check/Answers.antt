use Rattle.std.proofs.Common.{◌≡◌, ◌+◌, ◌<◌, ℕ, All, List, Option, Some, IfNone, ap₂, map, subst, sym}
use Rattle.xm_check.specs.Break.{IsFirstLemmaBreak, goals_and_trees_test, goals_break, lemma_breaks, valid}
use Rattle.xm_check.specs.Inner.Gives.{FailsAt}
use Rattle.xm_check.specs.declared.stop.Halt.{Halt}
use Rattle.xm_check.proofs.Breaking.{of_none}
use Rattle.xm_check.proofs.Exact.{proof_valid}
use Rattle.xm_design.specs.Designed.{Designed}
use Rattle.xm_flow.specs.FlowRows.{Flow}
use Rattle.xm_flow.specs.Holding.{IsFlowOf}
use Rattle.xm_flow.specs.ValidLemma.{lemma_of}
use Rattle.xm_flow.specs.declared.invariant.Invariant.{Invariant}
use Rattle.xm_proof.specs.Argument.{argument_of}
use Rattle.xm_proof.specs.Valid.{AreLemmas}
use Rattle.xm_proof.specs.declared.proof.Proof.{Proof}
use Rattle.xm_proof.specs.declared.verdict.Reason.{Reason}
use Rattle.xm_flow.specs.Lemmas.Within.{rows_within}
use Rattle.xm_rows.specs.Row.{SparseRow}
use Rattle.xm_check.proofs.whole.check.Goals as goal

pub check_lemmas-requires-clause-within : goal.check_lemmas-requires-clause-within
check_lemmas-requires-clause-within c =
    let flow = c.args.flow.now in
    let it = c.args.design.now in
    subst (λ (n : ℕ). All (λ (r : SparseRow). All (λ e. e.column < n) r.entries) flow.rows) (ap₂ (λ (m n : ℕ). m + n) (sym c.requires.flow.moves) (sym c.requires.flow.counts))
    (rows_within it flow.rows c.requires.flow.rows)

-- the lemmas are valid where none breaks
lemmas_valid : (it : Designed) (flow : Flow) (p : Proof) (lemmas : List Invariant) (o : Option (ℕ × Reason)) → IsFlowOf it flow →
    lemmas ≡ p.lemmas.items → ((x : ℕ × Reason) → o ≡ Some x → ⊥) → IfNone o ((jt : Designed) → IsFlowOf jt flow → AreLemmas jt flow.rows (map lemma_of lemmas)) →
    AreLemmas it flow.rows (argument_of p).lemmas
lemmas_valid it flow p lemmas o is lent not none =
    subst (λ (ls : List Invariant). AreLemmas it flow.rows (map lemma_of ls)) lent
    (of_none o ((jt : Designed) → IsFlowOf jt flow → AreLemmas jt flow.rows (map lemma_of lemmas)) not none it is)

pub returns-in-Some-clause-exact : goal.returns-in-Some-clause-exact
returns-in-Some-clause-exact c =
    let it = c.args.design.now in
    let first = rw c.in-Some.is at c.in_ok-k.ensures.some in
    lemma_breaks c.in-Some.k c.in-Some.why
    (subst (λ (ls : List Invariant). IsFirstLemmaBreak it c.args.flow.now.rows (map lemma_of ls) c.in-Some.k c.in-Some.why) c.as_slice.ensures (first it c.requires.flow))

pub returns-in-Ok-clause-exact : goal.returns-in-Ok-clause-exact
returns-in-Ok-clause-exact c =
    let it = c.args.design.now in
    let lemmas = lemmas_valid it c.args.flow.now c.args.proof.now c.as_slice.result.now c.in_ok-k.field-0 c.requires.flow c.as_slice.ensures c.in_default.not-Some c.in_ok-k.ensures.none in
    valid (proof_valid it c.args.flow.now.rows (argument_of c.args.proof.now) tt c.requires.formed.trees lemmas c.in-Ok.ensures)

pub returns-in-Ok-clause-sound : goal.returns-in-Ok-clause-sound
returns-in-Ok-clause-sound c = λ yes.
    let it = c.args.design.now in
    let lemmas = lemmas_valid it c.args.flow.now c.args.proof.now c.as_slice.result.now c.in_ok-k.field-0 c.requires.flow c.as_slice.ensures c.in_default.not-Some c.in_ok-k.ensures.none in
    c.proofs_hold.ensures it c.args.flow.now.rows (argument_of c.args.proof.now) c.requires.flow.rows
    (proof_valid it c.args.flow.now.rows (argument_of c.args.proof.now) tt c.requires.formed.trees lemmas c.in-Ok.ensures)

pub returns-in-Err-At-clause-exact : goal.returns-in-Err-At-clause-exact
returns-in-Err-At-clause-exact c =
    let it = c.args.design.now in
    let lemmas = lemmas_valid it c.args.flow.now c.args.proof.now c.as_slice.result.now c.in_ok-k.field-0 c.requires.flow c.as_slice.ensures c.in_default.not-Some c.in_ok-k.ensures.none in
    goals_break c.in-Err-At.place c.in-Err-At.why lemmas
    (subst (λ (h : Halt). FailsAt h (goals_and_trees_test it (argument_of c.args.proof.now))) c.in-Err-At.field-0-is c.in-Err-At.ensures)
