use Rattle.std.proofs.Common.{rules, SFits, ◌≡◌, ◌<◌, ◌∙◌, ◌<ℤ◌, All, List, ℕ, length, pos, subst, sym, arith}
use Rattle.std.specs.Int.{w128}
use Rattle.std.proofs.lemmas.Int.{ints, to_z-of_z}
use Rattle.xm_check.specs.Break.{not_positive}
use Rattle.xm_check.specs.Inner.Queues.{IsOver}
use Rattle.xm_check.proofs.Breaking.{columns_break, differs_break, leaves_break, never, parts_break}
use Rattle.xm_flow.specs.ValidLemma.{IsValid, TestFits, lemma_of}
use Rattle.xm_flow.specs.declared.invariant.Part.{Part}
use Rattle.xm_rows.specs.Row.{SparseRow}
use Rattle.xm_rows.specs.declared.row.Entry.{Entry}
use Rattle.xm_check.proofs.lemmas.check_lemma.Goals as goal

pub returns-then-lemma-le0-clause-some : goal.returns-then-lemma-le0-clause-some
returns-then-lemma-le0-clause-some c = λ it is.
    let scale : SFits w128 c.args.lemma.now.scale = search rules in
    let low = simp to_z-of_z at c.if-lemma-le0.true in
    not_positive (λ h. absurd (grind (arith, ints)))

pub returns-then-not-are_parts-clause-some : goal.returns-then-not-are_parts-clause-some
returns-then-not-are_parts-clause-some c = λ it is.
    let positive : pos 0 <ℤ c.args.lemma.now.scale = search rules in
    let read : c.as_slice-rows.result.now ≡ c.args.flow.now.rows = c.as_slice-rows.ensures ∙ c.rows.ensures.rows in
    parts_break it c.args.flow.now is (lemma_of c.args.lemma.now) positive (λ all. never c.are_parts.result
    (c.are_parts.ensures.1 (subst (λ (rs : List SparseRow). All (λ (p : Part). p.flow < length rs) c.as_slice.result.now) (sym read)
    (subst (All (λ (p : Part). p.flow < length c.args.flow.now.rows)) (sym c.as_slice.ensures) all)))
    c.if-not-are_parts.true)

pub returns-then-not-are_over-clause-some : goal.returns-then-not-are_over-clause-some
returns-then-not-are_over-clause-some c = λ it is.
    let positive : pos 0 <ℤ c.args.lemma.now.scale = search rules in
    columns_break it c.args.flow.now is (lemma_of c.args.lemma.now) positive (λ over. never c.are_over.result
    (c.are_over.ensures.1 (subst (λ (n : ℕ). IsOver n c.entries.result.now) (sym c.counts.ensures) (subst (IsOver c.args.flow.now.counts) (sym c.entries.ensures.value) over)))
    c.if-not-are_over.true)

pub returns-in-Leaves-clause-some : goal.returns-in-Leaves-clause-some
returns-in-Leaves-clause-some c = λ it is.
    let positive : pos 0 <ℤ c.args.lemma.now.scale = search rules in
    let read : c.as_slice-rows.result.now ≡ c.args.flow.now.rows = c.as_slice-rows.ensures ∙ c.rows.ensures.rows in
    let places = subst (λ (ps : List Part). All (λ (p : Part). p.flow < length c.args.flow.now.rows) ps) c.as_slice.ensures
    (subst (λ (rs : List SparseRow). All (λ (p : Part). p.flow < length rs) c.as_slice.result.now) read (c.are_parts.ensures.0 c.if-not-are_parts.false)) in
    let over = subst (λ (es : List Entry). IsOver c.args.flow.now.counts es) c.entries.ensures.value
    (subst (λ (n : ℕ). IsOver n c.entries.result.now) c.counts.ensures (c.are_over.ensures.0 c.if-not-are_over.false)) in
    leaves_break it c.args.flow.now is (lemma_of c.args.lemma.now) positive places over
    (subst (λ (rs : List SparseRow). ¬ TestFits rs (lemma_of c.args.lemma.now)) read c.in-Leaves.ensures.tested)

pub returns-in-Differs-clause-some : goal.returns-in-Differs-clause-some
returns-in-Differs-clause-some c = λ it is.
    let l = lemma_of c.args.lemma.now in
    let positive : pos 0 <ℤ c.args.lemma.now.scale = search rules in
    let read : c.as_slice-rows.result.now ≡ c.args.flow.now.rows = c.as_slice-rows.ensures ∙ c.rows.ensures.rows in
    let places = subst (λ (ps : List Part). All (λ (p : Part). p.flow < length c.args.flow.now.rows) ps) c.as_slice.ensures
    (subst (λ (rs : List SparseRow). All (λ (p : Part). p.flow < length rs) c.as_slice.result.now) read (c.are_parts.ensures.0 c.if-not-are_parts.false)) in
    let over = subst (λ (es : List Entry). IsOver c.args.flow.now.counts es) c.entries.ensures.value
    (subst (λ (n : ℕ). IsOver n c.entries.result.now) c.counts.ensures (c.are_over.ensures.0 c.if-not-are_over.false)) in
    let t = subst (λ (rs : List SparseRow). TestFits rs l × (¬ IsValid c.moves.result c.counts-2.result rs l)) read c.in-Differs.ensures.tested in
    differs_break it c.args.flow.now is l positive places over t.0
    (subst (λ (n : ℕ). ¬ IsValid c.args.flow.now.moves n c.args.flow.now.rows l) c.counts-2.ensures
    (subst (λ (n : ℕ). ¬ IsValid n c.counts-2.result c.args.flow.now.rows l) c.moves.ensures t.1))
