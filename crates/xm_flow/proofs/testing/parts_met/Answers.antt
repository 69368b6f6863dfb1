use Rattle.std.proofs.Common.{◌∙◌, ◌<◌, All, get_or, length, pos, refl, sym, subst}
use Rattle.std.proofs.lemmas.List.{take_all}
use Rattle.std.proofs.lemmas.List.Elements.{All-more}
use Rattle.xm_flow.specs.Inner.Testing.{IsMet}
use Rattle.xm_flow.specs.ValidLemma.{flow_at, lemma_of}
use Rattle.xm_flow.specs.declared.invariant.Part.{Part}
use Rattle.xm_rows.specs.declared.row.Entry.{Entry}
use Rattle.xm_flow.proofs.Adding.{not_true}
use Rattle.xm_flow.proofs.Made.{entries_at}
use Rattle.xm_flow.proofs.testing.parts_met.Goals as goal

pub returns-then-not-are_met : goal.returns-then-not-are_met
returns-then-not-are_met c =
    let none : Part = record { flow = 0; factor = pos 0 } in
    let M : Entry → Type 0 = λ e. IsMet c.args.n c.args.moves (lemma_of c.args.it.now) c.args.slots.now e.column in
    let Q : Part → Type 0 = λ p. All M (flow_at c.args.flow.now p.flow).entries in
    let parts = c.as_slice-part-items.result.now in
    let p = get_or parts c.loop-part.part-index none in
    let within : p.flow < length c.args.flow.now = subst (All (λ (q : Part). q.flow < length c.args.flow.now)) (sym c.as_slice-part-items.ensures) c.requires.places c.loop-part.part-index none c.loop-part-test.true in
    let same = entries_at c.args.flow.now p.flow c.index-flow-part.result c.entries.result.now within c.index-flow-part.is c.entries.ensures.value in (
      λ is. not_true _ is refl,
      λ all. not_true c.are_met.result
          (c.are_met.ensures.1 (subst (All M) (sym same) (subst (All Q) (sym c.as_slice-part-items.ensures) all c.loop-part.part-index none c.loop-part-test.true)))
          c.if-not-are_met.true,
    )

pub loop-part-preserved : goal.loop-part-preserved
loop-part-preserved c =
    let none : Part = record { flow = 0; factor = pos 0 } in
    let M : Entry → Type 0 = λ e. IsMet c.args.n c.args.moves (lemma_of c.args.it.now) c.args.slots.now e.column in
    let parts = c.as_slice-part-items.result.now in
    let p = get_or parts c.loop-part.part-index none in
    let within : p.flow < length c.args.flow.now = subst (All (λ (q : Part). q.flow < length c.args.flow.now)) (sym c.as_slice-part-items.ensures) c.requires.places c.loop-part.part-index none c.loop-part-test.true in
    let same = entries_at c.args.flow.now p.flow c.index-flow-part.result c.entries.result.now within c.index-flow-part.is c.entries.ensures.value in
    All-more (λ (q : Part). All M (flow_at c.args.flow.now q.flow).entries) parts c.loop-part.part-index none c.loop-part-test.true c.loop-part.invariant
    (subst (All M) same (c.are_met.ensures.0 c.if-not-are_met.false))

pub returns : goal.returns
returns c =
    let M : Entry → Type 0 = λ e. IsMet c.args.n c.args.moves (lemma_of c.args.it.now) c.args.slots.now e.column in (
      λ _. subst (All (λ (q : Part). All M (flow_at c.args.flow.now q.flow).entries))
          (take_all c.loop-part.part-index c.as_slice-part-items.result.now c.loop-part-test.false ∙ c.as_slice-part-items.ensures) c.loop-part.invariant,
      λ _. refl,
    )
