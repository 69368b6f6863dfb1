use Rattle.std.proofs.Common.{All, pos, refl, subst}
use Rattle.std.proofs.lemmas.List.{take_all}
use Rattle.std.proofs.lemmas.List.Elements.{All-more}
use Rattle.xm_flow.specs.Inner.Testing.{IsMet}
use Rattle.xm_flow.specs.ValidLemma.{lemma_of}
use Rattle.xm_rows.specs.declared.row.Entry.{Entry}
use Rattle.xm_flow.proofs.testing.are_met.Goals as goal

pub loop-entry-preserved : goal.loop-entry-preserved
loop-entry-preserved c =
    let none : Entry = record { column = 0; value = pos 0 } in
    All-more (λ (e : Entry). IsMet c.args.n c.args.moves (lemma_of c.args.it.now) c.args.slots.now e.column) c.args.entries.now c.loop-entry.entry-index none c.loop-entry-test.true
    c.loop-entry.invariant (c.is_met.ensures.0 c.if-not-is_met.false)

pub returns : goal.returns
returns c = (
  λ _. subst (All (λ (e : Entry). IsMet c.args.n c.args.moves (lemma_of c.args.it.now) c.args.slots.now e.column))
      (take_all c.loop-entry.entry-index c.args.entries.now c.loop-entry-test.false) c.loop-entry.invariant,
  λ _. refl,
)
