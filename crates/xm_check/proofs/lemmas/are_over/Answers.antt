use Rattle.std.proofs.Common.{◌<◌, All, pos, refl, subst}
use Rattle.std.proofs.lemmas.List.{take_all}
use Rattle.std.proofs.lemmas.List.Elements.{All-more}
use Rattle.xm_rows.specs.declared.row.Entry.{Entry}
use Rattle.xm_check.proofs.lemmas.are_over.Goals as goal

pub loop-entry-preserved : goal.loop-entry-preserved
loop-entry-preserved c =
    let none : Entry = record { column = 0; value = pos 0 } in
    All-more (λ (x : Entry). x.column < c.args.columns) c.args.entries.now c.loop-entry.entry-index none c.loop-entry-test.true c.loop-entry.invariant c.if-entry-columns.false

pub returns : goal.returns
returns c = (
  λ _. subst (All (λ (x : Entry). x.column < c.args.columns)) (take_all c.loop-entry.entry-index c.args.entries.now c.loop-entry-test.false) c.loop-entry.invariant,
  λ _. refl,
)
