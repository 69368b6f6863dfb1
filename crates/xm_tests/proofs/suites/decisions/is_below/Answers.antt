use Rattle.std.proofs.Common.{◌<◌, pos, ◌∙◌, subst, All}
use Rattle.std.proofs.lemmas.List.{take_all}
use Rattle.std.proofs.lemmas.List.Elements.{All-more}
use Rattle.xm_rows.specs.declared.row.Entry.{Entry}
use Rattle.xm_tests.proofs.suites.decisions.is_below.Goals as goal

pub loop-entry-preserved : goal.loop-entry-preserved
loop-entry-preserved c =
    All-more (λ (e : Entry). e.column < c.args.columns) c.entries-entry-items.result.now c.loop-entry.entry-index (record { column = 0; value = pos 0 }) c.loop-entry-test.true c.loop-entry.invariant
    c.if-entry-columns.false

pub returns : goal.returns
returns c = λ yes.
    subst (All (λ (e : Entry). e.column < c.args.columns)) (take_all c.loop-entry.entry-index c.entries-entry-items.result.now c.loop-entry-test.false ∙ c.entries-entry-items.ensures.value) c.loop-entry.invariant
