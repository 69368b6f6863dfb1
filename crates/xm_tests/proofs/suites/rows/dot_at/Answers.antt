use Rattle.std.proofs.Common.{◌<◌, length, get_or, pos, ◌∙◌, subst, All, rules}
use Rattle.std.proofs.lemmas.List.{take_all}
use Rattle.std.proofs.lemmas.List.Elements.{All-nil, All-more}
use Rattle.xm_rows.specs.declared.row.Entry.{Entry}
use Rattle.xm_tests.proofs.suites.rows.dot_at.Goals as goal

pub loop-entry-init : goal.loop-entry-init
loop-entry-init g c = All-nil (λ (e : Entry). e.column < length c.args.x.now)

pub loop-entry-preserved : goal.loop-entry-preserved
loop-entry-preserved g c =
    let none : Entry = record { column = 0; value = pos 0 } in
    let below : (get_or c.entries-entry-items.result.now c.loop-entry.entry-index none).column < length c.args.x.now = search rules in
    All-more (λ (e : Entry). e.column < length c.args.x.now) c.entries-entry-items.result.now c.loop-entry.entry-index none c.loop-entry-test.true c.loop-entry.invariant below

pub dot-requires : goal.dot-requires
dot-requires g c =
    subst (All (λ (e : Entry). e.column < length c.args.x.now)) (take_all c.loop-entry.entry-index c.entries-entry-items.result.now c.loop-entry-test.false ∙ c.entries-entry-items.ensures.value)
    c.loop-entry.invariant
