use Rattle.xm_rows.specs.Columns.{columns_of}
use Rattle.xm_lp.proofs.Noting.{fresh_all, fresh_more, fresh_none}
use Rattle.xm_lp.proofs.places.note_fresh.Goals as goal

pub loop-entry-init : goal.loop-entry-init
loop-entry-init c = fresh_none c.args.h c.args.row.now (columns_of c.args.places.now)

pub loop-entry-preserved : goal.loop-entry-preserved
loop-entry-preserved c =
    fresh_more c.args.h c.args.row.now c.entries-entry-items.result.now c.loop-entry.entry-index _ (columns_of c.args.places.now) (columns_of c.loop-entry.places)
    (columns_of c.note.new.columns) c.loop-entry-test.true c.loop-entry.invariant c.in_ok-note.ensures

pub returns : goal.returns
returns c =
    fresh_all c.args.h c.args.row.now c.entries-entry-items.result.now c.args.pivot.now.entries c.loop-entry.entry-index (columns_of c.args.places.now) (columns_of c.loop-entry.places)
    c.loop-entry-test.false c.entries-entry-items.ensures.value c.loop-entry.invariant
