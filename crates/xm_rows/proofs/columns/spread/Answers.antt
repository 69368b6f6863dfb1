use Rattle.xm_rows.specs.Columns.{columns_of}
use Rattle.xm_rows.specs.Lemmas.Noting.{spread_all, spread_next, spread_none}
use Rattle.xm_rows.proofs.columns.spread.Goals as goal

pub loop-entry-init : goal.loop-entry-init
loop-entry-init c = spread_none c.args.places.now (columns_of c.args.columns.now)

pub loop-entry-preserved : goal.loop-entry-preserved
loop-entry-preserved c =
    spread_next c.args.places.now c.entries-entry-items.result.now c.loop-entry.entry-index _ (columns_of c.args.columns.now) (columns_of c.loop-entry.columns)
    (columns_of c.note.new.columns) c.loop-entry-test.true c.loop-entry.invariant c.in_ok-note.ensures

pub returns : goal.returns
returns c =
    spread_all c.args.places.now c.entries-entry-items.result.now c.args.row.now.entries c.loop-entry.entry-index (columns_of c.args.columns.now) (columns_of c.loop-entry.columns)
    c.loop-entry-test.false c.entries-entry-items.ensures.value c.loop-entry.invariant
