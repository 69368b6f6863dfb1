use Rattle.xm_lp.specs.Rule.{After}
use Rattle.xm_lp.specs.Inner.Listing.{AreListed}
use Rattle.xm_lp.specs.Inner.Table.{tableau_of}
use Rattle.xm_rows.specs.Columns.{columns_of}
use Rattle.xm_lp.proofs.simplex.follow.Given as goal

abbrev pub invariant-loop-pivots : goal.invariant-loop-pivots
invariant-loop-pivots l = record {
  after : After l.constraints l.columns l.pivots (tableau_of l.table);
  listed : AreListed l.table.rows.items (columns_of l.places);
}
