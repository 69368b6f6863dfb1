use Rattle.std.proofs.Common.{◌+◌, ◌∙◌, ◌∷◌, [], ap, length, sym, subst, take, List, ℕ}
use Rattle.xm_model.specs.Lending.{refill-full}
use Rattle.xm_model.specs.ListView.{ListView}
use Rattle.xm_rows.specs.Columns.{AreSpread, columns_of}
use Rattle.xm_rows.specs.Lemmas.Noting.{empty_noted}
use Rattle.xm_lp.specs.Inner.Listing.{AreListed}
use Rattle.xm_lp.proofs.Noting.{listed_all, listed_more, listed_none}
use Rattle.xm_lp.proofs.places.rows_by.Goals as goal

pub loop-i-init : goal.loop-i-init
loop-i-init c = record {
  listed = listed_none (columns_of c.in_ok-lists.lists.items) (empty_noted c.in_ok-lists.lists.items c.in_ok-lists.ensures.empty);
  whole = c.in_ok-lists.ensures.whole;
}

pub loop-i-preserved : goal.loop-i-preserved
loop-i-preserved c =
    let rows = c.args.rows.now in
    let lists = c.loop-i.lists.items in
    let whole = c.spread.auto.columns ∙ ap length c.as_mut_slice.ensures.value in
    let is = refill-full (length lists) lists c.spread.new.columns whole in
    let spread = subst (λ (l : List (ListView ℕ)). AreSpread (c.loop-i.i ∷ []) c.index-rows-i.result.entries (columns_of l) (columns_of c.spread.new.columns)) c.as_mut_slice.ensures.value
    c.in_ok-spread.ensures in
    record {
      listed = subst (λ (l : List (ListView ℕ)). AreListed (take (c.loop-i.i + 1) rows) (columns_of l)) (sym is)
          (listed_more rows c.loop-i.i c.index-rows-i.result (columns_of lists) (columns_of c.spread.new.columns) c.loop-i-test.true c.index-rows-i.is c.loop-i.invariant.listed spread);
      whole = ap length is ∙ whole ∙ c.loop-i.invariant.whole;
    }

pub returns-clause-listed : goal.returns-clause-listed
returns-clause-listed c = listed_all c.args.rows.now c.loop-i.i (columns_of c.loop-i.lists.items) c.loop-i-test.false c.loop-i.invariant.listed
