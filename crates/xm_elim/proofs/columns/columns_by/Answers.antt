use Rattle.std.proofs.Common.{◌+◌, ◌∙◌, ◌∷◌, [], ap, length, refl, sym, subst, take, List, ℕ}
use Rattle.xm_elim.specs.Inner.Columns.{Covers}
use Rattle.xm_rows.specs.Columns.{AreSpread, columns_of}
use Rattle.xm_elim.proofs.Covering.{covers_all, covers_more, covers_none, spread_read}
use Rattle.xm_rows.specs.Lemmas.Noting.{empty_noted}
use Rattle.xm_elim.proofs.Stepping.{refilled}
use Rattle.xm_model.specs.ListView.{ListView}
use Rattle.xm_elim.proofs.columns.columns_by.Goals as goal

pub loop-i-init : goal.loop-i-init
loop-i-init c =
    record { covers = covers_none (columns_of c.in_ok-lists.lists.items) (empty_noted c.in_ok-lists.lists.items c.in_ok-lists.ensures.empty); whole = c.in_ok-lists.ensures.whole }

pub loop-i-preserved : goal.loop-i-preserved
loop-i-preserved c =
    let whole = c.spread.auto.columns in
    let is = refilled c.loop-i.lists.items c.as_mut_slice.result.now c.spread.new.columns c.as_mut_slice.ensures.value whole in
    let from_lists = subst (λ (l : List (ListView ℕ)). AreSpread (c.loop-i.i ∷ []) c.index-rows-i.result.row.entries (columns_of l) (columns_of c.spread.new.columns)) c.as_mut_slice.ensures.value
    (spread_read (c.loop-i.i ∷ []) (c.loop-i.i ∷ []) c.args.rows.now c.loop-i.i c.index-rows-i.result (columns_of c.as_mut_slice.result.now) (columns_of c.spread.new.columns) refl c.index-rows-i.is c.in_ok-spread.ensures) in
    record {
      covers = subst (λ (l : List (ListView ℕ)). Covers (take (c.loop-i.i + 1) c.args.rows.now) (columns_of l)) (sym is)
          (covers_more c.args.rows.now c.loop-i.i c.index-rows-i.result (columns_of c.loop-i.lists.items) (columns_of c.spread.new.columns) c.loop-i-test.true c.index-rows-i.is
          c.loop-i.invariant.covers from_lists);
      whole = ap length is ∙ whole ∙ ap length c.as_mut_slice.ensures.value ∙ c.loop-i.invariant.whole;
    }

pub returns-clause-covers : goal.returns-clause-covers
returns-clause-covers c = covers_all c.args.rows.now c.loop-i.i (columns_of c.loop-i.lists.items) c.loop-i-test.false c.loop-i.invariant.covers
