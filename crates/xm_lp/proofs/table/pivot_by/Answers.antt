use Rattle.std.proofs.Common.{◌≡◌, ℕ, ◌++◌, ◌∷◌, [], List, length, refl, sym, ◌∙◌, ap, subst, arith}
use Rattle.std.proofs.Math.ListN.{set}
use Rattle.std.proofs.lemmas.List.{length-map, length-set, map-set}
use Rattle.xm_model.specs.Lending.{refill-full}
use Rattle.xm_model.specs.ListView.{ListView}
use Rattle.xm_rows.specs.Columns.{columns_of, noted}
use Rattle.xm_rows.specs.Lemmas.Noting.{noted_read}
use Rattle.xm_rows.specs.Row.{SparseRow}
use Rattle.xm_lp.specs.Inner.Listing.{AreNoted}
use Rattle.xm_lp.proofs.Clearing.{cleared_all}
use Rattle.xm_lp.proofs.Noting.{listed_after}
use Rattle.xm_lp.proofs.table.pivot_by.Goals as goal

pub returns-clause-ok : goal.returns-clause-ok
returns-clause-ok c =
    let basics = c.args.table.now.basics.items in
    let lent = c.as_mut_slice.result.now in
    let whole = length-set lent c.args.i c.args.column ∙ ap (λ (l : List ℕ). length l) c.as_mut_slice.ensures.value in
    cleared_all c.args.table.now.rows.items c.clear_rows.new.rows.items basics _ c.args.i c.args.column c.args.list.now c.in_ok-clear_rows.ensures.ok c.requires.listed.own
    (refill-full (length basics) basics (set lent c.args.i c.args.column) whole ∙ ap (λ (l : List ℕ). set l c.args.i c.args.column) c.as_mut_slice.ensures.value)

pub returns-clause-listed : goal.returns-clause-listed
returns-clause-listed c =
    let old = c.args.table.now.rows.items in
    let new = c.clear_rows.new.rows.items in
    let basics = c.args.table.now.basics.items in
    let j = c.args.column in
    let i = c.args.i in
    let lists = c.note_rows.new.places in
    let items = λ (l : ListView ℕ). l.items in
    let from = columns_of c.args.places.now in
    let noting = subst (λ (rs : List SparseRow). AreNoted rs j i c.args.list.now from (columns_of lists)) c.as_slice.ensures c.in_ok-note_rows.ensures in
    let pivoted = cleared_all old new basics (set basics i j) i j c.args.list.now c.in_ok-clear_rows.ensures.ok c.requires.listed.own refl in
    let before = length-map c.args.places.now items in
    let after = length-map lists items in
    let whole = noting.whole in
    let column = c.requires.column in
    let read = noted_read lists j c.index-places-column.result (omega (arith, before, after, whole, column)) c.index-places-column.is in
    let pushed : c.push.new.self.items ≡ noted (columns_of lists) j ++ i ∷ [] =
    c.in_ok-push.ensures.ok ∙ ap (λ (l : ListView ℕ). l.items ++ i ∷ []) (sym c.index-places-column.is) ∙ ap (λ (l : List ℕ). l ++ i ∷ []) (sym read) in
    listed_after old new basics (set basics i j) j i c.args.list.now from (columns_of lists) (columns_of (set lists j c.push.new.self)) c.requires.listed noting pivoted c.requires.row
    c.requires.entry (omega (arith, before, column)) (map-set items lists j c.push.new.self ∙ ap (set (columns_of lists) j) pushed)
