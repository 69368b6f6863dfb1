-- The columns of flow rows lie below the number of pairs and queue pairs.
use Rattle.std.proofs.Common.{◌≡◌, ℕ, ◌+◌, ◌<◌, List, length, length-append, map, subst, arith, All}
use Rattle.std.proofs.lemmas.List.{length-map}
use Rattle.xm_colours.specs.Family.{colours_at}
use Rattle.xm_colours.specs.Pairs.{pairs, queue_pairs}
use Rattle.xm_design.specs.Designed.{Designed}
use Rattle.xm_rows.specs.Row.{SparseRow}
use Rattle.xm_flow.specs.FlowRows.{AreFlowRows, columns, count_of, flow_rows, moves_of}
use Rattle.xm_flow.specs.Holding.{pair_count, queue_pair_count}
use Rattle.xm_flow.specs.Lemmas.Listing.{all_from, same_place}

length-columns : (it : Designed) → length (columns it) ≡ pair_count it + queue_pair_count it
length-columns it =
    let ps = pairs (colours_at it.colours) it.net.channels in
    let qs = queue_pairs (colours_at it.colours) 0 it.net.prims in
    let all = length-append (map moves_of ps) (map count_of qs) in
    let one = length-map ps moves_of in
    let two = length-map qs count_of in
    omega arith

pub rows_within : (it : Designed) (rows : List SparseRow) → AreFlowRows it rows →
    All (λ r. All (λ e. e.column < pair_count it + queue_pair_count it) r.entries) rows
rows_within it rows are =
    all_from (λ (r : SparseRow). All (λ e. e.column < pair_count it + queue_pair_count it) r.entries) rows (λ i sparse found.
    let row = same_place rows (flow_rows it) i sparse are.whole found in
    subst (λ (n : ℕ). All (λ e. e.column < n) sparse.entries) (length-columns it) (are.at i row.0 sparse row.1 found).within)
