use Rattle.std.proofs.Common.{◌≡◌, ◌≢◌, ◌<◌, ℕ, true, List, [], length, map, nat_eq, Some, slice_get, ap, sym, subst, ◌∙◌, arith}
use Rattle.std.specs.List.{list_any}
use Rattle.std.specs.Prelude.{◌↔◌, slice_index_or}
use Rattle.std.proofs.lemmas.List.{length-map}
use Rattle.xm_board.proofs.Beginning.{board_started, go_both_ways, near_listed}
use Rattle.xm_board.specs.Core.{Core}
use Rattle.xm_board.specs.Inner.Starting.{AreEach, AreFirstMoves, IsFirstFar, IsNoNewest}
use Rattle.xm_board.specs.declared.row_log.RowLog.{RowLog}
use Rattle.xm_design.specs.Designed.{Designed}
use Rattle.xm_model.specs.ListView.{ListView}
use Rattle.xm_parts.specs.Kept.{label_at}
use Rattle.xm_parts.specs.Near.{AreNear}
use Rattle.xm_parts.specs.Partition.{AreNeighbours, channels_in}
use Rattle.xm_board.proofs.board.Board.new.Goals as goal

pub first_moves-requires-clause-wires : goal.first_moves-requires-clause-wires
first_moves-requires-clause-wires c p log at =
    let label = label_at c.args.parts.now.labels in
    let there : slice_get c.in_ok-logs.logs.items p ≡ Some log = ap (λ (l : List RowLog). slice_get l p) (sym c.as_slice.ensures) ∙ at in
    let one = (c.in_ok-logs.ensures.each p log there).roomy.fits.wires in
    let two = one ∙ ap (λ (d : Designed). length (channels_in d.net label p)) (sym c.requires.design) in
    cc

pub first_far-requires-clause-wires : goal.first_far-requires-clause-wires
first_far-requires-clause-wires c p log at =
    let label = label_at c.args.parts.now.labels in
    let there : slice_get c.in_ok-logs.logs.items p ≡ Some log = ap (λ (l : List RowLog). slice_get l p) (sym c.as_slice-2.ensures) ∙ at in
    let one = (c.in_ok-logs.ensures.each p log there).roomy.fits.wires in
    let two = one ∙ ap (λ (d : Designed). length (channels_in d.net label p)) (sym c.requires.design) in
    cc

pub new-requires-clause-both_ways : goal.new-requires-clause-both_ways
new-requires-clause-both_ways c =
    go_both_ways c.args.parts.now.design.net (label_at c.args.parts.now.labels) c.args.parts.now.count c.in_ok-near.near.items c.in_ok-near.ensures.near c.in_ok-near.ensures.others

pub invariant_of-result : goal.invariant_of-result
invariant_of-result c =
    let design = c.args.design.now in let parts = c.args.parts.now in let label = label_at parts.labels in let made = c.in_ok-near.near.items in
    let logs = c.in_ok-logs.logs.items in let same = c.requires.design in
    let near = subst (λ (d : Designed). AreEach (λ (p : ℕ) (l : ListView ℕ). AreNear d.net label p l.items) parts.count made) same c.in_ok-near.ensures.near in
    let others = subst (λ (d : Designed). (p q : ℕ) → p < parts.count → AreNeighbours d.net label p q → (q < parts.count) × (q ≢ p)) same c.in_ok-near.ensures.others in
    let moves = subst (λ (d : Designed). AreEach (AreFirstMoves d.net label logs) parts.count c.in_ok-moves.moves.items) same
    (subst (λ (l : List RowLog). AreEach (AreFirstMoves parts.design.net label l) parts.count c.in_ok-moves.moves.items) c.as_slice.ensures c.in_ok-moves.ensures) in
    let far = subst (λ (l : List RowLog). AreEach (IsFirstFar design.net label l) parts.count c.in_ok-far.far.items) c.as_slice-2.ensures c.in_ok-far.ensures in
    let newest = subst (λ (n : ℕ). AreEach IsNoNewest n c.in_ok-newest.newest.items) c.count-count.ensures.value c.in_ok-newest.ensures in
    let some : 0 < parts.count = (let h = c.count-count.ensures.below 0 c.count-count.ensures.designed.net.limits.some_channels in omega arith) in
    board_started design c.args.tape.now parts c.in_ok-first.first c.in_ok-first.ensures made logs c.in_ok-moves.moves.items c.in_ok-far.far.items c.in_ok-newest.newest.items c.args.target near others c.in_ok-logs.ensures moves far newest
    c.is_designed.ensures c.fits_hold.ensures c.capacity_law.ensures c.requires.fits same c.requires.within some c.in_ok-core.core c.in_ok-core.ensures

pub returns-clause-core : goal.returns-clause-core
returns-clause-core c =
    let parts = c.args.parts.now in let label = label_at parts.labels in let made = c.in_ok-near.near.items in
    let near = subst (λ (d : Designed). AreEach (λ (p : ℕ) (l : ListView ℕ). AreNear d.net label p l.items) parts.count made) c.requires.design c.in_ok-near.ensures.near in
    record {
      neighbours = map (λ (l : ListView ℕ). l.items) made;
      whole = length-map made (λ (l : ListView ℕ). l.items) ∙ near.whole;
      core_is = c.in_ok-core.ensures;
      near = λ p q part. subst (λ (x : Core). (list_any (nat_eq q) (slice_index_or x.neighbours p []) ≡ true) ↔ AreNeighbours c.args.design.now.net label p q) (sym c.in_ok-core.ensures)
          (near_listed c.args.design.now.net label parts.count made near p q part);
    }
