use Rattle.std.proofs.Common.{◌≡◌, ◌<◌, ℕ, length, get_or, nat_eq, arith, ◌∙◌, subst, sym, ap}
use Rattle.std.proofs.lemmas.Option.{slice_get-get_or, slice_get_within}
use Rattle.xm_board.proofs.Telling.{heard_more, told_more}
use Rattle.xm_board.specs.Core.{cycle}
use Rattle.xm_board.specs.Inner.Posting.{HasHeard, IsTold}
use Rattle.xm_design.specs.Designed.{Designed}
use Rattle.xm_model.specs.Net.{Network}
use Rattle.xm_parts.specs.Kept.{label_at}
use Rattle.xm_parts.specs.Partition.{AreNeighbours}
use Rattle.xm_board.proofs.posting.tell.Goals as goal

pub bounds-all-q : goal.bounds-all-q
bounds-all-q c =
    let near = c.neighbours-near.result.now in let k = c.loop-k.k in
    let found = c.neighbours-near.ensures.near.near k (get_or near k 0) (slice_get-get_or near k 0 c.loop-k-test.true) in
    let inside = (c.neighbours-near.ensures.others (get_or near k 0) found).0 in
    let long = c.loop-k.auto.all in let whole = c.requires.whole in
    omega arith

pub tell_one-requires-clause-to : goal.tell_one-requires-clause-to
tell_one-requires-clause-to c =
    let near = c.neighbours-near.result.now in let k = c.loop-k.k in
    let found = c.neighbours-near.ensures.near.near k (get_or near k 0) (slice_get-get_or near k 0 c.loop-k-test.true) in
    (c.neighbours-near.ensures.others (get_or near k 0) found).0

pub tell_one-requires-clause-now : goal.tell_one-requires-clause-now
tell_one-requires-clause-now c =
    let near = c.neighbours-near.result.now in let k = c.loop-k.k in let q = get_or near k 0 in
    let found = c.neighbours-near.ensures.near.near k q (slice_get-get_or near k 0 c.loop-k-test.true) in
    let part = (c.neighbours-near.ensures.others q found).0 in
    let long = c.loop-k.auto.all in let whole = c.requires.whole in
    let inside : q < length c.loop-k.all = omega arith in
    let old : q < length c.args.all.now = omega arith in
    let was = slice_get-get_or c.args.all.now q c.index-all-q.result old in
    (c.loop-k.invariant.each q _ _ was (slice_get-get_or c.loop-k.all q c.index-all-q.result inside)).now_whole ∙ c.requires.now q _ was

pub tell_one-requires-clause-next : goal.tell_one-requires-clause-next
tell_one-requires-clause-next c =
    let near = c.neighbours-near.result.now in let k = c.loop-k.k in let q = get_or near k 0 in
    let found = c.neighbours-near.ensures.near.near k q (slice_get-get_or near k 0 c.loop-k-test.true) in
    let part = (c.neighbours-near.ensures.others q found).0 in
    let long = c.loop-k.auto.all in let whole = c.requires.whole in
    let inside : q < length c.loop-k.all = omega arith in
    let old : q < length c.args.all.now = omega arith in
    let was = slice_get-get_or c.args.all.now q c.index-all-q.result old in
    (c.loop-k.invariant.each q _ _ was (slice_get-get_or c.loop-k.all q c.index-all-q.result inside)).next_whole ∙ c.requires.next q _ was

pub loop-k-preserved : goal.loop-k-preserved
loop-k-preserved c =
    let near = c.neighbours-near.result.now in let k = c.loop-k.k in let q = get_or near k 0 in
    let net = c.args.design.now.net in let label = label_at c.args.parts.now.labels in let p = c.args.p in
    let wires = c.args.row.now.wires.items in let level = λ (r : ℕ). nat_eq (cycle c.args.core.now r) c.args.t in
    let at = slice_get-get_or near k 0 c.loop-k-test.true in
    let found = c.neighbours-near.ensures.near.near k q at in
    let part = (c.neighbours-near.ensures.others q found).0 in
    let long = c.loop-k.auto.all in let whole = c.requires.whole in
    let inside : q < length c.loop-k.all = omega arith in
    let same : c.cycle.result ≡ cycle c.args.core.now q = c.cycle.ensures in
    let told = subst (λ (n : ℕ). IsTold net label p q (nat_eq n c.args.t) (get_or c.loop-k.all q c.index-all-q.result) c.tell_one.new.it) same c.tell_one.ensures.told in
    let heard = subst (λ (n : ℕ). HasHeard net label p q wires (nat_eq n c.args.t) c.tell_one.new.it) same c.tell_one.ensures.heard in
    record {
      each = told_more net label p wires level c.args.all.now c.loop-k.all near k q c.tell_one.new.it c.index-all-q.result at inside told heard c.loop-k.invariant.each;
      heard = heard_more net label p wires level c.args.all.now c.loop-k.all near k q c.tell_one.new.it c.index-all-q.result at inside told heard c.loop-k.invariant.heard;
    }

pub returns : goal.returns
returns c = record {
  whole = c.loop-k.auto.all;
  each = c.loop-k.invariant.each;
  heard = λ q it is_near at.
      let found = c.neighbours-near.ensures.near.whole q (subst (λ (n : Network). AreNeighbours n (label_at c.args.parts.now.labels) c.args.p q) (ap (λ (d : Designed). d.net) (sym c.requires.design)) is_near) in
      c.loop-k.invariant.heard found.0 q it (let within = slice_get_within c.neighbours-near.result.now found.0 q found.1 in omega arith) found.1 at;
}
