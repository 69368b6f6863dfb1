use Rattle.std.proofs.Common.{◌<◌, length, get_or, refl, ap, sym, ◌∙◌, subst, arith}
use Rattle.std.proofs.lemmas.Option.{slice_get-get_or, slice_get_read, slice_get_within}
use Rattle.xm_board.proofs.Beginning.{hears_more}
use Rattle.xm_design.specs.Designed.{Designed}
use Rattle.xm_model.specs.Net.{Network}
use Rattle.xm_parts.specs.Kept.{label_at}
use Rattle.xm_parts.specs.Partition.{AreNeighbours}
use Rattle.xm_board.proofs.starting.hear.Goals as goal

pub bounds-logs-q : goal.bounds-logs-q
bounds-logs-q c =
    let near = c.neighbours-near.result.now in let k = c.loop-k.k in
    let found = c.neighbours-near.ensures.near.near k (get_or near k 0) (slice_get-get_or near k 0 c.loop-k-test.true) in
    let inside = (c.neighbours-near.ensures.others (get_or near k 0) found).0 in
    let whole = c.requires.whole in
    omega arith

pub far-requires-clause-from : goal.far-requires-clause-from
far-requires-clause-from c =
    let near = c.neighbours-near.result.now in let k = c.loop-k.k in
    let found = c.neighbours-near.ensures.near.near k (get_or near k 0) (slice_get-get_or near k 0 c.loop-k-test.true) in
    (c.neighbours-near.ensures.others (get_or near k 0) found).0

pub far-requires-clause-row : goal.far-requires-clause-row
far-requires-clause-row c =
    let near = c.neighbours-near.result.now in let k = c.loop-k.k in let q = get_or near k 0 in let logs = c.args.logs.now in
    let found = c.neighbours-near.ensures.near.near k q (slice_get-get_or near k 0 c.loop-k-test.true) in
    let inside : q < length logs = (let part = (c.neighbours-near.ensures.others q found).0 in let whole = c.requires.whole in omega arith) in
    c.requires.wires q c.index-logs-q.result (slice_get_read logs (length logs) q c.index-logs-q.result refl inside c.index-logs-q.is)

pub loop-k-preserved : goal.loop-k-preserved
loop-k-preserved c =
    let near = c.neighbours-near.result.now in let k = c.loop-k.k in let q = get_or near k 0 in let logs = c.args.logs.now in
    let net = c.args.design.now.net in let label = label_at c.args.parts.now.labels in
    let at = slice_get-get_or near k 0 c.loop-k-test.true in
    let found = c.neighbours-near.ensures.near.near k q at in
    let inside : q < length logs = (let part = (c.neighbours-near.ensures.others q found).0 in let whole = c.requires.whole in omega arith) in
    let there = slice_get_read logs (length logs) q c.index-logs-q.result refl inside c.index-logs-q.is in
    record {
      whole = c.far.ensures.whole ∙ c.loop-k.invariant.whole;
      heard = hears_more net label c.args.p logs near k q c.index-logs-q.result c.loop-k.to c.far.new.to at there c.far.ensures c.loop-k.invariant.heard;
    }

pub returns : goal.returns
returns c = record {
  whole = c.loop-k.invariant.whole;
  heard = λ q log φ is_near at e.
      let found = c.neighbours-near.ensures.near.whole q (subst (λ (n : Network). AreNeighbours n (label_at c.args.parts.now.labels) c.args.p q) (ap (λ (d : Designed). d.net) (sym c.requires.design)) is_near) in
      c.loop-k.invariant.heard found.0 q log φ (let within = slice_get_within c.neighbours-near.result.now found.0 q found.1 in omega arith) found.1 at e;
}
