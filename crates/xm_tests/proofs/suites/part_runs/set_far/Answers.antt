use Rattle.std.proofs.Common.{◌<◌, ℕ, length, get_or, refl, ap, ◌∙◌, arith}
use Rattle.std.proofs.lemmas.Option.{slice_get-get_or, slice_get_read, slice_get_within}
use Rattle.xm_parts.specs.Kept.{label_at}
use Rattle.xm_parts.specs.Projection.{Row}
use Rattle.xm_tests.proofs.Stepped.{set_more}
use Rattle.xm_tests.proofs.suites.part_runs.set_far.Goals as goal

pub far-requires-clause-row : goal.far-requires-clause-row
far-requires-clause-row c =
    let q : ℕ = get_or c.args.near.now c.loop-k.k 0 in
    let near = slice_get-get_or c.args.near.now c.loop-k.k 0 c.loop-k-test.true in
    let below : q < length c.args.rows.now = (let few = c.requires.near c.loop-k.k q near in let whole = c.requires.rows.of.whole in omega arith) in
    let at = slice_get_read c.args.rows.now (length c.args.rows.now) q c.index-rows-q.result refl below c.index-rows-q.is in
    (c.requires.rows.of.roomy q c.index-rows-q.result at).fits.wires

pub far-requires-clause-room : goal.far-requires-clause-room
far-requires-clause-room c = c.loop-k.invariant.size

pub loop-k-init : goal.loop-k-init
loop-k-init c = record {
  size = c.requires.room;
  set = λ s φ of k q less at. absurd (omega arith);
}

pub loop-k-preserved : goal.loop-k-preserved
loop-k-preserved c =
    let net = c.args.design.now.net in let label = label_at c.args.parts.now.labels in
    let q : ℕ = get_or c.args.near.now c.loop-k.k 0 in
    let near = slice_get-get_or c.args.near.now c.loop-k.k 0 c.loop-k-test.true in
    let below : q < length c.args.rows.now = (let few = c.requires.near c.loop-k.k q near in let whole = c.requires.rows.of.whole in omega arith) in
    let at = slice_get_read c.args.rows.now (length c.args.rows.now) q c.index-rows-q.result refl below c.index-rows-q.is in
    record {
      size = c.far.ensures.whole ∙ c.loop-k.invariant.size;
      set = λ s φ of. set_more net label c.args.p q φ c.loop-k.moves c.far.new.to c.index-rows-q.result.wires.items c.far.ensures (ap (λ (r : Row). r.wires) (of.are q c.index-rows-q.result at))
          c.args.near.now c.loop-k.k near (c.loop-k.invariant.set s φ of);
    }

pub returns-clause-room : goal.returns-clause-room
returns-clause-room c = c.loop-k.invariant.size

pub returns-clause-set : goal.returns-clause-set
returns-clause-set c s φ of k q less at = c.loop-k.invariant.set s φ of k q (let h = slice_get_within c.args.near.now k q at in let e = c.loop-k-test.false in omega arith) at
