use Rattle.std.proofs.Common.{ap, ◌∙◌, ◌≤◌, length, arith}
use Rattle.xm_colours.proofs.Reading.{pairs_of, pairs_word}
use Rattle.xm_colours.specs.Inner.Words.{sets_of}
use Rattle.xm_colours.proofs.colours.Colours.pairs.Goals as goal

pub overflow_add-count : goal.overflow_add-count
overflow_add-count c =
    let few = c.loop-word.invariant.few in
    let more = c.count_below.ensures.few in
    let words : length c.as_slice-word-items.result.now ≤ 8192 = rw c.as_slice-word-items.ensures c.self.invariant in
    omega arith

pub loop-word-preserved : goal.loop-word-preserved
loop-word-preserved c = record {
  number = pairs_word c.as_slice-word-items.result.now c.loop-word.word-index c.loop-word.count c.count_below.result c.loop-word-test.true c.loop-word.invariant.number c.count_below.ensures.number;
  few = let few = c.loop-word.invariant.few in let more = c.count_below.ensures.few in omega arith;
}

pub returns : goal.returns
returns c =
    pairs_of c.args.self.now c.as_slice-word-items.result.now c.loop-word.word-index c.loop-word.count (ap sets_of c.as_slice-word-items.ensures ∙ c.self.view_is)
    (let past = c.loop-word-test.false in let within = c.loop-word.auto.word-index-end in omega arith) c.loop-word.invariant.number
