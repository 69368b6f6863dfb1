use Rattle.std.proofs.Common.{◌<◌, length, get_or, arith}
use Rattle.std.proofs.lemmas.Option.{slice_get_within}
use Rattle.xm_board.proofs.Telling.{rest_more, risen_more}
use Rattle.xm_board.specs.Inner.Posting.{IsRisen}
use Rattle.xm_board.proofs.posting.rise_all.Goals as goal

pub loop-p-preserved : goal.loop-p-preserved
loop-p-preserved c =
    let old = c.args.logs.now in let now = c.loop-p.logs in let p = c.loop-p.p in
    let inside : p < length now = (let long = c.loop-p.auto.logs in omega arith) in
    let here : IsRisen (get_or now p c.index-logs-p.result) c.rise.new.self = record { rows = c.rise.ensures.log; changes = c.rise.ensures.changes; room = c.rise.ensures.room } in
    record {
      risen = risen_more old now p c.rise.new.self c.index-logs-p.result inside here c.loop-p.invariant.rest c.loop-p.invariant.risen;
      rest = rest_more old now p c.rise.new.self c.index-logs-p.result inside here c.loop-p.invariant.rest;
    }

pub returns : goal.returns
returns c = record {
  whole = c.loop-p.auto.logs;
  each = λ p was log at_old at_new. c.loop-p.invariant.risen p was log (let within = slice_get_within c.args.logs.now p was at_old in omega arith) at_old at_new;
}
