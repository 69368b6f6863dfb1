use Rattle.std.proofs.Common.{◌+◌, ◌<◌, get_or, take, subst, sym, arith}
use Rattle.std.proofs.lemmas.List.{take_all, take_more}
use Rattle.std.proofs.lemmas.List.Elements.{All-more, All-nil, All-weaker}
use Rattle.xm_colours.specs.Family.{Rises}
use Rattle.xm_elim.proofs.Placing.{rise_push}
use Rattle.xm_elim.proofs.rising.is_rising.Goals as goal

pub loop-p-init : goal.loop-p-init
loop-p-init c = record { rise = tt; low = All-nil (λ q. q < 0) }

pub loop-p-preserved : goal.loop-p-preserved
loop-p-preserved c =
    let places = c.args.places.now in
    let i = c.loop-p.p-index in
    let p = get_or places i 0 in
    let high = c.if-p-lowest.false in
    let low = All-weaker (λ q. q < c.loop-p.lowest) (λ q. q < p) (λ q less. omega arith) (take i places) c.loop-p.invariant.low in
    record {
      rise = subst Rises (sym (take_more places i 0 c.loop-p-test.true)) (rise_push (take i places) p c.loop-p.invariant.rise low);
      low = All-more (λ q. q < p + 1) places i 0 c.loop-p-test.true (All-weaker (λ q. q < p) (λ q. q < p + 1) (λ q less. omega arith) (take i places) low) (omega arith);
    }

pub returns : goal.returns
returns c = λ done. subst Rises (take_all c.loop-p.p-index c.args.places.now c.loop-p-test.false) c.loop-p.invariant.rise
