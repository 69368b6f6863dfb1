use Rattle.std.proofs.Common.{length-append, get_or, ap, ◌∙◌, arith}
use Rattle.std.specs.Prelude.{cond}
use Rattle.xm_parts.proofs.Building.{place_few, place_on}
use Rattle.xm_parts.proofs.Grouping.{number_more, numbers_push}
use Rattle.xm_parts.specs.Inner.Grouped.{is_least}
use Rattle.xm_parts.specs.Kept.{label_at}
use Rattle.xm_parts.proofs.islands_of.numbers.Goals as goal

pub overflow_add-next : goal.overflow_add-next
overflow_add-next c =
    let n = c.loop-c.invariant.next in let few = place_few (is_least (label_at c.args.labels.now)) c.loop-c.c in
    let all = c.requires.few in let one = c.first_count-next.ensures.few in let below = c.loop-c-test.true in
    omega arith

pub loop-c-preserved : goal.loop-c-preserved
loop-c-preserved c =
    let f = label_at c.args.labels.now in
    let more = place_on (is_least f) c.loop-c.c in
    let low = c.requires.below c.loop-c.c c.loop-c-test.true in
    let number = number_more c.args.labels.now c.loop-c.made.items c.loop-c.c c.loop-c.next c.number_at-number.result low (c.requires.own c.loop-c.c c.loop-c-test.true) c.loop-c.invariant.next c.loop-c.invariant.each
    (c.number_at-number.ensures ∙ ap (λ (xs : _). cond (is_least f c.loop-c.c) c.loop-c.next (get_or xs (f c.loop-c.c) 0)) c.as_slice.ensures) in
    record {
      whole = rw c.in_ok-push.ensures.ok (simp length-append (let w = c.loop-c.invariant.whole in omega arith));
      next = (let n = c.loop-c.invariant.next in let k = c.first_count-next.ensures.count in omega arith);
      each = rw c.in_ok-push.ensures.ok (numbers_push f c.loop-c.made.items c.number_at-number.result c.loop-c.c c.loop-c.invariant.whole c.loop-c.invariant.each number);
    }
