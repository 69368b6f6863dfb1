use Rattle.std.proofs.Common.{◌+◌, ◌∙◌, ◌++◌, ◌∷◌, [], ap, sym, subst, arith, pos, to_z, of_z, ◌-ℤ◌}
use Rattle.std.specs.Int.{w128}
use Rattle.xm_model.specs.ListView.{ListView}
use Rattle.xm_rows.specs.declared.row.Entry.{Entry}
use Rattle.xm_lp.specs.Answer.{number_at}
use Rattle.xm_lp.specs.Inner.Minus.{AreMinus}
use Rattle.xm_lp.proofs.Minusing.{AreMinusBelow, minus_pushed, minus_passed, minus_done, turned_value, zero_value}
use Rattle.xm_lp.proofs.start.minus.Goals as goal
use Rattle.xm_lp.proofs.start.minus.Goals.{then-total-ne0+in_ok-push, else-total-ne0}

pub loop-total-preserved : goal.loop-total-preserved
loop-total-preserved c =
    let i = c.loop-total.total-index in
    let column = c.loop-total.invariant.0 in
    let below = c.loop-total.invariant.1 in
    let fits = c.requires.fit i in (
      omega (arith, column),
      elim c.if-total-ne0.branch [
        | then-total-ne0+in_ok-push w ↦
            let test = w.if-total-ne0.true in
            let value = turned_value (number_at c.args.sums.now i) fits in
            let pushed = ap (λ (l : ListView Entry). l.items) w.entries-is ∙ w.in_ok-push.ensures.ok
            ∙ ap (λ n. c.loop-total.entries.items ++ record { column = n; value = to_z w128 (of_z w128 (pos 0 -ℤ to_z w128 (of_z w128 (number_at c.args.sums.now i)))) } ∷ []) column in
            subst (AreMinusBelow c.args.sums.now (i + 1)) (sym pushed)
            (minus_pushed c.args.sums.now i c.loop-total.entries.items (to_z w128 (of_z w128 (pos 0 -ℤ to_z w128 (of_z w128 (number_at c.args.sums.now i))))) below (λ none. test (ap (of_z w128) none)) fits value)
        | else-total-ne0 w ↦
            let test = w.if-total-ne0.false in
            subst (AreMinusBelow c.args.sums.now (i + 1)) (sym (ap (λ (l : ListView Entry). l.items) w.entries-is))
            (minus_passed c.args.sums.now i c.loop-total.entries.items below (zero_value (number_at c.args.sums.now i) fits test))
      ],
    )

pub returns : goal.returns
returns c =
    let i = c.loop-total.total-index in
    let past = c.loop-total-test.false in
    let end = c.loop-total.auto.total-index-end in
    let order = c.requires.order in
    subst (AreMinus c.args.sums.now c.args.objective) (sym c.in_ok-push-2.ensures.ok)
    (minus_done c.args.sums.now i c.args.objective c.loop-total.entries.items c.loop-total.invariant.1 (omega (arith, past, end)) (omega (arith, end, order)))
