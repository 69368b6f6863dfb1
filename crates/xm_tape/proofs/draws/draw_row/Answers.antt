use Rattle.std.proofs.Common.{◌≡◌, ◌+◌, ◌-◌, ◌<◌, ◌∙◌, ap, arith, length, suc, sym, take}
use Rattle.std.proofs.lemmas.List.{take_more_set}
use Rattle.xm_tape.specs.Draws.{number_after}
use Rattle.xm_tape.proofs.Drawing.{drawn_more}
use Rattle.xm_tape.proofs.draws.draw_row.Goals as goal

pub loop-k-preserved : goal.loop-k-preserved
loop-k-preserved c =
    let before = c.loop-k.invariant in
    let os = c.args.oracles.now in
    let k = c.loop-k.k in
    let rest = length os - (k + 1) in
    let left : length os - k ≡ suc rest = omega (arith, c.loop-k-test.true) in
    let within : k < length c.loop-k.row = omega (arith, c.loop-k-test.true, c.requires, c.loop-k.auto.row) in
    record {
      row = drawn_more os k c.loop-k.number c.next_number-number.result c.index-oracles-k.result (take k c.loop-k.row) _ c.choice_drawn.result _ c.loop-k-test.true c.index-oracles-k.is c.next_number-number.ensures c.choice_drawn.ensures
          (take_more_set c.loop-k.row k c.choice_drawn.result within) before.row;
      number = ap (number_after rest) c.next_number-number.ensures ∙ ap (λ n. number_after n c.loop-k.number) (sym left) ∙ before.number;
    }
