use Rattle.std.proofs.Common.{◌≡◌, ◌+◌, ◌-◌, ◌∙◌, ℕ, ap, arith, suc, sym}
use Rattle.xm_tape.specs.Draws.{number_after}
use Rattle.xm_tape.proofs.draws.row_skipped.Goals as goal

pub loop-o-preserved : goal.loop-o-preserved
loop-o-preserved c =
    let rest = c.args.width - (c.loop-o.o + 1) in
    let left : c.args.width - c.loop-o.o ≡ suc rest = omega (arith, c.loop-o-test.true) in
    ap (number_after rest) c.next_number-number.ensures ∙ ap (λ (n : ℕ). number_after n c.loop-o.number) (sym left) ∙ c.loop-o.invariant
