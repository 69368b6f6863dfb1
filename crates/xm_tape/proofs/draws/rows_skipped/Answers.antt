use Rattle.std.proofs.Common.{◌≡◌, ◌+◌, ◌-◌, ◌*◌, ◌∙◌, ℕ, ap, arith, sym}
use Rattle.xm_tape.specs.Draws.{number_after}
use Rattle.xm_tape.proofs.Drawing.{left_of, number_after-add}
use Rattle.xm_tape.proofs.draws.rows_skipped.Goals as goal

pub loop-t-preserved : goal.loop-t-preserved
loop-t-preserved c =
    let rest = c.args.rows - (c.loop-t.t + 1) in
    let left : (c.args.rows - c.loop-t.t) * c.args.width ≡ c.args.width + rest * c.args.width = left_of c.args.rows c.loop-t.t c.args.width c.loop-t-test.true in
    ap (number_after (rest * c.args.width)) c.row_skipped-number.ensures
    ∙ sym (number_after-add c.args.width (rest * c.args.width) c.loop-t.number)
    ∙ ap (λ (n : ℕ). number_after n c.loop-t.number) (sym left)
    ∙ c.loop-t.invariant

pub returns : goal.returns
returns c =
    let none : 0 ≡ (c.args.rows - c.loop-t.t) * c.args.width = (let e : c.args.rows - c.loop-t.t ≡ 0 = omega (arith, c.loop-t-test.false) in omega (arith, ap (λ (i : ℕ). i * c.args.width) e)) in
    ap (λ (n : ℕ). number_after n c.loop-t.number) none ∙ c.loop-t.invariant
