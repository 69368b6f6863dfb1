use Rattle.std.proofs.Common.{◌≡◌, suc, ◌+◌, ◌-◌, ◌*◌, ◌≤◌, length, ap, arith, sym}
use Rattle.std.proofs.Math.Nat.{mul-le-mul_right}
use Rattle.xm_tape.proofs.Repeating.{row_taken}
use Rattle.xm_tape.proofs.written.WrittenTape.at.Goals as goal

pub slice_bounds-result-end : goal.slice_bounds-result-end
slice_bounds-result-end c =
    let h = c.self.inside in
    let taken = row_taken h.choices.items h.width h.stem h.cycle h.times c.args.t c.args.self.now c.row.result c.self.view_is c.requires c.row.ensures in
    let whole : suc c.row.result * h.width ≤ (h.stem + h.cycle) * h.width = mul-le-mul_right h.width (omega (arith, taken.1)) in
    let fact : c.row.result * h.width + h.width ≤ length c.as_slice.result.now = omega (arith, whole, ap length c.as_slice.ensures, c.self.invariant.whole) in
    omega (arith, fact)

pub returns : goal.returns
returns c =
    let h = c.self.inside in
    let taken = row_taken h.choices.items h.width h.stem h.cycle h.times c.args.t c.args.self.now c.row.result c.self.view_is c.requires c.row.ensures in
    let wide : c.row.result * h.width + h.width - c.row.result * h.width ≡ h.width = omega arith in
    rw (wide, c.as_slice.ensures) (sym taken.0)
