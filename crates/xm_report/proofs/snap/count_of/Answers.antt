use Rattle.std.proofs.Common.{ℕ, arith, nat_eq, get_or, eq-eqb}
use Rattle.std.proofs.lemmas.Bool.{cond-true, cond-false, ne_eqb}
use Rattle.xm_report.proofs.Holding.{times_more}
use Rattle.xm_report.proofs.snap.count_of.Goals.{then-packets-i, else-packets-i}
use Rattle.xm_report.proofs.snap.count_of.Goals as goal

pub loop-i-preserved : goal.loop-i-preserved
loop-i-preserved c =
    let more = times_more c.args.d c.args.packets.now c.loop-i.i 0 c.loop-i-test.true in
    let x = get_or c.args.packets.now c.loop-i.i 0 in
    elim c.if-packets-i.branch [
      | then-packets-i w ↦
          let one = eq-eqb x c.args.d w.if-packets-i.true in
          let plus = cond-true {A = ℕ} (nat_eq x c.args.d) 1 0 one in
          record { now = omega (arith, w.count-is, c.loop-i.invariant.now, more, plus); few = omega (arith, w.count-is, c.loop-i.invariant.few) }
      | else-packets-i w ↦
          let none = ne_eqb x c.args.d w.if-packets-i.false in
          let plus = cond-false {A = ℕ} (nat_eq x c.args.d) 1 0 none in
          record { now = omega (arith, w.count-is, c.loop-i.invariant.now, more, plus); few = omega (arith, w.count-is, c.loop-i.invariant.few) }
    ]
