use Rattle.std.proofs.Common.{arith, pos}
use Rattle.std.proofs.lemmas.List.{take_more}
use Rattle.xm_model.specs.Naming.{naming_of}
use Rattle.xm_report.proofs.Zipping.{lines_go_on}
use Rattle.xm_report.specs.Search.{packets_line}
use Rattle.xm_report.proofs.search.push_counts.Goals as goal

pub loop-k-preserved : goal.loop-k-preserved
loop-k-preserved c =
    let pairs = c.args.it.now.pairs.now in let counts = c.args.counts.now in let below = c.loop-k-test.true in
    lines_go_on (packets_line (naming_of c.args.it.now.names.now)) pairs counts c.loop-k.k _ _ c.args.text.now.items c.loop-k.text.items c.push_packets.new.text.items (omega (arith, below))
    (omega (arith, below, c.requires)) (take_more pairs c.loop-k.k _ below) (take_more counts c.loop-k.k (pos 0) (omega (arith, below, c.requires))) c.loop-k.invariant c.in_ok-push_packets.ensures
