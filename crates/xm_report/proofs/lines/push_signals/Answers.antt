use Rattle.std.proofs.lemmas.List.{take_more}
use Rattle.xm_model.specs.Naming.{naming_of}
use Rattle.xm_report.proofs.Joining.{text_goes_on}
use Rattle.xm_report.proofs.lines.push_signals.Goals as goal

pub loop-k-preserved : goal.loop-k-preserved
loop-k-preserved c =
    text_goes_on (naming_of c.args.names.now) c.args.signals.now c.loop-k.k _ c.args.text.now.items c.loop-k.text.items c.push_comma.new.text.items _ c.loop-k-test.true (take_more c.args.signals.now c.loop-k.k _ c.loop-k-test.true) c.loop-k.invariant c.in_ok-push_comma.ensures c.in_ok-push_signal.ensures
