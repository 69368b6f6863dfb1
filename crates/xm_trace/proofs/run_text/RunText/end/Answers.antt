use Rattle.xm_model.specs.Naming.{naming_of}
use Rattle.xm_trace.proofs.RoundAdded.{had_ended}
use Rattle.xm_trace.proofs.run_text.RunText.end.Goals as goal

pub returns : goal.returns
returns c φ had =
    had_ended _ _ c.self.view_is (naming_of c.args.names.now) φ c.new-text.result.items c.as_slice.result.now c.push_end.new.text.items c.requires.named had c.new-text.ensures.items c.as_slice.ensures c.in_ok-push_end.ensures
