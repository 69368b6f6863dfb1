use Rattle.std.proofs.lemmas.Result.{IfOk-weaker}
use Rattle.xm_trace.proofs.RoundAdded.{had_totals}
use Rattle.xm_trace.proofs.run_text.RunText.totals.Goals as goal

pub returns : goal.returns
returns c φ had =
    IfOk-weaker c.totals_of.result _ _ (λ totals made. had_totals _ _ φ c.as_slice.result.now totals.items c.self.view_is had c.as_slice.ensures made) c.totals_of.ensures
