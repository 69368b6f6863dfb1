use Rattle.xm_order.proofs.OneFrame as frames
use Rattle.xm_order.proofs.OneRun as law
use Rattle.xm_order.proofs.laws.one_run.Goals as goal

pub returns : goal.returns
returns c = law.one_run frames.one_frame
