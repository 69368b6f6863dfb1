use Rattle.xm_model.specs.Views.{signals_of}
use Rattle.xm_step.proofs.Quiet.{quiet_went}
use Rattle.xm_step.proofs.advance.advance_other.Goals as goal

pub returns-then-is_quiet-clause-gone : goal.returns-then-is_quiet-clause-gone
returns-then-is_quiet-clause-gone g c = λ m can standing.
    quiet_went c.args.holding.now m _ (signals_of c.args.wires.now) can (standing c.if-stays.true) (c.is_quiet.ensures c.if-is_quiet.true)
