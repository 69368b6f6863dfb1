use Rattle.xm_commands.proofs.Demonstrated.{are_totals}
use Rattle.xm_commands.proofs.demonstrating.simulated_totals.Goals as goal

pub returns-in-Ok : goal.returns-in-Ok
returns-in-Ok g c = are_totals c.one_run.ensures c.args.prepared.now.design c.is_designed.ensures c.args.tape.now c.in-Ok.told.totals.items c.in-Ok.ensures.totals
