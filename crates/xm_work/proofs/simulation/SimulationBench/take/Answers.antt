use Rattle.xm_work.proofs.Taking.{simulating_taken}
use Rattle.xm_work.proofs.simulation.SimulationBench.take.Goals as goal

pub invariant_of-self-2 : goal.invariant_of-self-2
invariant_of-self-2 c = simulating_taken _ c.self.invariant c.take.new.self c.in_ok-job.field-0 c.take.ensures.run c.in_ok-job.ensures.take
