use Rattle.std.proofs.Common.{arith}
use Rattle.xm_commands.proofs.Simulated.{none_taken}
use Rattle.xm_commands.proofs.simulating.write_simulated.Goals as goal

pub returns-in-Ok-clause-taken : goal.returns-in-Ok-clause-taken
returns-in-Ok-clause-taken g c =
    let none = none_taken c.args.prepared.now.design.net c.args.tape.now c.args.it.now.watch (omega arith) in
    rw c.new.ensures.items none
