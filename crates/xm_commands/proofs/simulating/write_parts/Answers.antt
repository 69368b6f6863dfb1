use Rattle.xm_commands.proofs.Simulated.{taken}
use Rattle.xm_work.specs.Simulating.{is_snapshot_of}
use Rattle.xm_commands.proofs.simulating.write_parts.Goals as goal

pub returns-in-Ok-clause-taken : goal.returns-in-Ok-clause-taken
returns-in-Ok-clause-taken g c =
    taken is_snapshot_of _ c.args.prepared.now.design.net c.args.tape.now c.args.it.now.watch _ (λ x is. is) c.requires.some c.in-Ok.ensures.snapshots c.in-Ok.ensures.none_missing
