use Rattle.xm_commands.proofs.Demonstrated.{only_memory}
use Rattle.xm_commands.specs.declared.command.Command.TheVariants as command
use Rattle.xm_generate.specs.Generated.{generated}
use Rattle.xm_commands.proofs.demonstrating.demonstration_text.Goals as goal

pub only_memory-requires : goal.only_memory-requires
only_memory-requires g c =
    let it = c.args.it in
    let runs = c.generated_runs.ensures it.size it.seed c.requires.0 c.requires.1 c.requires.5 in
    only_memory (generated it.size it.seed) runs c.in_ok-document.document.items c.in_ok-document.ensures.again c.in-Err.refusal (rw c.as_bytes.ensures at (c.in-Err.ensures.err command.Check))
