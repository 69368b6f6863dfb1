use Rattle.xm_commands.proofs.Demonstrated.{only_memory_of_tape, some_cycles, taped}
use Rattle.xm_commands.proofs.Ran.{lent_value}
use Rattle.xm_commands.proofs.demonstrating.text_of_prepared.Goals as goal

pub text_of_tape-requires-clause-some : goal.text_of_tape-requires-clause-some
text_of_tape-requires-clause-some g c κs within =
    let it = c.args.it in
    let prepared = c.args.prepared.now in
    let seen = lent_value prepared.tape c.as_ref.result c.as_ref.ensures.value in
    let read = taped it.size it.seed prepared c.requires.generated _ seen c.in-Ok.tape c.in-Ok.ensures.exact in
    some_cycles it.size it.seed c.in-Ok.tape c.requires.demonstrable.1 c.requires.demonstrable.5 read

pub only_memory_of_tape-requires : goal.only_memory_of_tape-requires
only_memory_of_tape-requires g c =
    let it = c.args.it in
    let prepared = c.args.prepared.now in
    let fits = c.requires.demonstrable in
    let seen = lent_value prepared.tape c.as_ref.result c.as_ref.ensures.value in
    let runs = c.generated_runs.ensures it.size it.seed fits.0 fits.1 fits.5 in
    only_memory_of_tape it.size it.seed prepared c.requires.generated _ seen runs c.in-Err.fault c.in-Err.ensures.exact
