use Rattle.std.proofs.Common.{arith, rules}
use Rattle.xm_commands.proofs.Shares.{asked_within}
use Rattle.xm_commands.specs.declared.command.Simulation.{Simulation}
use Rattle.xm_commands.proofs.simulation_words.simulation_by.Goals as goal

pub overflow_cast-result : goal.overflow_cast-result
overflow_cast-result c =
    let asked : Simulation = record { parts = c.in-Some.parts; workers = c.in-Some.workers; watch = c.unwrap_or-watch.result } in
    let within = asked_within c.args.values.now asked c.requires (search rules) in
    omega (arith, within.0.1)

pub overflow_cast-result-in-Some : goal.overflow_cast-result-in-Some
overflow_cast-result-in-Some c =
    let asked : Simulation = record { parts = c.in-Some.parts; workers = c.in-Some.workers; watch = c.unwrap_or-watch.result } in
    let within = asked_within c.args.values.now asked c.requires (search rules) in
    omega (arith, within.0.2)

pub overflow_cast-result-in-Some-2 : goal.overflow_cast-result-in-Some-2
overflow_cast-result-in-Some-2 c =
    let asked : Simulation = record { parts = c.in-Some.parts; workers = c.in-Some.workers; watch = c.unwrap_or-watch.result } in
    let within = asked_within c.args.values.now asked c.requires (search rules) in
    omega (arith, within.1)

pub returns-in-Some-clause-within : goal.returns-in-Some-clause-within
returns-in-Some-clause-within c =
    let asked : Simulation = record { parts = c.in-Some.parts; workers = c.in-Some.workers; watch = c.unwrap_or-watch.result } in
    (asked_within c.args.values.now asked c.requires (search rules)).0
