use Rattle.std.proofs.Common.{arith, rules}
use Rattle.xm_commands.proofs.Calls.{demonstrated_within}
use Rattle.xm_commands.specs.declared.call.Demonstration.{Demonstration}
use Rattle.xm_commands.proofs.demonstration_words.demonstration_by.Goals as goal

pub overflow_cast-result : goal.overflow_cast-result
overflow_cast-result c =
    let asked : Demonstration = record { size = c.in-Some.size; seed = c.in-Some.seed; parts = c.in-Some.parts; workers = c.in-Some.workers } in
    let within = demonstrated_within c.args.values.now asked c.requires (search rules) in
    omega (arith, within.1)

pub overflow_cast-result-in-Some : goal.overflow_cast-result-in-Some
overflow_cast-result-in-Some c =
    let asked : Demonstration = record { size = c.in-Some.size; seed = c.in-Some.seed; parts = c.in-Some.parts; workers = c.in-Some.workers } in
    let within = demonstrated_within c.args.values.now asked c.requires (search rules) in
    omega (arith, within.3)

pub overflow_cast-result-in-Some-2 : goal.overflow_cast-result-in-Some-2
overflow_cast-result-in-Some-2 c =
    let asked : Demonstration = record { size = c.in-Some.size; seed = c.in-Some.seed; parts = c.in-Some.parts; workers = c.in-Some.workers } in
    let within = demonstrated_within c.args.values.now asked c.requires (search rules) in
    omega (arith, within.4)

pub returns-in-Some-clause-within : goal.returns-in-Some-clause-within
returns-in-Some-clause-within c =
    let asked : Demonstration = record { size = c.in-Some.size; seed = c.in-Some.seed; parts = c.in-Some.parts; workers = c.in-Some.workers } in
    demonstrated_within c.args.values.now asked c.requires (search rules)
