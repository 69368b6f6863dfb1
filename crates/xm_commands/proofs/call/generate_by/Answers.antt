use Rattle.std.proofs.Common.{rules, arith}
use Rattle.xm_commands.proofs.Calls.{generated_within}
use Rattle.xm_commands.specs.declared.call.Call.TheVariants as call
use Rattle.xm_commands.proofs.call.generate_by.Goals as goal

pub overflow_cast-result : goal.overflow_cast-result
overflow_cast-result c =
    let within = generated_within c.args.values.now (call.Generate c.in-Some.size c.in-Some.seed) c.requires (search rules) in
    omega (arith, within.1)

pub returns-in-Some-clause-within : goal.returns-in-Some-clause-within
returns-in-Some-clause-within c = generated_within c.args.values.now (call.Generate c.in-Some.size c.in-Some.seed) c.requires (search rules)
