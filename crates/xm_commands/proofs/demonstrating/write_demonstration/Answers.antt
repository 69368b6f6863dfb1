use Rattle.xm_commands.proofs.Calls.{drawn_written}
use Rattle.xm_commands.specs.Drawn.{of_demonstrate}
use Rattle.xm_commands.specs.declared.call.Call.TheVariants as call
use Rattle.xm_commands.proofs.demonstrating.write_demonstration.Goals as goal

pub returns-in-Ok : goal.returns-in-Ok
returns-in-Ok g c =
    let said = c.write_text.ensures in
    drawn_written c.write_text.result (call.Demonstrate c.args.it) c.in-Ok.text.items _ (of_demonstrate c.args.it c.in-Ok.text.items c.in-Ok.ensures) said.turned said.whole said.front said.cause said.only
