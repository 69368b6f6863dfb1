use Rattle.xm_commands.proofs.Calls.{drawn_written, is_generated}
use Rattle.xm_commands.specs.declared.call.Call.TheVariants as call
use Rattle.xm_commands.proofs.generating.write_generated.Goals as goal

pub returns-in-Ok : goal.returns-in-Ok
returns-in-Ok g c =
    let said = c.write_text.ensures in
    let is = is_generated c.args.size c.args.seed c.in-Ok.text.items c.in-Ok.ensures.text c.in-Ok.ensures.again in
    drawn_written c.write_text.result (call.Generate c.args.size c.args.seed) c.in-Ok.text.items _ is said.turned said.whole said.front said.cause said.only
