use Rattle.std.proofs.Common.{refl}
use Rattle.xm_commands.proofs.Calls.{call_no_memory}
use Rattle.xm_commands.specs.Calls.{call_of}
use Rattle.xm_commands.proofs.top.simulate_words.Goals as goal

pub returns-in-Err : goal.returns-in-Err
returns-in-Err g c = call_no_memory _ _ (call_of c.args.words.now) refl refl refl refl
