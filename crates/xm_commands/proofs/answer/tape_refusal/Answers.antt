use Rattle.std.proofs.Common.{◌≡◌, false}
use Rattle.xm_commands.specs.Inner.Prepared.{is_want_of_tape}
use Rattle.xm_commands.proofs.Refusing.{tape_refused}
use Rattle.xm_commands.proofs.answer.tape_refusal.Goals as goal

pub returns-in-Ok : goal.returns-in-Ok
returns-in-Ok c =
    let some : is_want_of_tape c.args.fault.now ≡ false = (let a = c.is_memory.ensures in let b = c.if-is_memory.false in cc) in
    λ bytes command doc it read design asks fails. tape_refused bytes c.in-Ok.line.items command doc it c.args.fault.now read design asks fails c.in-Ok.ensures some
