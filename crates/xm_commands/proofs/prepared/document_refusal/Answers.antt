use Rattle.std.proofs.Common.{◌≡◌, true, false}
use Rattle.xm_commands.specs.Inner.Prepared.{is_of_wiring, is_want}
use Rattle.xm_commands.proofs.Refusing.{document_refused, wiring_refused}
use Rattle.xm_commands.proofs.prepared.document_refusal.Goals as goal

pub returns-then-is_wiring : goal.returns-then-is_wiring
returns-then-is_wiring c =
    let is : is_of_wiring c.args.fault.now ≡ true = (let a = c.is_wiring.ensures in let b = c.if-is_wiring.true in cc) in
    λ bytes it fails. wiring_refused bytes it c.in-Ok.line.items c.args.fault.now fails c.in-Ok.ensures is

pub returns-else-is_wiring : goal.returns-else-is_wiring
returns-else-is_wiring c =
    let other : is_of_wiring c.args.fault.now ≡ false = (let a = c.is_wiring.ensures in let b = c.if-is_wiring.false in cc) in
    let some : is_want c.args.fault.now ≡ false = (let a = c.is_memory.ensures in let b = c.if-is_memory.false in cc) in
    λ bytes it fails. document_refused bytes it c.in-Ok.line.items c.args.fault.now fails c.in-Ok.ensures some other
