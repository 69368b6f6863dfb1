use Rattle.std.proofs.Common.{subst, sym}
use Rattle.xm_commands.specs.Inner.Invariants.{IsOverflow}
use Rattle.xm_commands.specs.Refusal.{Refuses, of_overflow}
use Rattle.xm_elim.specs.declared.fault.ElimFault.{ElimFault}
use Rattle.xm_commands.proofs.invariants.elimination_refusal.Goals as goal

pub returns-in-Ok : goal.returns-in-Ok
returns-in-Ok c = λ bytes it doc design rows read is asks has fault.
    let meets = subst (λ (f : ElimFault). IsOverflow design rows f) c.in-Overflow.is fault in
    subst (Refuses bytes it 8) (sym c.in-Ok.ensures) (of_overflow doc design rows _ _ _ read is asks has meets)
