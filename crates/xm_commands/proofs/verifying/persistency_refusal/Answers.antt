use Rattle.std.proofs.Common.{◌∙◌, ap, subst, sym}
use Rattle.xm_commands.specs.Inner.Verifying.{IsPersistFault}
use Rattle.xm_commands.specs.Refusal.{Refuses, of_persistency}
use Rattle.xm_persist.specs.declared.fault.PersistFault.{PersistFault}
use Rattle.xm_report.specs.Lines.{persistency_line}
use Rattle.xm_commands.proofs.verifying.persistency_refusal.Goals as goal

pub returns-in-Ok : goal.returns-in-Ok
returns-in-Ok c = λ bytes it doc design read named is asks fault.
    let first = subst (λ (f : PersistFault). IsPersistFault design.net f) c.in-NotPersistent.is fault in
    subst (Refuses bytes it 4) (sym (c.in-Ok.ensures ∙ ap (λ names. persistency_line names c.in-NotPersistent.c) named)) (of_persistency doc design _ read is asks first)
