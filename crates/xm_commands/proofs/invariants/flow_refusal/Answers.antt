use Rattle.std.proofs.Common.{◌∙◌, ap, subst, sym, arith}
use Rattle.xm_commands.specs.Inner.Invariants.{IsFlowFault}
use Rattle.xm_commands.specs.Refusal.{Refuses, of_width}
use Rattle.xm_flow.specs.declared.build.FlowFault.{FlowFault}
use Rattle.xm_report.specs.Lines.{width_line}
use Rattle.xm_commands.proofs.invariants.flow_refusal.Goals as goal

pub returns-in-Ok : goal.returns-in-Ok
returns-in-Ok c = λ bytes it doc design read is asks fault.
    let wide = subst (λ (f : FlowFault). IsFlowFault design f) c.in-TooWide.is fault in
    subst (Refuses bytes it 4) (sym (c.in-Ok.ensures ∙ ap width_line wide.0)) (of_width doc design read is asks (omega (arith, wide.0, wide.1)))
