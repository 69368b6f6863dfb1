use Rattle.std.proofs.Common.{subst, sym}
use Rattle.xm_commands.specs.Refusal.{Refuses, of_pivots}
use Rattle.xm_commands.specs.declared.command.Command.TheVariants as command
use Rattle.xm_search.specs.Searched.{IsFault}
use Rattle.xm_search.specs.declared.found.SearchFault.{SearchFault}
use Rattle.xm_commands.proofs.prove.search_refusal.Goals as goal

pub returns-in-Ok : goal.returns-in-Ok
returns-in-Ok c = λ bytes budget doc design lemmas read is searched fault.
    let leaves = subst (λ (f : SearchFault). IsFault design lemmas f) c.in-Overflow.is fault in
    subst (Refuses bytes (command.Prove budget) 8) (sym c.in-Ok.ensures) (of_pivots doc design budget lemmas _ _ read is searched leaves)
