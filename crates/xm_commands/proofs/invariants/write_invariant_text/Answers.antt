use Rattle.std.proofs.Common.{inl, map, refl}
use Rattle.xm_commands.proofs.Printed.{columns_within, invariants_printed}
use Rattle.xm_commands.proofs.Written.{written}
use Rattle.xm_commands.specs.declared.command.Command.TheVariants as command
use Rattle.xm_commands.specs.declared.command.Outcome.TheVariants as outcome
use Rattle.xm_flow.specs.ValidLemma.{lemma_of}
use Rattle.xm_commands.proofs.invariants.write_invariant_text.Goals as goal

pub invariant_text-requires : goal.invariant_text-requires
invariant_text-requires g c = columns_within _ _ _ c.args.lemmas.now c.requires.basis.valid

pub returns-in-Ok : goal.returns-in-Ok
returns-in-Ok g c = λ bytes is.
    let said = c.write_text.ensures in
    written c.write_text.result bytes c.in-Ok.text.items command.Inv outcome.Yes _ (invariants_printed bytes c.args.prepared.now (map lemma_of c.args.lemmas.now) is c.requires c.in-Ok.text.items c.in-Ok.ensures) said.turned said.whole said.front said.cause said.only

pub returns-in-Err : goal.returns-in-Err
returns-in-Err g c = λ bytes is. (refl, inl refl)
