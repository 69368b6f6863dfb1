use Rattle.std.proofs.Common.{◌∙◌, List, SFits, ap₂, inl, refl, rules, ℤ}
use Rattle.std.specs.Int.{w128}
use Rattle.std.proofs.lemmas.Int.{to_z-of_z}
use Rattle.xm_commands.proofs.Proving.{open_output}
use Rattle.xm_commands.proofs.Written.{written}
use Rattle.xm_commands.specs.declared.command.Command.TheVariants as command
use Rattle.xm_commands.specs.declared.command.Outcome.TheVariants as outcome
use Rattle.xm_lits.specs.declared.literal.Lit.{Lit}
use Rattle.xm_model.specs.Naming.{naming_of}
use Rattle.xm_report.specs.Search.{open_text}
use Rattle.xm_commands.proofs.found.write_open.Goals as goal

pub returns-in-Ok : goal.returns-in-Ok
returns-in-Ok g c = λ budget lemmas searched is_open.
    let said = c.write_text.ensures in
    let candidate = c.args.candidate.now in
    let fits : SFits w128 candidate.denominator = search rules in
    let printed = simp to_z-of_z at c.in-Ok.ensures in
    let same = printed ∙ ap₂ (λ (ls : List Lit) (cs : List ℤ). open_text (naming_of c.args.prepared.now.names) c.args.prepared.now.design candidate.goal ls cs candidate.denominator) c.as_slice.ensures c.as_slice-2.ensures in
    let output = open_output c.args.bytes.now c.args.prepared.now c.requires.prepared budget lemmas candidate.goal candidate.lits.items candidate.denominator candidate.counts.items
    c.in-Ok.text.items searched is_open same in
    written c.write_text.result c.args.bytes.now c.in-Ok.text.items (command.Prove budget) outcome.No _ output said.turned said.whole said.front said.cause said.only

pub returns-in-Err : goal.returns-in-Err
returns-in-Err g c = λ budget lemmas searched is_open. (refl, inl refl)
