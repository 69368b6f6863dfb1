use Rattle.std.proofs.Common.{◌≡◌, ◌-◌, List, ap, arith, get_or, length, map, subst, suc, take}
use Rattle.xm_commands.proofs.Proving.{can_be_written, last_goals, spent_output}
use Rattle.xm_commands.proofs.Written.{written}
use Rattle.xm_commands.specs.declared.command.Command.TheVariants as command
use Rattle.xm_commands.specs.declared.command.Outcome.TheVariants as outcome
use Rattle.xm_proof.specs.Argument.{argument_of, refutation_of}
use Rattle.xm_proof.specs.declared.proof.Goal.{Goal}
use Rattle.xm_commands.proofs.found.write_spent.Goals as goal

pub partial_text-requires : goal.partial_text-requires
partial_text-requires g c =
    can_be_written c.args.bytes.now c.args.prepared.now c.requires.prepared c.names_tell.ensures c.invariants_can_be_written.ensures
    (argument_of c.args.partial.now) c.requires.cited c.requires.form

pub returns-in-Ok : goal.returns-in-Ok
returns-in-Ok g c = λ budget spent.
    let said = c.write_text.ensures in
    let goals = c.args.partial.now.goals.items in
    let last = c.last-item.result in
    let place = length goals - 1 in
    let same = ap length c.as_slice.ensures in
    let size : suc place ≡ length goals = omega (arith, same, c.in-len1-up.len_at_least) in
    let is = subst (λ (ys : List Goal). last ≡ get_or ys (length ys - 1) last) c.as_slice.ensures c.last-item.is in
    let output = spent_output c.args.bytes.now c.args.prepared.now c.requires.prepared budget (argument_of c.args.partial.now) (map refutation_of (take place goals)) (refutation_of last)
    c.args.nodes c.args.pivots c.in-Ok.text.items c.requires.cited.searched spent (last_goals goals last place size is) c.in-Ok.ensures in
    written c.write_text.result c.args.bytes.now c.in-Ok.text.items (command.Prove budget) outcome.No _ output said.turned said.whole said.front said.cause said.only
