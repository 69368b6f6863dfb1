use Rattle.xm_commands.proofs.Printed.{columns_within}
use Rattle.xm_commands.proofs.simulating.lines_of_rows.Goals as goal

pub invariant_lines-requires : goal.invariant_lines-requires
invariant_lines-requires c = rw c.as_slice.ensures (columns_within _ _ _ c.in-Ok.lemmas.items c.in-Ok.ensures.basis.valid)

pub returns-in-Err-clause-err : goal.returns-in-Err-clause-err
returns-in-Err-clause-err c = λ bytes it is asks.
    c.elimination_refusal.ensures bytes it is.doc c.args.prepared.now.design c.args.rows.now is.read is.design asks c.requires c.in-Err.ensures.overflow
