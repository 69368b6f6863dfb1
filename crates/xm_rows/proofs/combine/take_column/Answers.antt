use Rattle.std.proofs.Common.{arith, tests, ◌∙◌, pos, rules}
use Rattle.std.specs.Int.{w128}
use Rattle.std.proofs.lemmas.Int.{to_z-of_z}
use Rattle.xm_rows.specs.Lemmas.Entries.{first_taken, none_taken}
use Rattle.xm_rows.proofs.combine.take_column.Goals as goal
use Rattle.xm_rows.proofs.combine.take_column.Goals.{in_default-via-then-entries-lt1, in_default-via-in-len1-up+else-e-column}

pub returns-in-len1-up-clause-value : goal.returns-in-len1-up-clause-value
returns-in-len1-up-clause-value c =
    to_z-of_z w128 _ (search rules)
    ∙ first_taken c.args.entries.now (record { column = 0; value = pos 0 }) _ (omega arith) c.requires.rising (omega arith)

pub returns-in_default-clause-value : goal.returns-in_default-clause-value
returns-in_default-clause-value c =
    none_taken c.args.entries.now (record { column = 0; value = pos 0 }) _ c.requires.rising c.requires.lowest
    (λ some is. elim c.in_default.branch [
      | in_default-via-then-entries-lt1 w ↦ absurd (omega (arith, tests))
      | in_default-via-in-len1-up+else-e-column w ↦ w.if-e-column.false is
    ])
