use Rattle.std.proofs.Common.{arith, tests, pos}
use Rattle.xm_rows.specs.Lemmas.Entries.{lowest_below}
use Rattle.xm_rows.proofs.combine.first_column.Goals as goal

pub returns-in-empty-len1-up-clause-lowest : goal.returns-in-empty-len1-up-clause-lowest
returns-in-empty-len1-up-clause-lowest c =
    (λ k d h. absurd (omega (arith, tests)), lowest_below _ c.args.s.now (record { column = 0; value = pos 0 }) c.requires.second (omega arith))

pub returns-in-len1-up-empty-clause-lowest : goal.returns-in-len1-up-empty-clause-lowest
returns-in-len1-up-empty-clause-lowest c =
    (lowest_below _ c.args.r.now (record { column = 0; value = pos 0 }) c.requires.first (omega arith), λ k d h. absurd (omega (arith, tests)))

pub returns-in-len1-up-len1-up-clause-lowest : goal.returns-in-len1-up-len1-up-clause-lowest
returns-in-len1-up-len1-up-clause-lowest c = (
  lowest_below _ c.args.r.now (record { column = 0; value = pos 0 }) c.requires.first (omega arith),
  lowest_below _ c.args.s.now (record { column = 0; value = pos 0 }) c.requires.second (omega arith),
)
