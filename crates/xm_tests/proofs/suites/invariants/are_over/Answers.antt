use Rattle.std.proofs.Common.{subst}
use Rattle.std.proofs.lemmas.List.Elements.{All-more}
use Rattle.xm_tests.specs.Inner.Over.{IsOver}
use Rattle.xm_tests.proofs.Over.{all_hold, all_over}
use Rattle.xm_tests.proofs.suites.invariants.are_over.Goals as goal

pub loop-row-preserved : goal.loop-row-preserved
loop-row-preserved c =
    All-more (IsOver c.args.base) c.args.rows.now c.loop-row.row-index c.row-item.result c.loop-row-test.true c.loop-row.invariant (subst (IsOver c.args.base) c.row-item.is (c.is_over.ensures c.if-not-is_over.false))

pub returns-clause-over : goal.returns-clause-over
returns-clause-over c = λ done. all_over c.args.base c.args.rows.now c.loop-row.row-index c.loop-row-test.false c.loop-row.invariant

pub returns-clause-consistent : goal.returns-clause-consistent
returns-clause-consistent c = λ done. all_hold c.args.base c.args.rows.now c.loop-row.row-index c.loop-row-test.false c.loop-row.invariant
