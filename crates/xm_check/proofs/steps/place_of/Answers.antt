use Rattle.std.proofs.Common.{sym, ◌∙◌}
use Rattle.xm_check.proofs.Adding.{found_at}
use Rattle.xm_check.proofs.steps.place_of.Goals as goal

pub returns-then-is_named-clause-some : goal.returns-then-is_named-clause-some
returns-then-is_named-clause-some c =
    c.loop-i.invariant ∙ found_at c.args.rules.now c.loop-i.i c.index-rules-i.result c.args.name c.args.via c.loop-i-test.true (sym c.index-rules-i.is) (sym c.is_named.ensures ∙ c.if-is_named.true)
