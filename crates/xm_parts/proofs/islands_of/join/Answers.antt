use Rattle.std.proofs.Common.{arith}
use Rattle.xm_parts.proofs.Grouping.{join_grouped, linked_back}
use Rattle.xm_parts.specs.Kept.{label_at}
use Rattle.xm_parts.proofs.islands_of.join.Goals as goal

pub returns-then-x-y-clause-grouped : goal.returns-then-x-y-clause-grouped
returns-then-x-y-clause-grouped c =
    let whole = c.requires.whole in
    join_grouped c.args.net.now (label_at c.args.labels.now) (label_at c.relabel.new.labels) c.args.a c.args.b c.requires.grouped c.requires.in_a c.requires.in_b c.if-x-y.true
    (λ k h. c.relabel.ensures k (omega arith)) c.requires.link

pub returns-then-y-x-clause-grouped : goal.returns-then-y-x-clause-grouped
returns-then-y-x-clause-grouped c =
    let whole = c.requires.whole in
    join_grouped c.args.net.now (label_at c.args.labels.now) (label_at c.relabel-then-y-x.new.labels) c.args.b c.args.a c.requires.grouped c.requires.in_b c.requires.in_a c.if-y-x.true
    (λ k h. c.relabel-then-y-x.ensures k (omega arith)) (linked_back c.args.net.now c.args.a c.args.b c.requires.link)
