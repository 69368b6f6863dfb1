use Rattle.std.proofs.Common.{rules, subst}
use Rattle.std.proofs.lemmas.List.{take_all}
use Rattle.std.proofs.lemmas.List.Elements.{All-more}
use Rattle.xm_check.proofs.Breaking.{breaks_first, one_more}
use Rattle.xm_check.specs.Inner.Queues.{AreOver, IsOver}
use Rattle.xm_flow.specs.declared.invariant.Invariant.{Invariant}
use Rattle.xm_check.proofs.lemmas.check_lemmas.Goals as goal

pub returns-in-Some-clause-some : goal.returns-in-Some-clause-some
returns-in-Some-clause-some c = λ it is.
    breaks_first it c.args.flow.now.rows c.args.lemmas.now c.loop-k.k c.index-lemmas-k.result c.in-Some.why c.loop-k-test.true c.index-lemmas-k.is (c.loop-k.invariant.valid it is)
    (c.in-Some.ensures.some it is)

pub loop-k-preserved : goal.loop-k-preserved
loop-k-preserved c = record {
  valid = λ it is. one_more it c.args.flow.now.rows c.args.lemmas.now c.loop-k.k c.index-lemmas-k.result c.loop-k-test.true c.index-lemmas-k.is (c.loop-k.invariant.valid it is)
      (c.in_default.ensures.none it is);
  over = All-more (λ (l : Invariant). IsOver c.args.flow.now.counts l.row.entries) c.args.lemmas.now c.loop-k.k c.index-lemmas-k.result c.loop-k-test.true c.loop-k.invariant.over
      (subst (λ (l : Invariant). IsOver c.args.flow.now.counts l.row.entries) c.index-lemmas-k.is c.in_default.ensures.over);
  whole = search rules;
  below = search rules;
}

pub returns-clause-over : goal.returns-clause-over
returns-clause-over c = subst (AreOver c.args.flow.now.counts) (take_all c.loop-k.k c.args.lemmas.now c.loop-k-test.false) c.loop-k.invariant.over
