use Rattle.std.proofs.Common.{Option, ℤ, subst}
use Rattle.std.specs.Option.{IfSome, IfNone}
use Rattle.xm_model.specs.ListView.{ListView}
use Rattle.xm_lp.specs.Inner.Denominator.{AreCountsOver, CountLeaves}
use Rattle.xm_lp.specs.Inner.Table.{tableau_of}
use Rattle.xm_lp.proofs.Denominators.{has_point, read_up, pointed, denominator_leaves, count_leaves}
use Rattle.xm_lp.proofs.answer.point.Goals as goal

pub denominator-requires : goal.denominator-requires
denominator-requires c = has_point c.args.constraints.now c.args.columns c.args.pivots (tableau_of c.args.table.now) c.requires.below c.requires.after

pub counts-requires-clause-point : goal.counts-requires-clause-point
counts-requires-clause-point c = has_point c.args.constraints.now c.args.columns c.args.pivots (tableau_of c.args.table.now) c.requires.below c.requires.after

pub returns-in_default : goal.returns-in_default
returns-in_default c = λ left within.
    denominator_leaves c.args.constraints.now c.args.columns left c.args.pivots c.args.first (tableau_of c.args.table.now) c.requires.below c.requires.first c.requires.after c.requires.last c.requires.zero within
    c.in_default.ensures.none

pub returns-in_default-2 : goal.returns-in_default-2
returns-in_default-2 c =
    let leaves = subst (λ (o : Option (ListView ℤ)). IfNone o (CountLeaves c.args.columns (tableau_of c.args.table.now) c.in-Some.denominator)) c.in_default-2.is c.in_ok-counts.ensures.none in
    λ left within.
    count_leaves c.args.constraints.now c.args.columns left c.args.pivots c.args.first (tableau_of c.args.table.now) c.requires.below c.requires.first c.requires.after c.requires.last c.requires.zero within
    c.in-Some.denominator c.in-Some.ensures.least leaves

pub returns : goal.returns
returns c =
    let found = subst (λ (o : Option (ListView ℤ)). IfSome o (λ l. AreCountsOver c.args.columns (tableau_of c.args.table.now) c.in-Some.denominator l.items)) c.in-Some-2.is c.in_ok-counts.ensures.some in
    λ left within.
    pointed c.args.constraints.now c.args.columns left c.args.pivots c.args.first (tableau_of c.args.table.now) c.requires.below c.requires.first c.requires.after c.requires.last c.requires.zero within
    c.in-Some.denominator _ c.in-Some-2.counts.items (read_up c.in-Some.denominator c.in-Some.ensures.fits) c.in-Some.ensures.fits c.in-Some.ensures.least found
