use Rattle.std.proofs.Common.{rules, refl, SFits}
use Rattle.std.specs.Int.{w128}
use Rattle.xm_lp.specs.Inner.Table.{tableau_of}
use Rattle.xm_lp.proofs.Denominators.{are_sizes, counts_next, next_fit, divides_sizes, entry_some, leaves_at}
use Rattle.xm_lp.proofs.answer.counts.Goals as goal

pub whole-requires-clause-divides : goal.whole-requires-clause-divides
whole-requires-clause-divides c =
    let entry : SFits w128 c.value_at.result = search rules in
    let constant : SFits w128 c.constant.result = search rules in
    let sizes = are_sizes c.args.columns (tableau_of c.args.table.now) c.loop-i.i c.unsigned_abs-entry.result c.unsigned_abs.result c.row-item.result c.as_slice-row-items.result.now c.as_slice.result.now
    c.value_at.result c.constant.result c.as_slice-row-items.ensures c.loop-i-test.true c.row-item.is c.as_slice.ensures c.if-basic-columns.false
    entry c.value_at.ensures.value c.unsigned_abs-entry.ensures.value constant c.constant.ensures.value c.unsigned_abs.ensures.value in
    divides_sizes c.args.columns (tableau_of c.args.table.now) c.loop-i.i c.args.denominator _ c.unsigned_abs-entry.result c.unsigned_abs.result sizes c.requires.whole

pub whole-requires-clause-entry : goal.whole-requires-clause-entry
whole-requires-clause-entry c =
    let entry : SFits w128 c.value_at.result = search rules in
    let constant : SFits w128 c.constant.result = search rules in
    let sizes = are_sizes c.args.columns (tableau_of c.args.table.now) c.loop-i.i c.unsigned_abs-entry.result c.unsigned_abs.result c.row-item.result c.as_slice-row-items.result.now c.as_slice.result.now
    c.value_at.result c.constant.result c.as_slice-row-items.ensures c.loop-i-test.true c.row-item.is c.as_slice.ensures c.if-basic-columns.false
    entry c.value_at.ensures.value c.unsigned_abs-entry.ensures.value constant c.constant.ensures.value c.unsigned_abs.ensures.value in
    entry_some c.args.columns (tableau_of c.args.table.now) c.loop-i.i _ c.unsigned_abs-entry.result c.unsigned_abs.result c.requires.point sizes

pub returns-in_default-clause-none : goal.returns-in_default-clause-none
returns-in_default-clause-none c =
    let entry : SFits w128 c.value_at.result = search rules in
    let constant : SFits w128 c.constant.result = search rules in
    let sizes = are_sizes c.args.columns (tableau_of c.args.table.now) c.loop-i.i c.unsigned_abs-entry.result c.unsigned_abs.result c.row-item.result c.as_slice-row-items.result.now c.as_slice.result.now
    c.value_at.result c.constant.result c.as_slice-row-items.ensures c.loop-i-test.true c.row-item.is c.as_slice.ensures c.if-basic-columns.false
    entry c.value_at.ensures.value c.unsigned_abs-entry.ensures.value constant c.constant.ensures.value c.unsigned_abs.ensures.value in
    leaves_at c.args.columns (tableau_of c.args.table.now) c.loop-i.i c.args.denominator _ c.unsigned_abs-entry.result c.unsigned_abs.result sizes c.in_default.ensures.none

pub loop-i-preserved : goal.loop-i-preserved
loop-i-preserved c =
    let entry : SFits w128 c.value_at.result = search rules in
    let constant : SFits w128 c.constant.result = search rules in
    let sizes = are_sizes c.args.columns (tableau_of c.args.table.now) c.loop-i.i c.unsigned_abs-entry.result c.unsigned_abs.result c.row-item.result c.as_slice-row-items.result.now c.as_slice.result.now
    c.value_at.result c.constant.result c.as_slice-row-items.ensures c.loop-i-test.true c.row-item.is c.as_slice.ensures c.if-basic-columns.false
    entry c.value_at.ensures.value c.unsigned_abs-entry.ensures.value constant c.constant.ensures.value c.unsigned_abs.ensures.value in
    record {
      are = counts_next c.args.columns (tableau_of c.args.table.now) c.loop-i.i c.args.denominator c.in-Some.count _ c.unsigned_abs-entry.result c.unsigned_abs.result c.loop-i.counts.items
          c.as_mut_slice.result.now _ c.requires.point sizes c.loop-i.invariant.are c.in-Some.ensures.fits c.as_mut_slice.ensures.value refl c.in-Some.ensures.some;
      fit = next_fit c.args.columns (tableau_of c.args.table.now) c.loop-i.i c.args.denominator c.in-Some.count _ c.unsigned_abs-entry.result c.unsigned_abs.result c.loop-i.counts.items
          c.as_mut_slice.result.now _ c.requires.point sizes c.loop-i.invariant.are c.in-Some.ensures.fits c.as_mut_slice.ensures.value refl c.loop-i.invariant.fit;
    }
