use Rattle.std.proofs.Common.{rules, arith, SFits}
use Rattle.std.specs.Int.{w128}
use Rattle.xm_lp.specs.Inner.Table.{tableau_of}
use Rattle.xm_lp.proofs.Denominators.{are_sizes, least_none, gcd_some, part_some, least_next, all_leave}
use Rattle.xm_lp.proofs.answer.denominator.Goals as goal

pub loop-i-init : goal.loop-i-init
loop-i-init c = record { least = least_none c.args.columns (tableau_of c.args.table.now); fits = omega arith }

pub nonzero_div-part : goal.nonzero_div-part
nonzero_div-part c =
    let entry : SFits w128 c.value_at.result = search rules in
    let constant : SFits w128 c.constant.result = search rules in
    let sizes = are_sizes c.args.columns (tableau_of c.args.table.now) c.loop-i.i c.unsigned_abs-entry.result c.unsigned_abs.result c.row-item.result c.as_slice-row-items.result.now c.as_slice.result.now
    c.value_at.result c.constant.result c.as_slice-row-items.ensures c.loop-i-test.true c.row-item.is c.as_slice.ensures c.if-basic-columns.false
    entry c.value_at.ensures.value c.unsigned_abs-entry.ensures.value constant c.constant.ensures.value c.unsigned_abs.ensures.value in
    gcd_some c.args.columns (tableau_of c.args.table.now) c.loop-i.i c.loop-i.common c.gcd.result _ c.unsigned_abs-entry.result c.unsigned_abs.result c.requires sizes c.loop-i.invariant.least c.gcd.ensures

pub least_multiple-requires-clause-second : goal.least_multiple-requires-clause-second
least_multiple-requires-clause-second c =
    let entry : SFits w128 c.value_at.result = search rules in
    let constant : SFits w128 c.constant.result = search rules in
    let sizes = are_sizes c.args.columns (tableau_of c.args.table.now) c.loop-i.i c.unsigned_abs-entry.result c.unsigned_abs.result c.row-item.result c.as_slice-row-items.result.now c.as_slice.result.now
    c.value_at.result c.constant.result c.as_slice-row-items.ensures c.loop-i-test.true c.row-item.is c.as_slice.ensures c.if-basic-columns.false
    entry c.value_at.ensures.value c.unsigned_abs-entry.ensures.value constant c.constant.ensures.value c.unsigned_abs.ensures.value in
    part_some c.args.columns (tableau_of c.args.table.now) c.loop-i.i c.loop-i.common c.gcd.result _ c.unsigned_abs-entry.result c.unsigned_abs.result c.requires sizes c.loop-i.invariant.least c.gcd.ensures

pub returns-in_default-clause-none : goal.returns-in_default-clause-none
returns-in_default-clause-none c =
    let entry : SFits w128 c.value_at.result = search rules in
    let constant : SFits w128 c.constant.result = search rules in
    let sizes = are_sizes c.args.columns (tableau_of c.args.table.now) c.loop-i.i c.unsigned_abs-entry.result c.unsigned_abs.result c.row-item.result c.as_slice-row-items.result.now c.as_slice.result.now
    c.value_at.result c.constant.result c.as_slice-row-items.ensures c.loop-i-test.true c.row-item.is c.as_slice.ensures c.if-basic-columns.false
    entry c.value_at.ensures.value c.unsigned_abs-entry.ensures.value constant c.constant.ensures.value c.unsigned_abs.ensures.value in
    all_leave c.args.columns (tableau_of c.args.table.now) c.loop-i.i c.loop-i.common c.gcd.result _ c.unsigned_abs-entry.result c.unsigned_abs.result c.requires sizes c.loop-i.invariant.least c.gcd.ensures
    c.in_default.ensures.none

pub loop-i-preserved : goal.loop-i-preserved
loop-i-preserved c =
    let entry : SFits w128 c.value_at.result = search rules in
    let constant : SFits w128 c.constant.result = search rules in
    let sizes = are_sizes c.args.columns (tableau_of c.args.table.now) c.loop-i.i c.unsigned_abs-entry.result c.unsigned_abs.result c.row-item.result c.as_slice-row-items.result.now c.as_slice.result.now
    c.value_at.result c.constant.result c.as_slice-row-items.ensures c.loop-i-test.true c.row-item.is c.as_slice.ensures c.if-basic-columns.false
    entry c.value_at.ensures.value c.unsigned_abs-entry.ensures.value constant c.constant.ensures.value c.unsigned_abs.ensures.value in
    record {
      least = least_next c.args.columns (tableau_of c.args.table.now) c.loop-i.i c.loop-i.common c.gcd.result _ c.unsigned_abs-entry.result c.unsigned_abs.result c.requires sizes c.loop-i.invariant.least
          c.gcd.ensures c.in-Some.multiple c.in-Some.ensures.some;
      fits = c.in-Some.ensures.fits;
    }
