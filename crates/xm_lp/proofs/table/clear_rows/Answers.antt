use Rattle.std.proofs.Common.{get_or, take, sym, subst}
use Rattle.std.proofs.lemmas.List.{take_more}
use Rattle.xm_lp.specs.Inner.Part.{ArePartlyCleared}
use Rattle.xm_lp.proofs.Clearing.{cleared_more, cleared_passed, clearing_leaves}
use Rattle.xm_lp.proofs.table.clear_rows.Goals as goal

pub loop-h-preserved-then-h-i : goal.loop-h-preserved-then-h-i
loop-h-preserved-then-h-i c =
    let old = c.args.rows.now.items in
    let list = c.args.list.now in
    let n = c.loop-h.h-index in
    subst (ArePartlyCleared old c.loop-h.rows.items c.args.i c.args.column) (sym (take_more list n 0 c.loop-h-test.true))
    (cleared_passed old c.loop-h.rows.items c.args.i c.args.column (get_or list n 0) (take n list) c.loop-h.invariant c.if-h-i.true)

pub returns-in-Err-clause-overflow : goal.returns-in-Err-clause-overflow
returns-in-Err-clause-overflow c = λ is.
    let old = c.args.rows.now.items in
    let list = c.args.list.now in
    let n = c.loop-h.h-index in
    clearing_leaves old c.loop-h.rows.items c.args.i c.args.column (get_or list n 0) (take n list) c.requires.entry c.loop-h.invariant
    (c.requires.within n 0 c.loop-h-test.true) c.if-h-i.false (c.in-Err.ensures.overflow is)

pub loop-h-preserved : goal.loop-h-preserved
loop-h-preserved c =
    let old = c.args.rows.now.items in
    let list = c.args.list.now in
    let n = c.loop-h.h-index in
    subst (ArePartlyCleared old c.replace.new.rows.items c.args.i c.args.column) (sym (take_more list n 0 c.loop-h-test.true))
    (cleared_more old c.loop-h.rows.items c.replace.new.rows.items c.args.i c.args.column (get_or list n 0) (take n list) c.requires.entry c.loop-h.invariant c.if-h-i.false
    c.in_default.ensures.ok)
