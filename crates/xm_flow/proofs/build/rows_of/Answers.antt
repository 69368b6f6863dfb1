use Rattle.std.proofs.Common.{◌<◌, ◌≤◌, List, [], length, take, ap, sym, subst, arith}
use Rattle.std.proofs.lemmas.List.{take_all}
use Rattle.xm_colours.specs.Family.{colours_at}
use Rattle.xm_flow.specs.Inner.Building.{AreMade, no_rows}
use Rattle.xm_flow.specs.FlowRows.{FlowRow, columns, rows_from}
use Rattle.xm_flow.specs.Lemmas.Listing.{there}
use Rattle.xm_flow.proofs.Wholes.{rows_more, same_length}
use Rattle.xm_flow.proofs.build.rows_of.Goals as goal

pub loop-p-preserved : goal.loop-p-preserved
loop-p-preserved c =
    let len = same_length _ _ _ c.prims.ensures.prims (ap (λ n. n.prims) c.net-net.ensures.net) in
    let within : c.loop-p.p < length c.args.design.now.net.prims = omega (arith, len, c.len-p-end.ensures) in
    let m = there c.args.design.now.net.prims c.loop-p.p within in
    subst (λ (fs : List FlowRow). AreMade (columns c.args.design.now) fs c.rows_at.new.rows.items)
    (sym (rows_more (colours_at c.args.design.now.colours) c.args.design.now.net.prims c.loop-p.p m.0 within m.1))
    (c.in_ok-rows_at.ensures m.0 m.1 (rows_from (colours_at c.args.design.now.colours) 0 (take c.loop-p.p c.args.design.now.net.prims)) c.loop-p.invariant)

pub returns : goal.returns
returns c =
    let len = same_length _ _ _ c.prims.ensures.prims (ap (λ n. n.prims) c.net-net.ensures.net) in
    let past : length c.args.design.now.net.prims ≤ c.loop-p.p = omega (arith, len, c.len-p-end.ensures) in
    rw (take_all c.loop-p.p c.args.design.now.net.prims past) at c.loop-p.invariant

pub loop-p-init : goal.loop-p-init
loop-p-init c = subst (AreMade (columns c.args.design.now) []) (sym c.new-rows.ensures.items) no_rows
