use Rattle.std.proofs.Common.{◌≡◌, ◌∙◌, ◌++◌, sym, subst, OnOk}
use Rattle.xm_colours.specs.Family.{colours_at}
use Rattle.xm_model.specs.Component.{Component, Join}
use Rattle.xm_model.specs.Ports.{fork_output_a, fork_output_b, fork_input, function_output, function_input, join_output, join_input_a, join_input_b, merge_output, merge_input_a, merge_input_b, queue_output, queue_input, switch_output_a, switch_output_b, switch_input}
use Rattle.xm_flow.specs.Inner.Building.{AreMade}
use Rattle.xm_flow.specs.FlowRows.{columns, rows_at}
use Rattle.xm_flow.proofs.Wiring.{drives_below, fork_covers_a, fork_covers_b, function_covers, queue_pair, takes_below, there}
use Rattle.xm_flow.proofs.kind.rows_at.Goals as goal

pub queue_rows-requires-clause-input : goal.queue_rows-requires-clause-input
queue_rows-requires-clause-input c = takes_below c.args.design.now c.requires.ready.designed c.args.p _ c.in-Queue.input (there _ _ c.args.p _ _ c.prim.ensures c.net.ensures.net c.in-Queue.is) queue_input

pub queue_rows-requires-clause-out : goal.queue_rows-requires-clause-out
queue_rows-requires-clause-out c = drives_below c.args.design.now c.requires.ready.designed c.args.p _ c.in-Queue.out (there _ _ c.args.p _ _ c.prim.ensures c.net.ensures.net c.in-Queue.is) queue_output

pub queue_rows-requires-clause-pair : goal.queue_rows-requires-clause-pair
queue_rows-requires-clause-pair c = queue_pair c.args.design.now c.args.p _ _ _ _ (there _ _ c.args.p _ _ c.prim.ensures c.net.ensures.net c.in-Queue.is)

pub image_rows-requires-clause-input : goal.image_rows-requires-clause-input
image_rows-requires-clause-input c = takes_below c.args.design.now c.requires.ready.designed c.args.p _ c.in-Function.input (there _ _ c.args.p _ _ c.prim.ensures c.net.ensures.net c.in-Function.is) function_input

pub image_rows-requires-clause-out : goal.image_rows-requires-clause-out
image_rows-requires-clause-out c = drives_below c.args.design.now c.requires.ready.designed c.args.p _ c.in-Function.out (there _ _ c.args.p _ _ c.prim.ensures c.net.ensures.net c.in-Function.is) function_output

pub image_rows-requires-clause-covered : goal.image_rows-requires-clause-covered
image_rows-requires-clause-covered c = function_covers c.args.design.now c.requires.ready.designed c.args.p _ _ _ c.as_slice-in-Function.result.now (there _ _ c.args.p _ _ c.prim.ensures c.net.ensures.net c.in-Function.is) c.as_slice-in-Function.ensures

pub image_rows-requires-in-Fork-clause-input : goal.image_rows-requires-in-Fork-clause-input
image_rows-requires-in-Fork-clause-input c = takes_below c.args.design.now c.requires.ready.designed c.args.p _ c.in-Fork.input (there _ _ c.args.p _ _ c.prim.ensures c.net.ensures.net c.in-Fork.is) fork_input

pub image_rows-requires-in-Fork-clause-out : goal.image_rows-requires-in-Fork-clause-out
image_rows-requires-in-Fork-clause-out c = drives_below c.args.design.now c.requires.ready.designed c.args.p _ c.in-Fork.a (there _ _ c.args.p _ _ c.prim.ensures c.net.ensures.net c.in-Fork.is) fork_output_a

pub image_rows-requires-in-Fork-clause-covered : goal.image_rows-requires-in-Fork-clause-covered
image_rows-requires-in-Fork-clause-covered c = fork_covers_a c.args.design.now c.requires.ready.designed c.args.p _ _ _ _ _ c.as_slice-in-Fork.result.now (there _ _ c.args.p _ _ c.prim.ensures c.net.ensures.net c.in-Fork.is) c.as_slice-in-Fork.ensures

pub image_rows-requires-in-Fork-2-clause-input : goal.image_rows-requires-in-Fork-2-clause-input
image_rows-requires-in-Fork-2-clause-input c = takes_below c.args.design.now c.requires.ready.designed c.args.p _ c.in-Fork.input (there _ _ c.args.p _ _ c.prim.ensures c.net.ensures.net c.in-Fork.is) fork_input

pub image_rows-requires-in-Fork-2-clause-out : goal.image_rows-requires-in-Fork-2-clause-out
image_rows-requires-in-Fork-2-clause-out c = drives_below c.args.design.now c.requires.ready.designed c.args.p _ c.in-Fork.b (there _ _ c.args.p _ _ c.prim.ensures c.net.ensures.net c.in-Fork.is) fork_output_b

pub image_rows-requires-in-Fork-2-clause-covered : goal.image_rows-requires-in-Fork-2-clause-covered
image_rows-requires-in-Fork-2-clause-covered c = fork_covers_b c.args.design.now c.requires.ready.designed c.args.p _ _ _ _ _ c.as_slice-in-Fork-2.result.now (there _ _ c.args.p _ _ c.prim.ensures c.net.ensures.net c.in-Fork.is) c.as_slice-in-Fork-2.ensures

pub join_rows-requires-clause-a : goal.join_rows-requires-clause-a
join_rows-requires-clause-a c = takes_below c.args.design.now c.requires.ready.designed c.args.p _ c.in-Join.a (there _ _ c.args.p _ _ c.prim.ensures c.net.ensures.net c.in-Join.is) join_input_a

pub join_rows-requires-clause-b : goal.join_rows-requires-clause-b
join_rows-requires-clause-b c = takes_below c.args.design.now c.requires.ready.designed c.args.p _ c.in-Join.b (there _ _ c.args.p _ _ c.prim.ensures c.net.ensures.net c.in-Join.is) join_input_b

pub join_rows-requires-clause-out : goal.join_rows-requires-clause-out
join_rows-requires-clause-out c = drives_below c.args.design.now c.requires.ready.designed c.args.p _ c.in-Join.out (there _ _ c.args.p _ _ c.prim.ensures c.net.ensures.net c.in-Join.is) join_output

pub same_rows-requires-clause-input : goal.same_rows-requires-clause-input
same_rows-requires-clause-input c = takes_below c.args.design.now c.requires.ready.designed c.args.p _ c.in-Switch.input (there _ _ c.args.p _ _ c.prim.ensures c.net.ensures.net c.in-Switch.is) switch_input

pub same_rows-requires-clause-out : goal.same_rows-requires-clause-out
same_rows-requires-clause-out c = drives_below c.args.design.now c.requires.ready.designed c.args.p _ c.in-Switch.a (there _ _ c.args.p _ _ c.prim.ensures c.net.ensures.net c.in-Switch.is) switch_output_a

pub same_rows-requires-in-Switch-clause-input : goal.same_rows-requires-in-Switch-clause-input
same_rows-requires-in-Switch-clause-input c = takes_below c.args.design.now c.requires.ready.designed c.args.p _ c.in-Switch.input (there _ _ c.args.p _ _ c.prim.ensures c.net.ensures.net c.in-Switch.is) switch_input

pub same_rows-requires-in-Switch-clause-out : goal.same_rows-requires-in-Switch-clause-out
same_rows-requires-in-Switch-clause-out c = drives_below c.args.design.now c.requires.ready.designed c.args.p _ c.in-Switch.b (there _ _ c.args.p _ _ c.prim.ensures c.net.ensures.net c.in-Switch.is) switch_output_b

pub merge_rows-requires-clause-a : goal.merge_rows-requires-clause-a
merge_rows-requires-clause-a c = takes_below c.args.design.now c.requires.ready.designed c.args.p _ c.in-Merge.a (there _ _ c.args.p _ _ c.prim.ensures c.net.ensures.net c.in-Merge.is) merge_input_a

pub merge_rows-requires-clause-b : goal.merge_rows-requires-clause-b
merge_rows-requires-clause-b c = takes_below c.args.design.now c.requires.ready.designed c.args.p _ c.in-Merge.b (there _ _ c.args.p _ _ c.prim.ensures c.net.ensures.net c.in-Merge.is) merge_input_b

pub merge_rows-requires-clause-out : goal.merge_rows-requires-clause-out
merge_rows-requires-clause-out c = drives_below c.args.design.now c.requires.ready.designed c.args.p _ c.in-Merge.out (there _ _ c.args.p _ _ c.prim.ensures c.net.ensures.net c.in-Merge.is) merge_output

pub returns-in-Join : goal.returns-in-Join
returns-in-Join c m has flow made =
    let own = (there _ _ c.args.p _ _ c.prim.ensures c.net.ensures.net c.in-Join.is) in
    let is : Join c.in-Join.a c.in-Join.b c.in-Join.out c.in-Join.pass ≡ m = (let e = sym own ∙ has in cc) in
    subst (λ (k : Component). OnOk c.join_rows.result (AreMade (columns c.args.design.now) (flow ++ rows_at (colours_at c.args.design.now.colours) c.args.p k) c.join_rows.new.rows.items)) is (c.join_rows.ensures flow made)
