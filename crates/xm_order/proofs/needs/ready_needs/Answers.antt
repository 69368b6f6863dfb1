use Rattle.xm_order.proofs.Needing.{IsOther, lists_answered, fork_readies, function_readies, join_readies, merge_readies, switch_readies}
use Rattle.xm_order.proofs.needs.ready_needs.Goals as goal

pub returns-in-Function : goal.returns-in-Function
returns-in-Function c = rw c.in-Function.is (lists_answered _ _ _ c.listed.ensures (function_readies c.in-Function.input c.in-Function.out c.args.c c.in-Function.map.items (rw c.in-Function.is at c.requires)))

pub returns-in-Fork : goal.returns-in-Fork
returns-in-Fork c = rw c.in-Fork.is (lists_answered _ _ _ c.listed-in-Fork.ensures (fork_readies c.in-Fork.input c.in-Fork.a c.in-Fork.b c.args.c c.in-Fork.map_a.items c.in-Fork.map_b.items (rw c.in-Fork.is at c.requires)))

pub returns-in-Join : goal.returns-in-Join
returns-in-Join c =
    let other : IsOther c.in-Join.a c.in-Join.b c.args.c c.other_of-other.result = record { at_first = c.other_of-other.ensures.first; at_second = c.other_of-other.ensures.second } in
    rw c.in-Join.is (lists_answered _ _ _ c.listed-in-Join.ensures (join_readies c.in-Join.a c.in-Join.b c.in-Join.out c.args.c c.other_of-other.result c.in-Join.pass other (rw c.in-Join.is at c.requires)))

pub returns-in-Switch : goal.returns-in-Switch
returns-in-Switch c = rw c.in-Switch.is (lists_answered _ _ _ c.listed-in-Switch.ensures (switch_readies c.in-Switch.input c.in-Switch.a c.in-Switch.b c.args.c c.in-Switch.to_a.items (rw c.in-Switch.is at c.requires)))

pub returns-in-Merge : goal.returns-in-Merge
returns-in-Merge c = rw c.in-Merge.is (lists_answered _ _ _ c.listed-in-Merge.ensures (merge_readies c.in-Merge.a c.in-Merge.b c.in-Merge.out c.args.c (rw c.in-Merge.is at c.requires)))
