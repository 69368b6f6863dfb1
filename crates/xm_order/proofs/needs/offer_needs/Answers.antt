use Rattle.std.proofs.Common.{inl, inr}
use Rattle.xm_order.proofs.Needing.{IsOther, lists_answered, fork_offers, function_offers, join_offers, merge_offers, switch_offers}
use Rattle.xm_order.proofs.needs.offer_needs.Goals as goal

pub returns-in-Function : goal.returns-in-Function
returns-in-Function c = elim c.in-Function.is [
  | inl w ↦ rw w.2 (lists_answered _ _ _ c.listed-in-Function.ensures (function_offers c.in-Function.input w.0 c.args.c w.1.items (rw w.2 at c.requires)))
  | inr w ↦ rw w.3 (lists_answered _ _ _ c.listed-in-Function.ensures (switch_offers c.in-Function.input w.0 w.1 c.args.c w.2.items (rw w.3 at c.requires)))
]

pub returns-in-Join : goal.returns-in-Join
returns-in-Join c = elim c.in-Join.is [
  | inl w ↦ rw w.2 (lists_answered _ _ _ c.listed-in-Join.ensures (join_offers c.in-Join.a c.in-Join.b w.0 c.args.c w.1 (rw w.2 at c.requires)))
  | inr w ↦ rw w.1 (lists_answered _ _ _ c.listed-in-Join.ensures (merge_offers c.in-Join.a c.in-Join.b w.0 c.args.c (rw w.1 at c.requires)))
]

pub returns-in-Fork : goal.returns-in-Fork
returns-in-Fork c =
    let other : IsOther c.in-Fork.a c.in-Fork.b c.args.c c.other_of-other.result = record { at_first = c.other_of-other.ensures.first; at_second = c.other_of-other.ensures.second } in
    rw c.in-Fork.is (lists_answered _ _ _ c.listed.ensures (fork_offers c.in-Fork.input c.in-Fork.a c.in-Fork.b c.args.c c.other_of-other.result c.in-Fork.map_a.items c.in-Fork.map_b.items other (rw c.in-Fork.is at c.requires)))
