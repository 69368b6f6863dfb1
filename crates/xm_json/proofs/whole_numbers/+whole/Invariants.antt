use Rattle.std.proofs.Common.{◌≡◌, drop}
use Rattle.serde_json.specs.View.{items_view, members_view}
use Rattle.xm_json.specs.WholeNumbers.{items_have_whole, members_have_whole}
use Rattle.xm_json.proofs.whole_numbers.+whole.Given as goal

abbrev pub invariant-items_have_whole-loop-item : goal.invariant-items_have_whole-loop-item
invariant-items_have_whole-loop-item l = items_have_whole (items_view (drop l.item-index l.item-items)) ≡ items_have_whole (items_view l.items.items)

abbrev pub invariant-members_have_whole-loop-key : goal.invariant-members_have_whole-loop-key
invariant-members_have_whole-loop-key l =
    (goal.iterator-members_have_whole-loop-key).can_next l._key-iterator ×
    (goal.iterator-members_have_whole-loop-key).is_finite l._key-iterator ×
    (members_have_whole (members_view l._key-iterator) ≡ members_have_whole (members_view l.members.entries))
