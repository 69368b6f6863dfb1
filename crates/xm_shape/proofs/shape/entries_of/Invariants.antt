use Rattle.std.proofs.Common.{◌≡◌, map}
use Rattle.serde_json.specs.View.{members_view}
use Rattle.xm_shape.specs.Views.{allow_entry_of}
use Rattle.xm_shape.specs.Shape.{entries_in}
use Rattle.xm_json.specs.Lemmas.Walk.{with_front}
use Rattle.xm_shape.proofs.shape.entries_of.Given as goal

abbrev pub invariant-loop-key : goal.invariant-loop-key
invariant-loop-key l =
    (goal.iterator-loop-key).can_next l.key-iterator ×
    (goal.iterator-loop-key).is_finite l.key-iterator ×
    (with_front (map allow_entry_of l.entries.items) (entries_in (members_view l.key-iterator)) ≡ entries_in (members_view l.members.entries))
