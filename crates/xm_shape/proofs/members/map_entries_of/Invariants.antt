use Rattle.std.proofs.Common.{◌≡◌}
use Rattle.serde_json.specs.View.{members_view}
use Rattle.xm_shape.specs.Views.{table_of}
use Rattle.xm_shape.specs.Shape.{map_entries_in}
use Rattle.xm_json.specs.Lemmas.Walk.{with_front}
use Rattle.xm_shape.proofs.members.map_entries_of.Given as goal

abbrev pub invariant-loop-key : goal.invariant-loop-key
invariant-loop-key l =
    (goal.iterator-loop-key).can_next l.key-iterator ×
    (goal.iterator-loop-key).is_finite l.key-iterator ×
    (with_front (table_of l.images.items) (map_entries_in l.path (members_view l.key-iterator)) ≡ map_entries_in l.path (members_view l.members.entries))
