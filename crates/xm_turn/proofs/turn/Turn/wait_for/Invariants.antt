use Rattle.std.proofs.Common.{◌≡◌}
use Rattle.xm_turn.proofs.turn.Turn.wait_for.Given as goal

abbrev pub invariant-loop : goal.invariant-loop
invariant-loop g l =
    (goal.iterator-loop g).can_next l.iterator' × (goal.iterator-loop g).is_finite l.iterator'
    × (l.pass.seat.table_id ≡ l.initial.pass.seat.table_id) × (l.pass.seat.id ≡ l.initial.pass.seat.id)
    × (l.pass.seat.me ≡ l.initial.pass.seat.me)
