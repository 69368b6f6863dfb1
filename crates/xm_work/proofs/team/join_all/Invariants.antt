use Rattle.std.proofs.Common.{◌≡◌, ◌+◌, ◌≤◌, vec_len}
use Rattle.xm_turn.specs.Passes.{IsPassOf, knows, IsFree}
use Rattle.xm_work.specs.Inner.Team.{AreWorkers}
use Rattle.xm_work.proofs.team.join_all.Given as goal

abbrev pub invariant-loop-seat : goal.invariant-loop-seat
invariant-loop-seat g l =
    IsPassOf l.turn l.pass × IsFree l.pass × ((knows l.pass).run ≡ (knows l.initial.pass).run)
    × ((knows l.pass).all ≡ (knows l.initial.pass).all) × ((knows l.initial.pass).seen ≤ (knows l.pass).seen)
    × ((knows l.pass).shares + vec_len l.seats ≡ (knows l.initial.pass).shares + vec_len l.initial.seats)
    × AreWorkers l.turn (knows l.initial.pass) l.seats.items

abbrev pub decreases-loop-seat : goal.decreases-loop-seat
decreases-loop-seat g l = vec_len l.seats
