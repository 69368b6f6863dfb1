use Rattle.std.proofs.Common.{◌≡◌, vec_len}
use Rattle.xm_turn.specs.Passes.{IsPassOf, knows, IsFree}
use Rattle.xm_work.specs.Inner.Team.{AreWorkers, IsCut}
use Rattle.xm_work.proofs.team.split_all.Given as goal

abbrev pub invariant-loop : goal.invariant-loop
invariant-loop g l =
    IsPassOf l.turn l.pass × IsFree l.pass × IsCut (knows l.initial.pass) l.counter (knows l.pass)
    × (vec_len l.seats ≡ l.counter) × AreWorkers l.turn (knows l.initial.pass) l.seats.items
