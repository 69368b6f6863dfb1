use Rattle.std.proofs.Common.{rules}
use Rattle.xm_turn.proofs.Keeps.{can_join}
use Rattle.xm_turn.proofs.turn.Turn.join.Goals as goal

pub join_seat-requires : goal.join_seat-requires
join_seat-requires g c = (
  search rules,
  search rules,
  search rules,
  search rules,
  can_join g.V.Named.run g.V.Named.floor_of _ _ _ _ _ _ c.requires.pass.1.0 c.requires.other.1.0 c.requires.pass.0.1,
)
