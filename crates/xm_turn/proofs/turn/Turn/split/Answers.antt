use Rattle.std.proofs.Common.{rules}
use Rattle.xm_turn.proofs.Keeps.{can_split}
use Rattle.xm_turn.proofs.turn.Turn.split.Goals as goal

pub split_seat-seat-requires : goal.split_seat-seat-requires
split_seat-seat-requires g c = (
  search rules,
  search rules,
  can_split g.V.Named.run g.V.Named.floor_of _ _ _ _ c.requires.pass.1.0 c.requires.shares,
)
