use Rattle.std.proofs.Common.{rules}
use Rattle.xm_turn.proofs.Keeps.{can_raise}
use Rattle.xm_turn.proofs.turn.Turn.raise_floor.Goals as goal

pub fetch_max-requires : goal.fetch_max-requires
fetch_max-requires g c = (
  search rules,
  search rules,
  can_raise g.V.Named.run g.V.Named.floor_of _ _ _ _ _ _ c.requires.looked c.requires.pass.1,
)
