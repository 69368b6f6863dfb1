use Rattle.std.proofs.Common.{rules}
use Rattle.xm_turn.proofs.Keeps.{can_try}
use Rattle.xm_turn.proofs.turn.Turn.acquire.Goals as goal

pub compare_exchange-requires : goal.compare_exchange-requires
compare_exchange-requires g c = (
  search rules,
  search rules,
  can_try g.V.Named.run g.V.Named.floor_of _ _ _ _ _ c.requires.pass.1.1 c.requires.pass.1.0 c.requires.pass.0.1,
)
