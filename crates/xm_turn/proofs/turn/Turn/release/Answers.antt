use Rattle.std.proofs.Common.{rules}
use Rattle.xm_turn.proofs.Keeps.{can_give}
use Rattle.xm_turn.proofs.turn.Turn.release.Goals as goal

pub swap-requires : goal.swap-requires
swap-requires g c =
    let slot = c.requires.slot in (
      search rules,
      search rules,
      can_give g.V.Named.run g.V.Named.floor_of _ _ _ _ _ slot.0 slot.1 c.requires.looked c.requires.pass.1 slot.2.0 slot.2.1,
    )
