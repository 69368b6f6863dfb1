use Rattle.xm_step.proofs.advance.advance_cell.Goals as goal

pub advance_holding-requires : goal.advance_holding-requires
advance_holding-requires g c = (_, (c.holding_of.ensures, (c.requires.roomy, c.requires.guarded)))

pub returns : goal.returns
returns g c = c.advance_holding.ensures.gone _ (c.holding_of.ensures, (c.requires.roomy, c.requires.guarded)) (λ stays. absurd (let h = stays in cc))
