use Rattle.xm_parts.proofs.Neighbouring.{neighbour_below, neighbour_differs}
use Rattle.xm_parts.specs.Kept.{label_at}
use Rattle.xm_parts.proofs.parts.Parts.neighbours.Goals as goal

pub returns-clause-others : goal.returns-clause-others
returns-clause-others c q near =
    let net = c.args.self.now.design.net in let label = label_at c.args.self.now.labels in
    (neighbour_below net c.count-count.ensures.designed.net label c.args.p q c.args.self.now.count c.count-count.ensures.below near, neighbour_differs net label c.args.p q near)
