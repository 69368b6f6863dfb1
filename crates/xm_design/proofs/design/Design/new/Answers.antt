use Rattle.xm_design.proofs.design.Design.new.Goals as goal

pub invariant_of-result : goal.invariant_of-result
invariant_of-result c = record {
  designed = record { net = c.is_net.ensures; colours = c.in_ok-colours.ensures.colours; whole = c.in_ok-colours.ensures.whole; order = c.in_ok-order.ensures.ok };
  tables = c.in-Ok.ensures;
}

pub returns-in-Ok-clause-design : goal.returns-in-Ok-clause-design
returns-in-Ok-clause-design c = record { net = c.is_net.ensures; colours = c.in_ok-colours.ensures.colours; whole = c.in_ok-colours.ensures.whole; order = c.in_ok-order.ensures.ok }
