use Rattle.std.proofs.Common.{◌≡◌, take}
use Rattle.xm_colours.specs.Family.{colours_at}
use Rattle.xm_search.specs.GoalOrder.{goals_of}
use Rattle.xm_search.proofs.order.goals_by.Given as goal

abbrev pub invariant-loop-channel : goal.invariant-loop-channel
invariant-loop-channel l = l.goals.items ≡ goals_of (colours_at l.design.colours) (take l.channel-index l.channels)
