use Rattle.std.proofs.Common.{◌≡◌, ◌≤◌, length}
use Rattle.xm_colours.specs.Family.{colours_at}
use Rattle.xm_flow.proofs.Setting.{below}
use Rattle.xm_flow.proofs.evaluate.colour_at.Given as goal

abbrev pub invariant-loop-d : goal.invariant-loop-d
invariant-loop-d l = record {
  number : l.seen ≡ length (below (colours_at l.design.colours l.c) l.d);
  low : l.seen ≤ l.k;
  few : l.seen ≤ l.d;
}
