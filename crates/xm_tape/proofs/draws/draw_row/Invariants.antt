use Rattle.std.proofs.Common.{◌≡◌, ◌-◌, ◌++◌, length, drop, map, take}
use Rattle.xm_tape.specs.Inner.Forms.{component_drawn}
use Rattle.xm_tape.specs.Draws.{number_after, row_drawn}
use Rattle.xm_tape.proofs.draws.draw_row.Given as goal

abbrev pub invariant-loop-k : goal.invariant-loop-k
invariant-loop-k l = record {
  row : take l.k l.row ++ row_drawn (map component_drawn (drop l.k l.oracles)) l.number ≡ row_drawn (map component_drawn l.oracles) l.before;
  number : number_after (length l.oracles - l.k) l.number ≡ number_after (length l.oracles) l.before;
}
