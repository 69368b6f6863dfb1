use Rattle.std.proofs.Common.{◌≡◌, ◌≤◌, ◌++◌, length, map, drop}
use Rattle.xm_model.specs.Component.{component_of}
use Rattle.xm_tape.specs.Inner.Views.{components_of}
use Rattle.xm_tape.specs.Marks.{oracles_of}
use Rattle.xm_tape.proofs.oracles.oracles_among.Given as goal

abbrev pub invariant-loop-prim : goal.invariant-loop-prim
invariant-loop-prim l = record {
  oracles : components_of l.oracles.items ++ oracles_of (map component_of (drop l.prim-index l.prims)) ≡ oracles_of (map component_of l.prims);
  few : length l.oracles.items ≤ l.prim-index;
}
