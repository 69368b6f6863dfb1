use Rattle.std.proofs.Common.{◌≡◌, ℕ, ◌*◌, ◌≤◌, map}
use Rattle.xm_colours.specs.Family.{colours_at}
use Rattle.xm_design.specs.Numbers.{AreNumbers, pairs_below}
use Rattle.xm_model.specs.Component.{component_of}
use Rattle.xm_model.specs.Views.{oracles_below}
use Rattle.xm_design.proofs.numbers.numbers_of.Given as goal

abbrev pub invariant-loop-p : goal.invariant-loop-p
invariant-loop-p l = record {
  count : l.oracles_below ≡ oracles_below (map component_of l.prims) l.p;
  oracles : AreNumbers (oracles_below (map component_of l.prims)) l.p l.oracles.items;
  below : l.pairs_below ≡ pairs_below (colours_at l.colours) (map component_of l.prims) l.p;
  pairs : AreNumbers (pairs_below (colours_at l.colours) (map component_of l.prims)) l.p l.pairs.items;
  few : (k : ℕ) → k ≤ l.p → pairs_below (colours_at l.colours) (map component_of l.prims) k ≤ 64 * k;
}
