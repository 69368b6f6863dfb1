use Rattle.std.proofs.Common.{◌++◌, ◌∷◌, ◌∙◌, [], ap, string_bytes}
use Rattle.xm_shape.specs.Views.{names_of}
use Rattle.xm_shape.specs.Names.{Name}
use Rattle.xm_netlist.specs.Checks.{check_colour_name}
use Rattle.xm_netlist.proofs.Testing.{taken, test_passed}
use Rattle.xm_netlist.proofs.naming.check_colour_names.Goals as goal

pub loop-i-preserved : goal.loop-i-preserved
loop-i-preserved c = record {
  before = taken string_bytes c.args.colours.now c.loop-i.i c.index-colours-i.result c.loop-i-test.true c.index-colours-i.is (names_of c.loop-i.before.keys) _ c.loop-i.invariant.before
      (c.in_ok-check_colour_name.ensures.kept ∙ ap (λ (n : Name). names_of c.loop-i.before.keys ++ n ∷ []) c.as_str.ensures.value);
  named = test_passed string_bytes c.args.colours.now c.loop-i.i c.index-colours-i.result c.loop-i-test.true c.index-colours-i.is (check_colour_name (names_of c.args.colours.now)) _
      (rw (c.loop-i.invariant.before, c.as_str.ensures.value) at c.in_ok-check_colour_name.ensures.named) c.loop-i.invariant.named;
}
