use Rattle.std.proofs.Common.{◌++◌, ◌∷◌, ◌∙◌, [], ap, string_bytes}
use Rattle.xm_shape.specs.Views.{names_of}
use Rattle.xm_shape.specs.Names.{Name}
use Rattle.xm_netlist.specs.Checks.{check_offered}
use Rattle.xm_netlist.proofs.Testing.{taken, test_passed}
use Rattle.xm_netlist.proofs.colouring.check_all_offered.Goals as goal

pub loop-i-preserved : goal.loop-i-preserved
loop-i-preserved c = record {
  before = taken string_bytes c.args.names.now c.loop-i.i c.index-names-i.result c.loop-i-test.true c.index-names-i.is (names_of c.loop-i.before.keys) _ c.loop-i.invariant.before
      (c.in_ok-check_offered_at_place.ensures.kept ∙ ap (λ (n : Name). names_of c.loop-i.before.keys ++ n ∷ []) c.as_str.ensures.value);
  offered = test_passed string_bytes c.args.names.now c.loop-i.i c.index-names-i.result c.loop-i-test.true c.index-names-i.is (check_offered (names_of c.args.colours.now.keys) c.args.path.now (names_of c.args.names.now)) _
      (rw (c.loop-i.invariant.before, c.as_str.ensures.value) at c.in_ok-check_offered_at_place.ensures.named) c.loop-i.invariant.offered;
}
