use Rattle.std.proofs.Common.{map}
use Rattle.std.proofs.lemmas.Result.{err_from_is_err_and}
use Rattle.xm_shape.specs.Views.{names_of, named_primitive_of}
use Rattle.xm_netlist.specs.Checks.{name_of, check_primitive_name}
use Rattle.xm_netlist.proofs.Testing.{name_taken, test_failed, test_passed}
use Rattle.xm_netlist.proofs.naming.check_primitive_names.Goals as goal

pub returns-in_err-check_primitive_name-clause-named : goal.returns-in_err-check_primitive_name-clause-named
returns-in_err-check_primitive_name-clause-named c =
    let p = err_from_is_err_and c.from_residual-in_err-check_primitive_name.result c.from_residual-in_err-check_primitive_name.ensures.1 in
    rw (p.1, p.2)
    (test_failed named_primitive_of c.args.primitives.now c.loop-i.i c.index-primitives-i.result c.loop-i-test.true c.index-primitives-i.is (check_primitive_name (map named_primitive_of c.args.primitives.now)) _ _
    (rw c.loop-i.invariant.before at c.in_err-check_primitive_name.ensures.named) c.loop-i.invariant.named)

pub loop-i-preserved : goal.loop-i-preserved
loop-i-preserved c = record {
  before = name_taken named_primitive_of c.args.primitives.now c.loop-i.i c.index-primitives-i.result c.loop-i-test.true c.index-primitives-i.is name_of (names_of c.loop-i.before.keys) _ c.loop-i.invariant.before c.in_ok-check_primitive_name.ensures.kept;
  named = test_passed named_primitive_of c.args.primitives.now c.loop-i.i c.index-primitives-i.result c.loop-i-test.true c.index-primitives-i.is (check_primitive_name (map named_primitive_of c.args.primitives.now)) _
      (rw c.loop-i.invariant.before at c.in_ok-check_primitive_name.ensures.named) c.loop-i.invariant.named;
}
