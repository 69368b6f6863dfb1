use Rattle.std.proofs.Common.{take, map}
use Rattle.std.specs.List.{All}
use Rattle.xm_model.specs.Component.{component_of}
use Rattle.xm_tests_nets.specs.Inner.Fitting.{Fits}
use Rattle.xm_tests_nets.proofs.nets.all_fit.Given as goal

abbrev pub invariant-loop-prim : goal.invariant-loop-prim
invariant-loop-prim l = All (λ prim. Fits l.channels l.colours (component_of prim)) (take l.prim-index l.prims)
