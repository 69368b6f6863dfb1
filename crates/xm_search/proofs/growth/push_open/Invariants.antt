use Rattle.std.proofs.Common.{◌≡◌, ◌++◌, map, take}
use Rattle.xm_proof.specs.Argument.{Open, step_of}
use Rattle.xm_search.proofs.growth.push_open.Given as goal

abbrev pub invariant-loop-path : goal.invariant-loop-path
invariant-loop-path l = map step_of l.done.items ≡ map step_of l.fn.done.items ++ map (λ _. Open) (take l._path-index l.leaves)
