use Rattle.std.proofs.Common.{◌≡◌, None, drop, map}
use Rattle.std.specs.Prelude.{IfSome}
use Rattle.xm_lits.specs.Inference.{inference_of}
use Rattle.xm_search.specs.Inner.Choosing.{IsFresh, all_have}
use Rattle.xm_search.proofs.choosing.pick_of.Given as goal

abbrev pub invariant-loop-k : goal.invariant-loop-k
invariant-loop-k l = record {
  none : l.best ≡ None → all_have l.path (map inference_of l.rules) ≡ all_have l.path (map inference_of (drop l.k l.rules));
  some : IfSome l.best (λ p. (p.on ≡ l.on) × IsFresh l.path (map inference_of l.rules) p.place);
}
