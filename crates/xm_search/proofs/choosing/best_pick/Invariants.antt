use Rattle.std.proofs.Common.{◌≡◌, None, drop}
use Rattle.std.specs.Prelude.{IfSome}
use Rattle.xm_search.specs.Inner.Choosing.{IsPick, all_answered}
use Rattle.xm_search.proofs.choosing.best_pick.Given as goal

abbrev pub invariant-loop-on : goal.invariant-loop-on
invariant-loop-on l = record {
  none : l.best ≡ None → all_answered l.design l.path l.path ≡ all_answered l.design l.path (drop l.on-index l.path);
  some : IfSome l.best (IsPick l.design l.path);
}
