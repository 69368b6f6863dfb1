use Rattle.std.proofs.Common.{◌≡◌, ◌<◌, []}
use Rattle.xm_order.specs.Dependence.{channel_of}
use Rattle.xm_order.specs.Inner.Walk.{HasProgress, IsWalk}
use Rattle.xm_order.specs.declared.signal.Signal.{Signal}
use Rattle.xm_order.specs.declared.walk.Progress.TheVariants.{Done}
use Rattle.xm_order.proofs.walk.Walk.visit_all.Given as goal

abbrev pub invariant-loop-c : goal.invariant-loop-c
invariant-loop-c l = record {
  walk : IsWalk l.net l.self;
  path : l.self.path.items ≡ [];
  done : (σ : Signal) → channel_of σ < l.c → HasProgress l.self.progress.items σ Done;
}
