use Rattle.std.proofs.Common.{ℕ}
use Rattle.xm_colours.specs.Inner.Spreading.{IsSpread, work_left}
use Rattle.xm_colours.specs.Inner.Words.{Has}
use Rattle.xm_colours.proofs.spread.Spread.step_all.Given as goal

abbrev pub invariant-loop-self : goal.invariant-loop-self
invariant-loop-self l = record {
  spread : IsSpread l.net l.self;
  kept : (c d : ℕ) → Has l.initial.self.words.items c d → Has l.self.words.items c d;
}

abbrev pub decreases-loop-self : goal.decreases-loop-self
decreases-loop-self l = work_left l.self
