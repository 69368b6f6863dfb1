-- Inner: a run that has come so far.
use Rattle.std.specs.Prelude.{◌≡◌, length}
use Rattle.xm_commands.specs.declared.running.RunSoFar.{RunSoFar}
use Rattle.xm_design.specs.Designed.{Designed}
use Rattle.xm_tape.specs.Taped.{Taped}
use Rattle.xm_trace.specs.Rounds.{IsUnderway}

-- state and text are those of the tape's run after so many cycles
pub record IsBegun (design : Designed) (tape : Taped) (run : RunSoFar) : Type 0 where
  pub here : IsUnderway design.net tape run.text run.running.slots.items
  pub colours : run.text.colours ≡ design.net.colours
  pub labels : length run.labels.channels ≡ design.net.channels
