-- Inner: what stays of a board as jobs go out and come in. No public clause cites this.
use Rattle.std.specs.Prelude.{◌≡◌, List, All}
use Rattle.xm_board.specs.Run.{Boarded, JobName, RunName}

-- the run, how many parts there are, and the target
abbrev pub Stays : Boarded → Boarded → Type 0
Stays before after = (after.run ≡ before.run) × (after.core.count ≡ before.core.count)
    × (after.core.target ≡ before.core.target)

-- each of these jobs is of the run
abbrev pub AreOf : RunName → List JobName → Type 0
AreOf run jobs = All (λ j. j.run ≡ run) jobs
