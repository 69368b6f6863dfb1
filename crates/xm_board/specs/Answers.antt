-- What a take of the board answers.
use Rattle.std.specs.Prelude.{◌≡◌, ℕ, true, false}
use Rattle.xm_board.specs.Core.{AllDone, Core, IsLeastOut, IsNext, NoneReady, cycle, is_out, taken}
use Rattle.xm_board.specs.declared.board_core.Choice.{Choice}
use Rattle.xm_board.specs.declared.board_core.Choice.TheVariants.{Finished, Job, NotYet, Stopped}
use Rattle.xm_board.specs.Run.{Boarded, JobName}
use Rattle.xm_board.specs.declared.answers.Take.{Take}
use Rattle.xm_board.specs.declared.answers.Take.TheVariants as take

-- that it was stopped; else that all is done, the ready part with the least cycle and then the least number, or where
-- none is ready the least part that is out
abbrev pub IsChoice : Core → Choice → Type 0
IsChoice c Stopped = c.stopped ≡ true
IsChoice c Finished = (c.stopped ≡ false) × AllDone c
IsChoice c (Job p) = (c.stopped ≡ false) × IsNext c p
IsChoice c (NotYet p) = (c.stopped ≡ false) × NoneReady c × IsLeastOut c p

-- part p is out, and it is at cycle t
abbrev pub IsCurrent : Core → ℕ → ℕ → Type 0
IsCurrent c p t = (is_out c p ≡ true) × (cycle c p ≡ t)

-- the job of part p, which leaves the part's cycle
abbrev pub job_at : Boarded → ℕ → JobName
job_at b p = record { run = b.run; part = p; cycle = cycle b.core p }

-- the same of the board, with the core after it: only a job changes it
abbrev pub IsTake : Boarded → Take JobName → Core → Type 0
IsTake b take.Stopped after = (b.core.stopped ≡ true) × (after ≡ b.core)
IsTake b take.Finished after = (b.core.stopped ≡ false) × AllDone b.core × (after ≡ b.core)
IsTake b (take.Job j) after = (b.core.stopped ≡ false) × IsNext b.core j.part × (j ≡ job_at b j.part)
    × (after ≡ taken b.core j.part)
IsTake b (take.NotYet p) after = (b.core.stopped ≡ false) × NoneReady b.core × IsLeastOut b.core p × (after ≡ b.core)
