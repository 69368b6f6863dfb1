-- A simulation stands after a take: only which parts are out may change.
use Rattle.std.proofs.Common.{◌≡◌, ◌<◌, ◌≤◌, ◌⊎◌, ◌∙◌, ℕ, suc, subst, sym}
use Rattle.xm_board.specs.Answers.{IsTake}
use Rattle.xm_board.specs.Core.{Core, IsFloor, taken}
use Rattle.xm_board.specs.Run.{Boarded, JobName, RunName}
use Rattle.xm_board.specs.declared.answers.Take.{Take}
use Rattle.xm_board.specs.declared.answers.Take.TheVariants as take
use Rattle.xm_tape.specs.Taped.{cycles_of}
use Rattle.xm_work.specs.Simulating.{IsSimulating, Simulating}

core_taken : (P : Core → Type 0) (b : Boarded) (t : Take JobName) (after : Core) → IsTake b t after → P b.core → ((p : ℕ) → P (taken b.core p)) → P after
core_taken P b take.Stopped after is same other = subst P (sym is.1) same
core_taken P b take.Finished after is same other = subst P (sym is.2) same
core_taken P b (take.Job j) after is same other = subst P (sym is.3) (other j.part)
core_taken P b (take.NotYet p) after is same other = subst P (sym is.3) same

-- what is asked of the core
record IsRoundOf (it : Simulating) (c : Core) : Type 0 where
  pub floor_is : IsFloor c it.floor
  pub within : c.target < cycles_of it.whole.tape.now
  pub begun : c.first ≤ c.target
  pub told : (it.text.cycles ≡ c.first) ⊎ (it.text.cycles ≡ suc c.target)

pub simulating_taken : (it : Simulating) → IsSimulating it → (board : Boarded) (t : Take JobName) → board.run ≡ it.board.run → IsTake it.board t board.core →
    IsSimulating (record { whole = it.whole; board = board; floor = it.floor; text = it.text; lines = it.lines })
simulating_taken it is board t run took =
    let floor = is.floor_is in
    let round : IsRoundOf it board.core = core_taken (IsRoundOf it) it.board t board.core took
    (record { floor_is = is.floor_is; within = is.within; begun = is.begun; told = is.told })
    (λ p. record {
      floor_is = record { part = floor.part; is_part = floor.is_part; at = floor.at; least = floor.least };
      within = is.within;
      begun = is.begun;
      told = is.told;
    }) in
    record {
      run = run ∙ is.run;
      floor_is = round.floor_is;
      within = round.within;
      begun = round.begun;
      named = is.named;
      colours = is.colours;
      channels = is.channels;
      had = is.had;
      told = round.told;
    }
