-- What a job and what was done of it hold.
use Rattle.std.specs.Prelude.{◌≡◌, ℕ, suc, ◌<◌, ◌≤◌, ◌^◌, length}
use Rattle.xm_board.specs.Run.{IsNamed, RunName, row_at}
use Rattle.xm_board.specs.declared.newest.Newest.{Newest}
use Rattle.xm_design.specs.Designed.{Designed}
use Rattle.xm_model.specs.Component.{Content}
use Rattle.xm_model.specs.Signals.{Signals}
use Rattle.xm_parts.specs.Changing.{IsChange}
use Rattle.xm_parts.specs.Choosing.{own_oracles}
use Rattle.xm_parts.specs.Kept.{Division, label_at}
use Rattle.xm_parts.specs.Partition.{channels_in, cuts_in, prims_in}
use Rattle.xm_parts.specs.Projection.{far_moves}
use Rattle.xm_parts.specs.Rows.{IsRoomyRow, row_of}
use Rattle.xm_parts.specs.declared.changes.Change.{Change}
use Rattle.xm_tape.specs.Taped.{Fits, Taped, cycles_of}

-- the run of this tape
abbrev pub run_in : Designed → Division → Taped → RunName
run_in design parts tape = record { net = design.net; tape = tape; labels = parts.labels }

-- both rows have room for part p at any cycle, and the choices are those of its own sources and sinks in the cycle after t
pub record IsNewest (run : RunName) (p t : ℕ) (it : Newest) : Type 0 where
  pub row : IsRoomyRow run.net (label_at run.labels) p it.row
  pub spare : IsRoomyRow run.net (label_at run.labels) p it.spare
  pub far : length it.far ≡ length (cuts_in run.net (label_at run.labels) p)
  pub tape : it.choices.tape ≡ run.tape
  pub cycle : it.choices.cycle ≡ suc t
  pub own : it.choices.own ≡ own_oracles (label_at run.labels) p run.net.prims

-- a step of part p from cycle t to the next can be done
pub record IsTask (design : Designed) (parts : Division) (tape : Taped) (p t : ℕ) : Type 0 where
  pub design_is : parts.design ≡ design
  pub part : p < parts.count
  pub fits : Fits design.net tape
  pub early : suc t < cycles_of tape
  pub few : suc (suc t) < 2 ^ 32

-- the change has room for each cell and each wire of part p
pub record HasRoom (run : RunName) (p : ℕ) (change : Change) : Type 0 where
  pub cells : length (prims_in run.net (label_at run.labels) p) ≤ change.cells.room
  pub wires : length (channels_in run.net (label_at run.labels) p) ≤ change.wires.room

-- the row of cycle t and what moves in it on the far channels
pub record StandsAt (run : RunName) (s : ℕ → ℕ → Content) (φ : ℕ → Signals) (p t : ℕ) (it : Newest) : Type 0 where
  pub row : row_of it.row ≡ row_at run s φ p t
  pub far : it.far ≡ far_moves run.net (label_at run.labels) p (φ t)

-- part p leaves cycle t
pub record IsJob (design : Designed) (parts : Division) (p t : ℕ) (it : Newest) (change : Change) : Type 0 where
  pub task : IsTask design parts it.choices.tape p t
  pub newest : IsNewest (run_in design parts it.choices.tape) p t it
  pub room : HasRoom (run_in design parts it.choices.tape) p change
  pub stands : (s : ℕ → ℕ → Content) (φ : ℕ → Signals) → IsNamed (run_in design parts it.choices.tape) s φ →
      StandsAt (run_in design parts it.choices.tape) s φ p t it

-- the row of the cycle after t, and what differs in it
pub record HasStepped (run : RunName) (s : ℕ → ℕ → Content) (φ : ℕ → Signals) (p t : ℕ) (it : Newest)
    (change : Change) : Type 0 where
  pub row : row_of it.row ≡ row_at run s φ p (suc t)
  pub change_is : IsChange (row_at run s φ p t) (row_at run s φ p (suc t)) change

-- part p has left cycle t
pub record IsDone (design : Designed) (parts : Division) (p t : ℕ) (it : Newest) (change : Change) : Type 0 where
  pub task : IsTask design parts it.choices.tape p t
  pub newest : IsNewest (run_in design parts it.choices.tape) p (suc t) it
  pub stands : (s : ℕ → ℕ → Content) (φ : ℕ → Signals) → IsNamed (run_in design parts it.choices.tape) s φ →
      HasStepped (run_in design parts it.choices.tape) s φ p t it change
