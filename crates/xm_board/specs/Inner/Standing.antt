-- When a board stands: what it keeps of each part is that of its run, from the floor to the part's own cycle.
use Rattle.std.specs.Prelude.{◌≡◌, ℕ, suc, ◌+◌, ◌-◌, ◌<◌, ◌≤◌, ◌↔◌, ◌≢◌, true, List, filter, length, Option, Some, slice_get}
use Rattle.xm_board.specs.Core.{Core, IsFloor, cycle, is_near, is_out}
use Rattle.xm_board.specs.Inner.Jobs.{IsNewest, run_in}
use Rattle.xm_board.specs.Inner.Logging.{IsLogOf}
use Rattle.xm_board.specs.Run.{IsNamed, RunName, row_at}
use Rattle.xm_board.specs.declared.newest.Newest.{Newest}
use Rattle.xm_board.specs.declared.row_log.RowLog.{RowLog}
use Rattle.xm_board.specs.declared.two_cycles.TwoCycles.{TwoCycles}
use Rattle.xm_design.specs.Designed.{Designed}
use Rattle.xm_model.specs.Component.{Content}
use Rattle.xm_model.specs.ListView.{ListView}
use Rattle.xm_model.specs.Signals.{Signals}
use Rattle.xm_parts.specs.Far.{AreFarFrom}
use Rattle.xm_parts.specs.Kept.{Division, label_at}
use Rattle.xm_parts.specs.Partition.{AreNeighbours, channels_in, cuts_in, lies_in}
use Rattle.xm_parts.specs.Rows.{IsRoomyRow, row_of}
use Rattle.xm_tape.specs.Taped.{Fits, Taped, cycles_of}
use Rattle.xm_trace.specs.Moves.{round_moves}
use Rattle.xm_trace.specs.declared.trace.Move.{Move}

-- the moves of so many cycles from a cycle on, on the channels of part p
abbrev pub moves_in : RunName → (ℕ → Signals) → ℕ → ℕ → ℕ → List Move
moves_in run φ p from n =
    filter (λ (m : Move). lies_in (label_at run.labels) p m.channel) (round_moves φ run.net.channels from n)

-- the rows of each part from the floor to its own cycle; a part that is out has room for one more
pub record AreLogs (run : RunName) (c : Core) (floor : ℕ) (logs : List RowLog) : Type 0 where
  pub whole : length logs ≡ c.count
  pub roomy : (p : ℕ) (log : RowLog) → slice_get logs p ≡ Some log →
      IsRoomyRow run.net (label_at run.labels) p log.base
  pub long : (p : ℕ) (log : RowLog) → slice_get logs p ≡ Some log → length log.changes.items + floor ≡ cycle c p
  pub room : (p : ℕ) (log : RowLog) → slice_get logs p ≡ Some log → is_out c p ≡ true →
      length log.changes.items < log.changes.room
  pub of : (p : ℕ) (log : RowLog) → slice_get logs p ≡ Some log → (s : ℕ → ℕ → Content) (φ : ℕ → Signals) →
      IsNamed run s φ → IsLogOf run.net (λ k. row_at run s φ p (floor + k)) log

-- the moves of each part in the round; a part that is out has room for those of one more cycle
pub record AreMoves (run : RunName) (c : Core) (moves : List (ListView Move)) : Type 0 where
  pub whole : length moves ≡ c.count
  pub room : (p : ℕ) (ms : ListView Move) → slice_get moves p ≡ Some ms → is_out c p ≡ true →
      length ms.items + length (channels_in run.net (label_at run.labels) p) ≤ ms.room
  pub of : (p : ℕ) (ms : ListView Move) → slice_get moves p ≡ Some ms → (s : ℕ → ℕ → Content) (φ : ℕ → Signals) →
      IsNamed run s φ → ms.items ≡ moves_in run φ p c.first (suc (cycle c p) - c.first)

-- what moves on the far channels of each part, in its own cycle and in the next, in each neighbour that is there
pub record AreFar (run : RunName) (c : Core) (far : List TwoCycles) : Type 0 where
  pub whole : length far ≡ c.count
  pub now_whole : (p : ℕ) (it : TwoCycles) → slice_get far p ≡ Some it →
      length it.now ≡ length (cuts_in run.net (label_at run.labels) p)
  pub next_whole : (p : ℕ) (it : TwoCycles) → slice_get far p ≡ Some it →
      length it.next ≡ length (cuts_in run.net (label_at run.labels) p)
  pub now : (p q : ℕ) (it : TwoCycles) → slice_get far p ≡ Some it →
      AreNeighbours run.net (label_at run.labels) p q → cycle c p ≤ cycle c q →
      (s : ℕ → ℕ → Content) (φ : ℕ → Signals) → IsNamed run s φ →
      AreFarFrom run.net (label_at run.labels) p q (φ (cycle c p)) it.now
  pub next : (p q : ℕ) (it : TwoCycles) → slice_get far p ≡ Some it →
      AreNeighbours run.net (label_at run.labels) p q → cycle c p < cycle c q →
      (s : ℕ → ℕ → Content) (φ : ℕ → Signals) → IsNamed run s φ →
      AreFarFrom run.net (label_at run.labels) p q (φ (suc (cycle c p))) it.next

-- the row of each part's own cycle, but of parts that are out, and of those that were recalled
pub record AreNewest (run : RunName) (c : Core) (newest : List (Option Newest)) : Type 0 where
  pub whole : length newest ≡ c.count
  pub fit : (p : ℕ) (it : Newest) → slice_get newest p ≡ Some (Some it) → IsNewest run p (cycle c p) it
  pub of : (p : ℕ) (it : Newest) → slice_get newest p ≡ Some (Some it) →
      (s : ℕ → ℕ → Content) (φ : ℕ → Signals) → IsNamed run s φ → row_of it.row ≡ row_at run s φ p (cycle c p)

-- the core is that of the parts of a design, the tape has the target, and each part has ended the round before
pub record IsSetUp (design : Designed) (tape : Taped) (parts : Division) (c : Core) : Type 0 where
  pub design_is : parts.design ≡ design
  pub count : c.count ≡ parts.count
  pub fits : Fits design.net tape
  pub target : c.target < cycles_of tape
  pub begun : (p : ℕ) → p < c.count → c.first ≤ suc (cycle c p)
  pub near : (p q : ℕ) → p < c.count →
      (is_near c p q ≡ true) ↔ AreNeighbours design.net (label_at parts.labels) p q
  pub others : (p q : ℕ) → p < c.count → AreNeighbours design.net (label_at parts.labels) p q → (q < c.count) × (q ≢ p)

pub record IsBoard (design : Designed) (tape : Taped) (parts : Division) (c : Core) (floor : ℕ) (logs : List RowLog)
    (moves : List (ListView Move)) (far : List TwoCycles) (newest : List (Option Newest)) : Type 0 where
  pub set_up : IsSetUp design tape parts c
  pub floor_is : IsFloor c floor
  pub logs_are : AreLogs (run_in design parts tape) c floor logs
  pub moves_are : AreMoves (run_in design parts tape) c moves
  pub far_are : AreFar (run_in design parts tape) c far
  pub newest_are : AreNewest (run_in design parts tape) c newest
