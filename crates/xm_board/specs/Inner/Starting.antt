-- What a board keeps at the start.
use Rattle.std.specs.Prelude.{◌≡◌, ℕ, List, [], Some, None, Option, length, map, slice_get}
use Rattle.xm_board.specs.declared.newest.Newest.{Newest}
use Rattle.xm_board.specs.declared.row_log.RowLog.{RowLog}
use Rattle.xm_board.specs.declared.two_cycles.TwoCycles.{TwoCycles}
use Rattle.xm_model.specs.Component.{Content}
use Rattle.xm_model.specs.ListView.{ListView}
use Rattle.xm_model.specs.Net.{Network}
use Rattle.xm_model.specs.Next.{IsFittingState}
use Rattle.xm_model.specs.Signals.{Signals}
use Rattle.xm_model.specs.Views.{content_at, signals_of}
use Rattle.xm_board.specs.Inner.Posting.{moves_on}
use Rattle.xm_order.specs.OneFrame.{SameFrame}
use Rattle.xm_parts.specs.Far.{AreFarFrom}
use Rattle.xm_parts.specs.Partition.{AreNeighbours, channels_in, cuts_in}
use Rattle.xm_parts.specs.Projection.{projection, wire_of}
use Rattle.xm_parts.specs.Rows.{IsRoomyRow, row_of}
use Rattle.xm_parts.specs.declared.row.Snapshot.{Snapshot}
use Rattle.xm_tape.specs.Taped.{Taped}
use Rattle.xm_trace.specs.Runs.{IsRunOf}
use Rattle.xm_trace.specs.declared.trace.Move.{Move}

-- the list has so many items, and each is what its place asks for
pub record AreEach {X : Type 0} (P : ℕ → X → Type 0) (n : ℕ) (xs : List X) : Type 0 where
  pub whole : length xs ≡ n
  pub each : (p : ℕ) (x : X) → slice_get xs p ≡ Some x → P p x

-- a state and a frame of the net's size, and the state fits
pub record IsWholeNet (net : Network) (it : Snapshot) : Type 0 where
  pub cells : length it.state.cells.items ≡ length net.prims
  pub fitting : IsFittingState net (content_at it.state.cells.items)
  pub wires : length it.frame.wires.items ≡ net.channels

-- the state and the frame of the tape's first cycle
pub record IsFirst (net : Network) (tape : Taped) (it : Snapshot) : Type 0 where
  pub whole : IsWholeNet net it
  pub contents : (s : ℕ → ℕ → Content) (φ : ℕ → Signals) → IsRunOf net tape s φ →
      (i : ℕ) → content_at it.state.cells.items i ≡ s 0 i
  pub signals : (s : ℕ → ℕ → Content) (φ : ℕ → Signals) → IsRunOf net tape s φ →
      SameFrame net (φ 0) (signals_of it.frame.wires.items)

-- one row, which is what part p has of the state and the frame
pub record IsFirstLog (net : Network) (label : ℕ → ℕ) (it : Snapshot) (p : ℕ) (log : RowLog) : Type 0 where
  pub base : row_of log.base ≡ projection net label p (content_at it.state.cells.items)
      (signals_of it.frame.wires.items)
  pub roomy : IsRoomyRow net label p log.base
  pub changes : log.changes.items ≡ []

-- what moves on the channels of part p in cycle 0
abbrev pub AreFirstMoves : Network → (ℕ → ℕ) → List RowLog → ℕ → ListView Move → Type 0
AreFirstMoves net label logs p ms =
    (log : RowLog) (φ : Signals) → slice_get logs p ≡ Some log →
    log.base.wires.items ≡ map (wire_of φ) (channels_in net label p) → ms.items ≡ moves_on φ 0 (channels_in net label p)

-- what moves on the far channels of part p is what the rows of its neighbours have
abbrev pub AreHeard : Network → (ℕ → ℕ) → List RowLog → ℕ → List (Option ℕ) → Type 0
AreHeard net label logs p moves =
    (q : ℕ) (log : RowLog) (φ : Signals) → AreNeighbours net label p q → slice_get logs q ≡ Some log →
    log.base.wires.items ≡ map (wire_of φ) (channels_in net label q) → AreFarFrom net label p q φ moves

-- that is so in the part's own cycle; of the next nothing is known yet
pub record IsFirstFar (net : Network) (label : ℕ → ℕ) (logs : List RowLog) (p : ℕ) (it : TwoCycles) : Type 0 where
  pub now_whole : length it.now ≡ length (cuts_in net label p)
  pub next_whole : length it.next ≡ length (cuts_in net label p)
  pub heard : AreHeard net label logs p it.now

-- each log has as many wires as its part has channels
abbrev pub HaveWires : Network → (ℕ → ℕ) → List RowLog → Type 0
HaveWires net label logs =
    (p : ℕ) (log : RowLog) → slice_get logs p ≡ Some log →
    length log.base.wires.items ≡ length (channels_in net label p)

-- no newest row is made yet
abbrev pub IsNoNewest : ℕ → Option Newest → Type 0
IsNoNewest p it = it ≡ None
