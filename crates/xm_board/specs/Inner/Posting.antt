-- What a post changes in what a board keeps.
use Rattle.std.specs.Prelude.{◌≡◌, ◌≢◌, ℕ, suc, Bool, true, false, cond, List, [], ◌∷◌, ◌++◌, drop, length, map, Some, slice_get, slice_set as set}
use Rattle.xm_board.specs.Inner.Logging.{IsRoomyLog}
use Rattle.xm_board.specs.declared.row_log.RowLog.{RowLog}
use Rattle.xm_board.specs.declared.two_cycles.TwoCycles.{TwoCycles}
use Rattle.xm_model.specs.ListView.{ListView}
use Rattle.xm_model.specs.Net.{Network}
use Rattle.xm_model.specs.Next.{move}
use Rattle.xm_model.specs.Signals.{Signals}
use Rattle.xm_model.specs.declared.state.Wire.{Wire}
use Rattle.xm_parts.specs.Far.{AreFarFrom, IsCutTo}
use Rattle.xm_parts.specs.Partition.{AreNeighbours, channels_in}
use Rattle.xm_parts.specs.Projection.{Row, wire_of}
use Rattle.xm_parts.specs.declared.changes.Change.{Change}
use Rattle.xm_trace.specs.Moves.{moved_on}
use Rattle.xm_trace.specs.declared.trace.Move.{Move}

-- the log has one change more
pub record IsPushed (was : RowLog) (change : Change) (log : RowLog) : Type 0 where
  pub base : log.base ≡ was.base
  pub changes : log.changes.items ≡ was.changes.items ++ change ∷ []
  pub room : log.changes.room ≡ was.changes.room

-- the first row has gone
pub record IsRisen (was log : RowLog) : Type 0 where
  pub rows : (net : Network) (label : ℕ → ℕ) (p : ℕ) (rows : ℕ → Row) → IsRoomyLog net label p rows was →
      IsRoomyLog net label p (λ k. rows (suc k)) log
  pub changes : log.changes.items ≡ drop 1 was.changes.items
  pub room : log.changes.room ≡ was.changes.room

pub record AreRisen (old new : List RowLog) : Type 0 where
  pub whole : length new ≡ length old
  pub each : (p : ℕ) (was log : RowLog) → slice_get old p ≡ Some was → slice_get new p ≡ Some log → IsRisen was log

-- the moves of cycle t on these channels
abbrev pub moves_on : Signals → ℕ → List ℕ → List Move
moves_on φ t [] = []
moves_on φ t (c ∷ cs) = moved_on t c (move φ c) ++ moves_on φ t cs

-- of part q nothing but what moves in part p is set, and that in its own cycle or in the next alone
pub record IsTold (net : Network) (label : ℕ → ℕ) (p q : ℕ) (level : Bool) (was it : TwoCycles) : Type 0 where
  pub now_whole : length it.now ≡ length was.now
  pub next_whole : length it.next ≡ length was.next
  pub now_rest : (r k c : ℕ) → IsCutTo net label q r k c → r ≢ p → slice_get it.now k ≡ slice_get was.now k
  pub next_rest : (r k c : ℕ) → IsCutTo net label q r k c → r ≢ p → slice_get it.next k ≡ slice_get was.next k
  pub next_same : level ≡ true → it.next ≡ was.next
  pub now_same : level ≡ false → it.now ≡ was.now

-- part q has what moves in part p
abbrev pub HasHeard : Network → (ℕ → ℕ) → ℕ → ℕ → List Wire → Bool → TwoCycles → Type 0
HasHeard net label p q wires level it =
    (φ : Signals) → wires ≡ map (wire_of φ) (channels_in net label p) →
    AreFarFrom net label q p φ (cond level it.now it.next)

-- every neighbour of part p has what moves in it; those that are level with it in their own cycle, others in the next
pub record AreTold (net : Network) (label : ℕ → ℕ) (p : ℕ) (wires : List Wire) (level : ℕ → Bool)
    (old new : List TwoCycles) : Type 0 where
  pub whole : length new ≡ length old
  pub each : (q : ℕ) (was it : TwoCycles) → slice_get old q ≡ Some was → slice_get new q ≡ Some it →
      IsTold net label p q (level q) was it
  pub heard : (q : ℕ) (it : TwoCycles) → AreNeighbours net label p q → slice_get new q ≡ Some it →
      HasHeard net label p q wires (level q) it

-- part p's rows are one more
pub record IsPushedAt (old : List RowLog) (p : ℕ) (change : Change) (new : List RowLog) : Type 0 where
  pub was : RowLog
  pub log : RowLog
  pub at : slice_get old p ≡ Some was
  pub pushed : IsPushed was change log
  pub new_is : new ≡ set old p log

-- part p's moves have those on these channels behind them
pub record AreNotedAt (old : List (ListView Move)) (p t : ℕ) (channels : List ℕ) (wires : List Wire)
    (new : List (ListView Move)) : Type 0 where
  pub was : ListView Move
  pub moves : ListView Move
  pub at : slice_get old p ≡ Some was
  pub items : (φ : Signals) → wires ≡ map (wire_of φ) channels → moves.items ≡ was.items ++ moves_on φ t channels
  pub room : moves.room ≡ was.room
  pub new_is : new ≡ set old p moves

-- what moved in part p's next cycle moves in its own
pub record IsTurnedAt (old : List TwoCycles) (p : ℕ) (new : List TwoCycles) : Type 0 where
  pub was : TwoCycles
  pub at : slice_get old p ≡ Some was
  pub new_is : new ≡ set old p (record { now = was.next; next = was.now })

-- the first rows have gone, or nothing has
abbrev pub AreRisenIf : Bool → List RowLog → List RowLog → Type 0
AreRisenIf true old new = AreRisen old new
AreRisenIf false old new = new ≡ old
