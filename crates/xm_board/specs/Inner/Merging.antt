-- The moves of all parts, taken one after another in the order of the run.
use Rattle.std.specs.Prelude.{◌≡◌, ℕ, zero, suc, ◌&&◌, cond, nat_eq, List, [], ◌++◌, filter, length, Option, Some, None, slice_get}
use Rattle.xm_model.specs.ListView.{ListView}
use Rattle.xm_model.specs.Next.{move}
use Rattle.xm_model.specs.Signals.{Signals}
use Rattle.xm_parts.specs.Partition.{lies_in}
use Rattle.xm_trace.specs.Moves.{cycle_moves, moved_on}
use Rattle.xm_trace.specs.declared.trace.Move.{Move}

-- those of the moves that are on channels of part p
abbrev pub part_of : (ℕ → ℕ) → ℕ → List Move → List Move
part_of label p ms = filter (λ (m : Move). lies_in label p m.channel) ms

-- the move, if there is one, and it is of this cycle and on this channel
abbrev pub due : ℕ → ℕ → Option Move → Option Move
due t c None = None
due t c (Some m) = cond (nat_eq m.cycle t && nat_eq m.channel c) (Some m) None

-- of the run's moves the first were taken, and the others are left; each part's place is that of its next move
pub record AreLeft (label : ℕ → ℕ) (all : List (ListView Move)) (places : List ℕ) (made left : List Move) : Type 0 where
  pub each : (p : ℕ) (ms : ListView Move) → slice_get all p ≡ Some ms → ms.items ≡ part_of label p (made ++ left)
  pub place : (p n : ℕ) → slice_get places p ≡ Some n → n ≡ length (part_of label p made)

-- these moves were taken next
pub record AreTaken (label : ℕ → ℕ) (all : List (ListView Move)) (before more left : List Move) (places : List ℕ)
    (made : List Move) : Type 0 where
  pub made_is : made ≡ before ++ more
  pub are_left : AreLeft label all places made left

-- none of the moves is of this cycle and on this channel
abbrev pub NoneAt : ℕ → ℕ → List Move → Type 0
NoneAt t c ms = (k : ℕ) (m : Move) → slice_get ms k ≡ Some m → m.cycle ≡ t → m.channel ≡ c → ⊥

-- none is of this cycle
abbrev pub NoneOf : ℕ → List Move → Type 0
NoneOf t ms = (k : ℕ) (m : Move) → slice_get ms k ≡ Some m → m.cycle ≡ t → ⊥

-- the moves of cycle t on so many channels from channel c on
abbrev pub cycle_rest : Signals → ℕ → ℕ → ℕ → List Move
cycle_rest φ t c zero = []
cycle_rest φ t c (suc n) = moved_on t c (move φ c) ++ cycle_rest φ t (suc c) n

-- the moves of so many cycles from cycle t on
abbrev pub round_rest : (ℕ → Signals) → ℕ → ℕ → ℕ → List Move
round_rest φ channels t zero = []
round_rest φ channels t (suc n) = cycle_moves (φ t) t channels ++ round_rest φ channels (suc t) n
