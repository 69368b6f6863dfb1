-- What a part has of a state and a frame, and of the moves on the far sides of its cut queues.
use Rattle.std.specs.Prelude.{◌≡◌, ℕ, List, map, Option, Some, None}
use Rattle.xm_model.specs.Component.{Content}
use Rattle.xm_model.specs.Frame.{IsFrame}
use Rattle.xm_model.specs.Net.{Network}
use Rattle.xm_model.specs.Next.{move}
use Rattle.xm_model.specs.Signals.{Signals}
use Rattle.xm_model.specs.declared.state.Choice.{Choice}
use Rattle.xm_model.specs.declared.state.Wire.{Wire}
use Rattle.xm_parts.specs.Partition.{channels_in, cuts_in, far_at, prims_in}

-- contents, each with its primitive, and the signals of channels
pub record Row : Type 0 where
  pub cells : List (ℕ × Content)
  pub wires : List Wire

abbrev pub wire_of : Signals → ℕ → Wire
wire_of φ c = record { offer = φ.offer c; ready = φ.ready c }

-- the contents of the part's primitives, and the signals of its channels, both in order
abbrev pub projection : Network → (ℕ → ℕ) → ℕ → (ℕ → Content) → Signals → Row
projection net label p s φ = record {
  cells = map (λ i. (i, s i)) (prims_in net label p);
  wires = map (wire_of φ) (channels_in net label p);
}

abbrev pub move_on : Signals → Option ℕ → Option ℕ
move_on φ None = None
move_on φ (Some c) = move φ c

-- what moves on the far channel of each cut queue of the part, in primitive order
abbrev pub far_moves : Network → (ℕ → ℕ) → ℕ → Signals → List (Option ℕ)
far_moves net label p φ = map (λ i. move_on φ (far_at net label p i)) (cuts_in net label p)

-- the row and the far moves are those of one cycle of the net, from some state
pub record IsCycle (net : Network) (label : ℕ → ℕ) (p : ℕ) (row : Row) (far : List (Option ℕ)) : Type 0 where
  pub state : ℕ → Content
  pub choices : ℕ → Choice
  pub frame : Signals
  pub is_frame : IsFrame net state choices frame
  pub row_is : row ≡ projection net label p state frame
  pub far_is : far ≡ far_moves net label p frame
