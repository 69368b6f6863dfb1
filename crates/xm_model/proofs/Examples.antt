-- Worked runs: each frame solves the equations, and what moves is as written.
use Rattle.std.proofs.Common.{◌≡◌, ℕ, zero, suc, ◌<◌, Bool, true, false, Option, Some, None, List, [], ◌∷◌, slice_get, refl, subst, arith}
use Rattle.xm_model.specs.Component.{Component, Content, Merge, Packets, Queue, Sink, Source}
use Rattle.xm_model.specs.Frame.{Equation, IsFrame}
use Rattle.xm_model.specs.Views.{choice_at, signals_of}
use Rattle.xm_model.specs.Net.{IsWiredAt, Network}
use Rattle.xm_model.specs.Next.{move, next, reset}
use Rattle.xm_model.specs.Run.{IsRun, count, moves}
use Rattle.xm_model.specs.Signals.{Signals}
use Rattle.xm_model.specs.declared.state.Choice.{Choice}
use Rattle.xm_model.specs.declared.state.Choice.TheVariants.{Offer, Ready}
use Rattle.xm_model.specs.declared.primitive.SinkMode.TheVariants as sink_mode
use Rattle.xm_model.specs.declared.primitive.SourceMode.TheVariants as source_mode
use Rattle.xm_model.specs.declared.state.Wire.{Wire}

-- the equations of these primitives, one after another
abbrev Solved : List Component → (ℕ → Content) → (ℕ → Choice) → Signals → Type 0
Solved [] s w φ = Unit {0}
Solved (m ∷ ms) s w φ = Equation m (s 0) (w 0) φ × Solved ms (λ p. s (suc p)) (λ p. w (suc p)) φ

solved : (ms : List Component) (s : ℕ → Content) (w : ℕ → Choice) (φ : Signals) → Solved ms s w φ → (p : ℕ) (m : Component) → slice_get ms p ≡ Some m → Equation m (s p) (w p) φ
solved [] s w φ all p m has = absurd cc
solved (x ∷ ms) s w φ all zero m has = let same : x ≡ m = cc in subst (λ (y : Component). Equation y (s 0) (w 0) φ) same all.0
solved (x ∷ ms) s w φ all (suc p) m has = solved ms (λ q. s (suc q)) (λ q. w (suc q)) φ all.1 p m has

abbrev wire : Option ℕ → Bool → Wire
wire offer ready = record { offer = offer; ready = ready }

-- the states that follow these frames
abbrev states : Network → (ℕ → Signals) → ℕ → ℕ → Content
states net φ zero = reset net
states net φ (suc t) = next net (states net φ t) (φ t)

abbrev chosen : Network → (ℕ → List Choice) → ℕ → ℕ → Choice
chosen net rows t p = choice_at net.prims (rows t) p

-- a source, a queue of capacity 1 and a sink, in a row; the sink keeps its readiness
abbrev row_net : Network
row_net = record { prims = Source 0 (0 ∷ []) source_mode.Keep ∷ Queue 0 1 1 [] ∷ Sink 1 sink_mode.Keep ∷ []; channels = 2; colours = 1 }

abbrev row_tape : ℕ → List Choice
row_tape zero = Offer (Some 0) ∷ Ready true ∷ []
row_tape (suc t) = Offer None ∷ Ready false ∷ []

abbrev row_frames : ℕ → Signals
row_frames zero = signals_of (wire (Some 0) true ∷ wire None true ∷ [])
row_frames (suc t) = signals_of (wire None false ∷ wire (Some 0) true ∷ [])

row_run : IsRun row_net 2 (chosen row_net row_tape) (states row_net row_frames) row_frames
row_run = record { start = λ p. refl; frames = frames; steps = λ t p h. refl } where
  frames : (t : ℕ) → t < 2 → IsFrame row_net (states row_net row_frames t) (chosen row_net row_tape t) (row_frames t)
  frames zero h = solved row_net.prims _ _ _ (record { offer_out = refl }, (record { ready_in = refl; offer_out = refl }, (record { ready_in = refl }, tt)))
  frames (suc zero) h = solved row_net.prims _ _ _ (record { offer_out = refl }, (record { ready_in = refl; offer_out = refl }, (record { ready_in = refl }, tt)))
  frames (suc (suc t)) h = absurd (omega arith)

row_moves : (move (row_frames 0) 0 ≡ Some 0) × (move (row_frames 0) 1 ≡ None) × (move (row_frames 1) 0 ≡ None) × (move (row_frames 1) 1 ≡ Some 0) × (moves row_frames 0 0 2 ≡ 1) × (moves row_frames 1 0 2 ≡ 1)
row_moves = (refl, refl, refl, refl, refl, refl)

-- the same with two colours: an offer that is refused stands, although another colour is chosen
abbrev stall_net : Network
stall_net = record { prims = Source 0 (0 ∷ 1 ∷ []) source_mode.Keep ∷ Queue 0 1 1 [] ∷ Sink 1 sink_mode.Keep ∷ []; channels = 2; colours = 2 }

abbrev stall_tape : ℕ → List Choice
stall_tape zero = Offer (Some 0) ∷ Ready false ∷ []
stall_tape (suc zero) = Offer (Some 1) ∷ Ready false ∷ []
stall_tape (suc (suc zero)) = Offer (Some 0) ∷ Ready true ∷ []
stall_tape (suc (suc (suc zero))) = Offer (Some 0) ∷ Ready true ∷ []
stall_tape (suc (suc (suc (suc t)))) = Offer None ∷ Ready false ∷ []

abbrev stall_frames : ℕ → Signals
stall_frames zero = signals_of (wire (Some 0) true ∷ wire None false ∷ [])
stall_frames (suc zero) = signals_of (wire (Some 1) false ∷ wire (Some 0) false ∷ [])
stall_frames (suc (suc zero)) = signals_of (wire (Some 1) false ∷ wire (Some 0) true ∷ [])
stall_frames (suc (suc (suc zero))) = signals_of (wire (Some 1) true ∷ wire None true ∷ [])
stall_frames (suc (suc (suc (suc t)))) = signals_of (wire None false ∷ wire (Some 1) true ∷ [])

stall_run : IsRun stall_net 5 (chosen stall_net stall_tape) (states stall_net stall_frames) stall_frames
stall_run = record { start = λ p. refl; frames = frames; steps = λ t p h. refl } where
  frames : (t : ℕ) → t < 5 → IsFrame stall_net (states stall_net stall_frames t) (chosen stall_net stall_tape t) (stall_frames t)
  frames zero h = solved stall_net.prims _ _ _ (record { offer_out = refl }, (record { ready_in = refl; offer_out = refl }, (record { ready_in = refl }, tt)))
  frames (suc zero) h = solved stall_net.prims _ _ _ (record { offer_out = refl }, (record { ready_in = refl; offer_out = refl }, (record { ready_in = refl }, tt)))
  frames (suc (suc zero)) h = solved stall_net.prims _ _ _ (record { offer_out = refl }, (record { ready_in = refl; offer_out = refl }, (record { ready_in = refl }, tt)))
  frames (suc (suc (suc zero))) h = solved stall_net.prims _ _ _ (record { offer_out = refl }, (record { ready_in = refl; offer_out = refl }, (record { ready_in = refl }, tt)))
  frames (suc (suc (suc (suc zero)))) h = solved stall_net.prims _ _ _ (record { offer_out = refl }, (record { ready_in = refl; offer_out = refl }, (record { ready_in = refl }, tt)))
  frames (suc (suc (suc (suc (suc t))))) h = absurd (omega arith)

stall_moves : (moves stall_frames 0 0 5 ≡ 1) × (moves stall_frames 0 1 5 ≡ 1) × (moves stall_frames 1 0 5 ≡ 1) × (moves stall_frames 1 1 5 ≡ 1) × (move (stall_frames 3) 0 ≡ Some 1)
stall_moves = (refl, refl, refl, refl, refl)

-- an eager source and a sink
abbrev eager_net : Network
eager_net = record { prims = Source 0 (0 ∷ 1 ∷ []) source_mode.Eager ∷ Sink 0 sink_mode.Keep ∷ []; channels = 1; colours = 2 }

abbrev eager_tape : ℕ → List Choice
eager_tape zero = Offer None ∷ Ready false ∷ []
eager_tape (suc zero) = Offer None ∷ Ready true ∷ []
eager_tape (suc (suc zero)) = Offer (Some 1) ∷ Ready false ∷ []
eager_tape (suc (suc (suc t))) = Offer None ∷ Ready true ∷ []

abbrev eager_frames : ℕ → Signals
eager_frames zero = signals_of (wire (Some 0) false ∷ [])
eager_frames (suc zero) = signals_of (wire (Some 0) true ∷ [])
eager_frames (suc (suc zero)) = signals_of (wire (Some 1) false ∷ [])
eager_frames (suc (suc (suc t))) = signals_of (wire (Some 1) true ∷ [])

eager_run : IsRun eager_net 4 (chosen eager_net eager_tape) (states eager_net eager_frames) eager_frames
eager_run = record { start = λ p. refl; frames = frames; steps = λ t p h. refl } where
  frames : (t : ℕ) → t < 4 → IsFrame eager_net (states eager_net eager_frames t) (chosen eager_net eager_tape t) (eager_frames t)
  frames zero h = solved eager_net.prims _ _ _ (record { offer_out = refl }, (record { ready_in = refl }, tt))
  frames (suc zero) h = solved eager_net.prims _ _ _ (record { offer_out = refl }, (record { ready_in = refl }, tt))
  frames (suc (suc zero)) h = solved eager_net.prims _ _ _ (record { offer_out = refl }, (record { ready_in = refl }, tt))
  frames (suc (suc (suc zero))) h = solved eager_net.prims _ _ _ (record { offer_out = refl }, (record { ready_in = refl }, tt))
  frames (suc (suc (suc (suc t)))) h = absurd (omega arith)

eager_moves : (move (eager_frames 0) 0 ≡ None) × (move (eager_frames 1) 0 ≡ Some 0) × (move (eager_frames 2) 0 ≡ None) × (move (eager_frames 3) 0 ≡ Some 1)
eager_moves = (refl, refl, refl, refl)

-- a merge: a grant that stalls is held, and then the other side has its turn
abbrev merge_net : Network
merge_net = record { prims = Source 0 (0 ∷ []) source_mode.Keep ∷ Source 1 (1 ∷ []) source_mode.Keep ∷ Merge 0 1 2 ∷ Sink 2 sink_mode.Keep ∷ []; channels = 3; colours = 2 }

abbrev merge_tape : ℕ → List Choice
merge_tape zero = Offer None ∷ Offer (Some 1) ∷ Ready false ∷ []
merge_tape (suc zero) = Offer (Some 0) ∷ Offer None ∷ Ready false ∷ []
merge_tape (suc (suc t)) = Offer None ∷ Offer None ∷ Ready true ∷ []

abbrev merge_frames : ℕ → Signals
merge_frames zero = signals_of (wire None false ∷ wire (Some 1) false ∷ wire (Some 1) false ∷ [])
merge_frames (suc zero) = signals_of (wire (Some 0) false ∷ wire (Some 1) false ∷ wire (Some 1) false ∷ [])
merge_frames (suc (suc zero)) = signals_of (wire (Some 0) false ∷ wire (Some 1) true ∷ wire (Some 1) true ∷ [])
merge_frames (suc (suc (suc t))) = signals_of (wire (Some 0) true ∷ wire None false ∷ wire (Some 0) true ∷ [])

merge_run : IsRun merge_net 4 (chosen merge_net merge_tape) (states merge_net merge_frames) merge_frames
merge_run = record { start = λ p. refl; frames = frames; steps = λ t p h. refl } where
  frames : (t : ℕ) → t < 4 → IsFrame merge_net (states merge_net merge_frames t) (chosen merge_net merge_tape t) (merge_frames t)
  frames zero h = solved merge_net.prims _ _ _ (record { offer_out = refl }, (record { offer_out = refl }, (record { offer_out = refl; ready_a = refl; ready_b = refl }, (record { ready_in = refl }, tt))))
  frames (suc zero) h = solved merge_net.prims _ _ _ (record { offer_out = refl }, (record { offer_out = refl }, (record { offer_out = refl; ready_a = refl; ready_b = refl }, (record { ready_in = refl }, tt))))
  frames (suc (suc zero)) h = solved merge_net.prims _ _ _ (record { offer_out = refl }, (record { offer_out = refl }, (record { offer_out = refl; ready_a = refl; ready_b = refl }, (record { ready_in = refl }, tt))))
  frames (suc (suc (suc zero))) h = solved merge_net.prims _ _ _ (record { offer_out = refl }, (record { offer_out = refl }, (record { offer_out = refl; ready_a = refl; ready_b = refl }, (record { ready_in = refl }, tt))))
  frames (suc (suc (suc (suc t)))) h = absurd (omega arith)

merge_moves : (move (merge_frames 2) 0 ≡ None) × (move (merge_frames 2) 1 ≡ Some 1) × (move (merge_frames 2) 2 ≡ Some 1) × (move (merge_frames 3) 0 ≡ Some 0) × (move (merge_frames 3) 1 ≡ None) × (move (merge_frames 3) 2 ≡ Some 0)
merge_moves = (refl, refl, refl, refl, refl, refl)

-- both sides offer in the first cycle: the merge begins with side a, and then they take turns
abbrev merge_turns : ℕ → Signals
merge_turns zero = signals_of (wire (Some 0) true ∷ wire (Some 1) false ∷ wire (Some 0) true ∷ [])
merge_turns (suc t) = signals_of (wire (Some 0) false ∷ wire (Some 1) true ∷ wire (Some 1) true ∷ [])

abbrev merge_both : ℕ → List Choice
merge_both t = Offer (Some 0) ∷ Offer (Some 1) ∷ Ready true ∷ []

merge_run_of_both : IsRun merge_net 2 (chosen merge_net merge_both) (states merge_net merge_turns) merge_turns
merge_run_of_both = record { start = λ p. refl; frames = frames; steps = λ t p h. refl } where
  frames : (t : ℕ) → t < 2 → IsFrame merge_net (states merge_net merge_turns t) (chosen merge_net merge_both t) (merge_turns t)
  frames zero h = solved merge_net.prims _ _ _ (record { offer_out = refl }, (record { offer_out = refl }, (record { offer_out = refl; ready_a = refl; ready_b = refl }, (record { ready_in = refl }, tt))))
  frames (suc zero) h = solved merge_net.prims _ _ _ (record { offer_out = refl }, (record { offer_out = refl }, (record { offer_out = refl; ready_a = refl; ready_b = refl }, (record { ready_in = refl }, tt))))
  frames (suc (suc t)) h = absurd (omega arith)

-- a queue that begins with a packet
abbrev begun_net : Network
begun_net = record { prims = Source 0 (0 ∷ []) source_mode.Fair ∷ Queue 0 1 2 (1 ∷ []) ∷ Sink 1 sink_mode.Keep ∷ []; channels = 2; colours = 2 }

abbrev begun_tape : ℕ → List Choice
begun_tape t = Offer (Some 0) ∷ Ready true ∷ []

abbrev begun_frames : ℕ → Signals
begun_frames t = signals_of (wire (Some 0) true ∷ wire (Some 1) true ∷ [])

begun_run : IsRun begun_net 1 (chosen begun_net begun_tape) (states begun_net begun_frames) begun_frames
begun_run = record { start = λ p. refl; frames = frames; steps = λ t p h. refl } where
  frames : (t : ℕ) → t < 1 → IsFrame begun_net (states begun_net begun_frames t) (chosen begun_net begun_tape t) (begun_frames t)
  frames zero h = solved begun_net.prims _ _ _ (record { offer_out = refl }, (record { ready_in = refl; offer_out = refl }, (record { ready_in = refl }, tt)))
  frames (suc t) h = absurd (omega arith)

begun_after : (states begun_net begun_frames 1 1 ≡ Packets (0 ∷ [])) × (count (states begun_net begun_frames 1) 1 0 ≡ 1)
begun_after = (refl, refl)

-- a queue that feeds itself: its packet leaves and comes in the same cycle
abbrev ring_net : Network
ring_net = record { prims = Queue 0 0 2 (0 ∷ []) ∷ []; channels = 1; colours = 1 }

abbrev ring_frames : ℕ → Signals
ring_frames t = signals_of (wire (Some 0) true ∷ [])

ring_run : IsRun ring_net 1 (chosen ring_net (λ t. [])) (states ring_net ring_frames) ring_frames
ring_run = record { start = λ p. refl; frames = frames; steps = λ t p h. refl } where
  frames : (t : ℕ) → t < 1 → IsFrame ring_net (states ring_net ring_frames t) (chosen ring_net (λ i. []) t) (ring_frames t)
  frames zero h = solved ring_net.prims _ _ _ (record { ready_in = refl; offer_out = refl }, tt)
  frames (suc t) h = absurd (omega arith)

ring_wired : IsWiredAt ring_net.prims 0
ring_wired = record { initiator = (0, refl); target = (0, refl) }

ring_after : (states ring_net ring_frames 1 0 ≡ Packets (0 ∷ [])) × (moves ring_frames 0 0 1 ≡ 1)
ring_after = (refl, refl)
