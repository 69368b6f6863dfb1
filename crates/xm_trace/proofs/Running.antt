-- One more cycle of a run.
use Rattle.std.proofs.Common.{◌≡◌, ℕ, zero, suc, ◌<◌, ◌≤◌, ◌+◌, ◌-◌, List, ◌++◌, length, get_or, sym, ap, ap₂, subst, ◌∙◌, add-one, append_assoc, arith, refl, Option}
use Rattle.std.proofs.lemmas.Option.{slice_get-get_or}
use Rattle.std.specs.Prelude.{[], slice_index_or}
use Rattle.xm_model.specs.Component.{Content}
use Rattle.xm_model.specs.Frame.{Equation, IsFrame}
use Rattle.xm_model.specs.Views.{IsNextOf, choice_at, content_at, offer_or, ready_or, signals_of}
use Rattle.xm_model.specs.Net.{IsNet, Network}
use Rattle.xm_model.specs.Next.{move}
use Rattle.xm_model.specs.Signals.{Signals, only_if}
use Rattle.xm_model.specs.declared.state.Cell.{Cell}
use Rattle.xm_model.specs.declared.state.Choice.{Choice}
use Rattle.xm_model.specs.declared.state.Wire.{Wire}
use Rattle.xm_order.specs.Dependence.{IsOrder}
use Rattle.xm_order.specs.OneFrame.{SameFrame}
use Rattle.xm_order.specs.OneRun.{OneRun}
use Rattle.xm_order.specs.Lemmas.SameNext.{next_same}
use Rattle.xm_order.specs.declared.signal.Signal.{Signal}
use Rattle.xm_tape.specs.Taped.{Taped, chosen, cycles_of, rows_of}
use Rattle.xm_trace.specs.Moves.{cycle_moves, moved_on, round_moves}
use Rattle.xm_trace.specs.Rounds.{RoundsFollow}
use Rattle.xm_trace.specs.Runs.{AreMovesFrom, AreMovesOfRun, IsRunOf}
use Rattle.xm_trace.specs.declared.trace.Move.{Move}

-- what the wires move on a channel
move_read : (wires : List Wire) (c : ℕ) (d : Wire) → c < length wires → move (signals_of wires) c ≡ only_if (get_or wires c d).ready (get_or wires c d).offer
move_read wires c d below =
    let there = slice_get-get_or wires c d below in
    ap₂ (λ r o. only_if r o) (ap ready_or there) (ap offer_or there)

-- one more channel of a cycle
pub cycle_more : (wires : List Wire) (t c : ℕ) (d : Wire) → c < length wires →
    cycle_moves (signals_of wires) t (c + 1) ≡ cycle_moves (signals_of wires) t c ++ moved_on t c (only_if (get_or wires c d).ready (get_or wires c d).offer)
cycle_more wires t c d below =
    rw add-one (ap (λ (o : Option ℕ). cycle_moves (signals_of wires) t c ++ moved_on t c o) (move_read wires c d below))

-- and its moves noted
pub note_more : (front items new : List Move) (wires : List Wire) (t c : ℕ) (d : Wire) → c < length wires → items ≡ front ++ cycle_moves (signals_of wires) t c
    → new ≡ items ++ moved_on t c (only_if (get_or wires c d).ready (get_or wires c d).offer) → new ≡ front ++ cycle_moves (signals_of wires) t (c + 1)
note_more front items new wires t c d below so_far more =
    let here = moved_on t c (only_if (get_or wires c d).ready (get_or wires c d).offer) in
    more ∙ ap (λ (xs : List Move). xs ++ here) so_far
    ∙ append_assoc front (cycle_moves (signals_of wires) t c) here
    ∙ ap (λ (xs : List Move). front ++ xs) (sym (cycle_more wires t c d below))

-- frames that agree move the same
same_moves : (net : Network) (φ ψ : Signals) (t n : ℕ) → SameFrame net φ ψ → n ≤ net.channels → cycle_moves φ t n ≡ cycle_moves ψ t n
same_moves net φ ψ t zero same few = refl
same_moves net φ ψ t (suc c) same few =
    let at = same c (omega arith) in
    ap₂ (λ (xs : List Move) (ys : List Move). xs ++ ys) (same_moves net φ ψ t c same (omega arith)) (ap (moved_on t c) (ap₂ (λ r o. only_if r o) at.1 at.0))

-- a frame of a state is one of every state that holds the same, under the same choices
frame_at : (net : Network) (s s' : ℕ → Content) (w w' : ℕ → Choice) (φ : Signals) → ((p : ℕ) → s p ≡ s' p) → ((p : ℕ) → w p ≡ w' p) → IsFrame net s' w' φ → IsFrame net s w φ
frame_at net s s' w w' φ same_s same_w frame = λ p m has.
    subst (λ (x : Content). Equation m x (w p) φ) (sym (same_s p)) (subst (λ (x : Choice). Equation m (s' p) x φ) (sym (same_w p)) (frame p m has))

-- The wires that were made in the state of cycle t agree with the run's frame, so that the next state and the
-- moves are the run's.
module _ (net : Network) (is_net : IsNet net) (tape : Taped) (t : ℕ) (below : t < cycles_of tape) (s : ℕ → ℕ → Content) (φ : ℕ → Signals) (run : IsRunOf net tape s φ)
    (before : List Cell) (row : List Choice) (wires : List Wire)
    (here : (p : ℕ) → content_at before p ≡ s t p) (is_row : row ≡ slice_index_or (rows_of tape) t [])
    (only : (ψ : Signals) → IsFrame net (content_at before) (choice_at net.prims row) ψ → SameFrame net ψ (signals_of wires)) where
  same_frame : SameFrame net (φ t) (signals_of wires)
  same_frame =
      only (φ t) (frame_at net (content_at before) (s t) (choice_at net.prims row) (chosen net.prims (rows_of tape) t) (φ t) here
      (λ p. ap (λ (w : List Choice). choice_at net.prims w p) is_row) (run.frames t below))

  pub state_goes : (after : List Cell) → IsNextOf net before (signals_of wires) after → (p : ℕ) → content_at after p ≡ s (t + 1) p
  state_goes after made p =
      rw add-one (made.same p
      ∙ sym (next_same net is_net (φ t) (signals_of wires) same_frame (s t) (content_at before) (λ q. sym (here q)) p)
      ∙ sym (run.steps t p below))

  pub moved_same : length wires ≡ net.channels → cycle_moves (signals_of wires) t (length wires) ≡ cycle_moves (φ t) t net.channels
  moved_same whole = ap (cycle_moves (signals_of wires) t) whole ∙ sym (same_moves net (φ t) (signals_of wires) t net.channels same_frame (omega arith))

  pub moves_go : (from : ℕ) (moves new : List Move) → from ≤ t → length wires ≡ net.channels → moves ≡ round_moves φ net.channels from (t - from) → new ≡ moves ++ cycle_moves (signals_of wires) t (length wires)
      → new ≡ round_moves φ net.channels from (t + 1 - from)
  moves_go from moves new after whole so_far more =
      let later : t + 1 - from ≡ suc (t - from) = omega arith in
      let now : from + (t - from) ≡ t = omega arith in
      rw later (more ∙ ap₂ (λ (xs : List Move) (ys : List Move). xs ++ ys) so_far
      (moved_same whole ∙ ap (λ (i : ℕ). cycle_moves (φ i) i net.channels) (sym now)))

-- what holds of the moves in every run of the tape makes them those of its run, which there is
pub whole_run : OneRun → (net : Network) (signals : List Signal) → IsNet net → IsOrder net signals → (tape : Taped) (moves : List Move) (n : ℕ) → n ≡ cycles_of tape → AreMovesFrom net tape 0 (n - 0) moves → AreMovesOfRun net tape moves
whole_run one_run net signals is_net order tape moves n all every =
    let found = (one_run net signals (cycles_of tape) (chosen net.prims (rows_of tape)) is_net order).0 in
    let many : n - 0 ≡ cycles_of tape = omega (arith, all) in
    record {
      states = found.0;
      frames = found.1.0;
      run = found.1.1;
      same = every found.0 found.1.0 found.1.1 ∙ ap (round_moves found.1.0 net.channels 0) many;
    }

-- what holds of the moves of a round in every run of the tape makes them those of its run, which there is
pub rounds_follow : OneRun → RoundsFollow
rounds_follow one_run net signals tape state n part is_net order same had moved few =
    let found = (one_run net signals (cycles_of tape) (chosen net.prims (rows_of tape)) is_net order).0 in
    record {
      frames = found.1.0;
      follows = record {
        had = had found.0 found.1.0 found.1.1;
        moves = moved found.0 found.1.0 found.1.1 ∙ ap (λ (channels : ℕ). round_moves found.1.0 channels state.cycles n) (sym same);
      };
      few = few;
    }
