-- Lemmas: one more round of a run, for callers that make its text round by round.
use Rattle.std.proofs.Common.{◌≡◌, ◌≤◌, ◌+◌, ◌-◌, ◌++◌, ◌∙◌, ℕ, List, ap, ap₂, arith, append_assoc, sym, zero-add}
use Rattle.xm_model.specs.Component.{Content}
use Rattle.xm_model.specs.Naming.{Naming}
use Rattle.xm_model.specs.Net.{Network}
use Rattle.xm_model.specs.Signals.{Signals}
use Rattle.xm_tape.specs.Taped.{Taped}
use Rattle.xm_trace.specs.Moves.{round_moves}
use Rattle.xm_trace.specs.Rounds.{HasHadRun, RoundsJoin}
use Rattle.xm_trace.specs.Runs.{AreMovesFrom, IsRunOf}
use Rattle.xm_trace.specs.Text.{end_text, round_lines, run_text}
use Rattle.xm_trace.specs.RunTextState.{Follows, RunTextState}
use Rattle.xm_trace.specs.declared.trace.Move.{Move}

-- the moves from cycle `from` to before `to` are those of the cycles that follow
pub moved_next : (net : Network) (tape : Taped) (state : RunTextState) (from n cycles : ℕ) (moves : List Move) →
    state.cycles ≡ from → cycles ≡ n → AreMovesFrom net tape from n moves →
    AreMovesFrom net tape state.cycles cycles moves
moved_next net tape state from n cycles moves begin many moved s φ run =
    moved s φ run ∙ ap₂ (λ (i k : ℕ). round_moves φ net.channels i k) (sym begin) (sym many)

pub follows_run : (net : Network) (tape : Taped) (state : RunTextState) (cycles : ℕ) (moves : List Move) →
    state.channels ≡ net.channels → HasHadRun net tape state → AreMovesFrom net tape state.cycles cycles moves →
    (s : ℕ → ℕ → Content) (φ : ℕ → Signals) → IsRunOf net tape s φ → Follows state φ cycles moves
follows_run net tape state cycles moves channels had moved s φ run = record {
  had = had s φ run;
  moves = moved s φ run ∙ ap (λ (n : ℕ). round_moves φ n state.cycles cycles) (sym channels);
}

-- the lines with those of one more round
pub lines_joined : RoundsJoin → (names : Naming) (φ : ℕ → Signals) (from had cycles to : ℕ) (lines : List ℕ) →
    had ≡ from → from + cycles ≡ to → lines ≡ round_lines names φ had cycles →
    round_lines names φ 0 from ++ lines ≡ round_lines names φ 0 to
lines_joined join names φ from had cycles to lines begin end made =
    ap (λ (x : List ℕ). round_lines names φ 0 from ++ x)
    (made ∙ ap (λ (i : ℕ). round_lines names φ i cycles) (begin ∙ sym (zero-add from)))
    ∙ sym (join.joined names φ 0 from cycles)
    ∙ ap (round_lines names φ 0) end

-- the lines of the first cycles, and what follows them, are the text
pub rest_of : RoundsJoin → (names : Naming) (φ : ℕ → Signals) (from n : ℕ) → from ≤ n →
    run_text names φ n ≡ round_lines names φ 0 from ++ (round_lines names φ (0 + from) (n - from) ++ end_text names φ n)
rest_of join names φ from n within =
    let split : n ≡ from + (n - from) = omega arith in
    ap (λ (k : ℕ). round_lines names φ 0 k ++ end_text names φ n) split
    ∙ ap (λ (x : List ℕ). x ++ end_text names φ n) (join.joined names φ 0 from (n - from))
    ∙ append_assoc (round_lines names φ 0 from) (round_lines names φ (0 + from) (n - from)) (end_text names φ n)
