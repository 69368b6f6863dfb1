-- What is printed of a run hangs on its frames alone, and these on the tape alone.
use Rattle.std.proofs.Common.{◌≡◌, ℕ, zero, suc, ◌+◌, ◌<◌, ◌≤◌, cond, List, ◌++◌, length, decimal, refl, ap, ap₂, arith}
use Rattle.std.specs.List.{flat_map}
use Rattle.xm_model.specs.TextLines.{line}
use Rattle.xm_model.specs.Naming.{Naming}
use Rattle.xm_model.specs.Net.{Network}
use Rattle.xm_model.specs.Next.{move}
use Rattle.xm_model.specs.Run.{is_offer, moves}
use Rattle.xm_model.specs.Signals.{Signals, only_if}
use Rattle.xm_order.specs.OneFrame.{SameFrame}
use Rattle.xm_trace.specs.Moves.{cycle_moves, moved_on}
use Rattle.xm_trace.specs.Text.{channel_sums, cycle_line, move_text, round_lines, run_text, sum_line, sum_lines}
use Rattle.xm_trace.specs.declared.trace.Move.{Move}

joined : {a b c d : List ℕ} → a ≡ b → c ≡ d → a ++ c ≡ b ++ d
joined p q = ap₂ (λ (x y : List ℕ). x ++ y) p q

module _ (net : Network) (φ ψ : ℕ → Signals) (cycles : ℕ) (same : (t : ℕ) → t < cycles → SameFrame net (φ t) (ψ t)) where
  same_move : (t c : ℕ) → t < cycles → c < net.channels → move (φ t) c ≡ move (ψ t) c
  same_move t c now here = let at = same t now c here in ap₂ (λ r o. only_if r o) at.1 at.0

  same_moves : (t n : ℕ) → t < cycles → n ≤ net.channels → cycle_moves (φ t) t n ≡ cycle_moves (ψ t) t n
  same_moves t zero now few = refl
  same_moves t (suc c) now few = ap₂ (λ (xs ys : List Move). xs ++ ys) (same_moves t c now (omega arith)) (ap (moved_on t c) (same_move t c now (omega arith)))

  pub same_count : (c d n : ℕ) → c < net.channels → n ≤ cycles → moves φ c d n ≡ moves ψ c d n
  same_count c d zero here few = refl
  same_count c d (suc t) here few = ap₂ (λ k m. k + cond (is_offer d m) 1 0) (same_count c d t here (omega arith)) (same_move t c (omega arith) here)

module _ (net : Network) (names : Naming) (named : length names.channels ≡ net.channels) (φ ψ : ℕ → Signals) (cycles : ℕ) (same : (t : ℕ) → t < cycles → SameFrame net (φ t) (ψ t)) where
  same_line : (t : ℕ) → t < cycles → cycle_line names φ t ≡ cycle_line names ψ t
  same_line t now = ap (λ (xs : List Move). line (decimal t ++ flat_map (move_text names) xs)) (same_moves net φ ψ cycles same t (length names.channels) now (omega arith))

  same_lines : (n : ℕ) → n ≤ cycles → round_lines names φ 0 n ≡ round_lines names ψ 0 n
  same_lines zero few = refl
  same_lines (suc t) few = joined (same_lines t (omega arith)) (same_line (0 + t) (omega arith))

  same_channel : (c d : ℕ) → c < net.channels → channel_sums names (λ c d. moves φ c d cycles) c d ≡ channel_sums names (λ c d. moves ψ c d cycles) c d
  same_channel c zero here = refl
  same_channel c (suc d) here = joined (same_channel c d here) (ap (sum_line names c d) (same_count net φ ψ cycles same c d cycles here (omega arith)))

  same_sums : (n : ℕ) → n ≤ net.channels → sum_lines names (λ c d. moves φ c d cycles) n ≡ sum_lines names (λ c d. moves ψ c d cycles) n
  same_sums zero few = refl
  same_sums (suc c) few = joined (same_sums c (omega arith)) (same_channel c (length names.colours) (omega arith))

  pub same_text : run_text names φ cycles ≡ run_text names ψ cycles
  same_text = joined (same_lines cycles (omega arith)) (joined (same_sums (length names.channels) (omega arith)) refl)
