-- The moves of a board's round, where all parts are at the target, are those of the run.
use Rattle.std.proofs.Common.{◌≡◌, ◌<◌, ◌≤◌, ◌-◌, ℕ, suc, List, Option, Some, slice_get, ap, ap₂, sym, subst, ◌∙◌, arith}
use Rattle.std.proofs.lemmas.Option.{slice_get_within}
use Rattle.xm_board.specs.Core.{AllDone, Core, IsCore}
use Rattle.xm_board.specs.Inner.Jobs.{run_in}
use Rattle.xm_board.specs.Inner.Merging.{part_of}
use Rattle.xm_board.specs.Inner.Standing.{IsBoard, moves_in}
use Rattle.xm_board.specs.Run.{Boarded, IsNamed}
use Rattle.xm_board.specs.declared.newest.Newest.{Newest}
use Rattle.xm_board.specs.declared.row_log.RowLog.{RowLog}
use Rattle.xm_board.specs.declared.two_cycles.TwoCycles.{TwoCycles}
use Rattle.xm_design.specs.Designed.{Designed}
use Rattle.xm_model.specs.Component.{Content}
use Rattle.xm_model.specs.ListView.{ListView}
use Rattle.xm_model.specs.Signals.{Signals}
use Rattle.xm_parts.specs.Kept.{Division, label_at}
use Rattle.xm_tape.specs.Taped.{Taped}
use Rattle.xm_trace.specs.Moves.{round_moves}
use Rattle.xm_trace.specs.Runs.{AreMovesFrom}
use Rattle.xm_trace.specs.declared.trace.Move.{Move}

module _ (design : Designed) (tape : Taped) (parts : Division) (c : Core) (floor : ℕ) (logs : List RowLog) (moves : List (ListView Move)) (far : List TwoCycles) (newest : List (Option Newest)) (is : IsBoard design tape parts c floor logs moves far newest)
  where
    pub first_before : IsCore c → c.first ≤ suc c.target
    first_before core =
        let begun = is.set_up.begun is.floor_is.part is.floor_is.is_part in
        let below = core.below is.floor_is.part is.floor_is.is_part in
        omega arith

    -- each part has the moves of the whole round
    round_done : AllDone c → (s : ℕ → ℕ → Content) (φ : ℕ → Signals) → IsNamed (run_in design parts tape) s φ → (p : ℕ) (ms : ListView Move) → slice_get moves p ≡ Some ms →
        ms.items ≡ part_of (label_at parts.labels) p (round_moves φ design.net.channels c.first (suc c.target - c.first))
    round_done done s φ named p ms at =
        let part : p < c.count = (let w = slice_get_within moves p ms at in let l = is.moves_are.whole in omega arith) in
        is.moves_are.of p ms at s φ named ∙ ap (λ (t : ℕ). moves_in (run_in design parts tape) φ p c.first (suc t - c.first)) (done p part)

    pub traced : AllDone c → (b : Boarded) → record { run = run_in design parts tape; core = c } ≡ b → (lent : List (ListView Move)) (from to : ℕ) (made : List Move) → lent ≡ moves → from ≡ c.first → to ≡ suc c.target →
        ((φ : ℕ → Signals) → ((p : ℕ) (ms : ListView Move) → slice_get lent p ≡ Some ms → ms.items ≡ part_of (label_at parts.labels) p (round_moves φ design.net.channels from (to - from))) → made ≡ round_moves φ design.net.channels from (to - from)) →
        AreMovesFrom b.run.net b.run.tape b.core.first (suc b.core.target - b.core.first) made
    traced done b e lent from to made same begin end merged = subst (λ (x : Boarded). AreMovesFrom x.run.net x.run.tape x.core.first (suc x.core.target - x.core.first) made) e
        (λ s φ named.
        (let round : round_moves φ design.net.channels from (to - from) ≡ round_moves φ design.net.channels c.first (suc c.target - c.first) = ap₂ (λ (i j : ℕ). round_moves φ design.net.channels i (j - i)) begin end in
        merged φ (λ p ms at. round_done done s φ named p ms (ap (λ (l : List (ListView Move)). slice_get l p) (sym same) ∙ at) ∙ ap (part_of (label_at parts.labels) p) (sym round)) ∙ round))
