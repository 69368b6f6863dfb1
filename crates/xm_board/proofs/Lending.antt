-- What a board lends of a part's rows.
use Rattle.std.proofs.Common.{◌≡◌, ℕ, ◌+◌, List, Option, Some, slice_get, ap, ◌∙◌, subst, arith}
use Rattle.xm_board.specs.Core.{Core, IsFloor}
use Rattle.xm_board.specs.Inner.Jobs.{run_in}
use Rattle.xm_board.specs.Inner.Standing.{IsBoard}
use Rattle.xm_board.specs.Run.{AreChanges, Boarded, IsNamed, row_at}
use Rattle.xm_board.specs.declared.newest.Newest.{Newest}
use Rattle.xm_board.specs.declared.row_log.RowLog.{RowLog}
use Rattle.xm_board.specs.declared.two_cycles.TwoCycles.{TwoCycles}
use Rattle.xm_design.specs.Designed.{Designed}
use Rattle.xm_model.specs.Component.{Content}
use Rattle.xm_model.specs.ListView.{ListView}
use Rattle.xm_model.specs.Signals.{Signals}
use Rattle.xm_parts.specs.Kept.{Division}
use Rattle.xm_parts.specs.Rows.{row_of}
use Rattle.xm_tape.specs.Taped.{Taped}
use Rattle.xm_trace.specs.declared.trace.Move.{Move}

one_floor : (c : Core) (one two : ℕ) → IsFloor c one → IsFloor c two → one ≡ two
one_floor c one two a b = let x = a.least b.part b.is_part in let y = b.least a.part a.is_part in let u = a.at in let v = b.at in omega arith

module _ (design : Designed) (tape : Taped) (parts : Division) (c : Core) (floor : ℕ) (logs : List RowLog) (moves : List (ListView Move)) (far : List TwoCycles) (newest : List (Option Newest)) (p : ℕ) (log : RowLog) (is : IsBoard design tape parts c floor logs moves far newest) (at : slice_get logs p ≡ Some log)
  where
    pub base_lent : (b : Boarded) → record { run = run_in design parts tape; core = c } ≡ b → (f : ℕ) (s : ℕ → ℕ → Content) (φ : ℕ → Signals) → IsFloor b.core f → IsNamed b.run s φ → row_of log.base ≡ row_at b.run s φ p f
    base_lent b e = subst (λ (x : Boarded). (f : ℕ) (s : ℕ → ℕ → Content) (φ : ℕ → Signals) → IsFloor x.core f → IsNamed x.run s φ → row_of log.base ≡ row_at x.run s φ p f) e
        (λ f s φ is_floor named. (let same : floor + 0 ≡ f = (let o = one_floor c floor f is.floor_is is_floor in omega arith) in (is.logs_are.of p log at s φ named).base ∙ ap (row_at (run_in design parts tape) s φ p) same))

    pub changes_lent : (b : Boarded) → record { run = run_in design parts tape; core = c } ≡ b → (f : ℕ) → IsFloor b.core f → AreChanges b p f log.changes.items
    changes_lent b e = subst (λ (x : Boarded). (f : ℕ) → IsFloor x.core f → AreChanges x p f log.changes.items) e
        (λ f is_floor. subst (λ (g : ℕ). AreChanges (record { run = run_in design parts tape; core = c }) p g log.changes.items) (one_floor c floor f is.floor_is is_floor) (record {
          whole = is.logs_are.long p log at;
          each = λ k d there s φ named. (is.logs_are.of p log at s φ named).each k d there;
        }))
