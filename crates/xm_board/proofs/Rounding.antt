-- A board stands in the next round.
use Rattle.std.proofs.Common.{◌≡◌, ℕ, suc, ◌-◌, ◌<◌, List, length, Option, Some, slice_get, ap, sym, ◌∙◌, subst, arith}
use Rattle.std.proofs.lemmas.Option.{slice_get_within}
use Rattle.xm_board.proofs.Keeping.{item_at}
use Rattle.xm_board.specs.Core.{AllDone, Core, cycle, rounded}
use Rattle.xm_board.specs.Inner.Jobs.{run_in}
use Rattle.xm_board.specs.Inner.Rounds.{AreCleared}
use Rattle.xm_board.specs.Inner.Standing.{IsBoard, moves_in}
use Rattle.xm_board.specs.declared.newest.Newest.{Newest}
use Rattle.xm_board.specs.declared.row_log.RowLog.{RowLog}
use Rattle.xm_board.specs.declared.two_cycles.TwoCycles.{TwoCycles}
use Rattle.xm_design.specs.Designed.{Designed}
use Rattle.xm_model.specs.ListView.{ListView}
use Rattle.xm_parts.specs.Kept.{Division}
use Rattle.xm_tape.specs.Taped.{Taped, cycles_of}
use Rattle.xm_trace.specs.declared.trace.Move.{Move}

pub board_rounded : (design : Designed) (tape : Taped) (parts : Division) (c d : Core) (floor : ℕ) (logs : List RowLog) (moves cleared : List (ListView Move)) (far : List TwoCycles) (newest : List (Option Newest)) (target : ℕ) → AllDone c → target < cycles_of tape → AreCleared moves cleared → d ≡ rounded c target → IsBoard design tape parts c floor logs moves far newest → IsBoard design tape parts d floor logs cleared far newest
board_rounded design tape parts c d floor logs moves cleared far newest target all within clear to is =
    subst (λ (x : Core). IsBoard design tape parts x floor logs cleared far newest) (sym to) (record {
      set_up = record {
        design_is = is.set_up.design_is;
        count = is.set_up.count;
        fits = is.set_up.fits;
        target = within;
        begun = λ p h. (let e = all p h in omega arith);
        near = is.set_up.near;
        others = is.set_up.others;
      };
      floor_is = record { part = is.floor_is.part; is_part = is.floor_is.is_part; at = is.floor_is.at; least = is.floor_is.least };
      logs_are = record { whole = is.logs_are.whole; roomy = is.logs_are.roomy; long = is.logs_are.long; room = is.logs_are.room; of = is.logs_are.of };
      moves_are = record {
        whole = clear.whole ∙ is.moves_are.whole;
        room = λ p ms at out. (let b = before p ms at in let e = clear.each p b.0 ms b.1 at in let r = is.moves_are.room p b.0 b.1 out in let l = ap length e.0 in let f = e.1 in omega arith);
        of = λ p ms at s φ named. (let b = before p ms at in (clear.each p b.0 ms b.1 at).0 ∙ ap (moves_in (run_in design parts tape) φ p (suc c.target)) (sym (none p ms at)));
      };
      far_are = record { whole = is.far_are.whole; now_whole = is.far_are.now_whole; next_whole = is.far_are.next_whole; now = is.far_are.now; next = is.far_are.next };
      newest_are = record { whole = is.newest_are.whole; fit = is.newest_are.fit; of = is.newest_are.of };
    }) where
      inside : (p : ℕ) (ms : ListView Move) → slice_get cleared p ≡ Some ms → p < c.count
      inside p ms at = let w = slice_get_within cleared p ms at in let l = clear.whole in let m = is.moves_are.whole in omega arith

      before : (p : ℕ) (ms : ListView Move) → slice_get cleared p ≡ Some ms → (was : ListView Move) × (slice_get moves p ≡ Some was)
      before p ms at = item_at moves p (let h = inside p ms at in let m = is.moves_are.whole in omega arith)

      none : (p : ℕ) (ms : ListView Move) → slice_get cleared p ≡ Some ms → suc (cycle c p) - suc c.target ≡ 0
      none p ms at = let e = all p (inside p ms at) in omega arith
