-- What a snapshot of a board has.
use Rattle.std.proofs.Common.{◌≡◌, ◌≤◌, ◌+◌, ℕ, List, length, map, Option, ap, sym, subst, ◌∙◌, arith}
use Rattle.std.specs.Prelude.{IfOk, Result, Ok, Err}
use Rattle.std.proofs.lemmas.Result.{IfOk-weaker}
use Rattle.xm_board.specs.Core.{Core, IsCore, IsFloor}
use Rattle.xm_board.specs.Inner.Gluing.{AreRowsOf, HaveFitRows}
use Rattle.xm_board.specs.Inner.Jobs.{run_in}
use Rattle.xm_board.specs.Inner.Standing.{IsBoard}
use Rattle.xm_board.specs.Run.{Boarded, IsNamed, row_at}
use Rattle.xm_board.specs.declared.newest.Newest.{Newest}
use Rattle.xm_board.specs.declared.row_log.RowLog.{RowLog}
use Rattle.xm_board.specs.declared.two_cycles.TwoCycles.{TwoCycles}
use Rattle.xm_design.specs.ColouredRuns.{FitsHold}
use Rattle.xm_design.specs.Designed.{Designed, IsDesigned}
use Rattle.xm_model.specs.Component.{Content, content_of}
use Rattle.xm_model.specs.ListView.{ListView}
use Rattle.xm_model.specs.Signals.{Signals}
use Rattle.xm_model.specs.declared.memory.OutOfMemory.{OutOfMemory}
use Rattle.xm_order.specs.OneRun.{OneRun}
use Rattle.xm_parts.specs.Fitting.{FitLaw}
use Rattle.xm_parts.specs.Gluing.{HoldsAll}
use Rattle.xm_parts.specs.Kept.{Division, label_at}
use Rattle.xm_parts.specs.declared.row.Snapshot.{Snapshot}
use Rattle.xm_tape.specs.Taped.{Taped, chosen, cycles_of, rows_of}
use Rattle.xm_trace.specs.declared.trace.Move.{Move}

module _ (design : Designed) (tape : Taped) (parts : Division) (c : Core)
  where
    pub snap_cells : (b : Boarded) → record { run = run_in design parts tape; core = c } ≡ b → (r : Result Snapshot OutOfMemory) → IfOk r (λ it. length it.state.cells.items ≡ length design.net.prims) → IfOk r (λ it. length it.state.cells.items ≡ length b.run.net.prims)
    snap_cells b e r has = subst (λ (x : Boarded). IfOk r (λ it. length it.state.cells.items ≡ length x.run.net.prims)) e has

    pub snap_channels : (b : Boarded) → record { run = run_in design parts tape; core = c } ≡ b → (r : Result Snapshot OutOfMemory) → IfOk r (λ it. length it.frame.wires.items ≡ design.net.channels) → IfOk r (λ it. length it.frame.wires.items ≡ b.run.net.channels)
    snap_channels b e r has = subst (λ (x : Boarded). IfOk r (λ it. length it.frame.wires.items ≡ x.run.net.channels)) e has

    module _ (floor : ℕ) (logs : List RowLog) (moves : List (ListView Move)) (far : List TwoCycles) (newest : List (Option Newest)) (is : IsBoard design tape parts c floor logs moves far newest)
      where
        -- the first rows are those of the floor
        pub are_rows : (s : ℕ → ℕ → Content) (φ : ℕ → Signals) → IsNamed (run_in design parts tape) s φ → AreRowsOf design.net (label_at parts.labels) (s floor) (φ floor) logs
        are_rows s φ named p log at = (is.logs_are.of p log at s φ named).base ∙ (let same : floor + 0 ≡ floor = omega arith in ap (row_at (run_in design parts tape) s φ p) same)

        pub fit_rows : OneRun → FitsHold → FitLaw → IsDesigned design → IsCore c → HaveFitRows design.net (label_at parts.labels) logs
        fit_rows one fit law designed core =
            let found = (one design.net design.order (cycles_of tape) (chosen design.net.prims (rows_of tape)) designed.net designed.order).0 in
            let within : floor ≤ cycles_of tape = (let at = is.floor_is.at in let low = core.below is.floor_is.part is.floor_is.is_part in let end = is.set_up.target in omega arith) in
            record {
              fits = λ p log at. (is.logs_are.roomy p log at).fits;
              cells = λ p log at. law design.net (label_at parts.labels) p (found.0 floor) (found.1.0 floor) log.base
                  (fit design.net design.order (cycles_of tape) (chosen design.net.prims (rows_of tape)) found.0 found.1.0 designed.net designed.order is.set_up.fits found.1.1 floor within)
                  (are_rows found.0 found.1.0 found.1.1 p log at);
            }

        pub snap_floor : (b : Boarded) → record { run = run_in design parts tape; core = c } ≡ b → (r : Result Snapshot OutOfMemory) → IfOk r (λ it. it.cycle ≡ floor) → IfOk r (λ it. IsFloor b.core it.cycle)
        snap_floor b e r has = subst (λ (x : Boarded). IfOk r (λ it. IsFloor x.core it.cycle)) e
            (IfOk-weaker r (λ it. it.cycle ≡ floor) (λ it. IsFloor c it.cycle) (λ it at. subst (λ (t : ℕ). IsFloor c t) (sym at) is.floor_is) has)

        pub snap_holds : (b : Boarded) → record { run = run_in design parts tape; core = c } ≡ b → (lent : List RowLog) → lent ≡ logs → (r : Result Snapshot OutOfMemory) → IfOk r (λ it. it.cycle ≡ floor) →
            ((s : ℕ → Content) (φ : Signals) → AreRowsOf design.net (label_at parts.labels) s φ lent → IfOk r (λ it. HoldsAll design.net s φ (map content_of it.state.cells.items) it.frame.wires.items)) →
            (s : ℕ → ℕ → Content) (φ : ℕ → Signals) → IsNamed b.run s φ → IfOk r (λ it. HoldsAll b.run.net (s it.cycle) (φ it.cycle) (map content_of it.state.cells.items) it.frame.wires.items)
        snap_holds b e lent same r at holds = subst (λ (x : Boarded). (s : ℕ → ℕ → Content) (φ : ℕ → Signals) → IsNamed x.run s φ → IfOk r (λ it. HoldsAll x.run.net (s it.cycle) (φ it.cycle) (map content_of it.state.cells.items) it.frame.wires.items)) e
            (λ s φ named. both r s φ at (holds (s floor) (φ floor) (subst (λ (l : List RowLog). AreRowsOf design.net (label_at parts.labels) (s floor) (φ floor) l) (sym same) (are_rows s φ named)))) where
              both : (q : Result Snapshot OutOfMemory) (s : ℕ → ℕ → Content) (φ : ℕ → Signals) → IfOk q (λ it. it.cycle ≡ floor) →
                  IfOk q (λ it. HoldsAll design.net (s floor) (φ floor) (map content_of it.state.cells.items) it.frame.wires.items) →
                  IfOk q (λ it. HoldsAll design.net (s it.cycle) (φ it.cycle) (map content_of it.state.cells.items) it.frame.wires.items)
              both (Ok it) s φ is_at held = subst (λ (t : ℕ). HoldsAll design.net (s t) (φ t) (map content_of it.state.cells.items) it.frame.wires.items) (sym is_at) held
              both (Err none) s φ is_at held = held
