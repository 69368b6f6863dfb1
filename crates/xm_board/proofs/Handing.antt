-- A board stands after a take.
use Rattle.std.proofs.Common.{◌≡◌, ℕ, zero, suc, ◌+◌, ◌-◌, ◌++◌, ◌^◌, ◌<◌, ◌≤◌, Bool, true, false, List, [], ◌∷◌, length, set, Option, Some, None, slice_get, refl, ap, sym, ◌∙◌, subst, inl, inr, arith, length-append}
use Rattle.std.specs.Prelude.{cond}
use Rattle.std.proofs.lemmas.Bool.Decides.{eqb_tells}
use Rattle.std.proofs.lemmas.List.{length-set}
use Rattle.std.proofs.lemmas.Option.{slice_get_within}
use Rattle.xm_board.proofs.Keeping.{set_cases}
use Rattle.xm_board.proofs.Standing.{out_elsewhere}
use Rattle.xm_board.specs.Core.{Core, IsCore, IsReady, cycle, is_out, taken}
use Rattle.xm_board.specs.Inner.Jobs.{HasRoom, IsJob, IsNewest, run_in}
use Rattle.xm_board.specs.Inner.Logging.{IsLogOf, IsRoomyLog}
use Rattle.xm_board.specs.Inner.Standing.{AreLogs, AreMoves, AreNewest, IsBoard, moves_in}
use Rattle.xm_board.specs.Inner.Taking.{AreSameMoves, AreSameRows, HasMoveRoom, HasRowRoom}
use Rattle.xm_board.specs.Run.{IsNamed, RunName, row_at}
use Rattle.xm_board.specs.declared.newest.Newest.{Newest}
use Rattle.xm_board.specs.declared.row_log.RowLog.{RowLog}
use Rattle.xm_board.specs.declared.two_cycles.TwoCycles.{TwoCycles}
use Rattle.xm_design.specs.Designed.{Designed}
use Rattle.xm_model.specs.Component.{Content}
use Rattle.xm_model.specs.ListView.{ListView}
use Rattle.xm_model.specs.Net.{Network}
use Rattle.xm_model.specs.Signals.{Signals}
use Rattle.xm_parts.specs.Far.{AreFarFrom, FarLaw}
use Rattle.xm_parts.specs.Kept.{Division, label_at}
use Rattle.xm_parts.specs.Partition.{channels_in, cuts_in}
use Rattle.xm_parts.specs.Passing.{passing}
use Rattle.xm_parts.specs.Projection.{Row}
use Rattle.xm_parts.specs.Rows.{IsRoomyRow, row_of}
use Rattle.xm_parts.specs.declared.changes.Change.{Change}
use Rattle.xm_parts.specs.declared.row.PartRow.{PartRow}
use Rattle.xm_tape.specs.Taped.{Taped, cycles_of}
use Rattle.xm_trace.specs.declared.trace.Move.{Move}

pub passing_few : (test : ℕ → Bool) (n : ℕ) → length (passing test n) ≤ n
passing_few test zero = omega arith
passing_few test (suc n) = one (test n) (passing_few test n) where
  one : (b : Bool) → length (passing test n) ≤ n → length (passing test n ++ cond b (n ∷ []) []) ≤ suc n
  one true few = let more = length-append (passing test n) (n ∷ []) in omega arith
  one false few = let more = length-append {A = ℕ} (passing test n) [] in omega arith

same_log : (net : Network) (rows : ℕ → Row) (was log : RowLog) → log.base ≡ was.base → log.changes.items ≡ was.changes.items → IsLogOf net rows was → IsLogOf net rows log
same_log net rows was log base changes is = record {
  base = ap row_of base ∙ is.base;
  each = λ k d at. is.each k d (ap (λ (xs : List Change). slice_get xs k) (sym changes) ∙ at);
  within = λ k h. is.within k (let e = ap length changes in omega arith);
}

pub logs_roomier : (run : RunName) (c : Core) (p floor : ℕ) (logs after : List RowLog) → AreLogs run c floor logs → AreSameRows logs p after → AreLogs run c floor after
logs_roomier run c p floor logs after are same =
    let inside = slice_get_within logs p same.was same.at in
    subst (λ (l : List RowLog). AreLogs run c floor l) (sym same.new_is) (record {
      whole = length-set logs p same.log ∙ are.whole;
      roomy = λ q log at. elim (set_cases logs p same.log q log inside at) [
        | inl h ↦ subst (λ (r : ℕ). IsRoomyRow run.net (label_at run.labels) r log.base) (sym h.0) (subst (λ (b : PartRow). IsRoomyRow run.net (label_at run.labels) p b) (sym same.base ∙ ap (λ (l : RowLog). l.base) h.1) (are.roomy p same.was same.at))
        | inr h ↦ are.roomy q log h.1
      ];
      long = λ q log at. elim (set_cases logs p same.log q log inside at) [
        | inl h ↦ (let e : length log.changes.items ≡ length same.was.changes.items = ap (λ (l : RowLog). length l.changes.items) (sym h.1) ∙ ap length same.changes in let l = are.long p same.was same.at in let r = ap (cycle c) h.0 in omega arith)
        | inr h ↦ are.long q log h.1
      ];
      room = λ q log at out. elim (set_cases logs p same.log q log inside at) [
        | inl h ↦ (let e : length log.changes.items ≡ length same.was.changes.items = ap (λ (l : RowLog). length l.changes.items) (sym h.1) ∙ ap length same.changes in let f : same.log.changes.room ≡ log.changes.room = ap (λ (l : RowLog). l.changes.room) h.1 in let l = are.room p same.was same.at (ap (is_out c) (sym h.0) ∙ out) in let g = same.room in omega arith)
        | inr h ↦ are.room q log h.1 out
      ];
      of = λ q log at s φ named. elim (set_cases logs p same.log q log inside at) [
        | inl h ↦ subst (λ (r : ℕ). IsLogOf run.net (λ k. row_at run s φ r (floor + k)) log) (sym h.0) (subst (λ (l : RowLog). IsLogOf run.net (λ k. row_at run s φ p (floor + k)) l) h.1 (same_log run.net (λ k. row_at run s φ p (floor + k)) same.was same.log same.base same.changes (are.of p same.was same.at s φ named)))
        | inr h ↦ are.of q log h.1 s φ named
      ];
    })

pub moves_roomier : (run : RunName) (c : Core) (p : ℕ) (moves after : List (ListView Move)) → AreMoves run c moves → AreSameMoves moves p after → AreMoves run c after
moves_roomier run c p moves after are same =
    let inside = slice_get_within moves p same.was same.at in
    subst (λ (l : List (ListView Move)). AreMoves run c l) (sym same.new_is) (record {
      whole = length-set moves p same.moves ∙ are.whole;
      room = λ q ms at out. elim (set_cases moves p same.moves q ms inside at) [
        | inl h ↦ (let e : length ms.items ≡ length same.was.items = ap (λ (l : ListView Move). length l.items) (sym h.1) ∙ ap length same.items in let f : same.moves.room ≡ ms.room = ap (λ (l : ListView Move). l.room) h.1 in let l = are.room p same.was same.at (ap (is_out c) (sym h.0) ∙ out) in let g = same.room in let r = ap (λ (x : ℕ). length (channels_in run.net (label_at run.labels) x)) h.0 in omega arith)
        | inr h ↦ are.room q ms h.1 out
      ];
      of = λ q ms at s φ named. elim (set_cases moves p same.moves q ms inside at) [
        | inl h ↦ ap (λ (l : ListView Move). l.items) (sym h.1) ∙ (same.items ∙ (are.of p same.was same.at s φ named ∙ ap (λ (r : ℕ). moves_in run φ r c.first (suc (cycle c r) - c.first)) (sym h.0)))
        | inr h ↦ are.of q ms h.1 s φ named
      ];
    })

pub newest_without : (run : RunName) (c : Core) (p : ℕ) (newest after : List (Option Newest)) → p < length newest → AreNewest run c newest → after ≡ set newest p None → AreNewest run c after
newest_without run c p newest after inside are e =
    subst (λ (l : List (Option Newest)). AreNewest run c l) (sym e) (record {
      whole = length-set newest p None ∙ are.whole;
      fit = λ q x at. elim (set_cases newest p None q (Some x) inside at) [ inl h ↦ absurd (let no = h.1 in cc) | inr h ↦ are.fit q x h.1 ];
      of = λ q x at s φ named. elim (set_cases newest p None q (Some x) inside at) [ inl h ↦ absurd (let no = h.1 in cc) | inr h ↦ are.of q x h.1 s φ named ];
    })

module _ (design : Designed) (tape : Taped) (parts : Division) (c : Core) (floor : ℕ) (logs : List RowLog) (moves : List (ListView Move)) (far : List TwoCycles) (newest : List (Option Newest)) (p : ℕ) (is : IsBoard design tape parts c floor logs moves far newest)
  where
    pub board_rows : (more : List RowLog) → AreSameRows logs p more → IsBoard design tape parts c floor more moves far newest
    board_rows more same = record {
      set_up = is.set_up;
      floor_is = is.floor_is;
      logs_are = logs_roomier (run_in design parts tape) c p floor logs more is.logs_are same;
      moves_are = is.moves_are;
      far_are = is.far_are;
      newest_are = is.newest_are;
    }

    pub board_moves : (more : List RowLog) (room : List (ListView Move)) → AreSameRows logs p more → AreSameMoves moves p room → IsBoard design tape parts c floor more room far newest
    board_moves more room same same_moves = record {
      set_up = is.set_up;
      floor_is = is.floor_is;
      logs_are = logs_roomier (run_in design parts tape) c p floor logs more is.logs_are same;
      moves_are = moves_roomier (run_in design parts tape) c p moves room is.moves_are same_moves;
      far_are = is.far_are;
      newest_are = is.newest_are;
    }

    pub board_newest : (more : List RowLog) (room : List (ListView Move)) (left : List (Option Newest)) → p < c.count → AreSameRows logs p more → AreSameMoves moves p room → left ≡ set newest p None → IsBoard design tape parts c floor more room far left
    board_newest more room left part same same_moves e = record {
      set_up = is.set_up;
      floor_is = is.floor_is;
      logs_are = logs_roomier (run_in design parts tape) c p floor logs more is.logs_are same;
      moves_are = moves_roomier (run_in design parts tape) c p moves room is.moves_are same_moves;
      far_are = is.far_are;
      newest_are = newest_without (run_in design parts tape) c p newest left (let w = is.newest_are.whole in omega arith) is.newest_are e;
    }

    pub board_taken : (core : IsCore c) (part : p < c.count) (d : Core) → d ≡ taken c p → HasRowRoom p logs → HasMoveRoom p (length (channels_in design.net (label_at parts.labels) p)) moves → IsBoard design tape parts d floor logs moves far newest
    board_taken core part d to rows room = subst (λ (x : Core). IsBoard design tape parts x floor logs moves far newest) (sym to) (record {
      set_up = record { design_is = is.set_up.design_is; count = is.set_up.count; fits = is.set_up.fits; target = is.set_up.target; begun = is.set_up.begun; near = is.set_up.near; others = is.set_up.others };
      floor_is = record { part = is.floor_is.part; is_part = is.floor_is.is_part; at = is.floor_is.at; least = is.floor_is.least };
      logs_are = record {
        whole = is.logs_are.whole;
        roomy = is.logs_are.roomy;
        long = is.logs_are.long;
        room = λ q log at out. elim (eqb_tells q p) [
          | inl t ↦ rows log (ap (slice_get logs) (sym t.1) ∙ at)
          | inr t ↦ is.logs_are.room q log at (sym (out_elsewhere c core.whole p part true q t.1) ∙ out)
        ];
        of = is.logs_are.of;
      };
      moves_are = record {
        whole = is.moves_are.whole;
        room = λ q ms at out. elim (eqb_tells q p) [
          | inl t ↦ (let r = room ms (ap (slice_get moves) (sym t.1) ∙ at) in let l = ap (λ (x : ℕ). length (channels_in design.net (label_at parts.labels) x)) t.1 in omega arith)
          | inr t ↦ is.moves_are.room q ms at (sym (out_elsewhere c core.whole p part true q t.1) ∙ out)
        ];
        of = is.moves_are.of;
      };
      far_are = record { whole = is.far_are.whole; now_whole = is.far_are.now_whole; next_whole = is.far_are.next_whole; now = is.far_are.now; next = is.far_are.next };
      newest_are = record { whole = is.newest_are.whole; fit = is.newest_are.fit; of = is.newest_are.of };
    })

    -- the rows of a part's log in a run
    pub log_rows : (log : RowLog) → slice_get logs p ≡ Some log → (s : ℕ → ℕ → Content) (φ : ℕ → Signals) → IsNamed (run_in design parts tape) s φ → IsRoomyLog design.net (label_at parts.labels) p (λ k. row_at (run_in design parts tape) s φ p (floor + k)) log
    log_rows log at s φ named = record { of = is.logs_are.of p log at s φ named; roomy = is.logs_are.roomy p log at }

    pub last_row : (log : RowLog) → slice_get logs p ≡ Some log → floor + length log.changes.items ≡ cycle c p
    last_row log at = let l = is.logs_are.long p log at in omega arith

    -- the job of a part that is ready
    pub job_taken : FarLaw → IsReady c p → p < parts.count → cycles_of tape < 2 ^ 32 → (t : ℕ) (it : Newest) (around : TwoCycles) (now : List (Option ℕ)) (change : Change) → t ≡ cycle c p → slice_get far p ≡ Some around → now ≡ around.now → IsNewest (run_in design parts tape) p t it → ((s : ℕ → ℕ → Content) (φ : ℕ → Signals) → IsNamed (run_in design parts tape) s φ → row_of it.row ≡ row_at (run_in design parts tape) s φ p t) → HasRoom (run_in design parts tape) p change → IsJob design parts p t (record { row = it.row; spare = it.spare; far = now; choices = it.choices }) change
    job_taken law ready part few t it around now change at_t at same fits rows room =
        let early = ready.early in
        let target = is.set_up.target in
        let long : length now ≡ length (cuts_in design.net (label_at parts.labels) p) = ap length same ∙ is.far_are.now_whole p around at in
        subst (λ (v : Taped). IsJob design parts p t (record { row = it.row; spare = it.spare; far = now; choices = record { tape = v; cycle = it.choices.cycle; own = it.choices.own } }) change) (sym fits.tape) (record {
          task = record { design_is = is.set_up.design_is; part = part; fits = is.set_up.fits; early = omega arith; few = omega arith };
          newest = record { row = fits.row; spare = fits.spare; far = long; tape = refl; cycle = fits.cycle; own = fits.own };
          room = room;
          stands = λ s φ named. record {
            row = rows s φ named;
            far = law design.net (label_at parts.labels) p (φ t) now long (λ q is_near. subst (λ (l : List (Option ℕ)). AreFarFrom design.net (label_at parts.labels) p q (φ t) l) (sym same)
                (subst (λ (k : ℕ). AreFarFrom design.net (label_at parts.labels) p q (φ k) around.now) (sym at_t)
                (is.far_are.now p q around at is_near (ready.last q (is.set_up.others p q ready.part is_near).0 ((is.set_up.near p q ready.part).1 is_near)) s φ named)));
          };
        })
