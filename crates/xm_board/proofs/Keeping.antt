-- A board stays one where its core changes in what is out, or in that it is stopped.
use Rattle.std.proofs.Common.{◌≡◌, ◌≢◌, ℕ, suc, ◌<◌, Bool, true, false, List, length, zero, [], ◌∷◌, inl, inr, Option, Some, slice_get, get_or, length-set, set, ap, sym, ◌∙◌, subst, arith, refl}
use Rattle.std.specs.List.{refill}
use Rattle.std.specs.Prelude.{◌⊎◌, slice_index_or, slice_set}
use Rattle.std.proofs.lemmas.Bool.Decides.{eqb_tells}
use Rattle.std.proofs.lemmas.Option.{same_Some, slice_get-get_or}
use Rattle.xm_board.proofs.Standing.{was_out}
use Rattle.xm_order.specs.Lemmas.Items.{get-set_other, get-set_same}
use Rattle.xm_model.specs.Lending.{refill-full}
use Rattle.xm_model.specs.Component.{Content}
use Rattle.xm_model.specs.Signals.{Signals}
use Rattle.xm_parts.specs.Rows.{row_of}
use Rattle.xm_board.specs.Core.{Core, IsCore, IsFloor, cycle, given_back, is_out}
use Rattle.xm_board.specs.Inner.Jobs.{IsNewest, run_in}
use Rattle.xm_board.specs.Inner.Standing.{AreFar, AreLogs, AreMoves, AreNewest, IsBoard, IsSetUp}
use Rattle.xm_board.specs.Run.{IsNamed, RunName, row_at}
use Rattle.xm_board.specs.declared.newest.Newest.{Newest}
use Rattle.xm_board.specs.declared.row_log.RowLog.{RowLog}
use Rattle.xm_board.specs.declared.two_cycles.TwoCycles.{TwoCycles}
use Rattle.xm_design.specs.Designed.{Designed}
use Rattle.xm_model.specs.ListView.{ListView}
use Rattle.xm_parts.specs.Kept.{Division}
use Rattle.xm_tape.specs.Taped.{Taped}
use Rattle.xm_trace.specs.declared.trace.Move.{Move}

-- no further part is out
abbrev pub IsFewer : Core → List Bool → Type 0
IsFewer c out = (p : ℕ) → slice_index_or out p false ≡ true → is_out c p ≡ true

pub set_up_kept : (design : Designed) (tape : Taped) (parts : Division) (c : Core) (out : List Bool) (stopped : Bool) → IsSetUp design tape parts c → IsSetUp design tape parts (record c { out = out; stopped = stopped })
set_up_kept design tape parts c out stopped is = record {
  design_is = is.design_is;
  count = is.count;
  fits = is.fits;
  target = is.target;
  begun = is.begun;
  near = is.near;
  others = is.others;
}

pub floor_kept : (c : Core) (floor : ℕ) (out : List Bool) (stopped : Bool) → IsFloor c floor → IsFloor (record c { out = out; stopped = stopped }) floor
floor_kept c floor out stopped is = record { part = is.part; is_part = is.is_part; at = is.at; least = is.least }

pub logs_kept : (run : RunName) (c : Core) (floor : ℕ) (logs : List RowLog) (out : List Bool) (stopped : Bool) → IsFewer c out → AreLogs run c floor logs → AreLogs run (record c { out = out; stopped = stopped }) floor logs
logs_kept run c floor logs out stopped fewer is = record {
  whole = is.whole;
  roomy = is.roomy;
  long = is.long;
  room = λ p log at is_out. is.room p log at (fewer p is_out);
  of = is.of;
}

pub moves_kept : (run : RunName) (c : Core) (moves : List (ListView Move)) (out : List Bool) (stopped : Bool) → IsFewer c out → AreMoves run c moves → AreMoves run (record c { out = out; stopped = stopped }) moves
moves_kept run c moves out stopped fewer is = record {
  whole = is.whole;
  room = λ p ms at is_out. is.room p ms at (fewer p is_out);
  of = is.of;
}

pub far_kept : (run : RunName) (c : Core) (far : List TwoCycles) (out : List Bool) (stopped : Bool) → AreFar run c far → AreFar run (record c { out = out; stopped = stopped }) far
far_kept run c far out stopped is = record {
  whole = is.whole;
  now_whole = is.now_whole;
  next_whole = is.next_whole;
  now = is.now;
  next = is.next;
}

pub newest_kept : (run : RunName) (c : Core) (newest : List (Option Newest)) (out : List Bool) (stopped : Bool) → AreNewest run c newest → AreNewest run (record c { out = out; stopped = stopped }) newest
newest_kept run c newest out stopped is = record { whole = is.whole; fit = is.fit; of = is.of }

pub board_kept : (design : Designed) (tape : Taped) (parts : Division) (c : Core) (floor : ℕ) (logs : List RowLog) (moves : List (ListView Move)) (far : List TwoCycles) (newest : List (Option Newest)) (out : List Bool) (stopped : Bool) → IsFewer c out → IsBoard design tape parts c floor logs moves far newest → IsBoard design tape parts (record c { out = out; stopped = stopped }) floor logs moves far newest
board_kept design tape parts c floor logs moves far newest out stopped fewer is = record {
  set_up = set_up_kept design tape parts c out stopped is.set_up;
  floor_is = floor_kept c floor out stopped is.floor_is;
  logs_are = logs_kept (run_in design parts tape) c floor logs out stopped fewer is.logs_are;
  moves_are = moves_kept (run_in design parts tape) c moves out stopped fewer is.moves_are;
  far_are = far_kept (run_in design parts tape) c far out stopped is.far_are;
  newest_are = newest_kept (run_in design parts tape) c newest out stopped is.newest_are;
}

-- a list after a write at a place
pub written : {X : Type 0} (xs ys : List X) (p : ℕ) (v : X) → ys ≡ xs → refill (length xs) xs (slice_set ys p v) ≡ set xs p v
written {X} xs ys p v e =
    refill-full (length xs) xs (slice_set ys p v) (length-set ys p v ∙ ap length e) ∙ ap (λ (zs : List X). set zs p v) e

pub is_at : {X : Type 0} (xs : List X) (p : ℕ) (v x : X) → p < length xs → slice_get (set xs p v) p ≡ Some x → v ≡ x
is_at xs p v x h at = let there = get-set_same xs p v h in cc

-- a part that is out is one
pub out_part : (out : List Bool) (p : ℕ) → slice_index_or out p false ≡ true → p < length out
out_part [] p is = absurd cc
out_part (x ∷ xs) zero is = omega arith
out_part (x ∷ xs) (suc p) is = (let rest = out_part xs p is in omega arith)

-- the newest row of a part's cycle is put to the others
pub newest_put : (run : RunName) (c : Core) (newest after : List (Option Newest)) (p : ℕ) (it : Newest) → p < c.count → IsNewest run p (cycle c p) it → ((s : ℕ → ℕ → Content) (φ : ℕ → Signals) → IsNamed run s φ → row_of it.row ≡ row_at run s φ p (cycle c p)) → AreNewest run c newest → after ≡ set newest p (Some it) → AreNewest run c after
newest_put run c newest after p it part fits rows are e =
    let long = are.whole in
    subst (λ (l : List (Option Newest)). AreNewest run c l) (sym e) (record {
      whole = length-set newest p (Some it) ∙ are.whole;
      fit = λ q x at. elim (eqb_tells q p) [
        | inl t ↦ (let same : Some it ≡ Some x = is_at newest p (Some it) (Some x) (omega arith) (ap (slice_get (set newest p (Some it))) (sym t.1) ∙ at) in
            subst (λ (r : ℕ). IsNewest run r (cycle c r) x) (sym t.1) (subst (λ (y : Newest). IsNewest run p (cycle c p) y) (same_Some it x same) fits))
        | inr t ↦ are.fit q x (sym (get-set_other newest p q (Some it) t.1) ∙ at)
      ];
      of = λ q x at s φ named. elim (eqb_tells q p) [
        | inl t ↦ (let same : Some it ≡ Some x = is_at newest p (Some it) (Some x) (omega arith) (ap (slice_get (set newest p (Some it))) (sym t.1) ∙ at) in
            subst (λ (r : ℕ). row_of x.row ≡ row_at run s φ r (cycle c r)) (sym t.1) (subst (λ (y : Newest). row_of y.row ≡ row_at run s φ p (cycle c p)) (same_Some it x same) (rows s φ named)))
        | inr t ↦ are.of q x (sym (get-set_other newest p q (Some it) t.1) ∙ at) s φ named
      ];
    })

-- the newest row comes back, and the part is in
pub given_back_board : (design : Designed) (tape : Taped) (parts : Division) (c d : Core) (floor : ℕ) (logs : List RowLog) (moves : List (ListView Move)) (far : List TwoCycles) (newest after : List (Option Newest)) (p : ℕ) (it : Newest) → IsCore c → p < c.count → IsNewest (run_in design parts tape) p (cycle c p) it → ((s : ℕ → ℕ → Content) (φ : ℕ → Signals) → IsNamed (run_in design parts tape) s φ → row_of it.row ≡ row_at (run_in design parts tape) s φ p (cycle c p)) → after ≡ set newest p (Some it) → d ≡ given_back c p → IsBoard design tape parts c floor logs moves far newest → IsBoard design tape parts d floor logs moves far after
given_back_board design tape parts c d floor logs moves far newest after p it core part fits rows e to is =
    subst (λ (x : Core). IsBoard design tape parts x floor logs moves far after) (sym to) (board_kept design tape parts c floor logs moves far after (set c.out p false) c.stopped (λ q out. (was_out c core.whole p part q out).1) (record {
      set_up = is.set_up;
      floor_is = is.floor_is;
      logs_are = is.logs_are;
      moves_are = is.moves_are;
      far_are = is.far_are;
      newest_are = newest_put (run_in design parts tape) c newest after p it part fits rows is.newest_are e;
    }))

-- the newest row of a run that is named otherwise, and of a cycle that is
pub newest_of : (one two : RunName) (p t u : ℕ) (it : Newest) → one ≡ two → t ≡ u → IsNewest one p t it → IsNewest two p u it
newest_of one two p t u it same at is = subst (λ (k : ℕ). IsNewest two p k it) at (subst (λ (r : RunName). IsNewest r p t it) same is)

pub rows_of_run : (one two : RunName) (p t u : ℕ) (it : Newest) → one ≡ two → t ≡ u → ((s : ℕ → ℕ → Content) (φ : ℕ → Signals) → IsNamed one s φ → row_of it.row ≡ row_at one s φ p t) → (s : ℕ → ℕ → Content) (φ : ℕ → Signals) → IsNamed two s φ → row_of it.row ≡ row_at two s φ p u
rows_of_run one two p t u it same at is =
    subst (λ (k : ℕ). (s : ℕ → ℕ → Content) (φ : ℕ → Signals) → IsNamed two s φ → row_of it.row ≡ row_at two s φ p k) at
    (subst (λ (r : RunName). (s : ℕ → ℕ → Content) (φ : ℕ → Signals) → IsNamed r s φ → row_of it.row ≡ row_at r s φ p t) same is)

-- the item at a place of a list that is lent
pub lent_at : {X : Type 0} (xs ys : List X) (p : ℕ) (d : X) → ys ≡ xs → p < length xs → slice_get xs p ≡ Some (get_or ys p d)
lent_at {X} xs ys p d e h = subst (λ (zs : List X). slice_get xs p ≡ Some (get_or zs p d)) (sym e) (slice_get-get_or xs p d h)

-- what stands in a list after a write at a place
pub set_cases : {X : Type 0} (xs : List X) (p : ℕ) (y : X) (q : ℕ) (x : X) → p < length xs → slice_get (set xs p y) q ≡ Some x → ((q ≡ p) × (y ≡ x)) ⊎ ((q ≢ p) × (slice_get xs q ≡ Some x))
set_cases xs p y q x h at =
    elim (eqb_tells q p) [
      | inl t ↦ inl (t.1, is_at xs p y x h (ap (slice_get (set xs p y)) (sym t.1) ∙ at))
      | inr t ↦ inr (t.1, sym (get-set_other xs p q y t.1) ∙ at)
    ]

-- there is an item at each place of a list
pub item_at : {X : Type 0} (xs : List X) (k : ℕ) → k < length xs → (x : X) × (slice_get xs k ≡ Some x)
item_at [] k h = absurd (omega arith)
item_at (x ∷ xs) zero h = (x, refl)
item_at (x ∷ xs) (suc k) h = item_at xs k (omega arith)
