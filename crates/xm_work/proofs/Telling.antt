-- A simulation: its floor, its text, and what it tells at its end.
use Rattle.std.proofs.Common.{◌≡◌, ℕ, zero, suc, ◌+◌, ◌-◌, ◌<◌, ◌≤◌, ◌^◌, List, [], ◌++◌, Option, length, refl, sym, ap, ap₂, ◌∙◌, subst, arith, inl, inr}
use Rattle.std.proofs.lemmas.List.{append-nil}
use Rattle.std.specs.Prelude.{IfOk, Result, Ok, Err, map}
use Rattle.std.specs.Io.KnownBytes.{Appends}
use Rattle.xm_board.specs.Run.{IsNamed, RunName}
use Rattle.xm_design.specs.Designed.{IsDesigned}
use Rattle.xm_io.specs.Bytes.{AppendsFront}
use Rattle.xm_io.specs.Lemmas.Appending.{Appends-then}
use Rattle.xm_io.specs.Lemmas.Fronts.{appends_nothing, appends_same, front_more, front_of}
use Rattle.xm_model.specs.Component.{Content, content_of}
use Rattle.xm_model.specs.Naming.{Naming, naming_of}
use Rattle.xm_model.specs.Run.{moves}
use Rattle.xm_model.specs.Signals.{Signals}
use Rattle.xm_model.specs.declared.memory.OutOfMemory.{OutOfMemory}
use Rattle.xm_parts.specs.Gluing.{HoldsAll}
use Rattle.xm_parts.specs.declared.row.Snapshot.{Snapshot}
use Rattle.xm_tape.specs.Taped.{cycles_of}
use Rattle.xm_trace.specs.Moves.{round_moves}
use Rattle.xm_trace.specs.Rounds.{HasHadRun, RoundsFollow}
use Rattle.xm_trace.specs.RunTextState.{Follows, FollowsSome, RunTextState, totals_of}
use Rattle.xm_trace.specs.Runs.{AreMovesFrom, IsRunOf}
use Rattle.xm_trace.specs.Text.{IsTextOfRun, cycle_line, end_text, round_lines}
use Rattle.xm_trace.specs.declared.run_text.Total.{Total}
use Rattle.xm_trace.specs.declared.trace.Move.{Move}
use Rattle.xm_work.specs.Counts.{AreCounts, NoneMissing}
use Rattle.xm_work.specs.Rounds.{lines}
use Rattle.xm_work.specs.Simulating.{AreLines, IsSimulating, IsSnapshotOf, Simulating, cycle_of, is_snapshot_of}
use Rattle.xm_work.specs.declared.simulation.Whole.{Whole}

-- a snapshot of the board is one of its run
pub snapped : (run : RunName) (r : Result Snapshot OutOfMemory)
    → IfOk r (λ it. length it.state.cells.items ≡ length run.net.prims)
    → IfOk r (λ it. length it.frame.wires.items ≡ run.net.channels)
    → ((s : ℕ → ℕ → Content) (φ : ℕ → Signals) → IsNamed run s φ → IfOk r (λ it.
    HoldsAll run.net (s it.cycle) (φ it.cycle) (map content_of it.state.cells.items) it.frame.wires.items))
    → IfOk r (λ it. IsSnapshotOf run.net run.tape it)
snapped run (Ok it) cells wires holds = record { cells = cells; wires = wires; holds = holds }
snapped run (Err e) cells wires holds = tt

-- lines that are those of each cycle are the lines of a round
pub as_round : (names : Naming) (φ : ℕ → Signals) (line : ℕ → List ℕ)
    → ((t : ℕ) → line t ≡ cycle_line names φ t) → (from n : ℕ) → lines line from n ≡ round_lines names φ from n
as_round names φ line each from zero = refl
as_round names φ line each from (suc n) =
    ap₂ (λ (x y : List ℕ). x ++ y) (as_round names φ line each from n) (each (from + n))

-- ---- the text of a round

module _ (it : Simulating) (is : IsSimulating it) (early : it.text.cycles ≤ it.board.core.target) (n : ℕ)
    (part : List Move) (whole : n ≡ suc it.board.core.target - it.board.core.first)
    (moves : AreMovesFrom it.board.run.net it.board.run.tape it.board.core.first
    (suc it.board.core.target - it.board.core.first) part) where
  -- no line of the round was made so far
  first : it.text.cycles ≡ it.board.core.first
  first = elim is.told [
    | inl e ↦ e
    | inr e ↦ absurd (omega (arith, e, early))
  ]

  pub rest : suc it.board.core.target - it.text.cycles ≡ n
  rest = omega (arith, first, whole)

  these : AreMovesFrom it.whole.design.now.net it.whole.tape.now it.text.cycles n part
  these =
      let run = subst (λ (r : RunName). AreMovesFrom r.net r.tape it.board.core.first
      (suc it.board.core.target - it.board.core.first) part) is.run moves in
      let all = subst (λ (k : ℕ). AreMovesFrom it.whole.design.now.net it.whole.tape.now it.board.core.first k part)
      (sym whole) run in
      subst (λ (k : ℕ). AreMovesFrom it.whole.design.now.net it.whole.tape.now k n part) (sym first) all

  pub follows_some : RoundsFollow → IsDesigned it.whole.design.now → cycles_of it.whole.tape.now < 2 ^ 32
      → FollowsSome it.text n part
  follows_some law designed few =
      law it.whole.design.now.net it.whole.design.now.order it.whole.tape.now it.text n part designed.net designed.order
      is.channels is.had these (let w = is.within in let b = is.begun in omega (arith, first, whole))

  pub follows : (s : ℕ → ℕ → Content) (φ : ℕ → Signals) → IsRunOf it.whole.design.now.net it.whole.tape.now s φ
      → Follows it.text φ n part
  follows s φ run = record {
    had = is.had s φ run;
    moves = these s φ run ∙ ap (λ (k : ℕ). round_moves φ k it.text.cycles n) (sym is.channels);
  }

  -- with the text up to the end of the round it is a simulation still
  pub told_on : (text : RunTextState) (more : List ℕ) → text.channels ≡ it.text.channels
      → text.colours ≡ it.text.colours → text.cycles ≡ it.text.cycles + n
      → HasHadRun it.whole.design.now.net it.whole.tape.now text
      → IsSimulating (record { whole = it.whole; board = it.board; floor = it.floor; text = text; lines = more })
  told_on text more channels colours cycles had = record {
    run = is.run;
    floor_is = is.floor_is;
    within = is.within;
    begun = is.begun;
    named = record {
      channels = is.named.channels ∙ sym channels;
      colours = is.named.colours ∙ sym colours;
      few_channels = (let few = is.named.few_channels in omega (arith, channels));
      few_colours = (let few = is.named.few_colours in omega (arith, colours));
    };
    colours = colours ∙ is.colours;
    channels = channels ∙ is.channels;
    had = had;
    told = inr (let b = is.begun in omega (arith, cycles, first, whole));
  }

  -- what was made are the lines of the round
  pub lines_made : (more : List ℕ) → ((s : ℕ → ℕ → Content) (φ : ℕ → Signals)
      → IsRunOf it.whole.design.now.net it.whole.tape.now s φ
      → more ≡ round_lines (naming_of it.whole.names.now) φ it.text.cycles n)
      → (line : ℕ → List ℕ) → AreLines it.whole line
      → more ≡ lines line it.text.cycles (suc it.board.core.target - it.text.cycles)
  lines_made more made line are =
      made are.states are.frames are.named
      ∙ sym (as_round (naming_of it.whole.names.now) are.frames line are.each it.text.cycles n)
      ∙ ap (lines line it.text.cycles) (sym rest)

-- ---- the text of a run

module _ (w : Whole) (text : List ℕ) (is : IsTextOfRun w.design.now.net (naming_of w.names.now) w.tape.now text) where
  abbrev pub line : ℕ → List ℕ
  line = cycle_line (naming_of w.names.now) is.frames

  abbrev pub all : List ℕ
  all = lines line 0 (cycles_of w.tape.now)

  abbrev pub end : List ℕ
  end = end_text (naming_of w.names.now) is.frames (cycles_of w.tape.now)

  parted : text ≡ all ++ end
  parted = is.same ∙ ap (λ (x : List ℕ). x ++ end)
      (sym (as_round (naming_of w.names.now) is.frames line (λ t. refl) 0 (cycles_of w.tape.now)))

  -- the lines, as a simulation of so many cycles gives them
  pub these_lines : (P : List ℕ → Type 0) (begun : Whole) (n : ℕ) → begun ≡ w → n ≡ cycles_of w.tape.now
      → ((line' : ℕ → List ℕ) → AreLines begun line' → P (lines line' 0 n)) → P all
  these_lines P begun n same number gives =
      subst (λ (k : ℕ). P (lines line 0 k)) number
      (gives line (subst (λ (x : Whole). AreLines x line) (sym same)
      (record { states = is.states; frames = is.frames; named = is.run; each = λ t. refl })))

  -- the end, as a simulation gives it
  pub this_end : (P : List ℕ → Type 0) (done : Whole) (n : ℕ) → done ≡ w → n ≡ cycles_of w.tape.now
      → ((s : ℕ → ℕ → Content) (φ : ℕ → Signals) → IsRunOf done.design.now.net done.tape.now s φ
      → P (end_text (naming_of done.names.now) φ n)) → P end
  this_end P done n same number gives =
      subst (λ (k : ℕ). P (end_text (naming_of w.names.now) is.frames k)) number
      (subst (λ (x : Whole). ((s : ℕ → ℕ → Content) (φ : ℕ → Signals) → IsRunOf x.design.now.net x.tape.now s φ
      → P (end_text (naming_of x.names.now) φ n))) same gives is.states is.frames is.run)

  module _ (held mid now : Option (List ℕ)) where
    pub all_written : Appends held mid all → Appends mid now end → Appends held now text
    all_written first more = appends_same held now (all ++ end) text (sym parted) (Appends-then held mid now all end first more)

    pub front_of_end : Appends held mid all → AppendsFront mid now end → AppendsFront held now text
    front_of_end first more = front_more held mid now all end [] text (parted ∙ sym (append-nil (all ++ end))) first more

    pub front_of_lines : AppendsFront held now all → AppendsFront held now text
    front_of_lines more = front_more held held now [] all end text parted (appends_nothing held) more

    pub front_of_all : Appends held now text → AppendsFront held now text
    front_of_all = front_of held now text [] text (sym (append-nil text))

-- totals of what is simulated
pub totals_of_whole : (w done : Whole) (n : ℕ) (xs : List Total) → done ≡ w → n ≡ cycles_of w.tape.now
    → ((s : ℕ → ℕ → Content) (φ : ℕ → Signals) → IsRunOf done.design.now.net done.tape.now s φ
    → xs ≡ totals_of (λ c d. moves φ c d n) done.design.now.net.colours done.design.now.net.channels)
    → (s : ℕ → ℕ → Content) (φ : ℕ → Signals) → IsRunOf w.design.now.net w.tape.now s φ
    → xs ≡ totals_of (λ c d. moves φ c d (cycles_of w.tape.now)) w.design.now.net.colours w.design.now.net.channels
totals_of_whole w done n xs same number gives s φ run =
    subst (λ (k : ℕ). xs ≡ totals_of (λ c d. moves φ c d k) w.design.now.net.colours w.design.now.net.channels) number
    (subst (λ (x : Whole). ((s : ℕ → ℕ → Content) (φ : ℕ → Signals) → IsRunOf x.design.now.net x.tape.now s φ
    → xs ≡ totals_of (λ c d. moves φ c d n) x.design.now.net.colours x.design.now.net.channels)) same gives s φ run)

-- counts of a run are snapshots of what is simulated
pub counts_of_whole : {N : Type 0} (is_of : N → Snapshot → Type 0) (r : N) (w n : ℕ) (run whole : Whole) (m : ℕ)
    (xs ys : List Snapshot) → ((s : Snapshot) → is_of r s → is_snapshot_of run s) → run ≡ whole → n ≡ m → ys ≡ xs
    → AreCounts is_of cycle_of w n r (n - 1) xs → AreCounts is_snapshot_of cycle_of w m whole (m - 1) ys
counts_of_whole is_of r w n run whole m xs ys goes whole_is number same it =
    subst (λ (k : ℕ). AreCounts is_snapshot_of cycle_of w k whole (k - 1) ys) number
    (subst (λ (x : Whole). AreCounts is_snapshot_of cycle_of w n x (n - 1) ys) whole_is
    (subst (λ (zs : List Snapshot). AreCounts is_snapshot_of cycle_of w n run (n - 1) zs) (sym same) (record {
      few = it.few;
      each = λ i s at. goes s (it.each i s at);
      due = it.due;
      seen_all = it.seen_all;
      rise = it.rise;
    })))

pub none_missing_of : (w n m : ℕ) (xs ys : List Snapshot) → n ≡ m → ys ≡ xs → NoneMissing w n (n - 1) xs
    → NoneMissing w m (m - 1) ys
none_missing_of w n m xs ys number same none =
    subst (λ (k : ℕ). NoneMissing w k (k - 1) ys) number
    (subst (λ (zs : List Snapshot). NoneMissing w n (n - 1) zs) (sym same) none)
