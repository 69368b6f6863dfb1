-- What a simulation took and wrote, from the answers of the calls that took and wrote its parts.
use Rattle.std.proofs.Common.{◌≡◌, ℕ, zero, suc, ◌+◌, ◌-◌, ◌*◌, ◌/◌, ◌<◌, ◌≤◌, true, false, List, [], ◌∷◌, ◌++◌, length, map, replicate, take, drop, get_or, slice_get, Option, Some, None, Result, Ok, inl, inr, refl, sym, ap, append_assoc, ◌∙◌, subst, arith}
use Rattle.std.proofs.Math.Nat.{div-le_of_le-mul, mul-le-mul_right}
use Rattle.std.proofs.lemmas.Bool.{cases_lt, eq-eqb, ne_eqb}
use Rattle.std.proofs.lemmas.Grind.{flat_map-append}
use Rattle.std.proofs.lemmas.List.{append-nil, length-map, length-replicate, map-append, take-append-drop, take_more}
use Rattle.std.proofs.lemmas.Option.{slice_get-map, slice_get_within}
use Rattle.std.specs.List.{flat_map}
use Rattle.std.specs.Option.{option_map}
use Rattle.std.specs.Prelude.{◌==◌, if◌then◌else◌, IfErr, IfOk, OnErr, OnOk}
use Rattle.std.specs.Io.KnownBytes.{Appends}
use Rattle.xm_commands.proofs.Printed.{hold}
use Rattle.xm_commands.proofs.Ran.{Ran, output_ended, output_failed}
use Rattle.xm_commands.specs.Change.{Change}
use Rattle.xm_commands.specs.Inner.Prepared.{IsPrepared}
use Rattle.xm_commands.specs.Inner.Simulating.{AreInvariantLines, AreTaken}
use Rattle.xm_commands.specs.Inner.WhyEnded.{HasAnswered, IsCause, IsUnharmed, IsWriteFault}
use Rattle.xm_commands.specs.Output.{AreSnapCycles, HoldIn, IsOutput, of_sim, of_watched, snap_lines}
use Rattle.xm_commands.specs.declared.command.Command.TheVariants as command
use Rattle.xm_commands.specs.declared.command.Outcome.{Outcome}
use Rattle.xm_commands.specs.declared.command.Outcome.TheVariants as outcome
use Rattle.xm_commands.specs.declared.command.Simulation.{Simulation}
use Rattle.xm_commands.specs.declared.prepared.Prepared.{Prepared}
use Rattle.xm_commands.specs.declared.refusal.Refusal.{Refusal}
use Rattle.xm_design.specs.Designed.{Designed}
use Rattle.xm_flow.specs.Holding.{LemmasHold}
use Rattle.xm_io.specs.Bytes.{AppendsFront}
use Rattle.xm_io.specs.Lemmas.Appending.{Appends-then}
use Rattle.xm_io.specs.Lemmas.Fronts.{appends_nothing, front_more, on_err_goes, on_ok_goes}
use Rattle.xm_model.specs.Component.{Content}
use Rattle.xm_model.specs.Naming.{Naming, naming_of}
use Rattle.xm_model.specs.Net.{Network}
use Rattle.xm_order.specs.Lemmas.Items.{get-replicate}
use Rattle.xm_parts.specs.declared.row.Snapshot.{Snapshot}
use Rattle.xm_report.specs.Invariants.{invariant_lines}
use Rattle.xm_report.specs.Snap.{snap_line}
use Rattle.xm_tape.specs.Reading.{tape_in}
use Rattle.xm_tape.specs.Taped.{Fits, Taped, chosen, cycles_of, rows_of}
use Rattle.xm_trace.specs.Runs.{IsRunOf}
use Rattle.xm_trace.specs.Text.{run_text}
use Rattle.xm_work.specs.Counts.{AreCounts, NoneMissing, least_cycle}
use Rattle.xm_work.specs.Simulating.{IsSnapshotOf, cycle_of}

-- ---- the snapshots that were taken

-- no count is due past the last cycle
due_within : (w n i : ℕ) → i < w → least_cycle w n i ≤ n - 1
due_within w n i below = elim (cases_lt 1 w) [
  | inl many ↦
      let other : (w == 1) ≡ false = ne_eqb w 1 (λ e. omega arith) in
      let up : i * (n - 1) ≤ (w - 1) * (n - 1) = mul-le-mul_right (n - 1) (omega arith) in
      let shared : i * (n - 1) / (w - 1) ≤ n - 1 = div-le_of_le-mul (w - 1) up in
      rw other shared
  | inr few ↦
      let one : (w == 1) ≡ true = eq-eqb w 1 (omega arith) in
      rw one (omega arith)
]

-- the item that a mapped one comes from
mapped : {A B : Type 0} (f : A → B) (o : Option A) (y : B) → option_map f o ≡ Some y → (x : A) × (o ≡ Some x) × (f x ≡ y)
mapped f None y is = absurd cc
mapped f (Some x) y is = (x, refl, cc)

cycle_at : (snapshots : List Snapshot) (i t : ℕ) → slice_get (map cycle_of snapshots) i ≡ Some t → (x : Snapshot) × (slice_get snapshots i ≡ Some x) × (cycle_of x ≡ t)
cycle_at snapshots i t at = mapped cycle_of (slice_get snapshots i) t (sym (slice_get-map cycle_of snapshots i) ∙ at)

module _ {R : Type 0} (is_of : R → Snapshot → Type 0) (run : R) (net : Network) (tape : Taped) (watch : ℕ) (snapshots : List Snapshot) where
  pub taken : ((x : Snapshot) → is_of run x → IsSnapshotOf net tape x) → 0 < cycles_of tape → AreCounts is_of cycle_of watch (cycles_of tape) run (cycles_of tape - 1) snapshots
      → NoneMissing watch (cycles_of tape) (cycles_of tape - 1) snapshots → AreTaken net tape watch snapshots
  taken snapshot_of some counts all = record {
    cycles = record {
      many = many;
      due = λ i t at. (let x = cycle_at snapshots i t at in let low = counts.due i x.0 x.1 in omega (arith, low, x.2));
      within = λ i t at. (let x = cycle_at snapshots i t at in let high = counts.seen_all i x.0 x.1 in omega (arith, high, x.2));
      rise = λ i j t u below at later. (let x = cycle_at snapshots i t at in let y = cycle_at snapshots j u later in let up = counts.rise i j x.0 y.0 below x.1 y.1 in omega (arith, up, x.2, y.2));
    };
    shown = λ s φ ran i x at q below. (let is = snapshot_of x (counts.each i x at) in let holds = is.holds s φ ran in holds.contents_are q below);
  }
    where
      full : length snapshots ≡ watch
      full = elim (cases_lt (length snapshots) watch) [
        | inl less ↦ (let more = all (length snapshots) less (due_within watch (cycles_of tape) (length snapshots) less) in absurd (omega (arith, more)))
        | inr enough ↦ (let few = counts.few in omega (arith, few, enough))
      ]

      many : length (map cycle_of snapshots) ≡ (if cycles_of tape == 0 then 0 else watch)
      many =
          let other : (cycles_of tape == 0) ≡ false = ne_eqb (cycles_of tape) 0 (λ e. omega arith) in
          rw other (length-map snapshots cycle_of ∙ full)

nothing_at : {A : Type 0} (i : ℕ) (x : A) → slice_get [] i ≡ Some x → ⊥
nothing_at i x at = (let below = slice_get_within [] i x at in omega arith)

-- a run of no cycle has none
pub none_taken : (net : Network) (tape : Taped) (watch : ℕ) → cycles_of tape ≡ 0 → AreTaken net tape watch []
none_taken net tape watch none = record {
  cycles = record {
    many = (let zeroth : (cycles_of tape == 0) ≡ true = eq-eqb (cycles_of tape) 0 none in rw zeroth refl);
    due = λ i t at. absurd (nothing_at i t at);
    within = λ i t at. absurd (nothing_at i t at);
    rise = λ i j t u below at later. absurd (nothing_at i t at);
  };
  shown = λ s φ ran i x at q below. absurd (nothing_at i x at);
}

-- ---- the text that was written

-- a front of a text is one of a longer text
pub front_longer : (held now : Option (List ℕ)) (text rest : List ℕ) → AppendsFront held now text → AppendsFront held now (text ++ rest)
front_longer held now text rest front = front_more held held now [] text rest (text ++ rest) refl (appends_nothing held) front

-- there are cycles of so many snapshots: all at the last one
late : (watch n : ℕ) → (cycles : List ℕ) × AreSnapCycles watch n cycles
late watch zero = ([], record { many = refl; due = λ i t at. absurd (nothing_at i t at); within = λ i t at. absurd (nothing_at i t at); rise = λ i j t u below at later. absurd (nothing_at i t at) })
late watch (suc n) =
    let other : (suc n == 0) ≡ false = ne_eqb (suc n) 0 (λ e. omega arith) in
    let cycles = replicate watch n in
    let is = λ (i t : ℕ) (at : slice_get cycles i ≡ Some t). get-replicate watch n t i at in (
      cycles,
      record {
        many = rw other (length-replicate watch n);
        due = λ i t at.
            let same = is i t at in
            let below = slice_get_within cycles i t at in
            let low = due_within watch (suc n) i (omega (arith, below, length-replicate watch n)) in
            omega (arith, low, same);
        within = λ i t at. (let same = is i t at in omega (arith, same));
        rise = λ i j t u below at later. (let a = is i t at in let b = is j u later in omega (arith, a, b));
      },
    )

-- the outputs of a simulation, by the text of the run
module _ (bytes : List ℕ) (it : Prepared) (is : IsPrepared bytes it) (tape : Taped) (read : tape_in is.doc.net is.doc.tape ≡ Ok tape) (asked : Simulation) (ran : Ran bytes it tape) where
  -- as it is simulated without snapshots
  pub unwatched : {K : Type 0} (r : Result Outcome Refusal) (sink : Change K) → asked.watch ≡ 0 → IfOk r (λ it. it ≡ outcome.Yes) → OnOk r (Appends sink.bytes_before sink.bytes_after ran.text)
      → OnErr r (AppendsFront sink.bytes_before sink.bytes_after ran.text) → OnOk r (IsUnharmed sink) → IfErr r (IsWriteFault sink.faults_before sink.faults_after) → HasAnswered bytes (command.Simulate asked) sink r
  unwatched r sink none turned whole front unharmed cause =
      output_ended r bytes ran.text (command.Simulate asked) sink (of_sim asked ran.text none ran.is_output) turned whole front unharmed cause

  module _ (law : LemmasHold) (fits : Fits it.design.net tape) (some : 0 < asked.watch) (lines : List ℕ) (are : AreInvariantLines (naming_of it.names) it.design lines) where
    -- what stands behind the text of the run
    abbrev behind : List ℕ → List ℕ
    behind cycles = lines ++ snap_lines (naming_of it.names) it.design ran.states cycles

    abbrev of_doc : List ℕ → Naming → List ℕ → List ℕ
    of_doc cycles names told = run_text names ran.frames (cycles_of tape) ++ (told ++ snap_lines names it.design ran.states cycles)

    on_run : IsRunOf is.doc.net tape ran.states ran.frames
    on_run = subst (λ (net : Network). IsRunOf net tape ran.states ran.frames) is.design.net ran.run

    holding : (t : ℕ) → t ≤ cycles_of tape → HoldIn it.design are.lemmas (ran.states t)
    holding t within =
        hold law it.design are.lemmas is.doc is.design are.invariants (cycles_of tape) (chosen is.doc.net.prims (rows_of tape)) ran.states ran.frames (subst (λ (net : Network). Fits net tape) is.design.net fits) on_run t within

    watched : (cycles : List ℕ) → AreSnapCycles asked.watch (cycles_of tape) cycles → IsOutput bytes (command.Simulate asked) outcome.Yes (ran.text ++ behind cycles)
    watched cycles are_cycles =
        of_watched asked is.doc it.design tape (ran.text ++ behind cycles) some is.read is.design read (record {
          states = ran.states;
          frames = ran.frames;
          run = on_run;
          lemmas = are.lemmas;
          invariants = are.invariants;
          cycles = cycles;
          are_cycles = are_cycles;
          hold = λ i t at. (let within = are_cycles.within i t at in holding t (omega (arith, within)));
          same = ap (λ (l : List ℕ). l ++ behind cycles) ran.same ∙ ap (λ (l : List ℕ). of_doc cycles (naming_of it.names) l) are.same ∙ ap (λ (names : Naming). of_doc cycles names (invariant_lines names it.design are.lemmas)) is.names
              ∙ sym (append_assoc (run_text is.doc.names ran.frames (cycles_of tape)) (invariant_lines is.doc.names it.design are.lemmas) (snap_lines is.doc.names it.design ran.states cycles));
        })

    pub not_run : {K : Type 0} (r : Refusal) (sink : Change K) → AppendsFront sink.bytes_before sink.bytes_after ran.text → IsWriteFault sink.faults_before sink.faults_after r → IsCause bytes (command.Simulate asked) sink r
    not_run r sink front cause =
        let last = late asked.watch (cycles_of tape) in
        output_failed r bytes (ran.text ++ behind last.0) (command.Simulate asked) sink (watched last.0 last.1) (front_longer sink.bytes_before sink.bytes_after ran.text (behind last.0) front) cause

    pub all_told : {K : Type 0} (r : Result Outcome Refusal) (sink : Change K) (held : Option (List ℕ)) (faults : ℕ) (snapshots : List Snapshot) → AreSnapCycles asked.watch (cycles_of tape) (map cycle_of snapshots)
        → Appends sink.bytes_before held ran.text → faults ≡ sink.faults_before → IfOk r (λ it. it ≡ outcome.Yes) → OnOk r (Appends held sink.bytes_after (behind (map cycle_of snapshots)))
        → OnErr r (AppendsFront held sink.bytes_after (behind (map cycle_of snapshots))) → OnOk r (sink.faults_after ≡ faults) → IfErr r (IsWriteFault faults sink.faults_after) → HasAnswered bytes (command.Simulate asked) sink r
    all_told r sink held faults snapshots are_cycles first kept turned whole front unharmed cause =
        let rest = behind (map cycle_of snapshots) in
        let text = ran.text ++ rest in
        output_ended r bytes text (command.Simulate asked) sink (watched (map cycle_of snapshots) are_cycles) turned (on_ok_goes r (λ w. Appends-then sink.bytes_before held sink.bytes_after ran.text rest first w) whole)
        (on_err_goes r (λ f. front_more sink.bytes_before held sink.bytes_after ran.text rest [] text (sym (append-nil text)) first f) front) (on_ok_goes r (λ e. e ∙ kept) unharmed)
        (subst (λ (n : ℕ). IfErr r (IsWriteFault n sink.faults_after)) kept cause)

-- ---- the lines of the snapshots

module _ (names : Naming) (design : Designed) (s : ℕ → ℕ → Content) where
  abbrev pub lines_to : List Snapshot → List ℕ
  lines_to snapshots = snap_lines names design s (map cycle_of snapshots)

  abbrev pub line_at : ℕ → List ℕ
  line_at t = snap_line names design t (s t)

  lines_joined : (xs ys : List Snapshot) → lines_to (xs ++ ys) ≡ lines_to xs ++ lines_to ys
  lines_joined xs ys = ap (flat_map line_at) (map-append cycle_of xs ys) ∙ flat_map-append line_at (map cycle_of xs) (map cycle_of ys)

  -- one more
  pub lines_more : (xs : List Snapshot) (k : ℕ) (x : Snapshot) → k < length xs → x ≡ get_or xs k x → lines_to (take (k + 1) xs) ≡ lines_to (take k xs) ++ line_at (cycle_of x)
  lines_more xs k x within is =
      ap lines_to (take_more xs k x within ∙ ap (λ (y : Snapshot). take k xs ++ y ∷ []) (sym is)) ∙ lines_joined (take k xs) (x ∷ []) ∙ ap (λ (l : List ℕ). lines_to (take k xs) ++ l) (append-nil (line_at (cycle_of x)))

  -- and those that follow
  pub lines_split : (xs : List Snapshot) (k : ℕ) (x : Snapshot) → k < length xs → x ≡ get_or xs k x → lines_to xs ≡ (lines_to (take k xs) ++ line_at (cycle_of x)) ++ lines_to (drop (k + 1) xs)
  lines_split xs k x within is =
      ap lines_to (sym (take-append-drop (k + 1) xs)) ∙ lines_joined (take (k + 1) xs) (drop (k + 1) xs) ∙ ap (λ (l : List ℕ). l ++ lines_to (drop (k + 1) xs)) (lines_more xs k x within is)
