-- What the step of a job makes.
use Rattle.std.proofs.Common.{◌≡◌, ℕ, suc, ◌+◌, List, [], ap, sym, ◌∙◌, subst, arith}
use Rattle.std.specs.Prelude.{Bool, slice_index_or}
use Rattle.xm_board.specs.Inner.Jobs.{IsDone, IsJob, run_in}
use Rattle.xm_board.specs.Run.{IsNamed, row_at}
use Rattle.xm_board.specs.declared.newest.Newest.{Newest}
use Rattle.xm_design.specs.ColouredRuns.{FitsHold}
use Rattle.xm_design.specs.Designed.{Designed, IsDesigned}
use Rattle.xm_model.specs.Component.{Content}
use Rattle.xm_model.specs.Frame.{IsFrame}
use Rattle.xm_model.specs.Next.{next}
use Rattle.xm_model.specs.Signals.{Signals}
use Rattle.xm_model.specs.Views.{choice_at}
use Rattle.xm_model.specs.declared.state.Choice.{Choice}
use Rattle.xm_order.specs.OneRun.{OneRun}
use Rattle.xm_parts.specs.Changing.{CanChange, ChangeLaw, IsChange}
use Rattle.xm_parts.specs.Choosing.{ChoosesAs, ChoosingLaw, own_oracles}
use Rattle.xm_parts.specs.Kept.{Division, label_at}
use Rattle.xm_parts.specs.Projection.{IsCycle, Row, projection}
use Rattle.xm_parts.specs.Rows.{IsRoomyRow, row_of}
use Rattle.xm_parts.specs.declared.changes.Change.{Change}
use Rattle.xm_parts.specs.declared.row.PartRow.{PartRow}
use Rattle.xm_tape.specs.Place.{HasWanted, PartPlace}
use Rattle.xm_tape.specs.Taped.{chosen, cycles_of, rows_of}
use mathlib.Core.Path.{fun_ext}

-- the run that a tape has
pub run_found : OneRun → (design : Designed) (parts : Division) (it : Newest) → IsDesigned design → (s : ℕ → ℕ → Content) × ((φ : ℕ → Signals) × IsNamed (run_in design parts it.choices.tape) s φ)
run_found one design parts it is =
    (one design.net design.order (cycles_of it.choices.tape) (chosen design.net.prims (rows_of it.choices.tape)) is.net is.order).0

module _ (design : Designed) (parts : Division) (p t : ℕ) (it : Newest) (change : Change) (job : IsJob design parts p t it change)
  where
    abbrev pub at_cycle : (s : ℕ → ℕ → Content) (φ : ℕ → Signals) → IsNamed (run_in design parts it.choices.tape) s φ → IsCycle design.net (label_at parts.labels) p (row_of it.row) it.far
    at_cycle s φ run =
        let stands = job.stands s φ run in
        let early = job.task.early in
        record {
          state = s t;
          choices = chosen design.net.prims (rows_of it.choices.tape) t;
          frame = φ t;
          is_frame = run.frames t (omega arith);
          row_is = stands.row;
          far_is = stands.far;
        }

    next_is : (s : ℕ → ℕ → Content) (φ : ℕ → Signals) → IsNamed (run_in design parts it.choices.tape) s φ → next design.net (s t) (φ t) ≡ s (suc t)
    next_is s φ run = let early = job.task.early in fun_ext (λ q. sym (run.steps t q (omega arith)))

    pub stepped : ChoosingLaw → (new : Row) (w : List Choice) → ((at : IsCycle design.net (label_at parts.labels) p (row_of it.row) it.far) (x : ℕ → Choice) (ψ : Signals) → ChoosesAs design.net (label_at parts.labels) p w x → IsFrame design.net (next design.net at.state at.frame) x ψ → new ≡ projection design.net (label_at parts.labels) p (next design.net at.state at.frame) ψ)
        → HasWanted it.choices.own (slice_index_or (rows_of it.choices.tape) it.choices.cycle []) w → (s : ℕ → ℕ → Content) (φ : ℕ → Signals) → IsNamed (run_in design parts it.choices.tape) s φ → new ≡ row_at (run_in design parts it.choices.tape) s φ p (suc t)
    stepped law new w made read s φ run =
        let same = next_is s φ run in
        let whole = slice_index_or (rows_of it.choices.tape) (suc t) [] in
        let wanted : HasWanted (own_oracles (label_at parts.labels) p design.net.prims) whole w =
        subst (λ (own : List Bool). HasWanted own whole w) job.newest.own (subst (λ (k : ℕ). HasWanted it.choices.own (slice_index_or (rows_of it.choices.tape) k []) w) job.newest.cycle read) in
        let chooses = law design.net (label_at parts.labels) p whole w wanted.same in
        let shown = made (at_cycle s φ run) (choice_at design.net.prims whole) (φ (suc t)) chooses
        (subst (λ (v : ℕ → Content). IsFrame design.net v (choice_at design.net.prims whole) (φ (suc t))) (sym same) (run.frames (suc t) job.task.early)) in
        shown ∙ ap (λ (v : ℕ → Content). projection design.net (label_at parts.labels) p v (φ (suc t))) same

    pub can_change : ChangeLaw → FitsHold → IsDesigned design → (new : Row) (s : ℕ → ℕ → Content) (φ : ℕ → Signals) → IsNamed (run_in design parts it.choices.tape) s φ → new ≡ row_at (run_in design parts it.choices.tape) s φ p (suc t) → CanChange (row_of it.row) new
    can_change law fit is new s φ run row =
        let early = job.task.early in
        let fits = fit design.net design.order (cycles_of it.choices.tape) (chosen design.net.prims (rows_of it.choices.tape)) s φ is.net is.order job.task.fits run t (omega arith) in
        let can = law design.net (label_at parts.labels) p (s t) (φ t) (φ (suc t)) fits in
        let after : new ≡ projection design.net (label_at parts.labels) p (next design.net (s t) (φ t)) (φ (suc t)) = row ∙ ap (λ (v : ℕ → Content). projection design.net (label_at parts.labels) p v (φ (suc t))) (sym (next_is s φ run)) in
        subst (λ (r : Row). CanChange (row_of it.row) r) (sym after) (subst (λ (r : Row). CanChange r (projection design.net (label_at parts.labels) p (next design.net (s t) (φ t)) (φ (suc t)))) (sym (job.stands s φ run).row) can)

    pub is_done : (spare : PartRow) (differs : Change) (choices : PartPlace) → choices.tape ≡ it.choices.tape → choices.cycle ≡ it.choices.cycle + 1 → choices.own ≡ it.choices.own → IsRoomyRow design.net (label_at parts.labels) p spare → IsChange (row_of it.row) (row_of spare) differs → ((s : ℕ → ℕ → Content) (φ : ℕ → Signals) → IsNamed (run_in design parts it.choices.tape) s φ → row_of spare ≡ row_at (run_in design parts it.choices.tape) s φ p (suc t)) → IsDone design parts p t (record { row = spare; spare = it.row; far = it.far; choices = choices }) differs
    is_done spare differs choices tape cycle own roomy is_change rows =
        subst (λ v. IsDone design parts p t (record { row = spare; spare = it.row; far = it.far; choices = record { tape = v; cycle = choices.cycle; own = choices.own } }) differs) (sym tape) (record {
          task = job.task;
          newest = record {
            row = roomy;
            spare = job.newest.row;
            far = job.newest.far;
            tape = job.newest.tape;
            cycle = (let at = job.newest.cycle in omega arith);
            own = own ∙ job.newest.own;
          };
          stands = λ s φ run. (let row = rows s φ run in record {
            row = row;
            change_is = subst (λ (r : Row). IsChange r (row_at (run_in design parts it.choices.tape) s φ p (suc t)) differs) (job.stands s φ run).row (subst (λ (r : Row). IsChange (row_of it.row) r differs) row is_change);
          });
        })
