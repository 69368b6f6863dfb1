-- The flow rows of a design are rows over its columns, and all hold at the reset.
use Rattle.std.proofs.Common.{◌≡◌, ℕ, ◌+◌, List, None, false, sym, ◌∙◌, ap₂, subst, arith, refl}
use Rattle.xm_design.specs.Designed.{Designed, IsDesigned}
use Rattle.xm_model.specs.Next.{reset}
use Rattle.xm_model.specs.Signals.{Signals}
use Rattle.xm_model.specs.declared.state.Choice.TheVariants.{Ready}
use Rattle.xm_flow.specs.Lemmas.Within.{rows_within}
use Rattle.xm_flow.specs.FlowRows.{Flow, IsKept, columns}
use Rattle.xm_flow.specs.Holding.{FlowHolds, IsFlowOf, column_value, pair_count, point, queue_pair_count}
use Rattle.xm_rows.specs.Row.{SparseRow}
use Rattle.xm_elim.specs.Basis.{AreOver, IsConsistent}
use Rattle.xm_elim.specs.Elimination.{ElimOverflows}

nothing : Signals
nothing = record { offer = λ c. None; ready = λ c. false }

-- before any cycle, nothing moved and each queue has its initial packets
pub consistent : FlowHolds → (it : Designed) (flow : Flow) (lent : List SparseRow) → IsDesigned it → IsFlowOf it flow → lent ≡ flow.rows → IsConsistent lent
consistent holds it flow lent designed of is =
    let s = λ (t p : ℕ). reset it.net p in
    let φ = λ (t : ℕ). nothing in
    let w = λ (t p : ℕ). Ready false in
    let all = holds it flow.rows 0 w s φ designed of.rows (λ t p m early has. absurd (omega arith))
    (record { start = λ p. refl; frames = λ t early. absurd (omega arith); steps = λ t p early. absurd (omega arith) }) 0 (omega arith) in
    subst IsConsistent (sym is) (record { x = point (columns it) (column_value (s 0) φ 0); meets = all })

pub over : (it : Designed) (flow : Flow) (lent : List SparseRow) → IsFlowOf it flow → IsKept flow → lent ≡ flow.rows → (moves counts : ℕ) → moves ≡ flow.moves → counts ≡ flow.counts → AreOver (moves + counts) lent
over it flow lent of kept is moves counts moves_is counts_is =
    let same : moves + counts ≡ pair_count it + queue_pair_count it = ap₂ ◌+◌ (moves_is ∙ of.moves) (counts_is ∙ of.counts) in
    subst (AreOver (moves + counts)) (sym is) (subst (λ (n : ℕ). AreOver n flow.rows) (sym same) (record { rows = kept.rows; within = rows_within it flow.rows of.rows }))

pub meets_as : (m n c d : ℕ) (f g : List SparseRow) (r s : SparseRow) (column : ℕ) → m ≡ n → c ≡ d → f ≡ g → ElimOverflows n d g r s column → ElimOverflows m c f r s column
meets_as m n c d f g r s column is_m is_c is_f h =
    subst (λ (x : ℕ). ElimOverflows x c f r s column) (sym is_m)
    (subst (λ (x : ℕ). ElimOverflows n x f r s column) (sym is_c) (subst (λ (x : List SparseRow). ElimOverflows n d x r s column) (sym is_f) h))
