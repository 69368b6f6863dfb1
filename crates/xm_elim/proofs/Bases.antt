-- What the elimination leaves is a reduced basis.
use Rattle.std.proofs.Common.{ℕ, ◌+◌, ◌≤◌, List, length, slice_get, Some, refl, sym, ◌∙◌, ap, ◌≡◌, pos, arith}
use Rattle.xm_flow.specs.ValidLemma.{IsValid, Lemma}
use Rattle.xm_rows.specs.Points.{FirstFactorIsPositive, GivesBackPoints, KeepsPoints}
use Rattle.xm_rows.specs.Row.{SparseRow, coefficient}
use Rattle.xm_elim.specs.Basis.{AreOver, IsConsistent, IsReducedBasis}
use Rattle.xm_elim.specs.Elimination.{Eliminates, Reaches, begun_from}
use Rattle.xm_elim.specs.Inner.Places.{Leads}
use Rattle.xm_elim.specs.declared.work.Status.TheVariants.{Pivot}
use Rattle.xm_elim.specs.declared.work.Working.{Working}
use Rattle.xm_elim.proofs.Beginning.{begun_shaped}
use Rattle.xm_elim.proofs.Following.{parted_valid, start_constant, start_tell, tell, tell_constant}
use Rattle.xm_elim.proofs.Passing.{reaches_meets}
use Rattle.xm_elim.proofs.Reducing.{reduced_list, source}
use Rattle.xm_elim.proofs.Shaping.{reaches_shaped}
use Rattle.xm_elim.proofs.Spanning.{all_from, spans}

pub basis_of : KeepsPoints → GivesBackPoints → FirstFactorIsPositive → (moves counts : ℕ) (flow : List SparseRow) (lemmas : List Lemma) →
    AreOver (moves + counts) flow → IsConsistent flow → Eliminates moves counts flow lemmas → IsReducedBasis moves counts flow lemmas
basis_of keeps gives first moves counts flow lemmas over consistent e =
    let base = moves + counts in
    let start = begun_from base 0 flow in
    let shaped = reaches_shaped first moves (base + length flow) base start e.rows e.reaches (begun_shaped moves base flow over) in
    let on_tell = λ (k : ℕ). reaches_meets keeps moves base start e.rows (pos 0) (tell base flow k) e.reaches (start_tell base flow k over) in
    let on_constant = reaches_meets keeps moves base start e.rows (pos 1) (tell_constant base flow) e.reaches (start_constant base flow over) in
    record {
      valid = all_from (IsValid moves counts flow) lemmas (λ i it at.
          let s = source moves counts flow lemmas e i it at in
          let w : Working = record { row = s.pivot; status = Pivot (moves + s.column) } in
          let leads = shaped.leads s.place w (moves + s.column) s.at refl in
          parted_valid moves counts flow s.pivot it s.parted (shaped.row s.place w s.at) (λ k below. leads.before k (omega arith)) (λ k high. shaped.bounded s.place w k s.at high)
          (λ k. on_tell k s.place w s.at) (on_constant s.place w s.at));
      reduced = reduced_list moves counts flow lemmas (base + length flow) e shaped;
      span = spans keeps gives first moves counts flow lemmas over consistent e;
    }

-- the pivots of packets lead in their columns
pub rows_lead : FirstFactorIsPositive → (moves counts : ℕ) (flow : List SparseRow) (rows lent : List Working) → AreOver (moves + counts) flow →
    Reaches moves (begun_from (moves + counts) 0 flow) (moves + counts) rows → lent ≡ rows →
    (j : ℕ) (w : Working) (k : ℕ) → slice_get lent j ≡ Some w → w.status ≡ Pivot k → Leads moves (moves + counts) k w.row
rows_lead first moves counts flow rows lent over reaches is j w k at =
    let base = moves + counts in
    let shaped = reaches_shaped first moves (base + length flow) base (begun_from base 0 flow) rows reaches (begun_shaped moves base flow over) in
    shaped.leads j w k (sym (ap (λ (l : List Working). slice_get l j) is) ∙ at)

-- and no row has an entry past the last factor's column
pub rows_bounded : FirstFactorIsPositive → (moves counts : ℕ) (flow : List SparseRow) (rows lent : List Working) → AreOver (moves + counts) flow →
    Reaches moves (begun_from (moves + counts) 0 flow) (moves + counts) rows → lent ≡ rows →
    (j : ℕ) (w : Working) (k : ℕ) → slice_get lent j ≡ Some w → (moves + counts) + length flow ≤ k → coefficient w.row.entries k ≡ pos 0
rows_bounded first moves counts flow rows lent over reaches is j w k at high =
    let base = moves + counts in
    let shaped = reaches_shaped first moves (base + length flow) base (begun_from base 0 flow) rows reaches (begun_shaped moves base flow over) in
    shaped.bounded j w k (sym (ap (λ (l : List Working). slice_get l j) is) ∙ at) high
