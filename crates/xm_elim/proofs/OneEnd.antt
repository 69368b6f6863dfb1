-- The rows that an elimination leaves are determined, and so is the column of its first overflow.
use Rattle.std.proofs.Common.{◌≡◌, ◌≢◌, ℕ, zero, suc, ◌+◌, ◌*◌, ◌<◌, inl, inr, List, [], ◌∷◌, ◌++◌, length, slice_get, Some, refl, sym, ◌∙◌, ap, ap₂, subst, arith, pos, negsuc, neg_ℤ, ℤ, ◌*ℤ◌, ◌<ℤ◌, unsigned_abs}
use Rattle.std.proofs.lemmas.Bool.{cases_eq, cases_lt, cases_order}
use Rattle.std.proofs.lemmas.Int.{ints}
use Rattle.std.proofs.lemmas.List.Elements.{All-weaker}
use Rattle.std.proofs.Math.IntN.{*ℤ-zero, *ℤ_comm, negsuc-*ℤ-pos}
use Rattle.std.specs.Int.{is_negative}
use Rattle.std.proofs.Math.Nat.{mul-pos}
use Rattle.xm_flow.specs.Lemmas.Listing.{all_at}
use Rattle.xm_flow.specs.ValidLemma.{Lemma, TestFits}
use Rattle.xm_flow.specs.declared.invariant.Part.{Part}
use Rattle.xm_rows.specs.Lemmas.Entries.{coefficient_absent, first_coefficient}
use Rattle.xm_rows.specs.Lemmas.Integers.{abs_positive, negated, one_factor, zero_factor}
use Rattle.xm_rows.specs.Lemmas.Unique.{numbers, one_reduced}
use Rattle.xm_rows.specs.Points.{FirstFactorIsPositive}
use Rattle.xm_rows.specs.Row.{IsRising, IsRow, SparseRow, coefficient}
use Rattle.xm_rows.specs.declared.row.Entry.{Entry}
use Rattle.xm_elim.specs.Basis.{AreOver, LeadsAt}
use Rattle.xm_elim.specs.Determined.{OneEnd, OneOverflow}
use Rattle.xm_elim.specs.Elimination.{Eliminates, ExclusiveEnds, FailsTest, IsFirstOverflow, IsParted, MeetsOverflow, Pivots, begun_from, none, parts_of, with_one, without}
use Rattle.xm_elim.specs.Inner.Places.{Leads}
use Rattle.xm_elim.specs.declared.work.Status.TheVariants.{Gone, Pivot}
use Rattle.xm_elim.specs.declared.work.Working.{Working}
use Rattle.xm_elim.proofs.Beginning.{begun_shaped}
use Rattle.xm_elim.proofs.Exclusive.{before_column, never_meets, no_overflow, one_reaches, same_list}
use Rattle.xm_elim.proofs.Passing.{same_item, same_place}
use Rattle.xm_elim.proofs.Reducing.{lead_is, leads_at}
use Rattle.xm_elim.proofs.Shaping.{IsShaped, reaches_shaped}
use Rattle.xm_elim.proofs.Spanning.{pivot_at}

-- ---- a column of packets has one pivot

works : (c : ℕ) → Pivot c ≡ Gone → ⊥
works c e = cc

module _ (moves bound column : ℕ) (rows : List Working) (h : IsShaped moves bound column rows) where
  pivot_once : (c i j : ℕ) (r s : SparseRow) → slice_get rows i ≡ Some (record { row = r; status = Pivot c }) → slice_get rows j ≡ Some (record { row = s; status = Pivot c }) → r ≡ s
  pivot_once c i j r s at_i at_j =
      elim (cases_eq i j) [
        | inl same ↦
            ap (λ (w : Working). w.row) (same_item rows j (record { row = r; status = Pivot c }) (record { row = s; status = Pivot c }) (sym (ap (slice_get rows) same) ∙ at_i) at_j)
        | inr other ↦
            absurd ((h.leads i (record { row = r; status = Pivot c }) c at_i refl).some (h.alone j (record { row = s; status = Pivot c }) c i (record { row = r; status = Pivot c }) at_j refl other at_i (works c)))
      ]

  one_pivots : (n : ℕ) (ps qs : List SparseRow) → Pivots moves rows n ps → Pivots moves rows n qs → ps ≡ qs
  one_pivots zero ps qs none none = refl
  one_pivots (suc n) ps qs (without before out) (without earlier not) = one_pivots n ps qs before earlier
  one_pivots (suc n) ps next (without before out) (with_one {ps = qs} earlier j s at_j) = absurd (out j (record { row = s; status = Pivot (moves + n) }) at_j refl)
  one_pivots (suc n) next qs (with_one {ps = ps} before i r at_i) (without earlier not) = absurd (not i (record { row = r; status = Pivot (moves + n) }) at_i refl)
  one_pivots (suc n) first second (with_one {ps = ps} before i r at_i) (with_one {ps = qs} earlier j s at_j) =
      ap₂ (λ (xs : List SparseRow) (x : SparseRow). xs ++ x ∷ []) (one_pivots n ps qs before earlier) (pivot_once (moves + n) i j r s at_i at_j)

-- ---- a pivot leaves one row

opposite : (a b m k : ℕ) → 0 < a → 0 < m → 0 < k → pos a *ℤ pos m ≡ negsuc b *ℤ pos k → ⊥
opposite a b m k some_a some_m some_k is =
    let left = mul-pos some_a some_m in
    let right = mul-pos {m = suc b} {n = k} (omega arith) some_k in
    let is_left : pos a *ℤ pos m ≡ pos (a * m) = refl in
    let is_right = negsuc-*ℤ-pos b k in
    absurd (omega (arith, ints, left, right, is_left, is_right, is))

-- where both factors have the sign of one number, so have their absolute values
same_signed : (f g : ℤ) (m k : ℕ) (t u : ℕ → ℤ) → f ≢ pos 0 → g ≢ pos 0 → 0 < m → 0 < k → f *ℤ pos m ≡ g *ℤ pos k → ((i : ℕ) → f *ℤ t i ≡ g *ℤ u i) →
    (i : ℕ) → pos (unsigned_abs f) *ℤ t i ≡ pos (unsigned_abs g) *ℤ u i
same_signed (pos a) (pos b) m k t u nonzero_f nonzero_g some_m some_k is h i = h i
same_signed (negsuc a) (negsuc b) m k t u nonzero_f nonzero_g some_m some_k is h i =
    negated (negsuc a) (t i) ∙ ap neg_ℤ (h i) ∙ sym (negated (negsuc b) (u i))
same_signed (pos a) (negsuc b) m k t u nonzero_f nonzero_g some_m some_k is h i = absurd (opposite a b m k (abs_positive (pos a) nonzero_f) some_m some_k is)
same_signed (negsuc a) (pos b) m k t u nonzero_f nonzero_g some_m some_k is h i = absurd (opposite b a k m (abs_positive (pos b) nonzero_g) some_k some_m (sym is))

-- a row that leads in a column has a positive number there
positive_at : (n : ℕ) (r : SparseRow) → IsRow r → LeadsAt n r.entries → (m : ℕ) × ((0 < m) × (coefficient r.entries n ≡ pos m))
positive_at n r row leads = by_entries r.entries row.rising leads
  where
    above : (z : ℤ) → pos 0 <ℤ z → (m : ℕ) × ((0 < m) × (z ≡ pos m))
    above (pos m) up = (m, ((omega (arith, ints)), refl))
    above (negsuc m) up = absurd (omega (arith, ints))

    by_entries : (es : List Entry) → IsRising es → LeadsAt n es → (m : ℕ) × ((0 < m) × (coefficient es n ≡ pos m))
    by_entries [] up h = absurd h
    by_entries (e ∷ es) up h =
        let value = above e.value h.1 in
        (value.0, (value.1.0, first_coefficient e es n up h.0 ∙ value.1.1))

lemma_is : (a b : Lemma) → a.row ≡ b.row → a.scale ≡ b.scale → a.parts ≡ b.parts → a ≡ b
lemma_is a b p q r = ap (λ (x : SparseRow). lemma x a.scale a.parts) p ∙ ap (λ (z : ℤ). lemma b.row z a.parts) q ∙ ap (λ (ps : List Part). lemma b.row b.scale ps) r
  where
    lemma : SparseRow → ℤ → List Part → Lemma
    lemma row scale parts = record { row = row; scale = scale; parts = parts }

module _ (moves counts n : ℕ) (pivot : SparseRow) (below : n < counts) (some : coefficient pivot.entries (moves + n) ≢ pos 0) (zeros : (l : ℕ) → l < n → coefficient pivot.entries (moves + l) ≡ pos 0) where
  parted_leads : (it : Lemma) → IsParted moves counts pivot it → LeadsAt n it.row.entries
  parted_leads it p =
      let here : coefficient it.row.entries n ≢ pos 0 = λ gone. some (sym (p.entries n below) ∙ ap (λ (z : ℤ). p.factor *ℤ z) gone ∙ *ℤ-zero p.factor) in
      leads_at n it.row.entries
      (lead_is n it.row.entries p.row.rising p.row.nonzero here (λ l low. zero_factor p.factor (coefficient it.row.entries l) p.nonzero (p.entries l (omega arith) ∙ zeros l low)))
      here p.leads

  -- each number times the factor is the pivot's; past the queue pairs there are none
  numbers_same : (a b : Lemma) (p : IsParted moves counts pivot a) (q : IsParted moves counts pivot b) (k : ℕ) → p.factor *ℤ numbers a.row k ≡ q.factor *ℤ numbers b.row k
  numbers_same a b p q zero = p.constant ∙ sym q.constant
  numbers_same a b p q (suc k) =
      elim (cases_lt k counts) [
        | inl low ↦ p.entries k low ∙ sym (q.entries k low)
        | inr high ↦
            let none_a = coefficient_absent a.row.entries k (All-weaker (λ (e : Entry). e.column < counts) (λ e. e.column ≢ k) (λ e within. omega arith) a.row.entries p.within) in
            let none_b = coefficient_absent b.row.entries k (All-weaker (λ (e : Entry). e.column < counts) (λ e. e.column ≢ k) (λ e within. omega arith) b.row.entries q.within) in
            ap (λ (z : ℤ). p.factor *ℤ z) none_a ∙ *ℤ-zero p.factor ∙ sym (ap (λ (z : ℤ). q.factor *ℤ z) none_b ∙ *ℤ-zero q.factor)
      ]

  one_row : (a b : Lemma) → IsParted moves counts pivot a → IsParted moves counts pivot b → a.row ≡ b.row
  one_row a b p q =
      let x = positive_at n a.row p.row (parted_leads a p) in
      let y = positive_at n b.row q.row (parted_leads b q) in
      let there = ap (λ (z : ℤ). p.factor *ℤ z) (sym x.1.1) ∙ p.entries n below ∙ sym (q.entries n below) ∙ ap (λ (z : ℤ). q.factor *ℤ z) y.1.1 in
      one_reduced (unsigned_abs p.factor) (unsigned_abs q.factor) a.row b.row (abs_positive p.factor p.nonzero) (abs_positive q.factor q.nonzero) p.row q.row (inl p.lowest) (inl q.lowest)
      (same_signed p.factor q.factor x.0 y.0 (numbers a.row) (numbers b.row) p.nonzero q.nonzero x.1.0 y.1.0 there (numbers_same a b p q))

  -- so there is one factor, and with it one lemma
  one_parted : (a b : Lemma) → IsParted moves counts pivot a → IsParted moves counts pivot b → a ≡ b
  one_parted a b p q =
      let same = one_row a b p q in
      let x = positive_at n a.row p.row (parted_leads a p) in
      let above = x.1.0 in
      let there : p.factor *ℤ pos x.0 ≡ q.factor *ℤ pos x.0 =
      ap (λ (z : ℤ). p.factor *ℤ z) (sym x.1.1) ∙ p.entries n below ∙ sym (q.entries n below) ∙ ap (λ (r : SparseRow). q.factor *ℤ coefficient r.entries n) (sym same)
      ∙ ap (λ (z : ℤ). q.factor *ℤ z) x.1.1 in
      let factor = one_factor (pos x.0) p.factor q.factor (λ e. absurd (omega (arith, ints, above, e))) (*ℤ_comm (pos x.0) p.factor ∙ there ∙ *ℤ_comm q.factor (pos x.0)) in
      lemma_is a b same (p.scale ∙ ap (λ (z : ℤ). pos (unsigned_abs z)) factor ∙ sym q.scale)
      (p.parts ∙ ap (λ (z : ℤ). parts_of (moves + counts) (is_negative z) pivot.entries) factor ∙ sym q.parts)

-- ---- the laws

-- what two ends share
pub record SameEnds (moves counts : ℕ) (flow : List SparseRow) (lemmas others : List Lemma) (e : Eliminates moves counts flow lemmas) (f : Eliminates moves counts flow others) : Type 0 where
  pub rows : e.rows ≡ f.rows
  pub pivots : e.pivots ≡ f.pivots
  pub lemmas_same : lemmas ≡ others
  pub shaped : IsShaped moves ((moves + counts) + length flow) (moves + counts) e.rows

pub same_ends : FirstFactorIsPositive → (moves counts : ℕ) (flow : List SparseRow) (lemmas others : List Lemma) → AreOver (moves + counts) flow →
    (e : Eliminates moves counts flow lemmas) (f : Eliminates moves counts flow others) → SameEnds moves counts flow lemmas others e f
same_ends first moves counts flow lemmas others over e f =
    let base = moves + counts in
    let start = begun_from base 0 flow in
    let rows_same = one_reaches moves base start e.rows f.rows e.reaches f.reaches in
    let shaped = reaches_shaped first moves (base + length flow) base start e.rows e.reaches (begun_shaped moves base flow over) in
    let again = subst (λ (l : List Working). Pivots moves l counts f.pivots) (sym rows_same) f.taken in
    let pivots_same = one_pivots moves (base + length flow) base e.rows shaped counts e.pivots f.pivots e.taken again in
    let len_p = ap length pivots_same in
    record {
      rows = rows_same;
      pivots = pivots_same;
      lemmas_same = same_list lemmas others (omega (arith, len_p, e.whole, f.whole)) (λ i a b at_a at_b.
          let r = same_place lemmas e.pivots i a e.whole at_a in
          let p = pivot_at moves e.rows counts e.pivots e.taken i r.0 r.1 in
          let w : Working = record { row = r.0; status = Pivot (moves + p.0) } in
          let leads = shaped.leads p.1.1.0 w (moves + p.0) p.1.1.1 refl in
          let there : slice_get f.pivots i ≡ Some r.0 = sym (ap (λ (ps : List SparseRow). slice_get ps i) pivots_same) ∙ r.1 in
          one_parted moves counts p.0 r.0 p.1.0 leads.some (λ l low. leads.before (moves + l) (omega arith)) a b (e.parted i r.0 a r.1 at_a) (f.parted i r.0 b there at_b));
      shaped = shaped;
    }

pub one_end : FirstFactorIsPositive → OneEnd
one_end first moves counts flow lemmas others over e f = (same_ends first moves counts flow lemmas others over e f).lemmas_same

pub exclusive : FirstFactorIsPositive → ExclusiveEnds
exclusive first moves counts flow lemmas r s column over e (inl m) = never_meets moves counts flow lemmas r s column e.eliminates m
exclusive first moves counts flow lemmas r s column over e (inr f) =
    let same = one_end first moves counts flow lemmas f.lemmas over e.eliminates f.ends in
    f.fails (all_at (TestFits flow) lemmas f.i f.it e.tested (ap (λ (ls : List Lemma). slice_get ls f.i) same ∙ f.at))

-- an overflow at a column that another has passed
earlier_not : (moves counts : ℕ) (flow : List SparseRow) (r s t u : SparseRow) (column other : ℕ) → MeetsOverflow moves counts flow r s column → MeetsOverflow moves counts flow t u other → column < other → ⊥
earlier_not moves counts flow r s t u column other m k below =
    let b = before_column moves column other (begun_from (moves + counts) 0 flow) k.rows below k.reaches in
    let same = one_reaches moves column (begun_from (moves + counts) 0 flow) b.rows m.rows b.reaches m.reaches in
    no_overflow moves column b.rows b.next r s b.step (subst (λ (l : List Working). IsFirstOverflow l column r s) (sym same) m.first)

one_meets : (moves counts : ℕ) (flow : List SparseRow) (r s t u : SparseRow) (column other : ℕ) → MeetsOverflow moves counts flow r s column → MeetsOverflow moves counts flow t u other →
    column ≡ other
one_meets moves counts flow r s t u column other m k =
    elim (cases_order column other) [
      | inl same ↦ same
      | inr w ↦ elim w [
        | inl below ↦ absurd (earlier_not moves counts flow r s t u column other m k below)
        | inr above ↦ absurd (earlier_not moves counts flow t u r s other column k m above)
      ]
    ]

-- a row leads in one column
one_lead : (moves bound column other : ℕ) (r : SparseRow) → Leads moves bound column r → Leads moves bound other r → column ≡ other
one_lead moves bound column other r a b =
    elim (cases_order column other) [
      | inl same ↦ same
      | inr w ↦ elim w [ inl below ↦ absurd (a.some (b.before column below)) | inr above ↦ absurd (b.some (a.before other above)) ]
    ]

one_failing : FirstFactorIsPositive → (moves counts : ℕ) (flow : List SparseRow) (r s t u : SparseRow) (column other : ℕ) → AreOver (moves + counts) flow →
    FailsTest moves counts flow r s column → FailsTest moves counts flow t u other → column ≡ other
one_failing first moves counts flow r s t u column other over f g =
    let same = same_ends first moves counts flow f.lemmas g.lemmas over f.ends g.ends in
    elim (cases_order f.i g.i) [
      | inl here ↦
          let at : slice_get f.ends.pivots f.i ≡ Some t = ap (slice_get f.ends.pivots) here ∙ ap (λ (ps : List SparseRow). slice_get ps g.i) same.pivots ∙ g.is_r in
          let r_is = same_item f.ends.pivots f.i r t f.is_r at in
          let place : slice_get f.ends.rows g.place ≡ Some (record { row = t; status = Pivot other }) = ap (λ (l : List Working). slice_get l g.place) same.rows ∙ g.pivot in
          let leads_r = same.shaped.leads f.place (record { row = r; status = Pivot column }) column f.pivot refl in
          let leads_t = same.shaped.leads g.place (record { row = t; status = Pivot other }) other place refl in
          one_lead moves (moves + counts) column other t (subst (λ (x : SparseRow). Leads moves (moves + counts) column x) r_is leads_r) leads_t
      | inr w ↦ elim w [
        | inl below ↦ absurd (f.fails (g.earlier f.i f.it below (ap (λ (ls : List Lemma). slice_get ls f.i) (sym same.lemmas_same) ∙ f.at)))
        | inr above ↦ absurd (g.fails (f.earlier g.i g.it above (ap (λ (ls : List Lemma). slice_get ls g.i) same.lemmas_same ∙ g.at)))
      ]
    ]

pub one_overflow : FirstFactorIsPositive → OneOverflow
one_overflow first moves counts flow r s t u column other over (inl m) (inl k) = one_meets moves counts flow r s t u column other m k
one_overflow first moves counts flow r s t u column other over (inl m) (inr g) = absurd (never_meets moves counts flow g.lemmas r s column g.ends m)
one_overflow first moves counts flow r s t u column other over (inr f) (inl k) = absurd (never_meets moves counts flow f.lemmas t u other f.ends k)
one_overflow first moves counts flow r s t u column other over (inr f) (inr g) = one_failing first moves counts flow r s t u column other over f g
