-- What the elimination leaves is ordered.
use Rattle.std.proofs.Common.{◌≡◌, ◌≢◌, ℕ, ◌+◌, ◌-◌, ◌*◌, ◌^◌, ◌<◌, ◌≤◌, Bool, true, false, zero, suc, List, [], ◌∷◌, All, length, sym, ◌∙◌, ap, subst, refl, arith, inl, inr, ℤ, pos, negsuc, cond, neg_ℤ, ◌*ℤ◌, unsigned_abs, slice_get, Some}
use Rattle.std.proofs.Math.IntN.{*ℤ-zero}
use Rattle.std.proofs.lemmas.Bool.{cases_lt}
use Rattle.std.proofs.lemmas.Int.{unsigned_abs-mul}
use Rattle.std.proofs.lemmas.List.Elements.{All-cons, All-head, All-nil, All-tail}
use Rattle.std.proofs.Math.Nat.{le-mul_of_pos_right}
use Rattle.std.specs.Int.{is_negative}
use Rattle.xm_elim.proofs.Beginning.{all_at, begun_shaped}
use Rattle.xm_elim.proofs.Following.{parts_above, parts_below}
use Rattle.xm_elim.proofs.Reducing.{source}
use Rattle.xm_elim.proofs.Shaping.{reaches_shaped}
use Rattle.xm_elim.proofs.Spanning.{all_from}
use Rattle.xm_elim.specs.Basis.{AreOver}
use Rattle.xm_elim.specs.Elimination.{EndsWith, begun_from, parts_of}
use Rattle.xm_elim.specs.Ordered.{IsOrdered, RiseByFlow}
use Rattle.xm_elim.specs.declared.work.Status.TheVariants.{Pivot}
use Rattle.xm_elim.specs.declared.work.Working.{Working}
use Rattle.xm_flow.specs.ValidLemma.{Lemma, TestFits}
use Rattle.xm_flow.specs.declared.invariant.Part.{Part}
use Rattle.xm_rows.specs.Lemmas.Entries.{rising_tail}
use Rattle.xm_rows.specs.Lemmas.Integers.{abs_positive}
use Rattle.xm_rows.specs.Points.{FirstFactorIsPositive}
use Rattle.xm_rows.specs.Row.{Fits128, IsRising, IsRow, SparseRow, coefficient}
use Rattle.xm_rows.specs.declared.row.Entry.{Entry}

abbrev part_of : ℕ → Bool → Entry → Part
part_of base turned e = record { flow = e.column - base; factor = cond turned (neg_ℤ e.value) e.value }

turned_fits : (turned : Bool) (v : ℤ) → Fits128 v → Fits128 (cond turned (neg_ℤ v) v)
turned_fits true (pos zero) h = h
turned_fits true (pos (suc n)) h = h
turned_fits true (negsuc n) h = h
turned_fits false v h = h

factors_fit : (base : ℕ) (turned : Bool) (es : List Entry) → All (λ e. Fits128 e.value) es → All (λ (p : Part). Fits128 p.factor) (parts_of base turned es)
factors_fit base turned [] fit = All-nil (λ (p : Part). Fits128 p.factor)
factors_fit base turned (e ∷ es) fit =
    let rest = factors_fit base turned es (All-tail (λ (f : Entry). Fits128 f.value) e es fit) in
    elim (cases_lt e.column base) [
      | inl below ↦ subst (All (λ (p : Part). Fits128 p.factor)) (sym (parts_below base turned e es below)) rest
      | inr above ↦
          subst (All (λ (p : Part). Fits128 p.factor)) (sym (parts_above base turned e es above))
          (All-cons (λ (p : Part). Fits128 p.factor) (part_of base turned e) (parts_of base turned es) (turned_fits turned e.value (All-head (λ (f : Entry). Fits128 f.value) e es fit)) rest)
    ]

-- a part of a column that is not past the entries goes before theirs
before_all : (base : ℕ) (turned : Bool) (e : Entry) (es : List Entry) → base ≤ e.column → IsRising (e ∷ es) → RiseByFlow (parts_of base turned es) → RiseByFlow (part_of base turned e ∷ parts_of base turned es)
before_all base turned e [] above up rest = tt
before_all base turned e (f ∷ es) above up rest =
    let next : base ≤ f.column = omega (arith, up.0) in
    let is = parts_above base turned f es next in
    subst (λ (ps : List Part). RiseByFlow (part_of base turned e ∷ ps)) (sym is)
    (omega (arith, up.0), subst RiseByFlow is rest)

parts_rise : (base : ℕ) (turned : Bool) (es : List Entry) → IsRising es → RiseByFlow (parts_of base turned es)
parts_rise base turned [] up = tt
parts_rise base turned (e ∷ es) up =
    let rest = parts_rise base turned es (rising_tail e es up) in
    elim (cases_lt e.column base) [
      | inl below ↦ subst RiseByFlow (sym (parts_below base turned e es below)) rest
      | inr above ↦ subst RiseByFlow (sym (parts_above base turned e es above)) (before_all base turned e es above up rest)
    ]

scale_fits : (it : Lemma) (e : Entry) → e.value ≢ pos 0 → Fits128 (it.scale *ℤ e.value) → Fits128 it.scale
scale_fits it e nonzero fits =
    let some = abs_positive e.value nonzero in
    let product : unsigned_abs it.scale * unsigned_abs e.value < 2 ^ 127 = subst (λ (n : ℕ). n < 2 ^ 127) (unsigned_abs-mul it.scale e.value) fits in
    let above = le-mul_of_pos_right (unsigned_abs it.scale) some in
    omega arith

-- a row with an entry somewhere has a first one
scale_of : (it : Lemma) (f : ℤ) (k : ℕ) (r : SparseRow) (n : ℕ) (es : List Entry) → it.row.entries ≡ es → f *ℤ coefficient it.row.entries k ≡ coefficient r.entries n → coefficient r.entries n ≢ pos 0 →
    All (λ e. e.value ≢ pos 0) es → All (λ e. Fits128 (it.scale *ℤ e.value)) es → Fits128 it.scale
scale_of it f k r n [] is at some nonzero fits = absurd (some (sym at ∙ ap (λ (l : List Entry). f *ℤ coefficient l k) is ∙ *ℤ-zero f))
scale_of it f k r n (e ∷ es) is at some nonzero fits = scale_fits it e (All-head (λ (g : Entry). g.value ≢ pos 0) e es nonzero) (All-head (λ (g : Entry). Fits128 (it.scale *ℤ g.value)) e es fits)

pub ordered : FirstFactorIsPositive → (moves counts : ℕ) (flow : List SparseRow) (lemmas : List Lemma) → AreOver (moves + counts) flow → EndsWith moves counts flow lemmas → All IsOrdered lemmas
ordered first moves counts flow lemmas over ends =
    let base = moves + counts in
    let e = ends.eliminates in
    let shaped = reaches_shaped first moves (base + length flow) base (begun_from base 0 flow) e.rows e.reaches (begun_shaped moves base flow over) in
    all_from IsOrdered lemmas (λ i it at.
    let s = source moves counts flow lemmas e i it at in
    let w : Working = record { row = s.pivot; status = Pivot (moves + s.column) } in
    let row = shaped.row s.place w s.at in
    let leads = shaped.leads s.place w (moves + s.column) s.at refl in
    let tested = all_at (TestFits flow) lemmas i it ends.tested at in
    let turned = is_negative s.parted.factor in
    record {
      row = s.parted.row;
      scale = scale_of it s.parted.factor s.column s.pivot (moves + s.column) it.row.entries refl (s.parted.entries s.column s.below) leads.some s.parted.row.nonzero tested.scaled;
      rise = subst RiseByFlow (sym s.parted.parts) (parts_rise base turned s.pivot.entries row.rising);
      factors = subst (All (λ (p : Part). Fits128 p.factor)) (sym s.parted.parts) (factors_fit base turned s.pivot.entries row.fit);
    })
