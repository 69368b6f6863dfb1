-- The order of the ratio test.
use Rattle.std.proofs.Common.{◌≡◌, ◌⊎◌, ℕ, zero, suc, ◌<◌, inl, inr, Some, None, Option, List, [], ◌∷◌, ◌++◌, length}
use Rattle.std.proofs.Common.{get_or, refl, sym, ◌∙◌, ap, subst, arith, pos, ℤ, ◌-ℤ◌, ◌*ℤ◌, ◌<ℤ◌, ◌≤ℤ◌, neg_ℤ}
use Rattle.std.proofs.lemmas.Int.{ints}
use Rattle.std.proofs.Math.IntN.{*ℤ_comm}
use Rattle.xm_rows.specs.Lemmas.Integers.{distrib, times_negated, crossed}
use Rattle.xm_rows.specs.Row.{SparseRow}
use Rattle.xm_lp.specs.declared.table.Ratio.{Ratio}
use Rattle.xm_lp.specs.Start.{Tableau, row_at}
use Rattle.xm_lp.specs.Pivot.{Precedes, entry_at, constant_at, basic_at}
use Rattle.xm_lp.specs.Inner.Table.{IsRatio, IsRatioAt, IsBefore}
use Rattle.xm_model.specs.Membership.{IsIn}
use Rattle.xm_rows.specs.Lemmas.Noting.{in_last, in_left, in_push}
use Rattle.xm_lp.proofs.Signs.{times_up, times_positive, factor_positive, nonzero}
use Rattle.xm_rows.specs.Lemmas.Integers.{one_factor}

pub not_less : (c e d f : ℤ) (basic other : ℕ) → Precedes c e basic d f other → (c *ℤ f) ≤ℤ (d *ℤ e)
not_less c e d f basic other (inl less) = omega (arith, ints, less)
not_less c e d f basic other (inr same) = let is = same.0 in omega (arith, ints)

up_by : (k a b : ℤ) → pos 0 ≤ℤ k → a ≤ℤ b → (k *ℤ a) ≤ℤ (k *ℤ b)
up_by k a b up le =
    let rest = times_up k (b -ℤ a) up (omega (arith, ints)) in
    let parted = distrib k b (neg_ℤ a) in
    let turned = times_negated k a in
    omega (arith, ints)

more_by : (k a b : ℤ) → pos 0 <ℤ k → a <ℤ b → (k *ℤ a) <ℤ (k *ℤ b)
more_by k a b up lt =
    let rest = times_positive k (b -ℤ a) up (omega (arith, ints)) in
    let parted = distrib k b (neg_ℤ a) in
    let turned = times_negated k a in
    omega (arith, ints)

factor_less : (f a b : ℤ) → pos 0 <ℤ f → (f *ℤ a) <ℤ (f *ℤ b) → a <ℤ b
factor_less f a b up lt =
    let parted = distrib f b (neg_ℤ a) in
    let turned = times_negated f a in
    let some = factor_positive f (b -ℤ a) up (omega (arith, ints)) in
    omega (arith, ints)

-- c / e before d / f before g / k: f c k is k c f, and f g e is e g f
pub precedes_trans : (c e d f g k : ℤ) (x y z : ℕ) → pos 0 <ℤ e → pos 0 <ℤ f → pos 0 <ℤ k → Precedes c e x d f y →
    Precedes d f y g k z → Precedes c e x g k z
precedes_trans c e d f g k x y z up_e up_f up_k one two =
    let left : f *ℤ (c *ℤ k) ≡ k *ℤ (c *ℤ f) = ap (λ (n : ℤ). f *ℤ n) (*ℤ_comm c k) ∙ crossed k f c ∙ ap (λ (n : ℤ). k *ℤ n) (*ℤ_comm f c) in
    let right : f *ℤ (g *ℤ e) ≡ e *ℤ (g *ℤ f) = ap (λ (n : ℤ). f *ℤ n) (*ℤ_comm g e) ∙ crossed e f g ∙ ap (λ (n : ℤ). e *ℤ n) (*ℤ_comm f g) in
    let middle : k *ℤ (d *ℤ e) ≡ e *ℤ (d *ℤ k) = ap (λ (n : ℤ). k *ℤ n) (*ℤ_comm d e) ∙ crossed e k d ∙ ap (λ (n : ℤ). e *ℤ n) (*ℤ_comm k d) in
    elim one [
      | inl less ↦
          let first = more_by k (c *ℤ f) (d *ℤ e) up_k less in
          let second = up_by e (d *ℤ k) (g *ℤ f) (omega (arith, ints)) (not_less d f g k y z two) in
          inl (factor_less f (c *ℤ k) (g *ℤ e) up_f (omega (arith, ints)))
      | inr same ↦
          let first = ap (λ (n : ℤ). k *ℤ n) same.0 in
          elim two [
            | inl less ↦
                let second = more_by e (d *ℤ k) (g *ℤ f) up_e less in
                inl (factor_less f (c *ℤ k) (g *ℤ e) up_f (omega (arith, ints)))
            | inr equal ↦
                let second = ap (λ (n : ℤ). e *ℤ n) equal.0 in
                let order = same.1 in
                let later = equal.1 in
                inr (one_factor f (c *ℤ k) (g *ℤ e) (nonzero f up_f) (left ∙ first ∙ middle ∙ second ∙ sym right), omega (arith, order, later))
          ]
    ]

-- the best of the rows that were looked at, where there is one
pub record IsBest (t : Tableau) (j : ℕ) (seen : List ℕ) (r : Ratio) : Type 0 where
  pub above : 0 < r.row
  pub among : IsIn seen r.row
  pub ratio : IsRatio r
  pub constant : r.constant ≡ constant_at t r.row
  pub entry : r.entry ≡ entry_at t r.row j
  pub basic : r.basic ≡ basic_at t r.row
  pub first : (h : ℕ) → 0 < h → IsIn seen h → pos 0 <ℤ entry_at t h j → Precedes r.constant r.entry r.basic (constant_at t h)
      (entry_at t h j) (basic_at t h)

abbrev pub IsBestOf : Tableau → ℕ → List ℕ → Option Ratio → Type 0
IsBestOf t j seen None = (h : ℕ) → 0 < h → IsIn seen h → entry_at t h j ≤ℤ pos 0
IsBestOf t j seen (Some r) = IsBest t j seen r

-- a row without a positive entry changes nothing
pub best_passed : (t : Tableau) (j i : ℕ) (seen : List ℕ) (best : Option Ratio) → IsBestOf t j seen best →
    (0 < i → entry_at t i j ≤ℤ pos 0) → IsBestOf t j (seen ++ i ∷ []) best
best_passed t j i seen None h none = λ g some inside.
    elim (in_push seen i g inside) [
      | inl early ↦ h g some early
      | inr is ↦ subst (λ (n : ℕ). entry_at t n j ≤ℤ pos 0) is (none (omega (arith, is, some)))
    ]
best_passed t j i seen (Some r) h none =
    record {
      above = h.above;
      among = in_left seen (i ∷ []) r.row h.among;
      ratio = h.ratio;
      constant = h.constant;
      entry = h.entry;
      basic = h.basic;
      first = λ g some inside up. elim (in_push seen i g inside) [
        | inl early ↦ h.first g some early up
        | inr is ↦ absurd (let down = none (omega (arith, is, some)) in let same = ap (λ (n : ℕ). entry_at t n j) is in omega (arith, ints))
      ];
    }

precedes_same : (c e : ℤ) (x : ℕ) → Precedes c e x c e x
precedes_same c e x = inr (refl, omega arith)

none_is_some : (r : Ratio) → None ≡ Some r → ⊥
none_is_some r e = absurd (subst (λ (o : Option Ratio). IsNoneBy o) e tt)
  where
    IsNoneBy : Option Ratio → Type 0
    IsNoneBy None = Unit {0}
    IsNoneBy (Some r) = ⊥

-- r is the best of the rows up to row i
made : (t : Tableau) (j i : ℕ) (seen : List ℕ) (ratio r : Ratio) → 0 < r.row → IsIn (seen ++ i ∷ []) r.row → IsRatio r →
    r.constant ≡ constant_at t r.row → r.entry ≡ entry_at t r.row j → r.basic ≡ basic_at t r.row → IsRatioAt t j i ratio →
    IsBefore r ratio → ((h : ℕ) → 0 < h → IsIn seen h → pos 0 <ℤ entry_at t h j →
    Precedes r.constant r.entry r.basic (constant_at t h) (entry_at t h j) (basic_at t h)) → IsBest t j (seen ++ i ∷ []) r
made t j i seen ratio r above among is c e b here before rest =
    record {
      above = above;
      among = among;
      ratio = is;
      constant = c;
      entry = e;
      basic = b;
      first = λ h some inside up. elim (in_push seen i h inside) [
        | inl early ↦ rest h some early up
        | inr same ↦ subst (λ (n : ℕ). Precedes r.constant r.entry r.basic (constant_at t n) (entry_at t n j) (basic_at t n)) same before_it
      ];
    }
  where
    before_it : Precedes r.constant r.entry r.basic (constant_at t i) (entry_at t i j) (basic_at t i)
    before_it =
        subst (λ (n : ℕ). Precedes r.constant r.entry r.basic (constant_at t i) (entry_at t i j) n) here.basic
        (subst (λ (z : ℤ). Precedes r.constant r.entry r.basic (constant_at t i) z ratio.basic) here.entry
        (subst (λ (z : ℤ). Precedes r.constant r.entry r.basic z ratio.entry ratio.basic) here.constant before))

-- the first of the best and of row i's ratio
pub best_taken : (t : Tableau) (j i : ℕ) (seen : List ℕ) (best : Option Ratio) (ratio r : Ratio) → IsBestOf t j seen best →
    IsRatioAt t j i ratio → (r ≡ ratio) ⊎ (best ≡ Some r) → IsBefore r ratio →
    ((other : Ratio) → best ≡ Some other → IsBefore r other) → IsBest t j (seen ++ i ∷ []) r
best_taken t j i seen best ratio r h here one before others =
    elim one [
      | inl same ↦
          let row = ap (λ (x : Ratio). x.row) same ∙ here.row in
          made t j i seen ratio r (let up = here.above in omega (arith, row, up)) (subst (IsIn (seen ++ i ∷ [])) (sym row) (in_last seen i)) (subst IsRatio (sym same) here.is)
          (ap (λ (x : Ratio). x.constant) same ∙ here.constant ∙ sym (ap (constant_at t) row))
          (ap (λ (x : Ratio). x.entry) same ∙ here.entry ∙ sym (ap (λ (n : ℕ). entry_at t n j) row))
          (ap (λ (x : Ratio). x.basic) same ∙ here.basic ∙ sym (ap (basic_at t) row))
          here before (rest_of best h others (subst IsRatio (sym same) here.is))
      | inr kept ↦
          let old : IsBest t j seen r = subst (λ (o : Option Ratio). IsBestOf t j seen o) kept h in
          made t j i seen ratio r old.above (in_left seen (i ∷ []) r.row old.among) old.ratio old.constant old.entry old.basic here before old.first
    ]
  where
    rest_of : (best : Option Ratio) → IsBestOf t j seen best → ((other : Ratio) → best ≡ Some other → IsBefore r other) →
        IsRatio r →
        (h : ℕ) → 0 < h → IsIn seen h → pos 0 <ℤ entry_at t h j → Precedes r.constant r.entry r.basic (constant_at t h)
        (entry_at t h j) (basic_at t h)
    rest_of None none others is = λ h some inside up. absurd (let down = none h some inside in omega (arith, ints))
    rest_of (Some b) best others is = λ h some inside up.
        precedes_trans r.constant r.entry b.constant b.entry (constant_at t h) (entry_at t h j) r.basic b.basic (basic_at t h)
        is.entry best.ratio.entry up (others b refl) (best.first h some inside up)

-- the number read at an index is that of the definitions
pub read_row : (rows : List SparseRow) (i : ℕ) (r : SparseRow) (given : List SparseRow) → given ≡ rows →
    i < length rows → r ≡ get_or given i r → r ≡ row_at rows i
read_row rows i r given is lt at = at ∙ ap (λ (l : List SparseRow). get_or l i r) is ∙ same_default rows i lt
  where
    same_default : (xs : List SparseRow) (i : ℕ) → i < length xs → get_or xs i r ≡ row_at xs i
    same_default [] i lt = absurd (omega arith)
    same_default (x ∷ xs) zero lt = refl
    same_default (x ∷ xs) (suc i) lt = same_default xs i (omega arith)
