-- The multipliers, one by one, and their sum.
use Rattle.std.proofs.Common.{◌≡◌, ◌⊎◌, ℕ, zero, suc, ◌+◌, ◌<◌, ◌≤◌, Bool, true, false, inl, inr, List, [], ◌∷◌, ◌++◌}
use Rattle.std.proofs.Common.{length, take, get_or, replicate, refl, sym, ◌∙◌, ap, subst, arith, pos, negsuc, ℤ, ◌+ℤ◌}
use Rattle.std.proofs.Common.{◌*ℤ◌}
use Rattle.std.specs.Int.{is_negative}
use Rattle.std.proofs.lemmas.Bool.{cases_lt}
use Rattle.std.proofs.lemmas.Int.{ints}
use Rattle.std.proofs.lemmas.List.{take_all, length-replicate}
use Rattle.xm_rows.specs.Row.{SparseRow, Fits128, IsRow, coefficient}
use Rattle.xm_rows.specs.Lemmas.Integers.{one_times}
use Rattle.xm_lp.specs.declared.decision.Con.{Con}
use Rattle.xm_lp.specs.Start.{in_column, constant_of, signed}
use Rattle.xm_lp.specs.Answer.{ProductsFit, constraint_at, number_at, weighted}
use Rattle.xm_lp.specs.Lemmas.Tally.{SumFits, AreAdded, AddingLeaves}
use Rattle.xm_lp.specs.Inner.Refuted.{AreValues, AreDifferences, AllProductsFit, difference_at}
use Rattle.xm_lp.proofs.Minusing.{zero_fits, beyond, coefficient_fits}

-- ---- zeros

pub zeros_are : (n k : ℕ) → number_at (replicate n (pos 0)) k ≡ pos 0
zeros_are zero k = refl
zeros_are (suc n) zero = refl
zeros_are (suc n) (suc k) = zeros_are n k

pub zeros_fit : (zs : List ℤ) (n k : ℕ) → zs ≡ replicate n (pos 0) → Fits128 (number_at zs k)
zeros_fit zs n k is = subst Fits128 (sym (ap (λ (l : List ℤ). number_at l k) is ∙ zeros_are n k)) zero_fits

pub values_are : (r : SparseRow) (n : ℕ) (zs values : List ℤ) → zs ≡ replicate n (pos 0) →
    AreAdded zs (pos 1) r.entries values → AreValues r n values
values_are r n zs values is a =
    let whole = ap (λ (l : List ℤ). length l) is ∙ length-replicate n (pos 0) in
    record {
      count = a.count ∙ whole;
      each = λ k lt.
          let at = a.each k (omega (arith, whole, lt)) in
          let none = ap (λ (l : List ℤ). number_at l k) is ∙ zeros_are n k in
          let one = one_times (coefficient r.entries k) in
          omega (arith, ints);
      fit = λ k. elim (cases_lt k (length zs)) [
        | inl below ↦ subst Fits128 (sym (a.each k below)) (a.fit k below).sum
        | inr past ↦ subst Fits128 (sym (beyond values k (omega (arith, a.count, past)))) zero_fits
      ];
    }

-- entries that fit can be added to zeros
pub values_fit : (r : SparseRow) (n : ℕ) (zs : List ℤ) → zs ≡ replicate n (pos 0) → IsRow r →
    AddingLeaves zs (pos 1) r.entries → ⊥
values_fit r n zs is row leaves =
    let k = leaves.0 in
    let fits = coefficient_fits r.entries k row.rising row.fit in
    let one = one_times (coefficient r.entries k) in
    let none = ap (λ (l : List ℤ). number_at l k) is ∙ zeros_are n k in
    let sum : coefficient r.entries k ≡ (number_at zs k +ℤ (pos 1 *ℤ coefficient r.entries k)) = omega (arith, ints) in
    leaves.2 (record { product = subst Fits128 (sym one) fits; sum = subst Fits128 sum fits })

-- ---- the differences

-- the first multipliers
pub record AreFirst (constraints : List Con) (top : List ℤ) (first i : ℕ) (multipliers : List ℤ) : Type 0 where
  pub count : length multipliers ≡ i
  pub each : (h : ℕ) → h < i → number_at multipliers h ≡ signed (is_negative (constraint_at constraints h).row.constant)
      (difference_at constraints top first h)
  pub fit : (h : ℕ) → h < i → Fits128 (number_at multipliers h)

pub first_none : (constraints : List Con) (top : List ℤ) (first : ℕ) → AreFirst constraints top first 0 []
first_none constraints top first = record { count = refl; each = λ h lt. absurd (omega arith); fit = λ h lt. absurd (omega arith) }

last_or_below : (h i : ℕ) → h < i + 1 → (h ≡ i) ⊎ (h < i)
last_or_below h i lt = grind arith

at_end : (xs : List ℤ) (x : ℤ) → number_at (xs ++ x ∷ []) (length xs) ≡ x
at_end [] x = refl
at_end (y ∷ ys) x = at_end ys x

before_end : (xs : List ℤ) (x : ℤ) (h : ℕ) → h < length xs → number_at (xs ++ x ∷ []) h ≡ number_at xs h
before_end [] x h lt = absurd (omega arith)
before_end (y ∷ ys) x zero lt = refl
before_end (y ∷ ys) x (suc h) lt = before_end ys x h (omega arith)

end_count : (xs : List ℤ) (x : ℤ) → length (xs ++ x ∷ []) ≡ length xs + 1
end_count [] x = omega arith
end_count (y ∷ ys) x = let rest = end_count ys x in omega (arith, rest)

signed_fit : (b : Bool) (z : ℤ) → Fits128 z → Fits128 (signed b z)
signed_fit true (pos zero) h = h
signed_fit true (pos (suc n)) h = h
signed_fit true (negsuc n) h = h
signed_fit false z h = h

pub first_more : (constraints : List Con) (top : List ℤ) (first i : ℕ) (multipliers pushed : List ℤ) (m : ℤ) →
    AreFirst constraints top first i multipliers → i < length constraints →
    Fits128 (difference_at constraints top first i) → m ≡
    signed (is_negative (constraint_at constraints i).row.constant) (difference_at constraints top first i) →
    pushed ≡ multipliers ++ m ∷ [] →
    AreFirst constraints top first (i + 1) pushed
first_more constraints top first i multipliers pushed m f lt fits is_m is_pushed =
    record {
      count = ap (λ (l : List ℤ). length l) is_pushed ∙ end_count multipliers m ∙ ap (λ (n : ℕ). n + 1) f.count;
      each = λ h below. elim (last_or_below h i below) [
        | inl same ↦
            ap (λ (l : List ℤ). number_at l h) is_pushed ∙ ap (number_at (multipliers ++ m ∷ [])) (same ∙ sym f.count) ∙ at_end multipliers m ∙ is_m
            ∙ ap (λ (n : ℕ). signed (is_negative (constraint_at constraints n).row.constant) (difference_at constraints top first n)) (sym same)
        | inr before ↦ ap (λ (l : List ℤ). number_at l h) is_pushed ∙ before_end multipliers m h (omega (arith, f.count, before)) ∙ f.each h before
      ];
      fit = λ h below. elim (last_or_below h i below) [
        | inl same ↦
            subst Fits128 (sym (ap (λ (l : List ℤ). number_at l h) is_pushed ∙ ap (number_at (multipliers ++ m ∷ [])) (same ∙ sym f.count) ∙ at_end multipliers m ∙ is_m))
            (signed_fit (is_negative (constraint_at constraints i).row.constant) (difference_at constraints top first i) fits)
        | inr before ↦ subst Fits128 (sym (ap (λ (l : List ℤ). number_at l h) is_pushed ∙ before_end multipliers m h (omega (arith, f.count, before)))) (f.fit h before)
      ];
    }

pub first_all : (constraints : List Con) (top : List ℤ) (first i : ℕ) (multipliers : List ℤ) →
    AreFirst constraints top first i multipliers → i ≡ length constraints →
    AreDifferences constraints top first multipliers
first_all constraints top first i multipliers f is =
    record { count = f.count ∙ is; each = λ h lt. f.each h (omega (arith, is, lt)); fit = λ h lt. f.fit h (omega (arith, is, lt)) }

-- ---- the sum of the answer

abbrev pub FitsUpTo : (SparseRow → ℤ) → List ℤ → List Con → ℕ → Type 0
FitsUpTo f multipliers constraints i =
    ((h : ℕ) → h < i → Fits128 (number_at multipliers h *ℤ f (constraint_at constraints h).row)) ×
    ((n : ℕ) → n ≤ i → Fits128 (weighted f (take n multipliers) constraints))

pub record IsSummed (constraints : List Con) (columns : ℕ) (multipliers : List ℤ) (i : ℕ) (sums : List ℤ)
    (constant : ℤ) : Type 0 where
  pub count : length sums ≡ columns
  pub fit : (k : ℕ) → Fits128 (number_at sums k)
  pub is_columns : (k : ℕ) → k < columns → number_at sums k ≡ weighted (in_column k) (take i multipliers) constraints
  pub is : constant ≡ weighted constant_of (take i multipliers) constraints
  pub entries : (k : ℕ) → k < columns → FitsUpTo (in_column k) multipliers constraints i
  pub constants : FitsUpTo constant_of multipliers constraints i

weighted_more : (f : SparseRow → ℤ) (ms : List ℤ) (constraints : List Con) (i : ℕ) (c : Con) → i < length ms →
    i < length constraints → c ≡ get_or constraints i c →
    weighted f (take (i + 1) ms) constraints ≡ (weighted f (take i ms) constraints +ℤ (number_at ms i *ℤ f c.row))
weighted_more f [] constraints i c in_ms in_cons is = absurd (omega arith)
weighted_more f (m ∷ ms) [] i c in_ms in_cons is = absurd (omega arith)
weighted_more f (m ∷ ms) (d ∷ ds) zero c in_ms in_cons is = let same = ap (λ (x : Con). m *ℤ f x.row) is in omega (arith, ints)
weighted_more f (m ∷ ms) (d ∷ ds) (suc i) c in_ms in_cons is =
    let rest = weighted_more f ms ds i c (omega arith) (omega arith) is in
    ap (λ (n : ℕ). weighted f (take n (m ∷ ms)) (d ∷ ds)) (step i) ∙ omega (arith, ints)
  where
    step : (i : ℕ) → suc i + 1 ≡ suc (i + 1)
    step i = omega arith

pub same_con : (constraints : List Con) (i : ℕ) (c : Con) → i < length constraints → c ≡ get_or constraints i c → c ≡
    constraint_at constraints i
same_con [] i c lt is = absurd (omega arith)
same_con (d ∷ ds) zero c lt is = is
same_con (d ∷ ds) (suc i) c lt is = same_con ds i c (omega arith) is

up_to : (n i : ℕ) → n ≤ i + 1 → (n ≡ i + 1) ⊎ (n ≤ i)
up_to n i le = grind arith

fits_more : (f : SparseRow → ℤ) (ms : List ℤ) (constraints : List Con) (i : ℕ) (c : Con) → i < length ms →
    i < length constraints → c ≡ get_or constraints i c → FitsUpTo f ms constraints i →
    SumFits (weighted f (take i ms) constraints) (number_at ms i) (f c.row) → FitsUpTo f ms constraints (i + 1)
fits_more f ms constraints i c in_ms in_cons is before fits = (
  λ h lt. elim (last_or_below h i lt) [
    | inl same ↦ subst (λ (n : ℕ). Fits128 (number_at ms n *ℤ f (constraint_at constraints n).row)) (sym same) (subst (λ (x : Con). Fits128 (number_at ms i *ℤ f x.row)) (same_con constraints i c in_cons is) fits.product)
    | inr below ↦ before.0 h below
  ],
  λ n le. elim (up_to n i le) [
    | inl same ↦ subst (λ (m : ℕ). Fits128 (weighted f (take m ms) constraints)) (sym same) (subst Fits128 (sym (weighted_more f ms constraints i c in_ms in_cons is)) fits.sum)
    | inr few ↦ before.1 n few
  ],
)

fits_as : (total total' m z : ℤ) → total ≡ total' → SumFits total m z → SumFits total' m z
fits_as total total' m z a h = subst (λ (n : ℤ). SumFits n m z) a h

pub summed_more : (constraints : List Con) (columns : ℕ) (ms : List ℤ) (i : ℕ) (sums added : List ℤ) (constant next : ℤ)
    (c : Con) → IsSummed constraints columns ms i sums constant → length ms ≡ length constraints →
    i < length constraints → c ≡ get_or constraints i c → SumFits constant (number_at ms i) c.row.constant → next ≡
    (constant +ℤ (number_at ms i *ℤ c.row.constant)) →
    AreAdded sums (number_at ms i) c.row.entries added → IsSummed constraints columns ms (i + 1) added next
summed_more constraints columns ms i sums added constant next c s whole lt is_c fits is_next a =
    record {
      count = a.count ∙ s.count;
      fit = λ k. elim (cases_lt k (length sums)) [
        | inl below ↦ subst Fits128 (sym (a.each k below)) (a.fit k below).sum
        | inr past ↦ subst Fits128 (sym (beyond added k (omega (arith, a.count, past)))) zero_fits
      ];
      is_columns = λ k below.
          let at = a.each k (omega (arith, s.count, below)) in
          let more = weighted_more (in_column k) ms constraints i c (omega (arith, whole, lt)) lt is_c in
          let so_far = s.is_columns k below in
          omega (arith, ints);
      is =
          let more = weighted_more constant_of ms constraints i c (omega (arith, whole, lt)) lt is_c in
          let so_far = s.is in
          omega (arith, ints);
      entries = λ k below.
          fits_more (in_column k) ms constraints i c (omega (arith, whole, lt)) lt is_c (s.entries k below)
          (fits_as (number_at sums k) (weighted (in_column k) (take i ms) constraints) (number_at ms i) (coefficient c.row.entries k) (s.is_columns k below) (a.fit k (omega (arith, s.count, below))));
      constants = fits_more constant_of ms constraints i c (omega (arith, whole, lt)) lt is_c s.constants (fits_as constant (weighted constant_of (take i ms) constraints) (number_at ms i) c.row.constant s.is fits);
    }

pub summed_none : (constraints : List Con) (columns : ℕ) (ms zs : List ℤ) → zs ≡ replicate columns (pos 0) →
    IsSummed constraints columns ms 0 zs (pos 0)
summed_none constraints columns ms zs is =
    record {
      count = ap (λ (l : List ℤ). length l) is ∙ length-replicate columns (pos 0);
      fit = λ k. zeros_fit zs columns k is;
      is_columns = λ k lt. ap (λ (l : List ℤ). number_at l k) is ∙ zeros_are columns k ∙ sym (nothing (in_column k) ms);
      is = sym (nothing constant_of ms);
      entries = λ k lt. (λ h low. absurd (omega arith), λ n le. subst Fits128 (sym (first_sum (in_column k) n le)) zero_fits);
      constants = (λ h low. absurd (omega arith), λ n le. subst Fits128 (sym (first_sum constant_of n le)) zero_fits);
    }
  where
    nothing : (f : SparseRow → ℤ) (ms : List ℤ) → weighted f (take 0 ms) constraints ≡ pos 0
    nothing f ms = refl

    none : (n : ℕ) → n ≤ 0 → n ≡ 0
    none n le = omega arith

    first_sum : (f : SparseRow → ℤ) (n : ℕ) → n ≤ 0 → weighted f (take n ms) constraints ≡ pos 0
    first_sum f n le = ap (λ (m : ℕ). weighted f (take m ms) constraints) (none n le) ∙ nothing f ms

all_fit : (f : SparseRow → ℤ) (ms : List ℤ) (constraints : List Con) (i : ℕ) → i ≡ length constraints → length ms ≡
    length constraints → FitsUpTo f ms constraints i → ProductsFit f ms constraints
all_fit f ms constraints i is whole fits =
    record {
      products = λ h lt. fits.0 h (omega (arith, is, lt));
      sums = λ n. elim (cases_lt i n) [
        | inl more ↦ subst (λ (l : List ℤ). Fits128 (weighted f l constraints)) (take_all i ms (omega (arith, is, whole)) ∙ sym (take_all n ms (omega (arith, is, whole, more)))) (fits.1 i (omega arith))
        | inr few ↦ fits.1 n few
      ];
    }

pub summed_all : (constraints : List Con) (columns : ℕ) (ms sums : List ℤ) (i : ℕ) (constant : ℤ) →
    IsSummed constraints columns ms i sums constant → length ms ≡ length constraints → i ≡ length constraints →
    AllProductsFit constraints columns ms
summed_all constraints columns ms sums i constant s whole is =
    record { entries = λ k lt. all_fit (in_column k) ms constraints i is whole (s.entries k lt); constants = all_fit constant_of ms constraints i is whole s.constants }

fits_from : (f : SparseRow → ℤ) (ms : List ℤ) (constraints : List Con) (i : ℕ) (c : Con) (total : ℤ) → i < length ms →
    i < length constraints → c ≡ get_or constraints i c → total ≡ weighted f (take i ms) constraints →
    ProductsFit f ms constraints → SumFits total (number_at ms i) (f c.row)
fits_from f ms constraints i c total in_ms in_cons is is_total p =
    record {
      product = subst (λ (x : Con). Fits128 (number_at ms i *ℤ f x.row)) (sym (same_con constraints i c in_cons is)) (p.products i in_cons);
      sum = subst Fits128 (weighted_more f ms constraints i c in_ms in_cons is ∙ ap (λ (z : ℤ). z +ℤ (number_at ms i *ℤ f c.row)) (sym is_total)) (p.sums (i + 1));
    }

pub constant_leaves : (constraints : List Con) (columns : ℕ) (ms sums : List ℤ) (i : ℕ) (constant : ℤ) (c : Con) →
    IsSummed constraints columns ms i sums constant → length ms ≡ length constraints → i < length constraints → c ≡
    get_or constraints i c →
    ¬ SumFits constant (number_at ms i) c.row.constant → ¬ AllProductsFit constraints columns ms
constant_leaves constraints columns ms sums i constant c s whole lt is leaves p =
    leaves (fits_from constant_of ms constraints i c constant (omega (arith, whole, lt)) lt is s.is p.constants)

pub column_leaves : (constraints : List Con) (columns : ℕ) (ms sums : List ℤ) (i : ℕ) (constant : ℤ) (c : Con) →
    IsSummed constraints columns ms i sums constant → length ms ≡ length constraints → i < length constraints → c ≡
    get_or constraints i c →
    AddingLeaves sums (number_at ms i) c.row.entries → ¬ AllProductsFit constraints columns ms
column_leaves constraints columns ms sums i constant c s whole lt is leaves p =
    let k = leaves.0 in
    let below = leaves.1 in
    leaves.2 (fits_from (in_column k) ms constraints i c (number_at sums k) (omega (arith, whole, lt)) lt is (s.is_columns k (omega (arith, s.count, below))) (p.entries k (omega (arith, s.count, below))))
