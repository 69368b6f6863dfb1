-- The least denominator of a point, and the counts over it.
use Rattle.std.proofs.Common.{◌≡◌, ◌≢◌, ◌⊎◌, ℕ, zero, suc, ◌+◌, ◌*◌, ◌/◌, ◌^◌, ◌<◌, ◌≤◌, inl, inr, List, length, set}
use Rattle.std.proofs.Common.{get_or, replicate, refl, sym, ◌∙◌, ap, subst, arith, pos, negsuc, ℤ, ◌*ℤ◌, ◌<ℤ◌, ◌≤ℤ◌}
use Rattle.std.proofs.Common.{unsigned_abs, SFits, to_z, of_z}
use Rattle.std.specs.Int.{◌∣◌, IsGcd, w128}
use Rattle.std.proofs.lemmas.Bool.{cases_eq, cases_lt}
use Rattle.std.proofs.lemmas.Int.{ints, unsigned_abs-mul, to_z-of_z}
use Rattle.std.proofs.lemmas.List.{get_or-set_same, get_or-set_other, length-set, length-replicate}
use Rattle.std.proofs.lemmas.Nat.Gcd.{dvd_trans, le_of_dvd}
use Rattle.std.proofs.Math.Nat.{pos_of_dvd_of_pos, mul-dvd-mul_right, one-dvd, div-mul_cancel}
use Rattle.std.specs.List.{refill}
use Rattle.xm_model.specs.Lending.{refill-full}
use Rattle.xm_rows.specs.Row.{SparseRow, Fits128, coefficient}
use Rattle.xm_rows.specs.Lemmas.Integers.{abs_positive}
use Rattle.xm_lp.specs.declared.decision.Con.{Con}
use Rattle.xm_lp.specs.Start.{Tableau, AreBelow, artificials}
use Rattle.xm_lp.specs.Pivot.{IsLast, entry_at, constant_at, basic_at}
use Rattle.xm_lp.specs.Answer.{number_at, AreCounts, CountsFit}
use Rattle.xm_lp.specs.Inner.Multiple.{IsLeastMultiple}
use Rattle.xm_lp.specs.Inner.Denominator.{HasPoint, IsDenominatorOf, IsLeastOf, AreCountsOf, AreCountsOver, CountLeaves}
use Rattle.xm_lp.specs.Inner.Denominator.{entry_size, constant_size}
use Rattle.xm_lp.specs.Rule.{After, IsEnd, HasCounts, Leaves, at_counts}
use Rattle.xm_lp.proofs.Signs.{nonzero}
use Rattle.xm_lp.proofs.Multiples.{has_gcd, part_divides, some_quotient, least_multiple_is}
use Rattle.xm_lp.proofs.Ordering.{read_row}
use Rattle.xm_lp.proofs.Multiplying.{zeros_are}
use Rattle.xm_lp.proofs.Points.{basics_differ}
use Rattle.xm_lp.proofs.Sound.{IsSound, sound}

last_or_below : (h i : ℕ) → h < i + 1 → (h ≡ i) ⊎ (h < i)
last_or_below h i lt = grind arith

-- ---- the numbers as the code reads them

pub record AreSizes (columns : ℕ) (t : Tableau) (i basic entry constant : ℕ) : Type 0 where
  pub within : i < length t.rows
  pub is_basic : basic ≡ basic_at t i
  pub given : basic_at t i < columns
  pub is_entry : entry ≡ entry_size t i
  pub is_constant : constant ≡ constant_size t i

pub are_sizes : (columns : ℕ) (t : Tableau) (i entry constant : ℕ) (r : SparseRow) (rows : List SparseRow)
    (basics : List ℕ) (e c : ℤ) → rows ≡ t.rows → i < length rows →
    r ≡ get_or rows i r → basics ≡ t.basics → get_or basics i 0 < columns → SFits w128 e → e ≡
    coefficient r.entries (get_or basics i 0) → entry ≡ unsigned_abs (to_z w128 (of_z w128 e)) →
    SFits w128 c → c ≡ r.constant → constant ≡ unsigned_abs (to_z w128 (of_z w128 c)) →
    AreSizes columns t i (get_or basics i 0) entry constant
are_sizes columns t i entry constant r rows basics e c is_rows lt is_row is_basics given fits_e is_e is_entry fits_c is_c is_constant =
    let within : i < length t.rows = let count = ap (λ (l : List SparseRow). length l) is_rows in omega (arith, count, lt) in
    let row = read_row t.rows i r rows is_rows within is_row in
    let basic : get_or basics i 0 ≡ basic_at t i = ap (λ (l : List ℕ). get_or l i 0) is_basics in
    record {
      within = within;
      is_basic = basic;
      given = subst (λ (k : ℕ). k < columns) basic given;
      is_entry = is_entry ∙ ap unsigned_abs (to_z-of_z w128 e fits_e ∙ is_e ∙ ap (λ (x : SparseRow). coefficient x.entries (get_or basics i 0)) row ∙ ap (entry_at t i) basic);
      is_constant = is_constant ∙ ap unsigned_abs (to_z-of_z w128 c fits_c ∙ is_c ∙ ap (λ (x : SparseRow). x.constant) row);
    }

-- ---- the least denominator

pub least_none : (columns : ℕ) (t : Tableau) → IsLeastOf columns t 0 1
least_none columns t =
    record { positive = omega arith; whole = λ i lt. absurd (omega arith); least = λ other some whole. one-dvd other }

pub least_passed : (columns : ℕ) (t : Tableau) (n d : ℕ) → IsLeastOf columns t n d → columns ≤ basic_at t n →
    IsLeastOf columns t (n + 1) d
least_passed columns t n d l past =
    record {
      positive = l.positive;
      whole = λ i lt given. elim (last_or_below i n lt) [
        | inl is ↦ absurd (let at = ap (basic_at t) is in omega arith)
        | inr below ↦ l.whole i below given
      ];
      least = λ other some whole. l.least other some (λ i lt given. whole i (omega arith) given);
    }

pub size_up : (columns : ℕ) (t : Tableau) (n : ℕ) → HasPoint columns t → n < length t.rows → basic_at t n < columns →
    0 < entry_size t n
size_up columns t n h lt given = abs_positive (entry_at t n (basic_at t n)) (nonzero (entry_at t n (basic_at t n)) (h.entry n lt given))

module _ (columns : ℕ) (t : Tableau) (n d g : ℕ) (h : HasPoint columns t) (lt : n < length t.rows)
    (given : basic_at t n < columns)
    (l : IsLeastOf columns t n d) (is_gcd : IsGcd (constant_size t n) (entry_size t n) g) where
  pub gcd_up : 0 < g
  gcd_up = pos_of_dvd_of_pos is_gcd.1 (size_up columns t n h lt given)

  pub part_up : 0 < entry_size t n / g
  part_up = some_quotient (entry_size t n) (constant_size t n) g (size_up columns t n h lt given) is_gcd

  in_other : (other : ℕ) → 0 < other → IsDenominatorOf columns t (n + 1) other → entry_size t n / g ∣ other
  in_other other some whole =
      (part_divides (constant_size t n) (entry_size t n) g other some gcd_up is_gcd).1 (whole n (omega arith) given)

  pub least_more : (m : ℕ) → IsLeastMultiple d (entry_size t n / g) m → IsLeastOf columns t (n + 1) m
  least_more m is =
      record {
        positive = is.positive;
        whole = λ i below basic. elim (last_or_below i n below) [
          | inl same ↦
              subst (λ (k : ℕ). entry_size t k ∣ m * constant_size t k) (sym same)
              ((part_divides (constant_size t n) (entry_size t n) g m is.positive gcd_up is_gcd).0 is.second)
          | inr before ↦ dvd_trans (entry_size t i) (l.whole i before basic) (mul-dvd-mul_right d is.first (constant_size t i))
        ];
        least = λ other some whole. is.least other some (l.least other some (λ i below basic. whole i (omega arith) basic)) (in_other other some whole);
      }

  -- where no least multiple fits, no denominator does
  pub least_leaves : ((m : ℕ) → IsLeastMultiple d (entry_size t n / g) m → 2 ^ 127 ≤ m) → (e : ℕ) →
      IsLeastOf columns t (length t.rows) e → 2 ^ 127 ≤ e
  least_leaves leaves e whole =
      let gcd = has_gcd (entry_size t n / g) d (entry_size t n / g) (omega arith) in
      let m = d / gcd.divisor * (entry_size t n / g) in
      let is = least_multiple_is d (entry_size t n / g) gcd.divisor l.positive part_up gcd.is in
      let in_e = (least_more m is).least e whole.positive (λ i below basic. whole.whole i (omega arith) basic) in
      let few = le_of_dvd whole.positive in_e in
      let many = leaves m is in
      omega (arith, few, many)

-- the same for numbers that are those of the row
module _ (columns : ℕ) (t : Tableau) (i d g basic entry constant : ℕ) (h : HasPoint columns t)
    (sizes : AreSizes columns t i basic entry constant)
    (l : IsLeastOf columns t i d) (is_gcd : IsGcd constant entry g) where
  is_gcd_of : IsGcd (constant_size t i) (entry_size t i) g
  is_gcd_of = subst (λ (e : ℕ). IsGcd (constant_size t i) e g) sizes.is_entry (subst (λ (c : ℕ). IsGcd c entry g) sizes.is_constant is_gcd)

  is_part : entry / g ≡ entry_size t i / g
  is_part = ap (λ (e : ℕ). e / g) sizes.is_entry

  pub gcd_some : 0 < g
  gcd_some = gcd_up columns t i d g h sizes.within sizes.given l is_gcd_of

  pub part_some : 0 < entry / g
  part_some = subst (λ (e : ℕ). 0 < e) (sym is_part) (part_up columns t i d g h sizes.within sizes.given l is_gcd_of)

  pub least_next : (m : ℕ) → IsLeastMultiple d (entry / g) m → IsLeastOf columns t (i + 1) m
  least_next m is = least_more columns t i d g h sizes.within sizes.given l is_gcd_of m (subst (λ (e : ℕ). IsLeastMultiple d e m) is_part is)

  pub all_leave : ((m : ℕ) → IsLeastMultiple d (entry / g) m → 2 ^ 127 ≤ m) → (e : ℕ) →
      IsLeastOf columns t (length t.rows) e → 2 ^ 127 ≤ e
  all_leave leaves =
      least_leaves columns t i d g h sizes.within sizes.given l is_gcd_of (λ m is. leaves m (subst (λ (e : ℕ). IsLeastMultiple d e m) (sym is_part) is))

record HasLeast (columns : ℕ) (t : Tableau) (n : ℕ) : Type 0 where
  pub d : ℕ
  pub is : IsLeastOf columns t n d

has_least : (columns : ℕ) (t : Tableau) (n : ℕ) → HasPoint columns t → n ≤ length t.rows → HasLeast columns t n
has_least columns t zero h le = record { d = 1; is = least_none columns t }
has_least columns t (suc n) h le = more (has_least columns t n h (omega arith))
  where
    step : n + 1 ≡ suc n
    step = omega arith

    next : (d : ℕ) → IsLeastOf columns t (n + 1) d → HasLeast columns t (suc n)
    next d is = record { d = d; is = subst (λ (k : ℕ). IsLeastOf columns t k d) step is }

    more : HasLeast columns t n → HasLeast columns t (suc n)
    more l = elim (cases_lt (basic_at t n) columns) [
      | inl given ↦
          let part = has_gcd (entry_size t n) (constant_size t n) (entry_size t n) (omega arith) in
          let gcd = has_gcd (entry_size t n / part.divisor) l.d (entry_size t n / part.divisor) (omega arith) in
          next (l.d / gcd.divisor * (entry_size t n / part.divisor))
          (least_more columns t n l.d part.divisor h (omega arith) given l.is part.is (l.d / gcd.divisor * (entry_size t n / part.divisor))
          (least_multiple_is l.d (entry_size t n / part.divisor) gcd.divisor l.is.positive (part_up columns t n l.d part.divisor h (omega arith) given l.is part.is) gcd.is))
      | inr past ↦ next l.d (least_passed columns t n l.d l.is past)
    ]

-- ---- the counts

pub counts_none : (columns : ℕ) (t : Tableau) (d : ℕ) (zs : List ℤ) → zs ≡ replicate columns (pos 0) →
    AreCountsOf columns t 0 d zs
counts_none columns t d zs is =
    record {
      count = ap (λ (l : List ℤ). length l) is ∙ length-replicate columns (pos 0);
      basic = λ i lt given. absurd (omega arith);
      others = λ k lt other. ap (λ (l : List ℤ). number_at l k) is ∙ zeros_are columns k;
    }

pub counts_passed : (columns : ℕ) (t : Tableau) (n d : ℕ) (counts : List ℤ) → AreCountsOf columns t n d counts →
    columns ≤ basic_at t n → AreCountsOf columns t (n + 1) d counts
counts_passed columns t n d counts c past =
    record {
      count = c.count;
      basic = λ i lt given. elim (last_or_below i n lt) [
        | inl is ↦ absurd (let at = ap (basic_at t) is in omega arith)
        | inr below ↦ c.basic i below given
      ];
      others = λ k lt other. c.others k lt (λ i below. other i (omega arith));
    }

-- a whole count is the entry's in integers too
signs_back : (e c : ℤ) (d q : ℕ) → pos 0 <ℤ e → pos 0 ≤ℤ c → unsigned_abs e * q ≡ d * unsigned_abs c → e *ℤ pos q ≡
    pos d *ℤ c
signs_back (pos m) (pos n) d q some up is = ap pos is
signs_back (pos m) (negsuc n) d q some up is = absurd (omega (arith, ints))
signs_back (negsuc m) c d q some up is = absurd (omega (arith, ints))

pub counts_more : (columns : ℕ) (t : Tableau) (n d q : ℕ) (counts added : List ℤ) → HasPoint columns t →
    n < length t.rows → basic_at t n < columns → AreCountsOf columns t n d counts →
    entry_size t n * q ≡ d * constant_size t n → added ≡ set counts (basic_at t n) (pos q) →
    AreCountsOf columns t (n + 1) d added
counts_more columns t n d q counts added h lt given c is is_added =
    record {
      count = ap (λ (l : List ℤ). length l) is_added ∙ length-set counts (basic_at t n) (pos q) ∙ c.count;
      basic = λ i below basic. elim (last_or_below i n below) [
        | inl same ↦ subst (λ (k : ℕ). entry_at t k (basic_at t k) *ℤ number_at added (basic_at t k) ≡ pos d *ℤ constant_at t k) (sym same) here
        | inr before ↦
            ap (λ (z : ℤ). entry_at t i (basic_at t i) *ℤ z)
            (elsewhere (basic_at t i) (h.differ i n (omega arith) lt (λ e. absurd (omega arith)))) ∙ c.basic i before basic
      ];
      others = λ k low other. elsewhere k (λ e. other n (omega arith) (sym e)) ∙ c.others k low (λ i below. other i (omega arith));
    }
  where
    elsewhere : (k : ℕ) → k ≢ basic_at t n → number_at added k ≡ number_at counts k
    elsewhere k differ = ap (λ (l : List ℤ). number_at l k) is_added ∙ get_or-set_other counts (basic_at t n) k (pos q) (pos 0) differ

    here : entry_at t n (basic_at t n) *ℤ number_at added (basic_at t n) ≡ pos d *ℤ constant_at t n
    here =
        ap (λ (z : ℤ). entry_at t n (basic_at t n) *ℤ z)
        (ap (λ (l : List ℤ). number_at l (basic_at t n)) is_added ∙ get_or-set_same counts (basic_at t n) (pos q)
        (pos 0) (let whole = c.count in omega (arith, whole, given)))
        ∙ signs_back (entry_at t n (basic_at t n)) (constant_at t n) d q (h.entry n lt given) (h.constant n lt given) is

pub counts_fit : (counts added : List ℤ) (c q : ℕ) → added ≡ set counts c (pos q) → c < length counts → q < 2 ^ 127 →
    ((k : ℕ) → Fits128 (number_at counts k)) → (k : ℕ) → Fits128 (number_at added k)
counts_fit counts added c q is within few fit k =
    elim (cases_eq k c) [
      | inl same ↦
          subst Fits128 (sym (ap (number_at added) same ∙ ap (λ (l : List ℤ). number_at l c) is ∙ get_or-set_same counts c (pos q) (pos 0) within)) few
      | inr other ↦ subst Fits128 (sym (ap (λ (l : List ℤ). number_at l k) is ∙ get_or-set_other counts c k (pos q) (pos 0) other)) (fit k)
    ]

pub read_up : (q : ℕ) → q < 2 ^ 127 → to_z w128 q ≡ pos q
read_up q few = omega (arith, ints, few)

-- the same for numbers that are those of the row
module _ (columns : ℕ) (t : Tableau) (i d q basic entry constant : ℕ) (counts lent added : List ℤ)
    (h : HasPoint columns t) (sizes : AreSizes columns t i basic entry constant)
    (c : AreCountsOf columns t i d counts) (few : q < 2 ^ 127) (is_lent : lent ≡ counts)
    (is_added : added ≡ refill (length counts) counts (set lent basic (to_z w128 q))) where
  is_set : added ≡ set counts (basic_at t i) (pos q)
  is_set =
      is_added
      ∙ refill-full (length counts) counts (set lent basic (to_z w128 q)) (length-set lent basic (to_z w128 q) ∙ ap (λ (l : List ℤ). length l) is_lent)
      ∙ ap (λ (l : List ℤ). set l basic (to_z w128 q)) is_lent ∙ ap (λ (k : ℕ). set counts k (to_z w128 q)) sizes.is_basic
      ∙ ap (set counts (basic_at t i)) (read_up q few)

  pub counts_next : entry * q ≡ d * constant → AreCountsOf columns t (i + 1) d added
  counts_next is =
      counts_more columns t i d q counts added h sizes.within sizes.given c
      (ap (λ (e : ℕ). e * q) (sym sizes.is_entry) ∙ is ∙ ap (λ (e : ℕ). d * e) sizes.is_constant) is_set

  pub next_fit : ((k : ℕ) → Fits128 (number_at counts k)) → (k : ℕ) → Fits128 (number_at added k)
  next_fit fit = counts_fit counts added (basic_at t i) q is_set (let whole = c.count in let given = sizes.given in omega (arith, whole, given)) few fit

pub divides_sizes : (columns : ℕ) (t : Tableau) (i d basic entry constant : ℕ) →
    AreSizes columns t i basic entry constant → IsDenominatorOf columns t (length t.rows) d → entry ∣ d * constant
divides_sizes columns t i d basic entry constant sizes whole =
    subst (λ (e : ℕ). e ∣ d * constant) (sym sizes.is_entry) (subst (λ (c : ℕ). entry_size t i ∣ d * c) (sym sizes.is_constant) (whole i sizes.within sizes.given))

pub entry_some : (columns : ℕ) (t : Tableau) (i basic entry constant : ℕ) → HasPoint columns t →
    AreSizes columns t i basic entry constant → 0 < entry
entry_some columns t i basic entry constant h sizes = subst (λ (e : ℕ). 0 < e) (sym sizes.is_entry) (size_up columns t i h sizes.within sizes.given)

pub leaves_at : (columns : ℕ) (t : Tableau) (i d basic entry constant : ℕ) → AreSizes columns t i basic entry constant →
    ((n : ℕ) → entry * n ≡ d * constant → 2 ^ 127 ≤ n) → CountLeaves columns t d
leaves_at columns t i d basic entry constant sizes leaves = (
  i,
  sizes.within,
  sizes.given,
  λ n is. leaves n (ap (λ (e : ℕ). e * n) sizes.is_entry ∙ is ∙ ap (λ (e : ℕ). d * e) (sym sizes.is_constant)),
)

record SomeCounts (columns : ℕ) (t : Tableau) (n d : ℕ) : Type 0 where
  pub counts : List ℤ
  pub are : AreCountsOf columns t n d counts

some_counts : (columns : ℕ) (t : Tableau) (n d : ℕ) → HasPoint columns t → n ≤ length t.rows →
    IsDenominatorOf columns t n d → SomeCounts columns t n d
some_counts columns t zero d h le whole = record { counts = replicate columns (pos 0); are = counts_none columns t d (replicate columns (pos 0)) refl }
some_counts columns t (suc n) d h le whole = more (some_counts columns t n d h (omega arith) (λ i lt given. whole i (omega arith) given))
  where
    step : n + 1 ≡ suc n
    step = omega arith

    next : (counts : List ℤ) → AreCountsOf columns t (n + 1) d counts → SomeCounts columns t (suc n) d
    next counts are = record { counts = counts; are = subst (λ (k : ℕ). AreCountsOf columns t k d counts) step are }

    quotient : (a b : ℕ) → a ∣ b → a * (b / a) ≡ b
    quotient a b divides = let back = div-mul_cancel a divides in omega (arith, back)

    more : SomeCounts columns t n d → SomeCounts columns t (suc n) d
    more s = elim (cases_lt (basic_at t n) columns) [
      | inl given ↦
          let q = d * constant_size t n / entry_size t n in
          next (set s.counts (basic_at t n) (pos q))
          (counts_more columns t n d q s.counts (set s.counts (basic_at t n) (pos q)) h (omega arith) given s.are (quotient (entry_size t n) (d * constant_size t n) (whole n (omega arith) given)) refl)
      | inr past ↦ next s.counts (counts_passed columns t n d s.counts s.are past)
    ]

both_sizes : (e c q : ℤ) (d : ℕ) → e *ℤ q ≡ pos d *ℤ c → unsigned_abs e * unsigned_abs q ≡ d * unsigned_abs c
both_sizes e c q d is = sym (unsigned_abs-mul e q) ∙ ap unsigned_abs is ∙ unsigned_abs-mul (pos d) c

-- ---- the answer

pub has_point : (constraints : List Con) (columns n : ℕ) (t : Tableau) → AreBelow columns constraints →
    After constraints columns n t → HasPoint columns t
has_point constraints columns n t below after =
    let s = sound constraints columns below after in
    record {
      count = s.basic.count;
      entry = λ i lt given. s.basic.own i lt;
      constant = constant s;
      differ = λ i h in_i in_h other. basics_differ t i h s.basic in_i in_h other;
    }
  where
    constant : IsSound constraints columns t → (i : ℕ) → i < length t.rows → basic_at t i < columns →
        pos 0 ≤ℤ constant_at t i
    constant s zero lt given = absurd (let top = s.basic_top in omega (arith, top, given))
    constant s (suc i) lt given = s.basic.constants (suc i) (omega arith) lt

are_counts : (columns : ℕ) (t : Tableau) (d : ℕ) (counts : List ℤ) → IsLeastOf columns t (length t.rows) d →
    AreCountsOf columns t (length t.rows) d counts → AreCounts columns t d counts
are_counts columns t d counts l c =
    record {
      positive = l.positive;
      whole = l.whole;
      least = λ other some whole. le_of_dvd some (l.least other some whole);
      count = c.count;
      basic = c.basic;
      others = c.others;
    }

module _ (constraints : List Con) (columns left n first : ℕ) (t : Tableau) (below : AreBelow columns constraints)
    (is_first : first ≡ artificials constraints columns)
    (after : After constraints columns n t) (last : IsLast t first) (none : constant_at t 0 ≡ pos 0)
    (within : n ≤ left) where
  end : IsEnd constraints columns left n t
  end = record { after = after; within = within; last = subst (IsLast t) is_first last }

  pub pointed : (d : ℕ) (z : ℤ) (counts : List ℤ) → z ≡ pos d → d < 2 ^ 127 → IsLeastOf columns t (length t.rows) d →
      AreCountsOver columns t d counts → HasCounts constraints columns left n z counts
  pointed d z counts is few l c =
      record {
        tableau = t;
        end = end;
        zero = none;
        value = d;
        is = is;
        are = are_counts columns t d counts l c.are;
        fit = record { value = few; each = c.fit };
      }

  leaves_with : (d : ℕ) → IsLeastOf columns t (length t.rows) d →
      ((counts : List ℤ) → AreCountsOf columns t (length t.rows) d counts → ¬ CountsFit d counts) →
      Leaves constraints columns left n
  leaves_with d l leaves =
      let s = some_counts columns t (length t.rows) d (has_point constraints columns n t below after) (omega arith) l.whole in
      at_counts n t d s.counts end none (are_counts columns t d s.counts l s.are) (leaves s.counts s.are)

  pub denominator_leaves : ((d : ℕ) → IsLeastOf columns t (length t.rows) d → 2 ^ 127 ≤ d) →
      Leaves constraints columns left n
  denominator_leaves leaves =
      let l = has_least columns t (length t.rows) (has_point constraints columns n t below after) (omega arith) in
      leaves_with l.d l.is (λ counts are fit. let few = fit.value in let many = leaves l.d l.is in absurd (omega (arith, few, many)))

  pub count_leaves : (d : ℕ) → IsLeastOf columns t (length t.rows) d → CountLeaves columns t d →
      Leaves constraints columns left n
  count_leaves d l leaves =
      let i = leaves.0 in
      leaves_with d l (λ counts are fit.
      let few = fit.each (basic_at t i) in
      let at = both_sizes (entry_at t i (basic_at t i)) (constant_at t i) (number_at counts (basic_at t i)) d (are.basic i leaves.1 leaves.2) in
      let many = leaves.3 (unsigned_abs (number_at counts (basic_at t i))) at in
      absurd (omega (arith, few, many)))
