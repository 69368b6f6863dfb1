-- Named constraints, so often taken as multipliers say, add up to their weighted sums.
use Rattle.std.proofs.Common.{◌≡◌, ◌≢◌, ℕ, suc, ◌<◌, ◌^◌, Some, List, [], ◌∷◌, ◌++◌, length, take, Bool, true, false, inl, inr, refl, sym, ◌∙◌, ap, subst, arith, pos, negsuc, ℤ, ◌+ℤ◌, ◌*ℤ◌, ◌≤ℤ◌, unsigned_abs, int_eq, All}
use Rattle.std.specs.Prelude.{slice_set, slice_index_or}
use Rattle.std.proofs.lemmas.Bool.{cases_Bool, cases_eq, cond-true, cond-false, lt-ltb}
use Rattle.std.proofs.lemmas.Bool.Decides.{Decides-int_eq}
use Rattle.std.proofs.lemmas.Int.{ints}
use Rattle.std.proofs.lemmas.List.{get_or-set_same, get_or-set_other, length-set}
use Rattle.std.proofs.lemmas.List.Elements.{All-head, All-tail}
use Rattle.std.proofs.Math.IntN.{zero-*ℤ, *ℤ-zero}
use Rattle.xm_design.specs.Designed.{Designed}
use Rattle.xm_flow.specs.ValidLemma.{Lemma}
use Rattle.xm_lits.specs.declared.literal.Lit.{Lit}
use Rattle.xm_lp.specs.Answer.{constraint_at, number_at, weighted}
use Rattle.xm_lp.specs.Start.{constant_of, in_column}
use Rattle.xm_lp.specs.declared.decision.Con.{Con}
use Rattle.xm_proof.specs.Sums.{Sums, add_entries, add_row, fits128, is_natural, plus_product, put}
use Rattle.xm_proof.specs.Tests.{queue_columns}
use Rattle.xm_proof.specs.Valid.{AddUp, has_sign, item_row, multiplier}
use Rattle.xm_proof.specs.declared.proof.Item.{Item}
use Rattle.xm_proof.specs.declared.proof.Item.TheVariants as item
use Rattle.xm_rows.specs.Lemmas.Entries.{coefficient_absent, first_coefficient, later_coefficient, rising_above, rising_tail}
use Rattle.std.proofs.lemmas.List.Elements.{All-weaker}
use Rattle.xm_rows.specs.Row.{Fits128, IsRising, IsRow, SparseRow, coefficient}
use Rattle.xm_rows.specs.declared.row.Entry.{Entry}
use Rattle.xm_search.specs.Inner.Named.{AllNamed, is_lemma}
use Rattle.xm_search.specs.Inner.Taken.{all_taken, taken}

abbrev pub number : List ℤ → ℕ → ℤ
number zs k = slice_index_or zs k (pos 0)

pub fits_true : (z : ℤ) → Fits128 z → fits128 z ≡ true
fits_true z h = lt-ltb (unsigned_abs z) (2 ^ 127) h

-- a product is added within 128 bits
pub plus_fits : (s m v : ℤ) → Fits128 (m *ℤ v) → Fits128 (s +ℤ (m *ℤ v)) → plus_product s m v ≡ Some (s +ℤ (m *ℤ v))
plus_fits s m v one two = rw (fits_true (m *ℤ v) one, fits_true (s +ℤ (m *ℤ v)) two) refl

-- the columns are those of f, and the constant c
pub record Holds (n : ℕ) (f : ℕ → ℤ) (c : ℤ) (s : Sums) : Type 0 where
  pub count : length s.columns ≡ n
  pub each : (k : ℕ) → k < n → number s.columns k ≡ f k
  pub constant : s.constant ≡ c

-- the columns with a row's entries, so often taken
pub record Added (n : ℕ) (m : ℤ) (es : List Entry) (zs ws : List ℤ) : Type 0 where
  pub adds : add_entries m es (Some zs) ≡ Some ws
  pub count : length ws ≡ n
  pub each : (k : ℕ) → k < n → number ws k ≡ number zs k +ℤ (m *ℤ coefficient es k)

entries_added : (n : ℕ) (m : ℤ) (es : List Entry) → IsRising es → All (λ e. e.column < n) es → (zs : List ℤ) → length zs ≡ n →
    ((k : ℕ) → k < n → Fits128 (m *ℤ coefficient es k)) → ((k : ℕ) → k < n → Fits128 (number zs k +ℤ (m *ℤ coefficient es k))) →
    (ws : List ℤ) × Added n m es zs ws
entries_added n m [] up below zs size products sums =
    (zs, record { adds = refl; count = size; each = λ k low. let none = *ℤ-zero m in omega (arith, ints) })
entries_added n m (e ∷ es) up below zs size products sums =
    let c = e.column in
    let v = e.value in
    let low : c < n = All-head (λ f. f.column < n) e es below in
    let within : c < length zs = omega arith in
    let gone : coefficient es c ≡ pos 0 = coefficient_absent es c (All-weaker (λ f. c < f.column) (λ f. f.column ≢ c) (λ f h. omega arith) es (rising_above e es c (omega arith) up)) in
    let own : coefficient (e ∷ es) c ≡ v = first_coefficient e es c up refl in
    let next = number zs c +ℤ (m *ℤ v) in
    let there = slice_set zs c next in
    let added : plus_product (number zs c) m v ≡ Some next =
    plus_fits (number zs c) m v (subst (λ (z : ℤ). Fits128 (m *ℤ z)) own (products c low)) (subst (λ (z : ℤ). Fits128 (number zs c +ℤ (m *ℤ z))) own (sums c low)) in
    let moved : (k : ℕ) → k < n → number there k +ℤ (m *ℤ coefficient es k) ≡ number zs k +ℤ (m *ℤ coefficient (e ∷ es) k) =
    λ k h. elim (cases_eq c k) [
      | inl same ↦ (
          let a : number there k ≡ next = subst (λ (j : ℕ). number there j ≡ next) same (get_or-set_same zs c next (pos 0) within) in
          let b : m *ℤ coefficient es k ≡ pos 0 = ap (λ (z : ℤ). m *ℤ z) (subst (λ (j : ℕ). coefficient es j ≡ pos 0) same gone) ∙ *ℤ-zero m in
          let d : m *ℤ coefficient (e ∷ es) k ≡ m *ℤ v = ap (λ (z : ℤ). m *ℤ z) (subst (λ (j : ℕ). coefficient (e ∷ es) j ≡ v) same own) in
          let g : number zs c ≡ number zs k = ap (number zs) same in
          omega (arith, ints))
      | inr other ↦ (
          let a : number there k ≡ number zs k = get_or-set_other zs c k next (pos 0) (λ is. other (sym is)) in
          let b : m *ℤ coefficient (e ∷ es) k ≡ m *ℤ coefficient es k = ap (λ (z : ℤ). m *ℤ z) (later_coefficient e es k other) in
          omega (arith, ints))
    ] in
    let fit : (k : ℕ) → k < n → Fits128 (m *ℤ coefficient es k) =
    λ k h. elim (cases_eq c k) [
      | inl same ↦ (
          let b : m *ℤ coefficient es k ≡ pos 0 = ap (λ (z : ℤ). m *ℤ z) (subst (λ (j : ℕ). coefficient es j ≡ pos 0) same gone) ∙ *ℤ-zero m in
          subst Fits128 (sym b) (omega arith))
      | inr other ↦ subst (λ (z : ℤ). Fits128 (m *ℤ z)) (later_coefficient e es k other) (products k h)
    ] in
    let rest = entries_added n m es (rising_tail e es up) (All-tail (λ f. f.column < n) e es below) there (length-set zs c next ∙ size) fit
    (λ k h. subst Fits128 (sym (moved k h)) (sums k h)) in (
      rest.0,
      record {
        adds = ap (λ (o : _). add_entries m es (put zs c o)) added ∙ rest.1.adds;
        count = rest.1.count;
        each = λ k h. rest.1.each k h ∙ moved k h;
      },
    )

-- the sums with a row, so often taken
pub row_added : (n : ℕ) (m : ℤ) (row : SparseRow) → IsRow row → All (λ e. e.column < n) row.entries → (f : ℕ → ℤ) (c : ℤ) (s : Sums) → Holds n f c s →
    ((k : ℕ) → k < n → Fits128 (m *ℤ coefficient row.entries k)) → ((k : ℕ) → k < n → Fits128 (f k +ℤ (m *ℤ coefficient row.entries k))) →
    Fits128 (m *ℤ row.constant) → Fits128 (c +ℤ (m *ℤ row.constant)) →
    (t : Sums) × (add_row m row s ≡ Some t) × Holds n (λ k. f k +ℤ (m *ℤ coefficient row.entries k)) (c +ℤ (m *ℤ row.constant)) t
row_added n m row is below f c s holds products sums product sum =
    let made = entries_added n m row.entries is.rising below s.columns holds.count products
    (λ k h. subst (λ (z : ℤ). Fits128 (z +ℤ (m *ℤ coefficient row.entries k))) (sym (holds.each k h)) (sums k h)) in
    let last : plus_product s.constant m row.constant ≡ Some (s.constant +ℤ (m *ℤ row.constant)) =
    plus_fits s.constant m row.constant product (subst (λ (z : ℤ). Fits128 (z +ℤ (m *ℤ row.constant))) (sym holds.constant) sum) in
    let adds = made.1.adds in (
      record { columns = made.0; constant = s.constant +ℤ (m *ℤ row.constant) },
      rw (adds, last) refl,
      record {
        count = made.1.count;
        each = λ k h. made.1.each k h ∙ ap (λ (z : ℤ). z +ℤ (m *ℤ coefficient row.entries k)) (holds.each k h);
        constant = ap (λ (z : ℤ). z +ℤ (m *ℤ row.constant)) holds.constant;
      },
    )

-- an item, taken so often, has the same row
pub taken_row : (it : Designed) (lemmas : List Lemma) (path : List Lit) (i : Item) (m : ℤ) → item_row it lemmas path (taken i m) ≡ item_row it lemmas path i
taken_row it lemmas path (item.Lemma k n) m = refl
taken_row it lemmas path (item.Cap q n) m = refl
taken_row it lemmas path (item.Low q d n) m = refl
taken_row it lemmas path (item.Path l n) m = refl

pub taken_times : (i : Item) (m : ℤ) → multiplier (taken i m) ≡ m
taken_times (item.Lemma k n) m = refl
taken_times (item.Cap q n) m = refl
taken_times (item.Low q d n) m = refl
taken_times (item.Path l n) m = refl

natural : (m : ℤ) → pos 0 ≤ℤ m → is_natural m ≡ true
natural (pos n) h = refl
natural (negsuc n) h = absurd (omega (arith, ints))

taken_sign : (i : Item) (m : ℤ) (equal : Bool) → is_lemma i ≡ equal → (equal ≡ false → pos 0 ≤ℤ m) → has_sign (taken i m) ≡ true
taken_sign (item.Lemma k n) m equal is positive = refl
taken_sign (item.Cap q n) m equal is positive = natural m (positive (sym is))
taken_sign (item.Low q d n) m equal is positive = natural m (positive (sym is))
taken_sign (item.Path l n) m equal is positive = natural m (positive (sym is))

pub up_append : (it : Designed) (lemmas : List Lemma) (path : List Lit) (is js : List Item) (s t u : Sums) →
    AddUp it lemmas path is s t → AddUp it lemmas path js t u → AddUp it lemmas path (is ++ js) s u
up_append it lemmas path [] js s t u one two = subst (λ (x : Sums). AddUp it lemmas path js x u) (sym one) two
up_append it lemmas path (i ∷ is) js s t u one two =
    let more = one.1.1.1 in
    (one.0, (one.1.0, (one.1.1.0, (more.0, (more.1.0, up_append it lemmas path is js more.0 t u more.1.1 two)))))

-- what holds after an item, and then the rest
pub record Totals (it : Designed) (lemmas : List Lemma) (path : List Lit) (is : List Item) (n : ℕ) (s : Sums) (f : ℕ → ℤ) (c : ℤ) : Type 0 where
  pub sums : Sums
  pub up : AddUp it lemmas path is s sums
  pub holds : Holds n f c sums

pub record Fitting (n : ℕ) (f : ℕ → ℤ) (c : ℤ) (ms : List ℤ) (cs : List Con) : Type 0 where
  pub products : (i k : ℕ) → i < length cs → k < n → Fits128 (number_at ms i *ℤ coefficient (constraint_at cs i).row.entries k)
  pub product_constants : (i : ℕ) → i < length cs → Fits128 (number_at ms i *ℤ (constraint_at cs i).row.constant)
  pub sums : (j k : ℕ) → k < n → Fits128 (f k +ℤ weighted (in_column k) (take j ms) cs)
  pub sum_constants : (j : ℕ) → Fits128 (c +ℤ weighted constant_of (take j ms) cs)
  pub signs : (i : ℕ) → i < length cs → (constraint_at cs i).equal ≡ false → pos 0 ≤ℤ number_at ms i

holds_as : (n : ℕ) (f g : ℕ → ℤ) (c d : ℤ) (s : Sums) → ((k : ℕ) → k < n → f k ≡ g k) → c ≡ d → Holds n f c s → Holds n g d s
holds_as n f g c d s same e holds = record { count = holds.count; each = λ k h. holds.each k h ∙ same k h; constant = holds.constant ∙ e }

-- the named constraints, so often taken as the multipliers say
pub all_added : (it : Designed) (lemmas : List Lemma) (path : List Lit) (n : ℕ) → n ≡ length (queue_columns it) → (is : List Item) (cs : List Con) (ms : List ℤ) → length ms ≡ length cs →
    AllNamed it lemmas path is cs → (f : ℕ → ℤ) (c : ℤ) (s : Sums) → Holds n f c s → Fitting n f c ms cs →
    Totals it lemmas path (all_taken is ms) n s (λ k. f k +ℤ weighted (in_column k) ms cs) (c +ℤ weighted constant_of ms cs)
all_added it lemmas path n size [] [] [] whole named f c s holds fits =
    record { sums = s; up = refl; holds = holds_as n f (λ k. f k +ℤ pos 0) c (c +ℤ pos 0) s (λ k h. omega (arith, ints)) (omega (arith, ints)) holds }
all_added it lemmas path n size [] [] (m ∷ ms) whole named f c s holds fits = absurd (omega arith)
all_added it lemmas path n size [] (b ∷ cs) ms whole named f c s holds fits = absurd named
all_added it lemmas path n size (i ∷ is) [] ms whole named f c s holds fits = absurd named
all_added it lemmas path n size (i ∷ is) (b ∷ cs) [] whole named f c s holds fits = absurd (omega arith)
all_added it lemmas path n size (i ∷ is) (b ∷ cs) (m ∷ ms) whole named f c s holds fits =
    let row = b.row in
    let g : ℕ → ℤ = λ k. f k +ℤ (m *ℤ coefficient row.entries k) in
    let d = c +ℤ (m *ℤ row.constant) in
    let later : Fitting n g d ms cs = record {
      products = λ j k h low. fits.products (suc j) k (omega arith) low;
      product_constants = λ j h. fits.product_constants (suc j) (omega arith);
      sums = λ j k h. (let e : f k +ℤ ((m *ℤ coefficient row.entries k) +ℤ weighted (in_column k) (take j ms) cs) ≡ g k +ℤ weighted (in_column k) (take j ms) cs = omega (arith, ints) in
          subst Fits128 e (fits.sums (suc j) k h));
      sum_constants = λ j. (let e : c +ℤ ((m *ℤ row.constant) +ℤ weighted constant_of (take j ms) cs) ≡ d +ℤ weighted constant_of (take j ms) cs = omega (arith, ints) in
          subst Fits128 e (fits.sum_constants (suc j)));
      signs = λ j h. fits.signs (suc j) (omega arith);
    } in
    let count : length ms ≡ length cs = omega arith in
    let whole_again = λ (t : Sums) (up : AddUp it lemmas path (all_taken is ms) s t). up in
    let sum_is : (k : ℕ) → g k +ℤ weighted (in_column k) ms cs ≡ f k +ℤ ((m *ℤ coefficient row.entries k) +ℤ weighted (in_column k) ms cs) = λ k. omega (arith, ints) in
    let constant_is : d +ℤ weighted constant_of ms cs ≡ c +ℤ ((m *ℤ row.constant) +ℤ weighted constant_of ms cs) = omega (arith, ints) in
    elim (cases_Bool (int_eq m (pos 0))) [
      | inl none ↦ (
          let zero_times : m ≡ pos 0 = (Decides-int_eq m (pos 0)).0 none in
          let start = holds_as n f g c d s
          (λ k h. let e : m *ℤ coefficient row.entries k ≡ pos 0 = ap (λ (z : ℤ). z *ℤ coefficient row.entries k) zero_times ∙ zero-*ℤ (coefficient row.entries k) in omega (arith, ints))
          (let e : m *ℤ row.constant ≡ pos 0 = ap (λ (z : ℤ). z *ℤ row.constant) zero_times ∙ zero-*ℤ row.constant in omega (arith, ints)) holds in
          let rest = all_added it lemmas path n size is cs ms count named.1 g d s start later in
          record {
            sums = rest.sums;
            up = subst (λ (l : List Item). AddUp it lemmas path l s rest.sums) (sym (cond-true (int_eq m (pos 0)) (all_taken is ms) (taken i m ∷ all_taken is ms) none)) rest.up;
            holds = holds_as n (λ k. g k +ℤ weighted (in_column k) ms cs) _ (d +ℤ weighted constant_of ms cs) _ rest.sums (λ k h. sum_is k) constant_is rest.holds;
          })
      | inr some ↦ (
          let one = row_added n m row named.0.is_row (subst (λ (w : ℕ). All (λ e. e.column < w) row.entries) (sym size) named.0.below) f c s holds (λ k h. fits.products 0 k (omega arith) h)
          (λ k h. subst Fits128 (first_sum f k row m ms cs) (fits.sums 1 k h)) (fits.product_constants 0 (omega arith))
          (subst Fits128 (first_constant c row m ms cs) (fits.sum_constants 1)) in
          let rest = all_added it lemmas path n size is cs ms count named.1 g d one.0 one.2 later in
          let adds : add_row (multiplier (taken i m)) row s ≡ Some one.0 = ap (λ (z : ℤ). add_row z row s) (taken_times i m) ∙ one.1 in
          record {
            sums = rest.sums;
            up = subst (λ (l : List Item). AddUp it lemmas path l s rest.sums) (sym (cond-false (int_eq m (pos 0)) (all_taken is ms) (taken i m ∷ all_taken is ms) some))
                (row, (taken_row it lemmas path i m ∙ named.0.row, (taken_sign i m b.equal named.0.sign (fits.signs 0 (omega arith)), (one.0, (adds, rest.up)))));
            holds = holds_as n (λ k. g k +ℤ weighted (in_column k) ms cs) _ (d +ℤ weighted constant_of ms cs) _ rest.sums (λ k h. sum_is k) constant_is rest.holds;
          })
    ] where
      none_taken : (h : SparseRow → ℤ) (ms : List ℤ) (cs : List Con) → weighted h (take 0 ms) cs ≡ pos 0
      none_taken h [] cs = refl
      none_taken h (m ∷ ms) cs = refl

      first_sum : (f : ℕ → ℤ) (k : ℕ) (row : SparseRow) (m : ℤ) (ms : List ℤ) (cs : List Con) →
          f k +ℤ ((m *ℤ coefficient row.entries k) +ℤ weighted (in_column k) (take 0 ms) cs) ≡ f k +ℤ (m *ℤ coefficient row.entries k)
      first_sum f k row m ms cs = let none = none_taken (in_column k) ms cs in omega (arith, ints)

      first_constant : (c : ℤ) (row : SparseRow) (m : ℤ) (ms : List ℤ) (cs : List Con) →
          c +ℤ ((m *ℤ row.constant) +ℤ weighted constant_of (take 0 ms) cs) ≡ c +ℤ (m *ℤ row.constant)
      first_constant c row m ms cs = let none = none_taken constant_of ms cs in omega (arith, ints)
