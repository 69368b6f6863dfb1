-- The working rows that the elimination begins with.
use Rattle.std.proofs.Common.{◌≡◌, ◌≢◌, ℕ, zero, suc, ◌+◌, ◌<◌, ◌≤◌, List, [], ◌∷◌, ◌++◌, length, slice_get, Some, cond, nat_eq, get_or, take, min, length-take, refl, sym, ◌∙◌, ap, ap₂, subst, arith, pos, ℤ, ◌+ℤ◌, ◌*ℤ◌, All}
use Rattle.std.proofs.lemmas.Int.{ints}
use Rattle.std.proofs.lemmas.List.{take_more, take_all}
use Rattle.std.proofs.lemmas.List.Elements.{All-head, All-tail, All-push, All-weaker}
use Rattle.xm_rows.specs.Lemmas.Entries.{coefficient-append, coefficient_absent, other_column, rising_push}
use Rattle.xm_rows.specs.Lemmas.Integers.{one_times}
use Rattle.xm_rows.specs.Lemmas.Sums.{left_side-append}
use Rattle.xm_rows.specs.Points.{Meets}
use Rattle.xm_rows.specs.Row.{Fits128, IsRow, SparseRow, coefficient, left_side}
use Rattle.xm_rows.specs.declared.row.Entry.{Entry}
use Rattle.xm_elim.specs.Basis.{AreOver}
use Rattle.xm_elim.specs.Elimination.{begun, begun_from}
use Rattle.xm_elim.specs.declared.work.Status.TheVariants.{Pivot, Waiting}
use Rattle.xm_elim.specs.declared.work.Working.{Working}
use Rattle.xm_elim.proofs.Passing.{MeetsAll}
use Rattle.xm_elim.proofs.Shaping.{IsShaped}

-- the flow row of a working row
pub begun_at : (base i : ℕ) (flow : List SparseRow) (j : ℕ) (w : Working) → slice_get (begun_from base i flow) j ≡ Some w →
    (r : SparseRow) × ((slice_get flow j ≡ Some r) × (w ≡ begun base (i + j) r))
begun_at base i [] j w at = cc
begun_at base i (r ∷ rs) zero w at = let is : begun base i r ≡ w = cc in let same : i ≡ i + 0 = omega arith in (r, (refl, sym is ∙ ap (λ (n : ℕ). begun base n r) same))
begun_at base i (r ∷ rs) (suc j) w at =
    let rest = begun_at base (suc i) rs j w at in
    let same : suc i + j ≡ i + suc j = omega arith in
    (rest.0, (rest.1.0, rest.1.1 ∙ ap (λ (n : ℕ). begun base n rest.0) same))

pub begun_there : (base i : ℕ) (flow : List SparseRow) (j : ℕ) (r : SparseRow) → slice_get flow j ≡ Some r → slice_get (begun_from base i flow) j ≡ Some (begun base (i + j) r)
begun_there base i [] j r at = cc
begun_there base i (x ∷ rs) zero r at = let is : x ≡ r = cc in let same : i ≡ i + 0 = omega arith in ap Some (ap₂ (begun base) same is)
begun_there base i (x ∷ rs) (suc j) r at =
    let rest = begun_there base (suc i) rs j r at in
    let same : suc i + j ≡ i + suc j = omega arith in
    rest ∙ ap (λ (n : ℕ). Some (begun base n r)) same

-- an item of a list has what all have
pub all_at : {X : Type 0} (P : X → Type 0) (xs : List X) (i : ℕ) (x : X) → All P xs → slice_get xs i ≡ Some x → P x
all_at P [] i x all at = cc
all_at P (y ∷ ys) zero x all at = let is : y ≡ x = cc in subst P is (All-head P y ys all)
all_at P (y ∷ ys) (suc i) x all at = all_at P ys i x (All-tail P y ys all) at

-- the left side of a working row at the start
pub begun_side : (base i : ℕ) (r : SparseRow) (x : ℕ → ℤ) → left_side (begun base i r).row.entries x ≡ left_side r.entries x +ℤ x (base + i)
begun_side base i r x =
    let one = one_times (x (base + i)) in
    let last = left_side-append r.entries (record { column = base + i; value = pos 1 } ∷ []) x in
    omega (arith, ints)

-- a point of all of them
pub begun_meets : (base : ℕ) (flow : List SparseRow) (m : ℤ) (x : ℕ → ℤ) →
    ((j : ℕ) (r : SparseRow) → slice_get flow j ≡ Some r → left_side r.entries x +ℤ x (base + j) ≡ m *ℤ r.constant) → MeetsAll (begun_from base 0 flow) m x
begun_meets base flow m x h j w at =
    let it = begun_at base 0 flow j w at in
    let same : 0 + j ≡ j = omega arith in
    let is = it.1.1 ∙ ap (λ (n : ℕ). begun base n it.0) same in
    subst (λ (v : Working). Meets v.row m x) (sym is) (begun_side base j it.0 x ∙ h j it.0 it.1.0)

begun_row : (base i : ℕ) (r : SparseRow) → IsRow r → All (λ e. e.column < base) r.entries → IsRow (begun base i r).row
begun_row base i r row within =
    let e : Entry = record { column = base + i; value = pos 1 } in
    let below = All-weaker (λ (f : Entry). f.column < base) (λ f. f.column < base + i) (λ f p. omega arith) r.entries within in
    let one : Fits128 (pos 1) = omega arith in
    record {
      rising = rising_push r.entries e row.rising below;
      nonzero = All-push (λ (f : Entry). f.value ≢ pos 0) r.entries e row.nonzero (λ h. absurd (omega (arith, ints)));
      fit = All-push (λ (f : Entry). Fits128 f.value) r.entries e row.fit one;
      constant_fits = row.constant_fits;
    }

-- no entry lies from a column on
pub none_from : (es : List Entry) (base k : ℕ) → All (λ e. e.column < base) es → base ≤ k → coefficient es k ≡ pos 0
none_from es base k within high =
    coefficient_absent es k (All-weaker (λ (e : Entry). e.column < base) (λ e. e.column ≢ k) (λ e p. omega arith) es within)

begun_bounded : (base i n k : ℕ) (r : SparseRow) → i < n → All (λ e. e.column < base) r.entries → base + n ≤ k → coefficient (begun base i r).row.entries k ≡ pos 0
begun_bounded base i n k r below within high =
    let none = none_from r.entries base k within (omega arith) in
    let other = other_column (base + i) k (pos 1) (λ e. absurd (omega arith)) in
    coefficient-append r.entries (record { column = base + i; value = pos 1 } ∷ []) k ∙ (let zero_both : coefficient r.entries k +ℤ (cond (nat_eq (base + i) k) (pos 1) (pos 0) +ℤ pos 0) ≡ pos 0 = omega (arith, ints) in zero_both)

slice_get_below : {X : Type 0} (xs : List X) (i : ℕ) (x : X) → slice_get xs i ≡ Some x → i < length xs
slice_get_below [] i x at = cc
slice_get_below (y ∷ ys) zero x at = omega arith
slice_get_below (y ∷ ys) (suc i) x at = let rest = slice_get_below ys i x at in omega arith

pub begun_shaped : (moves base : ℕ) (flow : List SparseRow) → AreOver base flow → IsShaped moves (base + length flow) 0 (begun_from base 0 flow)
begun_shaped moves base flow over =
    record {
      waits = λ j w k at is below. absurd (omega arith);
      leads = λ j w k at is. absurd (waiting j w k at is);
      alone = λ j w k i v at is apart at_v works. absurd (waiting j w k at is);
      row = row;
      bounded = bounded;
    }
  where
    waiting : (j : ℕ) (w : Working) (k : ℕ) → slice_get (begun_from base 0 flow) j ≡ Some w → w.status ≡ Pivot k → ⊥
    waiting j w k at is =
        let it = begun_at base 0 flow j w at in
        let status : w.status ≡ Waiting = ap (λ (v : Working). v.status) it.1.1 in
        cc

    row : (j : ℕ) (w : Working) → slice_get (begun_from base 0 flow) j ≡ Some w → IsRow w.row
    row j w at =
        let it = begun_at base 0 flow j w at in
        subst (λ (v : Working). IsRow v.row) (sym it.1.1)
        (begun_row base (0 + j) it.0 (all_at IsRow flow j it.0 over.rows it.1.0) (all_at (λ (r : SparseRow). All (λ e. e.column < base) r.entries) flow j it.0 over.within it.1.0))

    bounded : (j : ℕ) (w : Working) (k : ℕ) → slice_get (begun_from base 0 flow) j ≡ Some w → base + length flow ≤ k → coefficient w.row.entries k ≡ pos 0
    bounded j w k at high =
        let it = begun_at base 0 flow j w at in
        let below = slice_get_below flow j it.0 it.1.0 in
        ap (λ (v : Working). coefficient v.row.entries k) it.1.1
        ∙ begun_bounded base (0 + j) (length flow) k it.0 (omega arith) (all_at (λ (r : SparseRow). All (λ e. e.column < base) r.entries) flow j it.0 over.within it.1.0) high

pub begun_push : (base i : ℕ) (xs : List SparseRow) (x : SparseRow) → begun_from base i (xs ++ x ∷ []) ≡ begun_from base i xs ++ begun base (i + length xs) x ∷ []
begun_push base i [] x = let same : i ≡ i + 0 = omega arith in ap (λ (n : ℕ). begun base n x ∷ []) same
begun_push base i (y ∷ ys) x =
    let rest = begun_push base (suc i) ys x in
    let same : suc i + length ys ≡ i + suc (length ys) = omega arith in
    ap (λ (l : List Working). begun base i y ∷ l) (rest ∙ ap (λ (n : ℕ). begun_from base (suc i) ys ++ begun base n x ∷ []) same)

pub begun_more : (base i : ℕ) (flow : List SparseRow) (d : SparseRow) (rows next : List Working) (w : Working) → i < length flow → rows ≡ begun_from base 0 (take i flow) →
    w ≡ begun base i (get_or flow i d) → next ≡ rows ++ w ∷ [] → next ≡ begun_from base 0 (take (i + 1) flow)
begun_more base i flow d rows next w within so_far is more =
    let len : length (take i flow) ≡ i = length-take i flow ∙ (let small : min i (length flow) ≡ i = omega arith in small) in
    let same : 0 + length (take i flow) ≡ i = omega arith in
    more ∙ ap₂ (λ (l : List Working) (v : Working). l ++ v ∷ []) so_far (is ∙ ap (λ (n : ℕ). begun base n (get_or flow i d)) (sym same))
    ∙ sym (begun_push base 0 (take i flow) (get_or flow i d)) ∙ ap (begun_from base 0) (sym (take_more flow i d within))

pub begun_all : (base i : ℕ) (flow : List SparseRow) (rows : List Working) → length flow ≤ i → rows ≡ begun_from base 0 (take i flow) → rows ≡ begun_from base 0 flow
begun_all base i flow rows past is = is ∙ ap (begun_from base 0) (take_all i flow past)

-- the entries with the factor's make a row
pub begun_is_row : (base i : ℕ) (r : SparseRow) (es : List Entry) (constant : ℤ) → IsRow r → All (λ e. e.column < base) r.entries →
    es ≡ r.entries ++ record { column = base + i; value = pos 1 } ∷ [] → constant ≡ r.constant → IsRow (record { entries = es; constant = constant })
begun_is_row base i r es constant row within is same =
    subst (λ (z : ℤ). IsRow (record { entries = es; constant = z })) (sym same)
    (subst (λ (l : List Entry). IsRow (record { entries = l; constant = r.constant })) (sym is) (begun_row base i r row within))

pub begun_entries : (es items pushed out : List Entry) (e : Entry) (n : ℕ) (r : SparseRow) → out ≡ pushed → pushed ≡ es ++ e ∷ [] → es ≡ take n items → length items ≤ n → items ≡ r.entries →
    out ≡ r.entries ++ e ∷ []
begun_entries es items pushed out e n r is_out is_pushed so_far past is_items =
    is_out ∙ is_pushed ∙ ap (λ (l : List Entry). l ++ e ∷ []) (so_far ∙ take_all n items past ∙ is_items)

pub begun_length : (base i : ℕ) (flow : List SparseRow) → length (begun_from base i flow) ≡ length flow
begun_length base i [] = refl
begun_length base i (r ∷ rs) = ap suc (begun_length base (suc i) rs)
