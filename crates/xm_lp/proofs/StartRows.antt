-- The first rows, as they are made.
use Rattle.std.proofs.Common.{◌≡◌, ◌≢◌, ℕ, zero, suc, ◌+◌, ◌<◌, ◌≤◌, Bool, true, false, cond, List, [], ◌∷◌, ◌++◌, map}
use Rattle.std.proofs.Common.{length, take, get_or, refl, sym, ◌∙◌, ap, ap₂, arith, inl, inr, ◌⊎◌, pos, negsuc, neg_ℤ}
use Rattle.std.proofs.Common.{ℤ, unsigned_abs, All}
use Rattle.std.specs.Prelude.{int_lt}
use Rattle.std.specs.Int.{is_negative}
use Rattle.std.proofs.lemmas.Int.{ints}
use Rattle.std.proofs.lemmas.List.{take_more, append-nil}
use Rattle.std.proofs.lemmas.List.Elements.{All-head, All-tail, All-cons, All-nil, All-weaker, All-push}
use Rattle.xm_rows.specs.declared.row.Entry.{Entry}
use Rattle.xm_rows.specs.Row.{SparseRow, Fits128, IsRising, IsRow}
use Rattle.xm_rows.specs.Lemmas.Entries.{rising_push}
use Rattle.xm_lp.specs.declared.decision.Con.{Con}
use Rattle.xm_lp.proofs.Refuting.{is_negative_up}
use Rattle.xm_lp.specs.Start.{no_row, negated, turned, signed, slack_entries, slack_count, start_row, start_rows}

-- an entry, negated where turn is true
abbrev pub turned_entry : Bool → Entry → Entry
turned_entry turn e = record e { value = signed turn e.value }

pub turned_append : (b : Bool) (xs ys : List Entry) → turned b (xs ++ ys) ≡ turned b xs ++ turned b ys
turned_append true [] ys = refl
turned_append true (x ∷ xs) ys = ap (λ (l : List Entry). negated x ∷ l) (turned_append true xs ys)
turned_append false xs ys = refl

pub turned_one : (b : Bool) (e : Entry) → turned b (e ∷ []) ≡ turned_entry b e ∷ []
turned_one true e = refl
turned_one false e = refl

pub turned_more : (b : Bool) (es : List Entry) (i : ℕ) (d : Entry) → i < length es → turned b (take (i + 1) es) ≡
    turned b (take i es) ++ turned_entry b (get_or es i d) ∷ []
turned_more b es i d lt =
    ap (turned b) (take_more es i d lt) ∙ turned_append b (take i es) (get_or es i d ∷ []) ∙ ap (λ (l : List Entry). turned b (take i es) ++ l) (turned_one b (get_or es i d))

all_turned : (P Q : Entry → Type 0) (b : Bool) (es : List Entry) → ((e : Entry) → P e → Q (turned_entry b e)) →
    All P es → All Q (turned b es)
all_turned P Q true [] step h = All-nil Q
all_turned P Q true (e ∷ es) step h = All-cons Q (negated e) (map negated es) (step e (All-head P e es h)) (all_turned P Q true es step (All-tail P e es h))
all_turned P Q false es step h = All-weaker P Q (λ e p. step e p) es h

turned_rising : (b : Bool) (es : List Entry) → IsRising es → IsRising (turned b es)
turned_rising true [] up = tt
turned_rising true (e ∷ []) up = tt
turned_rising true (e ∷ f ∷ es) up = (up.0, turned_rising true (f ∷ es) up.1)
turned_rising false es up = up

signed_nonzero : (b : Bool) (z : ℤ) → z ≢ pos 0 → signed b z ≢ pos 0
signed_nonzero true z h e = h (omega (arith, ints))
signed_nonzero false z h e = h e

signed_fits : (b : Bool) (z : ℤ) → Fits128 z → Fits128 (signed b z)
signed_fits true (pos zero) h = h
signed_fits true (pos (suc n)) h = h
signed_fits true (negsuc n) h = h
signed_fits false z h = h

-- the given entries and the slack
part_rows : (s : ℕ) (equal : Bool) (es : List Entry) → IsRising es → All (λ e. e.value ≢ pos 0) es →
    All (λ e. Fits128 e.value) es → All (λ e. e.column < s) es →
    (IsRising (es ++ slack_entries equal s)) × (All (λ e. e.value ≢ pos 0) (es ++ slack_entries equal s)) × (All (λ e. Fits128 e.value) (es ++ slack_entries equal s)) × (All (λ e. e.column < cond equal 0 1 + s) (es ++ slack_entries equal s))
part_rows s true es up some fit below = rw (append_none es) (up, some, fit, All-weaker (λ e. e.column < s) (λ e. e.column < 0 + s) (λ e lt. omega arith) es below)
  where
    append_none : (xs : List Entry) → xs ++ [] ≡ xs
    append_none [] = refl
    append_none (x ∷ xs) = ap (λ (l : List Entry). x ∷ l) (append_none xs)
part_rows s false es up some fit below =
    let e : Entry = record { column = s; value = neg_ℤ (pos 1) } in (
      rising_push es e up below,
      All-push (λ e. e.value ≢ pos 0) es e some (λ is. absurd (omega (arith, ints, is))),
      All-push (λ e. Fits128 e.value) es e fit (omega arith),
      All-push (λ e. e.column < 1 + s) es e (All-weaker (λ e. e.column < s) (λ e. e.column < 1 + s) (λ e lt. omega arith) es below) (omega arith),
    )

size_fits : (z : ℤ) → Fits128 z → Fits128 (pos (unsigned_abs z))
size_fits z h = h

pub start_is_row : (s t : ℕ) (c : Con) → IsRow c.row → All (λ e. e.column < s) c.row.entries →
    cond c.equal 0 1 + s ≤ t → IsRow (start_row s t c)
start_is_row s t c row below order =
    let b = is_negative c.row.constant in
    let es = c.row.entries ++ slack_entries c.equal s in
    let parts = part_rows s c.equal c.row.entries row.rising row.nonzero row.fit below in
    let own : Entry = record { column = t; value = pos 1 } in
    record {
      rising = rising_push (turned b es) own (turned_rising b es parts.0)
          (all_turned (λ e. e.column < cond c.equal 0 1 + s) (λ e. e.column < t) b es (λ e lt. omega (arith, lt, order)) parts.3);
      nonzero = All-push (λ e. e.value ≢ pos 0) (turned b es) own (all_turned (λ e. e.value ≢ pos 0) (λ e. e.value ≢ pos 0) b es (λ e h. signed_nonzero b e.value h) parts.1) (λ is. absurd (omega (arith, ints, is)));
      fit = All-push (λ e. Fits128 e.value) (turned b es) own (all_turned (λ e. Fits128 e.value) (λ e. Fits128 e.value) b es (λ e h. signed_fits b e.value h) parts.2) (omega arith);
      constant_fits = size_fits c.row.constant row.constant_fits;
    }

-- one constraint more
pub rows_more : (s t i : ℕ) (constraints : List Con) (d : Con) → i < length constraints →
    start_rows s t (take (i + 1) constraints) ≡ start_rows s t (take i constraints) ++ start_row (slack_count (take i constraints) + s) (i + t) (get_or constraints i d) ∷ []
rows_more s t i [] d lt = absurd (omega arith)
rows_more s t zero (c ∷ cs) d lt = ap (λ (n : ℕ). start_row n t c ∷ []) (omega arith) ∙ ap (λ (n : ℕ). start_row (0 + s) n c ∷ []) (omega arith)
rows_more s t (suc i) (c ∷ cs) d lt =
    ap (λ (n : ℕ). start_rows s t (take n (c ∷ cs))) (step i)
    ∙ ap (λ (l : List SparseRow). start_row s t c ∷ l) (rows_more (cond c.equal 0 1 + s) (suc t) i cs d (omega arith)
    ∙ ap (λ (n : ℕ). start_rows (cond c.equal 0 1 + s) (suc t) (take i cs) ++ start_row n (i + suc t) (get_or cs i d) ∷ []) (omega arith)
    ∙ ap (λ (n : ℕ). start_rows (cond c.equal 0 1 + s) (suc t) (take i cs) ++ start_row (slack_count (take (suc i) (c ∷ cs)) + s) n (get_or cs i d) ∷ []) (omega arith))
  where
    step : (i : ℕ) → suc i + 1 ≡ suc (i + 1)
    step i = omega arith

signed_size : (z : ℤ) → signed (is_negative z) z ≡ pos (unsigned_abs z)
signed_size (pos n) = ap (λ (b : Bool). signed b (pos n)) (is_negative_up n)
signed_size (negsuc n) = refl

-- the entries as they were pushed are those of the row
pub pushed_row : (s t : ℕ) (c : Con) (b : Bool) (given mid final : List Entry) (constant : ℤ) → b ≡
    is_negative c.row.constant → given ≡ turned b c.row.entries →
    ((c.equal ≡ false) × (mid ≡ given ++ record { column = s; value = signed b (neg_ℤ (pos 1)) } ∷ [])) ⊎ ((c.equal ≡ true) × (mid ≡ given)) →
    final ≡ mid ++ record { column = t; value = pos 1 } ∷ [] → constant ≡ signed b c.row.constant →
    (record { entries = final; constant = constant }) ≡ start_row s t c
pushed_row s t c b given mid final constant is_b is_given either is_final is_constant =
    let own : List Entry = record { column = t; value = pos 1 } ∷ [] in
    ap₂ (λ (l : List Entry) (z : ℤ). record { entries = l; constant = z })
    (is_final ∙ ap (λ (l : List Entry). l ++ own) (middle either)
    ∙ ap (λ (x : Bool). turned x (c.row.entries ++ slack_entries c.equal s) ++ own) is_b)
    (is_constant ∙ ap (λ (x : Bool). signed x c.row.constant) is_b ∙ signed_size c.row.constant)
  where
    middle : ((c.equal ≡ false) ×
        (mid ≡ given ++ record { column = s; value = signed b (neg_ℤ (pos 1)) } ∷ [])) ⊎ ((c.equal ≡ true) ×
        (mid ≡ given)) →
        mid ≡ turned b (c.row.entries ++ slack_entries c.equal s)
    middle (inl more) =
        more.1 ∙ ap (λ (l : List Entry). l ++ record { column = s; value = signed b (neg_ℤ (pos 1)) } ∷ []) is_given
        ∙ ap (λ (l : List Entry). turned b c.row.entries ++ l) (sym (turned_one b (record { column = s; value = neg_ℤ (pos 1) })))
        ∙ sym (turned_append b c.row.entries (record { column = s; value = neg_ℤ (pos 1) } ∷ []))
        ∙ ap (λ (x : Bool). turned b (c.row.entries ++ slack_entries x s)) (sym more.0)
    middle (inr none) =
        none.1 ∙ is_given ∙ ap (turned b) (sym (append-nil c.row.entries)) ∙ ap (λ (x : Bool). turned b (c.row.entries ++ slack_entries x s)) (sym none.0)

pub turn_is : (z : ℤ) → int_lt z (pos 0) ≡ is_negative z
turn_is (pos n) = refl
turn_is (negsuc n) = refl

pub rows_pushed : (s t i slack own : ℕ) (constraints : List Con) (item : Con) (rows pushed : List SparseRow)
    (row : SparseRow) → pushed ≡ rows ++ row ∷ [] →
    rows ≡ no_row ∷ start_rows s t (take i constraints) → row ≡ start_row slack own item → slack ≡
    slack_count (take i constraints) + s → own ≡ i + t → item ≡ get_or constraints i item →
    i < length constraints → pushed ≡ no_row ∷ start_rows s t (take (i + 1) constraints)
rows_pushed s t i slack own constraints item rows pushed row is_pushed is_rows is_row is_slack is_own is_item lt =
    is_pushed
    ∙ ap₂ (λ (l : List SparseRow) (r : SparseRow). l ++ r ∷ []) is_rows
    (is_row ∙ ap (λ (n : ℕ). start_row n own item) is_slack ∙ ap (λ (n : ℕ). start_row (slack_count (take i constraints) + s) n item) is_own
    ∙ ap (start_row (slack_count (take i constraints) + s) (i + t)) is_item)
    ∙ ap (λ (l : List SparseRow). no_row ∷ l) (sym (rows_more s t i constraints item lt))
