-- Places noted for columns: one entry after another, and what is read of a column's list.
use Rattle.std.proofs.Common.{◌≡◌, ◌≢◌, ℕ, zero, suc, ◌+◌, ◌<◌, ◌≤◌, ◌⊎◌, inl, inr, List, [], ◌∷◌, ◌++◌, length, get_or, take, refl, sym, ◌∙◌, ap, subst, arith, All, pos}
use Rattle.std.proofs.Math.ListN.{set}
use Rattle.std.proofs.lemmas.Bool.{cases_eq}
use Rattle.std.proofs.lemmas.List.{get_or-map, get_or-set_other, get_or-set_same, length-map, length-set, map-set, take_all, take_more}
use Rattle.std.proofs.lemmas.List.Elements.{All-append, All-cons, All-head, All-nil, All-tail, All-weaker}
use Rattle.xm_model.specs.ListView.{ListView}
use Rattle.xm_model.specs.Membership.{IsIn}
use Rattle.xm_rows.specs.Columns.{AreSpread, columns_of, noted}
use Rattle.xm_rows.specs.Lemmas.Entries.{column_or_none}
use Rattle.xm_rows.specs.Row.{coefficient}
use Rattle.xm_rows.specs.declared.row.Entry.{Entry}

pub in_left : (xs ys : List ℕ) (j : ℕ) → IsIn xs j → IsIn (xs ++ ys) j
in_left [] ys j h = absurd h
in_left (x ∷ xs) ys j (inl is) = inl is
in_left (x ∷ xs) ys j (inr h) = inr (in_left xs ys j h)

pub in_right : (xs ys : List ℕ) (j : ℕ) → IsIn ys j → IsIn (xs ++ ys) j
in_right [] ys j h = h
in_right (x ∷ xs) ys j h = inr (in_right xs ys j h)

pub in_push : (xs : List ℕ) (y j : ℕ) → IsIn (xs ++ y ∷ []) j → IsIn xs j ⊎ (y ≡ j)
in_push [] y j (inl is) = inr is
in_push [] y j (inr none) = absurd none
in_push (x ∷ xs) y j (inl is) = inl (inl is)
in_push (x ∷ xs) y j (inr h) = elim (in_push xs y j h) [ inl early ↦ inl (inr early) | inr last ↦ inr last ]

pub in_last : (xs : List ℕ) (y : ℕ) → IsIn (xs ++ y ∷ []) y
in_last [] y = inl refl
in_last (x ∷ xs) y = inr (in_last xs y)

pub in_or_not : (xs : List ℕ) (j : ℕ) → IsIn xs j ⊎ (IsIn xs j → ⊥)
in_or_not [] j = inr (λ h. absurd h)
in_or_not (x ∷ xs) j =
    elim (cases_eq x j) [
      | inl same ↦ inl (inl same)
      | inr other ↦ elim (in_or_not xs j) [
        | inl later ↦ inl (inr later)
        | inr not ↦ inr (λ h. elim h [ inl is ↦ absurd (other is) | inr later ↦ not later ])
      ]
    ]

pub in_below : (n : ℕ) (xs : List ℕ) (j : ℕ) → All (λ k. k < n) xs → IsIn xs j → j < n
in_below n [] j all inside = absurd inside
in_below n (x ∷ xs) j all (inl is) = let low = All-head (λ k. k < n) x xs all in omega (arith, is, low)
in_below n (x ∷ xs) j all (inr later) = in_below n xs j (All-tail (λ k. k < n) x xs all) later

-- ---- noting

-- nothing is noted where there is no list for the column
pub noted_none : (places : List ℕ) (e : Entry) (columns : List (List ℕ)) → length columns ≤ e.column → AreSpread places (e ∷ []) columns columns
noted_none places e columns past =
    record {
      whole = refl;
      kept = λ k j h. h;
      spread = All-cons (λ (f : Entry). f.column < length columns → (j : ℕ) → IsIn places j → IsIn (noted columns f.column) j) e [] (λ below. absurd (omega arith))
          (All-nil (λ (f : Entry). f.column < length columns → (j : ℕ) → IsIn places j → IsIn (noted columns f.column) j));
      bounded = λ n all old. old;
    }

noted_at : (places : List ℕ) (e : Entry) (columns : List (List ℕ)) → e.column < length columns →
    AreSpread places (e ∷ []) columns (set columns e.column (noted columns e.column ++ places))
noted_at places e columns below =
    let new = noted columns e.column ++ places in
    let next = set columns e.column new in
    let here : noted next e.column ≡ new = get_or-set_same columns e.column new [] below in
    let Spread : Entry → Type 0 = λ f. f.column < length columns → (j : ℕ) → IsIn places j → IsIn (noted next f.column) j in
    record {
      whole = length-set columns e.column new;
      kept = λ k j h. elim (cases_eq k e.column) [
        | inl same ↦
            subst (λ (n : ℕ). IsIn (noted next n) j) (sym same)
            (subst (λ (l : List ℕ). IsIn l j) (sym here) (in_left (noted columns e.column) places j (subst (λ (n : ℕ). IsIn (noted columns n) j) same h)))
        | inr other ↦ subst (λ (l : List ℕ). IsIn l j) (sym (get_or-set_other columns e.column k new [] other)) h
      ];
      spread = All-cons Spread e [] (λ low j inside. subst (λ (l : List ℕ). IsIn l j) (sym here) (in_right (noted columns e.column) places j inside)) (All-nil Spread);
      bounded = λ n all old k. elim (cases_eq k e.column) [
        | inl same ↦
            subst (λ (m : ℕ). All (λ j. j < n) (noted next m)) (sym same)
            (subst (All (λ j. j < n)) (sym here) (All-append (λ j. j < n) (noted columns e.column) places (old e.column) all))
        | inr other ↦ subst (All (λ j. j < n)) (sym (get_or-set_other columns e.column k new [] other)) (old k)
      ];
    }

pub noted_none_list : (places : List ℕ) (e : Entry) (lists : List (ListView ℕ)) → length lists ≤ e.column → AreSpread places (e ∷ []) (columns_of lists) (columns_of lists)
noted_none_list places e lists past =
    let len = length-map lists (λ (l : ListView ℕ). l.items) in noted_none places e (columns_of lists) (omega (arith, len, past))

-- what is noted for a column is what its list holds
pub noted_read : (lists : List (ListView ℕ)) (k : ℕ) (was : ListView ℕ) → k < length lists → was ≡ get_or lists k was → noted (columns_of lists) k ≡ was.items
noted_read lists k was below is =
    let items = λ (l : ListView ℕ). l.items in get_or-map items lists k was [] below ∙ ap items (sym is)

-- the list of a column, written with the places appended
pub noted_list : (places : List ℕ) (e : Entry) (lists : List (ListView ℕ)) (was now : ListView ℕ) → e.column < length lists → was ≡ get_or lists e.column was →
    now.items ≡ was.items ++ places → AreSpread places (e ∷ []) (columns_of lists) (columns_of (set lists e.column now))
noted_list places e lists was now below is same =
    let items = λ (l : ListView ℕ). l.items in
    let old = noted_read lists e.column was below is in
    let new : now.items ≡ noted (columns_of lists) e.column ++ places = same ∙ ap (λ (l : List ℕ). l ++ places) (sym old) in
    let written = map-set items lists e.column now ∙ ap (set (columns_of lists) e.column) new in
    let len = length-map lists items in
    subst (AreSpread places (e ∷ []) (columns_of lists)) (sym written) (noted_at places e (columns_of lists) (omega (arith, len, below)))

-- ---- one entry after another

pub spread_none : (places : List ℕ) (columns : List (List ℕ)) → AreSpread places [] columns columns
spread_none places columns =
    record {
      whole = refl;
      kept = λ k j h. h;
      spread = All-nil (λ (e : Entry). e.column < length columns → (j : ℕ) → IsIn places j → IsIn (noted columns e.column) j);
      bounded = λ n all old. old;
    }

pub spread_more : (places : List ℕ) (es fs : List Entry) (columns next later : List (List ℕ)) → AreSpread places es columns next → AreSpread places fs next later →
    AreSpread places (es ++ fs) columns later
spread_more places es fs columns next later h g =
    let Spread : Entry → Type 0 = λ e. e.column < length columns → (j : ℕ) → IsIn places j → IsIn (noted later e.column) j in
    record {
      whole = g.whole ∙ h.whole;
      kept = λ k j inside. g.kept k j (h.kept k j inside);
      spread = All-append Spread es fs
          (All-weaker (λ (e : Entry). e.column < length columns → (j : ℕ) → IsIn places j → IsIn (noted next e.column) j) Spread
          (λ e one low j inside. g.kept e.column j (one low j inside)) es h.spread)
          (All-weaker (λ (e : Entry). e.column < length next → (j : ℕ) → IsIn places j → IsIn (noted later e.column) j) Spread
          (λ e one low j inside. one (let len = h.whole in omega arith) j inside) fs g.spread);
      bounded = λ n all old. g.bounded n all (h.bounded n all old);
    }

pub spread_next : (places : List ℕ) (es : List Entry) (i : ℕ) (d : Entry) (columns next later : List (List ℕ)) → i < length es → AreSpread places (take i es) columns next →
    AreSpread places (get_or es i d ∷ []) next later → AreSpread places (take (i + 1) es) columns later
spread_next places es i d columns next later within h g =
    subst (λ (l : List Entry). AreSpread places l columns later) (sym (take_more es i d within)) (spread_more places (take i es) (get_or es i d ∷ []) columns next later h g)

pub spread_all : (places : List ℕ) (es entries : List Entry) (i : ℕ) (columns next : List (List ℕ)) → length es ≤ i → es ≡ entries → AreSpread places (take i es) columns next →
    AreSpread places entries columns next
spread_all places es entries i columns next past is h =
    subst (λ (l : List Entry). AreSpread places l columns next) (take_all i es past ∙ is) h

-- the places are noted for a column with an entry
pub spread_at : (places : List ℕ) (es : List Entry) (columns next : List (List ℕ)) (k j : ℕ) → AreSpread places es columns next → k < length columns → IsIn places j →
    coefficient es k ≢ pos 0 → IsIn (noted next k) j
spread_at places es columns next k j h below inside some =
    elim (column_or_none (λ c. c < length columns → (j : ℕ) → IsIn places j → IsIn (noted next c) j) es k h.spread) [
      | inl noted ↦ noted below j inside
      | inr none ↦ absurd (some none)
    ]

-- ---- lists

-- lists that are all empty hold nothing at any place
pub empty_noted : (lists : List (ListView ℕ)) → All (λ l. l.items ≡ []) lists → (k : ℕ) → noted (columns_of lists) k ≡ []
empty_noted [] all k = refl
empty_noted (l ∷ ls) all zero = All-head (λ (m : ListView ℕ). m.items ≡ []) l ls all
empty_noted (l ∷ ls) all (suc k) = empty_noted ls (All-tail (λ (m : ListView ℕ). m.items ≡ []) l ls all) k

pub list_read : (lists : List (ListView ℕ)) (k : ℕ) (was : ListView ℕ) (read : List ℕ) → k < length lists → was ≡ get_or lists k was → read ≡ (get_or lists k was).items →
    noted (columns_of lists) k ≡ read
list_read lists k was read below is same = noted_read lists k was below is ∙ ap (λ (l : ListView ℕ). l.items) is ∙ sym same
