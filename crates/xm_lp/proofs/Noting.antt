-- Rows noted for columns, and what a pivot keeps of it.
use Rattle.std.proofs.Common.{◌≡◌, ◌≢◌, ℕ, ◌+◌, ◌<◌, ◌≤◌, inl, inr, List, [], ◌∷◌, ◌++◌, length, get_or, take, refl, sym, ◌∙◌, ap, subst, arith, All, pos}
use Rattle.std.proofs.Math.ListN.{set}
use Rattle.std.proofs.lemmas.Bool.{cases_eq}
use Rattle.std.proofs.lemmas.List.{get_or-set_other, get_or-set_same, get_or-take, get_or_default, length-set, length-take-le, take_all}
use Rattle.std.proofs.lemmas.List.Elements.{All-append, All-cons, All-more, All-nil, All-weaker}
use Rattle.xm_lp.proofs.Basis.{mixed_by_cancel, zero_or_other}
use Rattle.xm_lp.specs.Inner.Listing.{AreListed, AreListedBut, AreNoted, IsNoted}
use Rattle.xm_lp.specs.Pivot.{IsPivoted}
use Rattle.xm_lp.specs.Start.{no_row, row_at}
use Rattle.xm_model.specs.Membership.{IsIn}
use Rattle.xm_rows.specs.Columns.{AreSpread, noted}
use Rattle.xm_rows.specs.Lemmas.Entries.{column_or_none}
use Rattle.xm_rows.specs.Lemmas.Meeting.{cancelled_none}
use Rattle.xm_rows.specs.Lemmas.Noting.{in_last, in_push, spread_at}
use Rattle.xm_rows.specs.Row.{SparseRow, coefficient}
use Rattle.xm_rows.specs.declared.row.Entry.{Entry}

-- ---- the first rows

pub listed_none : (columns : List (List ℕ)) → ((k : ℕ) → noted columns k ≡ []) → AreListed [] columns
listed_none columns empty = record {
  listed = λ h k within. absurd (omega arith);
  bounded = λ k. subst (All (λ h. h < 0)) (sym (empty k)) (All-nil (λ h. h < 0));
}

pub listed_more : (rows : List SparseRow) (i : ℕ) (r : SparseRow) (columns next : List (List ℕ)) → i < length rows → r ≡ get_or rows i r →
    AreListed (take i rows) columns → AreSpread (i ∷ []) r.entries columns next → AreListed (take (i + 1) rows) next
listed_more rows i r columns next within is l s =
    let few = length-take-le i rows (omega arith) in
    let more = length-take-le (i + 1) rows (omega arith) in
    let whole = s.whole in
    record {
      listed = λ h k lt below some.
          let at : row_at (take (i + 1) rows) h ≡ row_at rows h = get_or-take (i + 1) rows h no_row (omega (arith, lt, more)) in
          let there = subst (λ (x : SparseRow). coefficient x.entries k ≢ pos 0) at some in
          elim (cases_eq h i) [
            | inl last ↦
                let own : row_at rows h ≡ r = ap (row_at rows) last ∙ sym (is ∙ get_or_default rows i r no_row within) in
                subst (IsIn (noted next k)) (sym last)
                (spread_at (i ∷ []) r.entries columns next k i s (omega (arith, below, whole)) (inl refl)
                (subst (λ (x : SparseRow). coefficient x.entries k ≢ pos 0) own there))
            | inr apart ↦
                let early : h < i = omega (arith, lt, more) in
                s.kept k h (l.listed h k (omega (arith, early, few)) (omega (arith, below, whole))
                (subst (λ (x : SparseRow). coefficient x.entries k ≢ pos 0) (sym (get_or-take i rows h no_row early)) there))
          ];
      bounded = λ k. subst (λ (n : ℕ). All (λ h. h < n) (noted next k)) (sym more)
          (s.bounded (i + 1) (All-cons (λ h. h < i + 1) i [] (omega arith) (All-nil (λ h. h < i + 1)))
          (λ m. All-weaker (λ h. h < length (take i rows)) (λ h. h < i + 1) (λ h low. omega (arith, low, few)) (noted columns m) (l.bounded m)) k);
    }

pub listed_all : (rows : List SparseRow) (i : ℕ) (columns : List (List ℕ)) → length rows ≤ i → AreListed (take i rows) columns → AreListed rows columns
listed_all rows i columns past l = subst (λ (rs : List SparseRow). AreListed rs columns) (take_all i rows past) l

-- ---- a column's list taken out

-- ---- noting

pub fresh_none : (h : ℕ) (row : SparseRow) (columns : List (List ℕ)) → IsNoted h row [] columns columns
fresh_none h row columns = record {
  whole = refl;
  kept = λ k g inside. inside;
  fresh = All-nil (λ (e : Entry). e.column < length columns → coefficient row.entries e.column ≡ pos 0 → IsIn (noted columns e.column) h);
  bounded = λ n low all. all;
}

pub fresh_more : (h : ℕ) (row : SparseRow) (es : List Entry) (i : ℕ) (d : Entry) (columns next later : List (List ℕ)) → i < length es →
    IsNoted h row (take i es) columns next → AreSpread (h ∷ []) (get_or es i d ∷ []) next later → IsNoted h row (take (i + 1) es) columns later
fresh_more h row es i d columns next later within n s =
    let whole = n.whole in
    let Next : Entry → Type 0 = λ e. e.column < length columns → coefficient row.entries e.column ≡ pos 0 → IsIn (noted next e.column) h in
    let Later : Entry → Type 0 = λ e. e.column < length columns → coefficient row.entries e.column ≡ pos 0 → IsIn (noted later e.column) h in
    record {
      whole = s.whole ∙ n.whole;
      kept = λ k g inside. s.kept k g (n.kept k g inside);
      fresh = All-more Later es i d within (All-weaker Next Later (λ e one below none. s.kept e.column h (one below none)) (take i es) n.fresh)
          (λ below none. s.spread 0 d (omega arith) (omega (arith, below, whole)) h (inl refl));
      bounded = λ m low all. s.bounded m (All-cons (λ g. g < m) h [] low (All-nil (λ g. g < m))) (n.bounded m low all);
    }

pub fresh_all : (h : ℕ) (row : SparseRow) (es entries : List Entry) (i : ℕ) (columns next : List (List ℕ)) → length es ≤ i → es ≡ entries →
    IsNoted h row (take i es) columns next → IsNoted h row entries columns next
fresh_all h row es entries i columns next past is n = subst (λ (l : List Entry). IsNoted h row l columns next) (take_all i es past ∙ is) n

module _ (rows : List SparseRow) (column i : ℕ) where
  pub rows_none : (columns : List (List ℕ)) → AreNoted rows column i [] columns columns
  rows_none columns = record { whole = refl; kept = λ k g inside. inside; fresh = λ h inside. absurd inside; bounded = λ all. all }

  pub rows_passed : (seen : List ℕ) (h : ℕ) (columns next : List (List ℕ)) → coefficient (row_at rows h).entries column ≡ pos 0 →
      AreNoted rows column i seen columns next → AreNoted rows column i (seen ++ h ∷ []) columns next
  rows_passed seen h columns next none n = record {
    whole = n.whole;
    kept = n.kept;
    fresh = λ g inside some. elim (in_push seen h g inside) [
      | inl early ↦ n.fresh g early some
      | inr is ↦ absurd (some (subst (λ (m : ℕ). coefficient (row_at rows m).entries column ≡ pos 0) is none))
    ];
    bounded = n.bounded;
  }

  pub rows_more : (seen : List ℕ) (h : ℕ) (columns next later : List (List ℕ)) → h < length rows → AreNoted rows column i seen columns next →
      IsNoted h (row_at rows h) (row_at rows i).entries next later → AreNoted rows column i (seen ++ h ∷ []) columns later
  rows_more seen h columns next later within n m =
      let whole = n.whole in
      let Fresh : List (List ℕ) → List (List ℕ) → ℕ → Entry → Type 0 =
      λ from to g e. e.column < length from → coefficient (row_at rows g).entries e.column ≡ pos 0 → IsIn (noted to e.column) g in
      record {
        whole = m.whole ∙ n.whole;
        kept = λ k g inside. m.kept k g (n.kept k g inside);
        fresh = λ g inside some. elim (in_push seen h g inside) [
          | inl early ↦ All-weaker (Fresh columns next g) (Fresh columns later g) (λ e one below none. m.kept e.column g (one below none)) (row_at rows i).entries (n.fresh g early some)
          | inr is ↦
              subst (λ (x : ℕ). All (Fresh columns later x) (row_at rows i).entries) is
              (All-weaker (Fresh next later h) (Fresh columns later h) (λ e one below none. one (omega (arith, below, whole)) none) (row_at rows i).entries m.fresh)
        ];
        bounded = λ all. m.bounded (length rows) within (n.bounded all);
      }

-- ---- after the pivot

pub listed_after : (old new : List SparseRow) (basics given : List ℕ) (j i : ℕ) (list : List ℕ) (columns next later : List (List ℕ)) →
    AreListedBut j list old columns → AreNoted old j i list columns next →
    IsPivoted (record { rows = old; basics = basics }) j i (record { rows = new; basics = given }) → i < length old →
    coefficient (row_at old i).entries j ≢ pos 0 → j < length columns → later ≡ set next j (noted next j ++ i ∷ []) → AreListed new later
listed_after old new basics given j i list columns next later l n p at_i pivot below is =
    let count = p.count in
    let whole = n.whole in
    let size = ap length is ∙ length-set next j (noted next j ++ i ∷ []) in
    let own_list : noted later j ≡ noted next j ++ i ∷ [] =
    ap (λ (c : List (List ℕ)). noted c j) is ∙ get_or-set_same next j (noted next j ++ i ∷ []) [] (omega (arith, below, whole)) in
    let other_list = λ (k : ℕ) (other : k ≢ j). ap (λ (c : List (List ℕ)). noted c k) is ∙ get_or-set_other next j k (noted next j ++ i ∷ []) [] other in
    record {
      listed = λ h k lt short some. elim (cases_eq k j) [
        | inl same ↦ subst (λ (m : ℕ). IsIn (noted later m) h) (sym same) (subst (λ (x : List ℕ). IsIn x h) (sym own_list)
            (own h (omega (arith, lt, count)) (subst (λ (m : ℕ). coefficient (row_at new h).entries m ≢ pos 0) same some)))
        | inr other ↦ subst (λ (x : List ℕ). IsIn x h) (sym (other_list k other))
            (others h k other (omega (arith, lt, count)) (omega (arith, short, size, whole)) some)
      ];
      bounded = λ k. subst (λ (m : ℕ). All (λ g. g < m) (noted later k)) (sym count) (elim (cases_eq k j) [
        | inl same ↦ subst (λ (m : ℕ). All (λ g. g < length old) (noted later m)) (sym same) (subst (All (λ g. g < length old)) (sym own_list)
            (All-append (λ g. g < length old) (noted next j) (i ∷ []) (n.bounded l.bounded j) (All-cons (λ g. g < length old) i [] at_i (All-nil (λ g. g < length old)))))
        | inr other ↦ subst (All (λ g. g < length old)) (sym (other_list k other)) (n.bounded l.bounded k)
      ]);
    }
  where
    own : (h : ℕ) → h < length old → coefficient (row_at new h).entries j ≢ pos 0 → IsIn (noted next j ++ i ∷ []) h
    own h lt some =
        elim (cases_eq h i) [
          | inl same ↦ subst (IsIn (noted next j ++ i ∷ [])) (sym same) (in_last (noted next j) i)
          | inr apart ↦ elim (zero_or_other (coefficient (row_at old h).entries j)) [
            | inl none ↦ absurd (some (ap (λ (x : SparseRow). coefficient x.entries j) (p.kept h lt apart none) ∙ none))
            | inr there ↦ absurd (some (mixed_by_cancel (row_at old h) (row_at old i) (row_at new h) j pivot (p.cancelled h lt apart there)).gone)
          ]
        ]

    others : (h k : ℕ) → k ≢ j → h < length old → k < length columns → coefficient (row_at new h).entries k ≢ pos 0 → IsIn (noted next k) h
    others h k other lt short some =
        elim (cases_eq h i) [
          | inl same ↦
              let row : row_at new h ≡ row_at old h = ap (row_at new) same ∙ p.pivot ∙ ap (row_at old) (sym same) in
              n.kept k h (l.listed h k other lt short (subst (λ (x : SparseRow). coefficient x.entries k ≢ pos 0) row some))
          | inr apart ↦ elim (zero_or_other (coefficient (row_at old h).entries j)) [
            | inl none ↦ n.kept k h (l.listed h k other lt short (subst (λ (x : SparseRow). coefficient x.entries k ≢ pos 0) (p.kept h lt apart none) some))
            | inr there ↦ elim (zero_or_other (coefficient (row_at old h).entries k)) [
              | inr was ↦ n.kept k h (l.listed h k other lt short was)
              | inl fresh ↦ elim (zero_or_other (coefficient (row_at old i).entries k)) [
                | inl neither ↦ absurd (some (cancelled_none (row_at old h) (row_at old i) (row_at new h) j k (p.cancelled h lt apart there) fresh neither))
                | inr by_pivot ↦
                    elim (column_or_none (λ c. c < length columns → coefficient (row_at old h).entries c ≡ pos 0 → IsIn (noted next c) h) (row_at old i).entries k
                    (n.fresh h (l.own h lt there) there)) [ inl now ↦ now short fresh | inr none ↦ absurd (by_pivot none) ]
              ]
            ]
          ]
        ]
