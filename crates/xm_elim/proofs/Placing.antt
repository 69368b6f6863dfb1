-- Places of rows, and the best of them.
use Rattle.std.proofs.Common.{◌≡◌, ℕ, zero, suc, ◌+◌, ◌<◌, ◌≤◌, inl, inr, List, [], ◌∷◌, ◌++◌, length, get_or, take, drop, slice_get, Option, Some, None, sym, ◌∙◌, ap, subst, arith, IfNone, IfSome, All}
use Rattle.std.proofs.lemmas.List.{take_more, take_all}
use Rattle.std.proofs.lemmas.List.Elements.{All-head, All-tail, All-cons, All-nil, All-push}
use Rattle.xm_colours.specs.Family.{Rises}
use Rattle.xm_model.specs.Membership.{IsIn}
use Rattle.xm_elim.specs.Elimination.{IsCandidate, IsPivot, IsTaken}
use Rattle.xm_rows.specs.Lemmas.Noting.{in_last, in_left, in_push}
use Rattle.xm_elim.specs.Inner.Columns.{AreTakenOf, IsRisingOf}
use Rattle.xm_elim.specs.Inner.Places.{ArePlaces, IsBest, IsBestAt}
use Rattle.xm_elim.specs.declared.work.Status.TheVariants.{Gone, Waiting}
use Rattle.xm_elim.specs.declared.work.Working.{Working}
use Rattle.xm_elim.proofs.Passing.{same_item}

pub at_index : {X : Type 0} (xs : List X) (i : ℕ) (x : X) → i < length xs → x ≡ get_or xs i x → slice_get xs i ≡ Some x
at_index [] i x below is = absurd (omega arith)
at_index (y ∷ ys) zero x below is = ap Some (sym is)
at_index (y ∷ ys) (suc i) x below is = at_index ys i x (omega arith) is

pub all_in : (P : ℕ → Type 0) (xs : List ℕ) (j : ℕ) → All P xs → IsIn xs j → P j
all_in P [] j all h = absurd h
all_in P (x ∷ xs) j all (inl is) = subst P is (All-head P x xs all)
all_in P (x ∷ xs) j all (inr h) = all_in P xs j (All-tail P x xs all) h

pub rise_push : (xs : List ℕ) (y : ℕ) → Rises xs → All (λ x. x < y) xs → Rises (xs ++ y ∷ [])
rise_push [] y up below = tt
rise_push (x ∷ []) y up below = (All-head (λ z. z < y) x [] below, tt)
rise_push (x ∷ z ∷ xs) y up below = (up.0, rise_push (z ∷ xs) y up.1 (All-tail (λ w. w < y) x (z ∷ xs) below))

-- ---- the best

module _ (rows : List Working) (column : ℕ) (places : List ℕ) (p : ℕ) (v : Working) (at : slice_get rows p ≡ Some v) (below : All (λ j. j < p) places) where
  pub not_better : (best : Option ℕ) → (IsCandidate column v → ⊥) → IsBest rows column places best → IsBest rows column (places ++ p ∷ []) best
  not_better None not h = λ j w within at_j candidate. elim (in_push places p j within) [
    | inl early ↦ h j w early at_j candidate
    | inr last ↦ not (subst (IsCandidate column) (same_item rows p w v (ap (slice_get rows) last ∙ at_j) at) candidate)
  ]
  not_better (Some b) not h =
      record {
        w = h.w;
        at = h.at;
        among = in_left places (p ∷ []) b h.among;
        candidate = h.candidate;
        fewest = λ j w within at_j candidate. elim (in_push places p j within) [
          | inl early ↦ h.fewest j w early at_j candidate
          | inr last ↦ absurd (not (subst (IsCandidate column) (same_item rows p w v (ap (slice_get rows) last ∙ at_j) at) candidate))
        ];
        first = λ j w less within at_j candidate. elim (in_push places p j within) [
          | inl early ↦ h.first j w less early at_j candidate
          | inr last ↦ absurd (not (subst (IsCandidate column) (same_item rows p w v (ap (slice_get rows) last ∙ at_j) at) candidate))
        ];
      }

  pub still_best : (b : ℕ) (x : Working) → slice_get rows b ≡ Some x → length x.row.entries ≤ length v.row.entries → IsBestAt rows column places b → IsBestAt rows column (places ++ p ∷ []) b
  still_best b x at_b fewer h =
      let is = same_item rows b x h.w at_b h.at in
      let low = all_in (λ j. j < p) places b below h.among in
      record {
        w = h.w;
        at = h.at;
        among = in_left places (p ∷ []) b h.among;
        candidate = h.candidate;
        fewest = λ j w within at_j candidate. elim (in_push places p j within) [
          | inl early ↦ h.fewest j w early at_j candidate
          | inr last ↦
              let v_is = same_item rows p v w at (ap (slice_get rows) last ∙ at_j) in
              let a = ap (λ (y : Working). length y.row.entries) is in
              let b = ap (λ (y : Working). length y.row.entries) v_is in
              omega arith
        ];
        first = λ j w less within at_j candidate. elim (in_push places p j within) [
          | inl early ↦ h.first j w less early at_j candidate
          | inr last ↦ absurd (omega arith)
        ];
      }

  pub best_alone : IsCandidate column v → IsBest rows column places None → IsBestAt rows column (places ++ p ∷ []) p
  best_alone candidate h =
      record {
        w = v;
        at = at;
        among = in_last places p;
        candidate = candidate;
        fewest = λ j w within at_j c. elim (in_push places p j within) [
          | inl early ↦ absurd (h j w early at_j c)
          | inr last ↦
              let v_is = same_item rows p v w at (ap (slice_get rows) last ∙ at_j) in
              let same = ap (λ (y : Working). length y.row.entries) v_is in
              omega arith
        ];
        first = λ j w less within at_j c. elim (in_push places p j within) [ inl early ↦ absurd (h j w early at_j c) | inr last ↦ absurd (omega arith) ];
      }

  pub now_best : (b : ℕ) (x : Working) → slice_get rows b ≡ Some x → length v.row.entries < length x.row.entries → IsCandidate column v → IsBestAt rows column places b → IsBestAt rows column (places ++ p ∷ []) p
  now_best b x at_b fewer candidate h =
      let is = same_item rows b x h.w at_b h.at in
      let a = ap (λ (y : Working). length y.row.entries) is in
      record {
        w = v;
        at = at;
        among = in_last places p;
        candidate = candidate;
        fewest = λ j w within at_j c. elim (in_push places p j within) [
          | inl early ↦ let more = h.fewest j w early at_j c in omega arith
          | inr last ↦
              let v_is = same_item rows p v w at (ap (slice_get rows) last ∙ at_j) in
              let same = ap (λ (y : Working). length y.row.entries) v_is in
              omega arith
        ];
        first = λ j w less within at_j c. elim (in_push places p j within) [
          | inl early ↦ let more = h.fewest j w early at_j c in omega arith
          | inr last ↦ absurd (omega arith)
        ];
      }

candidate_taken : (column : ℕ) (w : Working) → IsCandidate column w → IsTaken column w
candidate_taken column w c = record { works = λ e. not_gone (sym c.waits ∙ e); entry = c.entry }
  where
    not_gone : Waiting ≡ Gone → ⊥
    not_gone e = cc

pub best_none : (rows : List Working) (column : ℕ) (places : List ℕ) → ArePlaces rows column places → IsBest rows column places None →
    (j : ℕ) (v : Working) → slice_get rows j ≡ Some v → IsCandidate column v → ⊥
best_none rows column places are h j v at c = h j v (are.complete j v at (candidate_taken column v c)) at c

pub best_pivot : (rows : List Working) (column : ℕ) (places : List ℕ) (b : ℕ) → ArePlaces rows column places → IsBestAt rows column places b → (w : Working) × IsPivot rows column b w
best_pivot rows column places b are h = (
  h.w,
  record {
    at = h.at;
    candidate = h.candidate;
    fewest = λ j v at c. h.fewest j v (are.complete j v at (candidate_taken column v c)) at c;
    first = λ j v less at c. h.first j v less (are.complete j v at (candidate_taken column v c)) at c;
  },
)

-- ---- the places of the rows that are taken

pub taken_none : (rows : List Working) (column : ℕ) (places : List ℕ) → places ≡ [] → AreTakenOf rows column [] places
taken_none rows column places is =
    subst (AreTakenOf rows column []) (sym is) (record { within = All-nil (λ p. p < length rows); complete = λ j w inside. absurd inside })

pub taken_more : (rows : List Working) (column : ℕ) (given : List ℕ) (i : ℕ) (places next : List ℕ) → i < length given → All (λ p. p < length rows) given →
    next ≡ places ++ get_or given i 0 ∷ [] → AreTakenOf rows column (take i given) places → AreTakenOf rows column (take (i + 1) given) next
taken_more rows column given i places next within below is h =
    let p = get_or given i 0 in
    subst (AreTakenOf rows column (take (i + 1) given)) (sym is) (record {
      within = All-push (λ q. q < length rows) places p h.within (below i 0 within);
      complete = λ j w inside at taken. elim (in_push (take i given) p j (subst (λ (l : List ℕ). IsIn l j) (take_more given i 0 within) inside)) [
        | inl early ↦ in_left places (p ∷ []) j (h.complete j w early at taken)
        | inr last ↦ subst (IsIn (places ++ p ∷ [])) last (in_last places p)
      ];
    })

pub taken_passed : (rows : List Working) (column : ℕ) (given : List ℕ) (i : ℕ) (places : List ℕ) (v : Working) → i < length given → slice_get rows (get_or given i 0) ≡ Some v →
    (IsTaken column v → ⊥) → AreTakenOf rows column (take i given) places → AreTakenOf rows column (take (i + 1) given) places
taken_passed rows column given i places v within at_p not h =
    let p = get_or given i 0 in
    record {
      within = h.within;
      complete = λ j w inside at taken. elim (in_push (take i given) p j (subst (λ (l : List ℕ). IsIn l j) (take_more given i 0 within) inside)) [
        | inl early ↦ h.complete j w early at taken
        | inr last ↦ absurd (not (subst (IsTaken column) (same_item rows p w v (ap (slice_get rows) last ∙ at) at_p) taken))
      ];
    }

pub taken_all : (rows : List Working) (column : ℕ) (given : List ℕ) (i : ℕ) (places : List ℕ) → length given ≤ i → AreTakenOf rows column (take i given) places →
    AreTakenOf rows column given places
taken_all rows column given i places past h = subst (λ (l : List ℕ). AreTakenOf rows column l places) (take_all i given past) h

pub placed : (rows : List Working) (column : ℕ) (noted taken places : List ℕ) → ((j : ℕ) (w : Working) → slice_get rows j ≡ Some w → IsTaken column w → IsIn noted j) →
    AreTakenOf rows column noted taken → IsRisingOf taken places → ArePlaces rows column places
placed rows column noted taken places covers t r =
    record {
      rise = r.rise;
      within = r.within (length rows) t.within;
      complete = λ j w at is. r.complete j (t.complete j w (covers j w at is) at is);
    }

rises_tail : (x : ℕ) (xs : List ℕ) → Rises (x ∷ xs) → Rises xs
rises_tail x [] up = tt
rises_tail x (y ∷ ys) up = up.1

rises_above : (m x : ℕ) (xs : List ℕ) → m ≤ x → Rises (x ∷ xs) → All (λ y. m < y) xs
rises_above m x [] low up = All-nil (λ y. m < y)
rises_above m x (y ∷ ys) low up = All-cons (λ z. m < z) y ys (let less = up.0 in omega arith) (rises_above m y ys (let less = up.0 in omega arith) up.1)

-- what stands before a place is less than what stands there
pub rise_below : (xs : List ℕ) (i : ℕ) → Rises xs → i < length xs → All (λ x. x < get_or xs i 0) (take i xs)
rise_below [] i up within = absurd (omega arith)
rise_below (x ∷ xs) zero up within = All-nil (λ y. y < x)
rise_below (x ∷ xs) (suc i) up within =
    let above = rises_above x x xs (omega arith) up in
    All-cons (λ y. y < get_or xs i 0) x (take i xs) (above i 0 (omega arith)) (rise_below xs i (rises_tail x xs up) (omega arith))

-- and what stands behind it is greater
pub rise_behind : (xs : List ℕ) (i : ℕ) → Rises xs → i < length xs → All (λ x. get_or xs i 0 < x) (drop (i + 1) xs)
rise_behind [] i up within = absurd (omega arith)
rise_behind (x ∷ xs) zero up within = let one : 0 + 1 ≡ suc 0 = omega arith in subst (λ (n : ℕ). All (λ y. x < y) (drop n (x ∷ xs))) (sym one) (rises_above x x xs (omega arith) up)
rise_behind (x ∷ xs) (suc i) up within =
    let one : suc i + 1 ≡ suc (i + 1) = omega arith in
    subst (λ (n : ℕ). All (λ y. get_or xs i 0 < y) (drop n (x ∷ xs))) (sym one) (rise_behind xs i (rises_tail x xs up) (omega arith))

pub best_more : (rows : List Working) (column : ℕ) (places : List ℕ) (i : ℕ) (best next : Option ℕ) → i < length places → Rises places →
    ((ps : List ℕ) → IsBest rows column ps best → All (λ j. j < get_or places i 0) ps → IsBest rows column (ps ++ get_or places i 0 ∷ []) next) →
    IsBest rows column (take i places) best → IsBest rows column (take (i + 1) places) next
best_more rows column places i best next within up step h =
    subst (λ (ps : List ℕ). IsBest rows column ps next) (sym (take_more places i 0 within)) (step (take i places) h (rise_below places i up within))

pub best_all : (rows : List Working) (column : ℕ) (places : List ℕ) (i : ℕ) (best : Option ℕ) → length places ≤ i → IsBest rows column (take i places) best → IsBest rows column places best
best_all rows column places i best past h = subst (λ (ps : List ℕ). IsBest rows column ps best) (take_all i places past) h

pub best_start : (rows : List Working) (column : ℕ) (places : List ℕ) → IsBest rows column (take 0 places) None
best_start rows column places = λ j v within at candidate. absurd within

pub found_none : (rows : List Working) (column : ℕ) (places : List ℕ) (best : Option ℕ) → ArePlaces rows column places → IsBest rows column places best →
    IfNone best ((j : ℕ) (v : Working) → slice_get rows j ≡ Some v → IsCandidate column v → ⊥)
found_none rows column places None are h = best_none rows column places are h
found_none rows column places (Some b) are h = tt

pub found_some : (rows : List Working) (column : ℕ) (places : List ℕ) (best : Option ℕ) → ArePlaces rows column places → IsBest rows column places best →
    IfSome best (λ i. (w : Working) × IsPivot rows column i w)
found_some rows column places None are h = tt
found_some rows column places (Some b) are h = best_pivot rows column places b are h
