-- The lemmas of the pivots, one after another.
use Rattle.std.proofs.Common.{◌≡◌, ◌≢◌, ◌↔◌, Bool, true, false, Option, None, IfSome, take, IsTrue, ℕ, zero, suc, ◌+◌, ◌<◌, ◌≤◌, inl, inr, List, [], ◌∷◌, ◌++◌, length, length-append, map, get_or, slice_get, Some, refl, sym, ◌∙◌, ap, subst, arith, add-one, pos}
use Rattle.std.proofs.lemmas.List.{map-append, take_more}
use Rattle.std.proofs.lemmas.List.Elements.{All-nil, All-push}
use Rattle.xm_flow.specs.Lemmas.Listing.{all_at}
use Rattle.xm_flow.specs.ValidLemma.{Lemma, TestFits, lemma_of}
use Rattle.xm_flow.specs.declared.invariant.Invariant.{Invariant}
use Rattle.xm_rows.specs.Row.{SparseRow, coefficient}
use Rattle.xm_elim.specs.Elimination.{ElimOverflows, Eliminates, EndsWith, FailsTest, IsParted, OnOverflow, Reaches, begun_from, none, with_one, without}
use Rattle.xm_elim.specs.Inner.Places.{AreGathered, AreTested, IsFirstFailing, IsPivotPlace, IsPlaceRefused, Leads, first_failed}
use Rattle.xm_elim.specs.declared.fault.ElimFault.{ElimFault}
use Rattle.xm_elim.specs.declared.fault.ElimFault.TheVariants as fault
use Rattle.xm_elim.specs.declared.work.Status.{Status}
use Rattle.xm_elim.specs.declared.work.Status.TheVariants.{Pivot}
use Rattle.xm_elim.specs.declared.work.Working.{Working}
use Rattle.xm_model.specs.Membership.{IsIn}
use Rattle.xm_order.specs.Lemmas.Items.{get-append_left, get-push_last, push_cases}
use Rattle.xm_elim.proofs.Looking.{never}
use Rattle.xm_elim.proofs.Passing.{same_item}
use Rattle.xm_rows.specs.Lemmas.Noting.{in_push}
use Rattle.xm_elim.proofs.Spanning.{split_last}

item_below : {X : Type 0} (xs : List X) (i : ℕ) (x : X) → slice_get xs i ≡ Some x → i < length xs
item_below [] i x found = cc
item_below (y ∷ ys) zero x found = omega arith
item_below (y ∷ ys) (suc i) x found = let rest = item_below ys i x found in omega arith

pub tested_more : (flow : List SparseRow) (rows : List Working) (ps : List SparseRow) (ls : List Lemma) (r : SparseRow) (l : Lemma) (failed : Option ℕ) (b : Bool) (place column : ℕ) →
    length ls ≡ length ps → slice_get rows place ≡ Some (record { row = r; status = Pivot column }) → IsTrue b ↔ TestFits flow l → AreTested flow rows ps ls failed →
    AreTested flow rows (ps ++ r ∷ []) (ls ++ l ∷ []) (first_failed failed b place)
tested_more flow rows ps ls r l (Some p) b place column len at test h =
    record {
      i = h.i;
      it = h.it;
      at = get-append_left ls (l ∷ []) h.i h.it h.at;
      fails = h.fails;
      earlier = λ j m less at_m. elim (push_cases ls l j m at_m) [
        | inl early ↦ h.earlier j m less early
        | inr last ↦ let low = item_below ls h.i h.it h.at in let e = last.0 in absurd (omega arith)
      ];
      r = h.r;
      column = h.column;
      is_r = get-append_left ps (r ∷ []) h.i h.r h.is_r;
      pivot = h.pivot;
    }
tested_more flow rows ps ls r l None true place column len at test h = All-push (TestFits flow) ls l h (test.0 refl)
tested_more flow rows ps ls r l None false place column len at test h =
    record {
      i = length ls;
      it = l;
      at = get-push_last ls l;
      fails = λ fits. never false (test.1 fits) refl;
      earlier = λ j m less at_m. elim (push_cases ls l j m at_m) [
        | inl early ↦ all_at (TestFits flow) ls j m h early
        | inr last ↦ let e = last.0 in absurd (omega arith)
      ];
      r = r;
      column = column;
      is_r = subst (λ (n : ℕ). slice_get (ps ++ r ∷ []) n ≡ Some r) (sym len) (get-push_last ps r);
      pivot = at;
    }

pub gathered_none : (moves counts : ℕ) (flow : List SparseRow) (rows : List Working) (lemmas : List Invariant) → lemmas ≡ [] →
    AreGathered moves counts flow rows 0 (map lemma_of lemmas) None
gathered_none moves counts flow rows lemmas is =
    subst (λ (l : List Invariant). AreGathered moves counts flow rows 0 (map lemma_of l) None) (sym is)
    (record { pivots = []; taken = none; whole = refl; parted = λ i r it at_r at_it. cc; tested = All-nil (TestFits flow) })

gathered_passed : (moves counts n : ℕ) (flow : List SparseRow) (rows : List Working) (lemmas : List Lemma) (failed : Option ℕ) →
    ((i : ℕ) (w : Working) → slice_get rows i ≡ Some w → w.status ≢ Pivot (moves + n)) →
    AreGathered moves counts flow rows n lemmas failed → AreGathered moves counts flow rows (n + 1) lemmas failed
gathered_passed moves counts n flow rows lemmas failed out h =
    record { pivots = h.pivots; taken = (rw add-one (without h.taken out)); whole = h.whole; parted = h.parted; tested = h.tested }

pub passed_same : (moves counts n : ℕ) (flow : List SparseRow) (rows : List Working) (lemmas next : List Invariant) (failed later : Option ℕ) → next ≡ lemmas → later ≡ failed →
    ((i : ℕ) (w : Working) → slice_get rows i ≡ Some w → w.status ≢ Pivot (moves + n)) →
    AreGathered moves counts flow rows n (map lemma_of lemmas) failed → AreGathered moves counts flow rows (n + 1) (map lemma_of next) later
passed_same moves counts n flow rows lemmas next failed later is later_is out h =
    subst (AreGathered moves counts flow rows (n + 1) (map lemma_of next)) (sym later_is)
    (subst (λ (l : List Invariant). AreGathered moves counts flow rows (n + 1) (map lemma_of l) failed) (sym is)
    (gathered_passed moves counts n flow rows (map lemma_of lemmas) failed out h))

more : (moves counts n i : ℕ) (flow : List SparseRow) (rows : List Working) (ls : List Lemma) (failed : Option ℕ) (b : Bool) (r : SparseRow) (l : Lemma) →
    slice_get rows i ≡ Some (record { row = r; status = Pivot (moves + n) }) → IsParted moves counts r l → IsTrue b ↔ TestFits flow l →
    AreGathered moves counts flow rows n ls failed → AreGathered moves counts flow rows (n + 1) (ls ++ l ∷ []) (first_failed failed b i)
more moves counts n i flow rows ls failed b r l at parted test h =
    record {
      pivots = h.pivots ++ r ∷ [];
      taken = (rw add-one (with_one h.taken i r at));
      whole = length-append ls (l ∷ []) ∙ ap (λ (m : ℕ). m + 1) h.whole ∙ sym (length-append h.pivots (r ∷ []));
      parted = λ j x it at_x at_it. elim (split_last h.pivots r j x at_x) [
        | inl early_x ↦ elim (split_last ls l j it at_it) [
          | inl early_it ↦ h.parted j x it early_x early_it
          | inr last_it ↦ let low = item_below h.pivots j x early_x in let e = last_it.0 in let same = h.whole in absurd (omega arith)
        ]
        | inr last_x ↦ elim (split_last ls l j it at_it) [
          | inl early_it ↦ let low = item_below ls j it early_it in let e = last_x.0 in let same = h.whole in absurd (omega arith)
          | inr last_it ↦ subst (λ (y : SparseRow). IsParted moves counts y it) last_x.1 (subst (IsParted moves counts r) last_it.1 parted)
        ]
      ];
      tested = tested_more flow rows h.pivots ls r l failed b i (moves + n) h.whole at test h.tested;
    }

pub there : (rows : List Working) (i : ℕ) (d w : Working) → slice_get rows i ≡ Some w → get_or rows i d ≡ w
there [] i d w at = cc
there (x ∷ xs) zero d w at = cc
there (x ∷ xs) (suc i) d w at = there xs i d w at

pub gathered_more : (moves counts n i : ℕ) (flow : List SparseRow) (rows : List Working) (lemmas next : List Invariant) (failed later : Option ℕ) (b : Bool) (d : Working) (l : Invariant) →
    (w : Working) × ((slice_get rows i ≡ Some w) × (w.status ≡ Pivot (moves + n))) → IsParted moves counts (get_or rows i d).row (lemma_of l) → IsTrue b ↔ TestFits flow (lemma_of l) →
    next ≡ lemmas ++ l ∷ [] → later ≡ first_failed failed b i →
    AreGathered moves counts flow rows n (map lemma_of lemmas) failed → AreGathered moves counts flow rows (n + 1) (map lemma_of next) later
gathered_more moves counts n i flow rows lemmas next failed later b d l found parted test is later_is h =
    let w = found.0 in
    let row_is : (get_or rows i d).row ≡ w.row = ap (λ (v : Working). v.row) (there rows i d w found.1.0) in
    subst (AreGathered moves counts flow rows (n + 1) (map lemma_of next)) (sym later_is)
    (subst (λ (ls : List Lemma). AreGathered moves counts flow rows (n + 1) ls (first_failed failed b i)) (sym (ap (map lemma_of) is ∙ map-append lemma_of lemmas (l ∷ [])))
    (more moves counts n i flow rows (map lemma_of lemmas) failed b w.row (lemma_of l) (found.1.0 ∙ ap (λ (s : Status). Some (record { row = w.row; status = s })) found.1.1)
    (subst (λ (y : SparseRow). IsParted moves counts y (lemma_of l)) row_is parted) test h))

pub pivot_leads : (moves bound n i : ℕ) (rows : List Working) (d : Working) →
    ((j : ℕ) (w : Working) (k : ℕ) → slice_get rows j ≡ Some w → w.status ≡ Pivot k → Leads moves bound k w.row) →
    (w : Working) × ((slice_get rows i ≡ Some w) × (w.status ≡ Pivot (moves + n))) → Leads moves bound (moves + n) (get_or rows i d).row
pivot_leads moves bound n i rows d leads found =
    subst (λ (v : Working). Leads moves bound (moves + n) v.row) (sym (there rows i d found.0 found.1.0)) (leads i found.0 (moves + n) found.1.0 found.1.1)

pub bounded_at : (bound i : ℕ) (rows : List Working) (d w : Working) → ((j : ℕ) (w : Working) (k : ℕ) → slice_get rows j ≡ Some w → bound ≤ k → coefficient w.row.entries k ≡ pos 0) →
    slice_get rows i ≡ Some w → (k : ℕ) → bound ≤ k → coefficient (get_or rows i d).row.entries k ≡ pos 0
bounded_at bound i rows d w bounded at k high =
    subst (λ (v : Working). coefficient v.row.entries k ≡ pos 0) (sym (there rows i d w at)) (bounded i w k at high)

pub eliminated : (moves counts : ℕ) (flow : List SparseRow) (rows : List Working) (lemmas : List Lemma) (failed : Option ℕ) →
    Reaches moves (begun_from (moves + counts) 0 flow) (moves + counts) rows →
    AreGathered moves counts flow rows counts lemmas failed → Eliminates moves counts flow lemmas
eliminated moves counts flow rows lemmas failed reaches h =
    record { rows = rows; reaches = reaches; pivots = h.pivots; taken = h.taken; whole = h.whole; parted = h.parted }

pub ends_with : (moves counts : ℕ) (flow : List SparseRow) (rows : List Working) (lemmas : List Lemma) (failed : Option ℕ) → failed ≡ None →
    Reaches moves (begun_from (moves + counts) 0 flow) (moves + counts) rows → AreGathered moves counts flow rows counts lemmas failed → EndsWith moves counts flow lemmas
ends_with moves counts flow rows lemmas failed is reaches h =
    record { eliminates = eliminated moves counts flow rows lemmas failed reaches h; tested = subst (AreTested flow rows h.pivots lemmas) is h.tested }

pub fails_test : (moves counts : ℕ) (flow : List SparseRow) (rows : List Working) (lemmas : List Lemma) (failed : Option ℕ) (r s : SparseRow) (column : ℕ) →
    Reaches moves (begun_from (moves + counts) 0 flow) (moves + counts) rows → AreGathered moves counts flow rows counts lemmas failed →
    IsPlaceRefused rows failed r s column → FailsTest moves counts flow r s column
unfolding eliminated
fails_test moves counts flow rows lemmas failed r s column reaches h p =
    let t : IsFirstFailing flow rows h.pivots lemmas p.place = subst (AreTested flow rows h.pivots lemmas) p.is h.tested in
    let it_is = same_item rows p.place p.it (record { row = t.r; status = Pivot t.column }) p.at t.pivot in
    let r_is = p.refused.is_r ∙ ap (λ (w : Working). w.row) it_is in
    let s_is = p.refused.is_s ∙ ap (λ (w : Working). w.row) it_is in
    let column_is : Pivot t.column ≡ Pivot column = sym (ap (λ (w : Working). w.status) it_is) ∙ p.refused.status in
    record {
      lemmas = lemmas;
      ends = eliminated moves counts flow rows lemmas failed reaches h;
      i = t.i;
      it = t.it;
      at = t.at;
      fails = t.fails;
      earlier = t.earlier;
      is_r = t.is_r ∙ ap Some (sym r_is);
      is_s = s_is ∙ sym r_is;
      place = p.place;
      pivot = t.pivot ∙ ap (λ (x : SparseRow). Some (working x (Pivot t.column))) (sym r_is) ∙ ap (λ (x : Status). Some (working r x)) column_is;
    }
  where
    working : SparseRow → Status → Working
    working row status = record { row = row; status = status }

pub fails_refused : (moves counts : ℕ) (flow : List SparseRow) (rows : List Working) (lemmas : List Lemma) (failed : Option ℕ) (f : ElimFault) →
    Reaches moves (begun_from (moves + counts) 0 flow) (moves + counts) rows → AreGathered moves counts flow rows counts lemmas failed →
    OnOverflow (IsPlaceRefused rows failed) f → OnOverflow (ElimOverflows moves counts flow) f
fails_refused moves counts flow rows lemmas failed fault.OutOfMemory reaches h p = tt
fails_refused moves counts flow rows lemmas failed (fault.Overflow r s c) reaches h p = inr (fails_test moves counts flow rows lemmas failed r s c reaches h p)

-- a place that is named is that of a pivot
pub pivot_place : (moves counts n : ℕ) (flow : List SparseRow) (rows : List Working) (lemmas : List Lemma) (failed : Option ℕ) → AreGathered moves counts flow rows n lemmas failed →
    IfSome failed (IsPivotPlace rows)
pivot_place moves counts n flow rows lemmas None h = tt
pivot_place moves counts n flow rows lemmas (Some p) h = (h.tested.r, (h.tested.column, h.tested.pivot))

-- a place whose row was no pivot of the column
pub passed_pivot : (rows : List Working) (places : List ℕ) (i column : ℕ) (d : Working) (b : Bool) → i < length places →
    IsTrue b ↔ ((get_or rows (get_or places i 0) d).status ≡ Pivot column) → b ≡ false →
    ((j : ℕ) (w : Working) → IsIn (take i places) j → slice_get rows j ≡ Some w → w.status ≢ Pivot column) →
    (j : ℕ) (w : Working) → IsIn (take (i + 1) places) j → slice_get rows j ≡ Some w → w.status ≢ Pivot column
passed_pivot rows places i column d b within test not h j w inside at is =
    elim (in_push (take i places) (get_or places i 0) j (subst (λ (l : List ℕ). IsIn l j) (take_more places i 0 within) inside)) [
      | inl early ↦ h j w early at is
      | inr last ↦
          let w_is = there rows (get_or places i 0) d w (ap (slice_get rows) last ∙ at) in
          never b (test.1 (ap (λ (v : Working). v.status) w_is ∙ is)) not
    ]
