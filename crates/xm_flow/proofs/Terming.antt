-- Terms with their columns as numbers, and the rows that they make.
use Rattle.std.proofs.Common.{◌≡◌, ◌≢◌, ℕ, zero, suc, ◌+◌, ◌<◌, ◌≤◌, inl, inr, List, [], ◌∷◌, ◌++◌, length, map, get_or, take, slice_get, slice_index, Some, Bool, true, false, cond, nat_eq, nat_lt, refl, sym, ◌∙◌, ap, ap₂, subst, arith, append_assoc, ℤ, pos, ◌+ℤ◌, unsigned_abs, All}
use Rattle.std.proofs.lemmas.Bool.{cond-true, cond-false, eq-eqb, lt-ltb, ne_eqb}
use Rattle.std.proofs.lemmas.List.{append-nil, take_all, take_more, map-append}
use Rattle.std.proofs.lemmas.List.Elements.{All-cons, All-nil}
use Rattle.xm_model.specs.Membership.{IsIn, times}
use Rattle.xm_rows.specs.Row.{SparseRow, coefficient}
use Rattle.xm_rows.specs.declared.row.Entry.{Entry}
use Rattle.xm_flow.specs.Inner.Building.{AreMade, AreTerms, IsMade, IsRowOf, a_row, a_term, no_rows, no_terms, term, unit_of}
use Rattle.xm_flow.specs.declared.terms.Sign.{Sign}
use Rattle.xm_flow.specs.declared.terms.Sign.TheVariants.{Plus, Minus}
use Rattle.xm_flow.specs.FlowRows.{Column, FlowRow, Moves, Term, amount, if_coloured, same_row, taken_to}
use Rattle.std.proofs.lemmas.Option.{slice_get_within}
use Rattle.xm_flow.proofs.Numbering.{AreApart, one_test}
use Rattle.xm_flow.proofs.Rising.{absent}

pub terms_append : (listed : List Column) (ts us : List Term) (es fs : List Entry) → AreTerms listed ts es → AreTerms listed us fs → AreTerms listed (ts ++ us) (es ++ fs)
terms_append listed [] us [] fs no_terms more = more
terms_append listed [] us (e ∷ es) fs h more = elim h [ ]
terms_append listed (t ∷ ts) us [] fs h more = elim h [ ]
terms_append listed (t ∷ ts) us (e ∷ es) fs (a_term value unit at rest) more = a_term value unit at (terms_append listed ts us es fs rest more)

pub terms_push : (listed : List Column) (left : List Term) (es : List Entry) (c : ℕ) (v : ℤ) (k : Column) → AreTerms listed left es → slice_get listed c ≡ Some k → unsigned_abs v ≡ 1 →
    AreTerms listed (left ++ term v k ∷ []) (es ++ record { column = c; value = v } ∷ [])
terms_push listed left es c v k made at unit = terms_append listed left (term v k ∷ []) es (record { column = c; value = v } ∷ []) made (a_term refl unit at no_terms)

pub terms_pushed : (listed : List Column) (left : List Term) (es fs : List Entry) (c : ℕ) (sign : Sign) (k : Column) (e : Entry) → AreTerms listed left es → slice_get listed c ≡ Some k →
    e ≡ record { column = c; value = unit_of sign } → fs ≡ es ++ e ∷ [] → AreTerms listed (left ++ term (unit_of sign) k ∷ []) fs
terms_pushed listed left es fs c sign k e made at same is =
    subst (AreTerms listed (left ++ term (unit_of sign) k ∷ [])) (ap (λ (f : Entry). es ++ f ∷ []) (sym same) ∙ sym is) (terms_push listed left es c (unit_of sign) k made at (one sign))
  where
    one : (sign : Sign) → unsigned_abs (unit_of sign) ≡ 1
    one Plus = refl
    one Minus = refl

-- a colour's term, where it is one of the channel's
pub if_there : (colours : ℕ → List ℕ) (sign : Column → Term) (c d : ℕ) → IsIn (colours c) d → if_coloured colours sign c d ≡ sign (Moves c d) ∷ []
if_there colours sign c d inside = cond-true (nat_lt 0 (times d (colours c))) (sign (Moves c d) ∷ []) [] (lt-ltb 0 (times d (colours c)) (some d (colours c) inside))
  where
    some : (d : ℕ) (xs : List ℕ) → IsIn xs d → 0 < times d xs
    some d [] inside = absurd inside
    some d (x ∷ xs) (inl same) = rw (eq-eqb x d same) (omega arith)
    some d (x ∷ xs) (inr rest) = let more = some d xs rest in omega arith

pub if_absent : (colours : ℕ → List ℕ) (sign : Column → Term) (c d : ℕ) → (IsIn (colours c) d → ⊥) → if_coloured colours sign c d ≡ []
if_absent colours sign c d none = rw (absent d (colours c) none) refl

pub terms_units : (listed : List Column) (ts : List Term) (es : List Entry) → AreTerms listed ts es → All (λ e. unsigned_abs e.value ≡ 1) es
terms_units listed [] (e ∷ es) h = elim h [ ]
terms_units listed (t ∷ ts) [] h = elim h [ ]
terms_units listed [] [] no_terms = All-nil (λ (e : Entry). unsigned_abs e.value ≡ 1)
terms_units listed (t ∷ ts) (e ∷ es) (a_term value unit at rest) = All-cons (λ (e : Entry). unsigned_abs e.value ≡ 1) e es unit (terms_units listed ts es rest)

terms_within : (listed : List Column) (ts : List Term) (es : List Entry) → AreTerms listed ts es → All (λ e. e.column < length listed) es
terms_within listed [] (e ∷ es) h = elim h [ ]
terms_within listed (t ∷ ts) [] h = elim h [ ]
terms_within listed [] [] no_terms = All-nil (λ (e : Entry). e.column < length listed)
terms_within listed (t ∷ ts) (e ∷ es) (a_term value unit at rest) =
    All-cons (λ (e : Entry). e.column < length listed) e es (slice_get_within listed e.column t.column at) (terms_within listed ts es rest)

terms_coefficient : (listed : List Column) → AreApart listed → (ts : List Term) (es : List Entry) → AreTerms listed ts es → (j : ℕ) (k : Column) → slice_get listed j ≡ Some k →
    coefficient es j ≡ amount ts k
terms_coefficient listed apart [] (e ∷ es) h j k at_j = elim h [ ]
terms_coefficient listed apart (t ∷ ts) [] h j k at_j = elim h [ ]
terms_coefficient listed apart [] [] no_terms j k at_j = refl
terms_coefficient listed apart (t ∷ ts) (e ∷ es) (a_term value unit at rest) j k at_j =
    ap₂ ◌+ℤ◌ (ap₂ (λ (b : Bool) (z : ℤ). cond b z (pos 0)) (one_test listed apart e.column j t.column k at at_j) value) (terms_coefficient listed apart ts es rest j k at_j)

-- the row of terms is the flow row
pub row_made : (listed : List Column) → AreApart listed → (left : List Term) (constant : ℤ) (es : List Entry) (sparse : SparseRow) → AreTerms listed left es → IsRowOf es constant sparse →
    IsMade listed (record { left = left; constant = constant }) sparse
row_made listed apart left constant es sparse terms made = record {
  row = made.row;
  numbered = record {
    within = made.entries.within (length listed) (terms_within listed left es terms);
    entries = λ j k at. made.entries.same j ∙ terms_coefficient listed apart left es terms j k at;
    constant = made.constant;
  };
}

-- ---- one more of a list

pub in_get : (xs : List ℕ) (i d : ℕ) → i < length xs → IsIn xs (get_or xs i d)
in_get [] i d within = absurd (omega arith)
in_get (x ∷ xs) zero d within = inl refl
in_get (x ∷ xs) (suc i) d within = inr (in_get xs i d (omega arith))

pub map_more : {X : Type 0} (f : ℕ → X) (before : List X) (xs : List ℕ) (i d : ℕ) → i < length xs → before ++ map f (take (i + 1) xs) ≡ (before ++ map f (take i xs)) ++ f (get_or xs i d) ∷ []
map_more f before xs i d within =
    ap (λ l. before ++ l) (ap (map f) (take_more xs i d within) ∙ map-append f (take i xs) (get_or xs i d ∷ [])) ∙ sym (append_assoc before (map f (take i xs)) (f (get_or xs i d) ∷ []))

taken-push : (table : List ℕ) (e : ℕ) (xs : List ℕ) (x : ℕ) → taken_to table e (xs ++ x ∷ []) ≡ taken_to table e xs ++ cond (nat_eq (slice_index table x) e) (x ∷ []) []
taken-push table e [] x = refl
taken-push table e (y ∷ ys) x = by_test (nat_eq (slice_index table y) e) (taken_to table e (ys ++ x ∷ [])) (taken_to table e ys) (cond (nat_eq (slice_index table x) e) (x ∷ []) []) (taken-push table e ys x)
  where
    by_test : (b : Bool) (us vs ws : List ℕ) → us ≡ vs ++ ws → cond b (y ∷ us) us ≡ cond b (y ∷ vs) vs ++ ws
    by_test true us vs ws is = ap (λ l. y ∷ l) is
    by_test false us vs ws is = is

taken-one : (table : List ℕ) (e x : ℕ) → taken_to table e (x ∷ []) ≡ cond (nat_eq (slice_index table x) e) (x ∷ []) []
taken-one table e x = refl

pub image_is : {X : Type 0} (f : ℕ → X) (left : List X) (table : List ℕ) (e x : ℕ) → slice_index table x ≡ e → left ++ map f (taken_to table e (x ∷ [])) ≡ left ++ f x ∷ []
image_is f left table e x is = ap (λ l. left ++ map f l) (cond-true (nat_eq (slice_index table x) e) (x ∷ []) [] (eq-eqb (slice_index table x) e is))

pub image_not : {X : Type 0} (f : ℕ → X) (left : List X) (table : List ℕ) (e x : ℕ) → slice_index table x ≢ e → left ++ map f (taken_to table e (x ∷ [])) ≡ left
image_not f left table e x is = ap (λ l. left ++ map f l) (cond-false (nat_eq (slice_index table x) e) (x ∷ []) [] (ne_eqb (slice_index table x) e is)) ∙ append-nil left

pub taken_more : {X : Type 0} (f : ℕ → X) (before : List X) (table : List ℕ) (e : ℕ) (xs : List ℕ) (i d : ℕ) → i < length xs →
    before ++ map f (taken_to table e (take (i + 1) xs)) ≡ (before ++ map f (taken_to table e (take i xs))) ++ map f (taken_to table e (get_or xs i d ∷ []))
taken_more f before table e xs i d within =
    let x = get_or xs i d in
    let step : taken_to table e (take (i + 1) xs) ≡ taken_to table e (take i xs) ++ taken_to table e (x ∷ []) = ap (taken_to table e) (take_more xs i d within) ∙ taken-push table e (take i xs) x in
    ap (λ l. before ++ map f l) step ∙ ap (λ l. before ++ l) (map-append f (taken_to table e (take i xs)) (taken_to table e (x ∷ [])))
    ∙ sym (append_assoc before (map f (taken_to table e (take i xs))) (map f (taken_to table e (x ∷ []))))

-- ---- rows

pub made_append : (listed : List Column) (fs gs : List FlowRow) (rs ss : List SparseRow) → AreMade listed fs rs → AreMade listed gs ss → AreMade listed (fs ++ gs) (rs ++ ss)
made_append listed [] gs [] ss no_rows more = more
made_append listed [] gs (r ∷ rs) ss h more = elim h [ ]
made_append listed (f ∷ fs) gs [] ss h more = elim h [ ]
made_append listed (f ∷ fs) gs (r ∷ rs) ss (a_row made rest) more = a_row made (made_append listed fs gs rs ss rest more)

pub made_push : (listed : List Column) (fs : List FlowRow) (rs : List SparseRow) (f : FlowRow) (r : SparseRow) → AreMade listed fs rs → IsMade listed f r → AreMade listed (fs ++ f ∷ []) (rs ++ r ∷ [])
made_push listed fs rs f r made here = made_append listed fs (f ∷ []) rs (r ∷ []) made (a_row here no_rows)

pub units_held : (listed : List Column) (left : List Term) (es held : List Entry) → AreTerms listed left es → held ≡ es → All (λ e. unsigned_abs e.value ≡ 1) held
units_held listed left es held terms is = subst (All (λ (e : Entry). unsigned_abs e.value ≡ 1)) (sym is) (terms_units listed left es terms)

-- the row of lent terms is the flow row whose terms they are
pub row_held : (listed : List Column) → AreApart listed → (flow : FlowRow) (left : List Term) (w : ℤ) (es held : List Entry) (sparse : SparseRow) → AreTerms listed left es → left ≡ flow.left → held ≡ es →
    w ≡ flow.constant → IsRowOf held w sparse → IsMade listed flow sparse
row_held listed apart flow left w es held sparse terms same is right made =
    row_made listed apart flow.left flow.constant held sparse (subst (AreTerms listed flow.left) (sym is) (subst (λ (ts : List Term). AreTerms listed ts es) same terms))
    (subst (λ (z : ℤ). IsRowOf held z sparse) right made)

pub terms_begin : (listed : List Column) (es : List Entry) → es ≡ [] → AreTerms listed [] es
terms_begin listed es is = subst (AreTerms listed []) (sym is) no_terms

pub made_more : (listed : List Column) (f : ℕ → FlowRow) (flow : List FlowRow) (ds : List ℕ) (i d : ℕ) (rows more : List SparseRow) (row : SparseRow) → i < length ds →
    AreMade listed (flow ++ map f (take i ds)) rows → IsMade listed (f (get_or ds i d)) row → more ≡ rows ++ row ∷ [] → AreMade listed (flow ++ map f (take (i + 1) ds)) more
made_more listed f flow ds i d rows more row within made here is =
    subst (AreMade listed (flow ++ map f (take (i + 1) ds))) (sym is)
    (subst (λ (fs : List FlowRow). AreMade listed fs (rows ++ row ∷ [])) (sym (map_more f flow ds i d within)) (made_push listed (flow ++ map f (take i ds)) rows (f (get_or ds i d)) row made here))

pub made_end : (listed : List Column) (f : ℕ → FlowRow) (flow : List FlowRow) (ds colours : List ℕ) (i : ℕ) (rows : List SparseRow) → length ds ≤ i → ds ≡ colours →
    AreMade listed (flow ++ map f (take i ds)) rows → AreMade listed (flow ++ map f colours) rows
made_end listed f flow ds colours i rows past is made = subst (λ (cs : List ℕ). AreMade listed (flow ++ map f cs) rows) (take_all i ds past ∙ is) made

pub in_list : (xs ys : List ℕ) (i d : ℕ) → xs ≡ ys → i < length xs → IsIn ys (get_or xs i d)
in_list xs ys i d is within = subst (λ (l : List ℕ). IsIn l (get_or xs i d)) is (in_get xs i d within)

pub made_join : (listed : List Column) (colours : ℕ → List ℕ) (passing input out : ℕ) (sides : FlowRow) (flow : List FlowRow) (rows more : List SparseRow) (row : SparseRow) → input ≡ passing →
    AreMade listed (flow ++ map (same_row colours input out) (colours out)) rows → IsMade listed sides row → more ≡ rows ++ row ∷ [] →
    AreMade listed (flow ++ (map (same_row colours passing out) (colours out) ++ sides ∷ [])) more
made_join listed colours passing input out sides flow rows more row same made here is =
    subst (AreMade listed (flow ++ (map (same_row colours passing out) (colours out) ++ sides ∷ []))) (sym is)
    (subst (λ (fs : List FlowRow). AreMade listed fs (rows ++ row ∷ [])) (append_assoc flow (map (same_row colours passing out) (colours out)) (sides ∷ []))
    (made_push listed (flow ++ map (same_row colours passing out) (colours out)) rows sides row
    (subst (λ (i : ℕ). AreMade listed (flow ++ map (same_row colours i out) (colours out)) rows) same made) here))
