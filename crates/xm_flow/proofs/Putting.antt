-- A value put among rising entries.
use Rattle.std.proofs.Common.{◌≡◌, ◌≢◌, ℕ, zero, suc, ◌+◌, ◌^◌, ◌<◌, ◌≤◌, ◌⊎◌, inl, inr, List, [], ◌∷◌, ◌++◌, length, length-append, get_or, take, drop, cond, nat_eq, refl, sym, ◌∙◌, ap, subst, arith, pos, negsuc, ℤ, ◌+ℤ◌, unsigned_abs, All}
use Rattle.std.proofs.Math.ListN.{set}
use Rattle.std.specs.List.{insert, remove}
use Rattle.std.proofs.lemmas.Bool.{cases_eq}
use Rattle.std.proofs.lemmas.Int.{ints}
use Rattle.std.proofs.lemmas.List.{take_more, drop_more, drop_all}
use Rattle.std.proofs.lemmas.List.Elements.{All-head, All-tail, All-cons, All-nil, All-push, All-weaker}
use Rattle.xm_rows.specs.Lemmas.Entries.{other_column, own_column, rising_above, rising_tail}
use Rattle.xm_rows.specs.Row.{Fits128, IsRising, IsRow, SparseRow, coefficient}
use Rattle.xm_rows.specs.declared.row.Entry.{Entry}
use Rattle.xm_flow.specs.Inner.Building.{IsRowOf, IsSum, Put, front, further, gone, joined}

-- ---- what the code does at a place

pub put_insert : (c : ℕ) (v : ℤ) (xs : List Entry) (p : ℕ) → p ≤ length xs → All (λ e. e.column < c) (take p xs) → All (λ e. c < e.column) (drop p xs) →
    Put c v xs (insert xs p (record { column = c; value = v }))
put_insert c v xs zero within low high = front high
put_insert c v [] (suc p) within low high = absurd (omega arith)
put_insert c v (x ∷ xs) (suc p) within low high =
    further (All-head (λ (e : Entry). e.column < c) x (take p xs) low) (put_insert c v xs p (omega arith) (All-tail (λ (e : Entry). e.column < c) x (take p xs) low) high)

pub put_set : (c : ℕ) (v : ℤ) (xs : List Entry) (p : ℕ) (d f : Entry) → p < length xs → All (λ e. e.column < c) (take p xs) → (get_or xs p d).column ≡ c → f.column ≡ c →
    f.value ≡ (get_or xs p d).value +ℤ v → f.value ≢ pos 0 → Put c v xs (set xs p f)
put_set c v [] p d f within low same f_same value nonzero = absurd (omega arith)
put_set c v (x ∷ xs) zero d f within low same f_same value nonzero = joined same f_same value nonzero
put_set c v (x ∷ xs) (suc p) d f within low same f_same value nonzero =
    further (All-head (λ (e : Entry). e.column < c) x (take p xs) low)
    (put_set c v xs p d f (omega arith) (All-tail (λ (e : Entry). e.column < c) x (take p xs) low) same f_same value nonzero)

pub put_remove : (c : ℕ) (v : ℤ) (xs : List Entry) (p : ℕ) (d : Entry) → p < length xs → All (λ e. e.column < c) (take p xs) → (get_or xs p d).column ≡ c →
    (get_or xs p d).value +ℤ v ≡ pos 0 → Put c v xs (remove xs p)
put_remove c v [] p d within low same none = absurd (omega arith)
put_remove c v (x ∷ xs) zero d within low same none = gone same none
put_remove c v (x ∷ xs) (suc p) d within low same none =
    further (All-head (λ (e : Entry). e.column < c) x (take p xs) low) (put_remove c v xs p d (omega arith) (All-tail (λ (e : Entry). e.column < c) x (take p xs) low) same none)

rising_drop : (xs : List Entry) (i : ℕ) → IsRising xs → IsRising (drop i xs)
rising_drop xs zero up = up
rising_drop [] (suc i) up = tt
rising_drop (x ∷ xs) (suc i) up = rising_drop xs i (rising_tail x xs up)

-- from the first entry in the column or above on, all are
pub high_from : (c : ℕ) (xs : List Entry) (i : ℕ) (d : Entry) → IsRising xs → i < length xs → c ≤ (get_or xs i d).column → All (λ e. c ≤ e.column) (drop i xs)
high_from c xs i d up within above =
    let is = drop_more xs i d within in
    let e = get_or xs i d in
    subst (All (λ (f : Entry). c ≤ f.column)) (sym is)
    (All-cons (λ (f : Entry). c ≤ f.column) e (drop (i + 1) xs) above
    (All-weaker (λ (f : Entry). c < f.column) (λ f. c ≤ f.column) (λ f p. omega arith) (drop (i + 1) xs) (rising_above e (drop (i + 1) xs) c above (subst IsRising is (rising_drop xs i up)))))

pub higher_from : (c : ℕ) (xs : List Entry) (i : ℕ) (d : Entry) → IsRising xs → i < length xs → c < (get_or xs i d).column → All (λ e. c < e.column) (drop i xs)
higher_from c xs i d up within above =
    let is = drop_more xs i d within in
    let e = get_or xs i d in
    subst (All (λ (f : Entry). c < f.column)) (sym is)
    (All-cons (λ (f : Entry). c < f.column) e (drop (i + 1) xs) above (rising_above e (drop (i + 1) xs) c (omega arith) (subst IsRising is (rising_drop xs i up))))

pub first_high : (c : ℕ) (xs : List Entry) (i : ℕ) (d : Entry) → i < length xs → All (λ e. c ≤ e.column) (drop i xs) → c ≤ (get_or xs i d).column
first_high c xs i d within all =
    All-head (λ (f : Entry). c ≤ f.column) (get_or xs i d) (drop (i + 1) xs) (subst (All (λ (f : Entry). c ≤ f.column)) (drop_more xs i d within) all)

pub none_high : (c : ℕ) (xs : List Entry) (i : ℕ) → length xs ≤ i → All (λ e. c < e.column) (drop i xs)
none_high c xs i past = subst (All (λ (f : Entry). c < f.column)) (sym (drop_all i xs past)) (All-nil (λ (f : Entry). c < f.column))

pub low_more : (c : ℕ) (xs : List Entry) (i : ℕ) (d : Entry) → i < length xs → All (λ e. e.column < c) (take i xs) → (get_or xs i d).column < c → All (λ e. e.column < c) (take (i + 1) xs)
low_more c xs i d within all here =
    subst (All (λ (f : Entry). f.column < c)) (sym (take_more xs i d within)) (All-push (λ (f : Entry). f.column < c) (take i xs) (get_or xs i d) all here)

-- ---- what a put entry means

put_coefficient : (c : ℕ) (v : ℤ) (xs ys : List Entry) (k : ℕ) → Put c v xs ys → coefficient ys k ≡ cond (nat_eq c k) v (pos 0) +ℤ coefficient xs k
put_coefficient c v xs ys k (front high) = refl
put_coefficient c v (e ∷ es) (f ∷ fs) k (joined same f_same value nonzero) =
    elim (cases_eq c k) [
      | inl is ↦
          let a = own_column e.column k e.value (same ∙ is) in
          let b = own_column f.column k f.value (f_same ∙ is) in
          let d = own_column c k v is in
          omega (arith, ints)
      | inr other ↦
          let a = other_column e.column k e.value (λ h. other (sym same ∙ h)) in
          let b = other_column f.column k f.value (λ h. other (sym f_same ∙ h)) in
          let d = other_column c k v other in
          omega (arith, ints)
    ]
put_coefficient c v (e ∷ es) ys k (gone same none) =
    elim (cases_eq c k) [
      | inl is ↦ let a = own_column e.column k e.value (same ∙ is) in let d = own_column c k v is in omega (arith, ints)
      | inr other ↦ let a = other_column e.column k e.value (λ h. other (sym same ∙ h)) in let d = other_column c k v other in omega (arith, ints)
    ]
put_coefficient c v (e ∷ es) (g ∷ next) k (further low put) = let rest = put_coefficient c v es next k put in omega (arith, ints)

put_to : (P Q : Entry → Type 0) (c : ℕ) (v : ℤ) (xs ys : List Entry) → Put c v xs ys → Q (record { column = c; value = v }) →
    ((e f : Entry) → P e → e.column ≡ c → f.column ≡ c → f.value ≡ e.value +ℤ v → f.value ≢ pos 0 → Q f) → ((e : Entry) → P e → Q e) → All P xs → All Q ys
put_to P Q c v xs ys (front high) new step weaker all = All-cons Q (record { column = c; value = v }) xs new (All-weaker P Q weaker xs all)
put_to P Q c v (e ∷ es) (f ∷ fs) (joined same f_same value nonzero) new step weaker all =
    All-cons Q f es (step e f (All-head P e es all) same f_same value nonzero) (All-weaker P Q weaker es (All-tail P e es all))
put_to P Q c v (e ∷ es) ys (gone same none) new step weaker all = All-weaker P Q weaker es (All-tail P e es all)
put_to P Q c v (e ∷ es) (g ∷ next) (further low put) new step weaker all =
    All-cons Q e next (weaker e (All-head P e es all)) (put_to P Q c v es next put new step weaker (All-tail P e es all))

put_all : (P : Entry → Type 0) (c : ℕ) (v : ℤ) (xs ys : List Entry) → Put c v xs ys → P (record { column = c; value = v }) →
    ((e f : Entry) → P e → e.column ≡ c → f.column ≡ c → f.value ≡ e.value +ℤ v → f.value ≢ pos 0 → P f) → All P xs → All P ys
put_all P c v xs ys put new step all = put_to P P c v xs ys put new step (λ e p. p) all

rising_cons : (e : Entry) (es : List Entry) → All (λ f. e.column < f.column) es → IsRising es → IsRising (e ∷ es)
rising_cons e [] all up = tt
rising_cons e (f ∷ es) all up = (All-head (λ g. e.column < g.column) f es all, up)

put_above : (m c : ℕ) (v : ℤ) (xs ys : List Entry) → Put c v xs ys → m < c → All (λ e. m < e.column) xs → All (λ e. m < e.column) ys
put_above m c v xs ys put low all = put_all (λ e. m < e.column) c v xs ys put low (λ e f h same f_same value nonzero. omega arith) all

put_rising : (c : ℕ) (v : ℤ) (xs ys : List Entry) → Put c v xs ys → IsRising xs → IsRising ys
put_rising c v xs ys (front high) up = rising_cons (record { column = c; value = v }) xs high up
put_rising c v (e ∷ es) (f ∷ fs) (joined same f_same value nonzero) up =
    let above = rising_above e es c (omega arith) up in
    rising_cons f es (All-weaker (λ (g : Entry). c < g.column) (λ g. f.column < g.column) (λ g p. omega arith) es above) (rising_tail e es up)
put_rising c v (e ∷ es) ys (gone same none) up = rising_tail e es up
put_rising c v (e ∷ es) (g ∷ next) (further low put) up =
    rising_cons e next (put_above e.column c v es next put low (rising_above e es e.column (omega arith) up)) (put_rising c v es next put (rising_tail e es up))

-- ---- and so entries count one more term

abs_sum : (a b : ℤ) → unsigned_abs (a +ℤ b) ≤ unsigned_abs a + unsigned_abs b
abs_sum a b = omega (arith, ints)

coefficient-push : (xs : List Entry) (e : Entry) (k : ℕ) → coefficient (xs ++ e ∷ []) k ≡ coefficient xs k +ℤ cond (nat_eq e.column k) e.value (pos 0)
coefficient-push [] e k = omega (arith, ints)
coefficient-push (x ∷ xs) e k = let rest = coefficient-push xs e k in omega (arith, ints)

pub sum_none : IsSum [] []
sum_none = record {
  rising = tt;
  nonzero = All-nil (λ (e : Entry). e.value ≢ pos 0);
  small = All-nil (λ (e : Entry). unsigned_abs e.value ≤ 0);
  within = λ n all. all;
  same = λ j. refl;
}

pub sum_more : (given : List Entry) (e : Entry) (xs ys : List Entry) → unsigned_abs e.value ≡ 1 → IsSum given xs → Put e.column e.value xs ys → IsSum (given ++ e ∷ []) ys
sum_more given e xs ys unit h put =
    let len = length-append given (e ∷ []) in
    let nonzero : e.value ≢ pos 0 = λ is. (let z = ap unsigned_abs is in absurd (omega arith)) in
    record {
      rising = put_rising e.column e.value xs ys put h.rising;
      nonzero = put_all (λ f. f.value ≢ pos 0) e.column e.value xs ys put nonzero (λ f g p same g_same value some. some) h.nonzero;
      small = put_to (λ f. unsigned_abs f.value ≤ length given) (λ f. unsigned_abs f.value ≤ length (given ++ e ∷ [])) e.column e.value xs ys put (omega arith)
          (λ f g p same g_same value some. let bound = abs_sum f.value e.value in let is = ap unsigned_abs value in omega arith) (λ f p. omega arith) h.small;
      within = λ n all. put_all (λ f. f.column < n) e.column e.value xs ys put (All-last (λ (f : Entry). f.column < n) given e all)
          (λ f g p same g_same value some. omega arith) (h.within n (All-before (λ (f : Entry). f.column < n) given e all));
      same = λ j. let before = h.same j in let here = put_coefficient e.column e.value xs ys j put in let pushed = coefficient-push given e j in omega (arith, ints);
    }
  where
    All-last : (P : Entry → Type 0) (xs : List Entry) (x : Entry) → All P (xs ++ x ∷ []) → P x
    All-last P [] x all = All-head P x [] all
    All-last P (y ∷ ys) x all = All-last P ys x (All-tail P y (ys ++ x ∷ []) all)

    All-before : (P : Entry → Type 0) (xs : List Entry) (x : Entry) → All P (xs ++ x ∷ []) → All P xs
    All-before P [] x all = All-nil P
    All-before P (y ∷ ys) x all = All-cons P y ys (All-head P y (ys ++ x ∷ []) all) (All-before P ys x (All-tail P y (ys ++ x ∷ []) all))

pub sum_step : (terms : List Entry) (i : ℕ) (d e : Entry) (xs ys : List Entry) → i < length terms → e ≡ get_or terms i d → All (λ f. unsigned_abs f.value ≡ 1) terms → IsSum (take i terms) xs →
    (v : ℤ) → v ≡ e.value → Put e.column v xs ys → IsSum (take (i + 1) terms) ys
sum_step terms i d e xs ys within is units h v same put =
    subst (λ (l : List Entry). IsSum l ys) (ap (λ (f : Entry). take i terms ++ f ∷ []) is ∙ sym (take_more terms i d within))
    (sum_more (take i terms) e xs ys (subst (λ (f : Entry). unsigned_abs f.value ≡ 1) (sym is) (unit_at terms i d within units)) h (subst (λ (z : ℤ). Put e.column z xs ys) same put))
  where
    unit_at : (xs : List Entry) (i : ℕ) (d : Entry) → i < length xs → All (λ f. unsigned_abs f.value ≡ 1) xs → unsigned_abs (get_or xs i d).value ≡ 1
    unit_at [] i d within all = absurd (omega arith)
    unit_at (x ∷ xs) zero d within all = All-head (λ (f : Entry). unsigned_abs f.value ≡ 1) x xs all
    unit_at (x ∷ xs) (suc i) d within all = unit_at xs i d (omega arith) (All-tail (λ (f : Entry). unsigned_abs f.value ≡ 1) x xs all)

pub small_from : (given xs : List Entry) → length given < 2 ^ 64 → IsSum given xs → All (λ e. unsigned_abs e.value < 2 ^ 64) xs
small_from given xs few h = All-weaker (λ (e : Entry). unsigned_abs e.value ≤ length given) (λ e. unsigned_abs e.value < 2 ^ 64) (λ e p. omega arith) xs h.small

pub row_from : (given entries : List Entry) (constant : ℤ) → length given < 2 ^ 64 → Fits128 constant → IsSum given entries → IsRow (record { entries = entries; constant = constant })
row_from given entries constant few fits h = record {
  rising = h.rising;
  nonzero = h.nonzero;
  fit = All-weaker (λ (e : Entry). unsigned_abs e.value ≤ length given) (λ e. Fits128 e.value) (λ e p. omega arith) entries h.small;
  constant_fits = fits;
}

-- ---- the code's answers, where it looks at a lent list

pub higher_held : (c : ℕ) (xs held : List Entry) (p : ℕ) (d : Entry) → held ≡ xs → IsRising xs → p ≤ length held → p ≢ length held → c < (get_or held p d).column →
    All (λ e. c < e.column) (drop p xs)
higher_held c xs held p d is up within other above =
    subst (λ (l : List Entry). All (λ e. c < e.column) (drop p l)) is (higher_from c held p d (subst IsRising (sym is) up) (omega arith) above)

pub put_held : (c : ℕ) (v : ℤ) (xs held ys : List Entry) (p : ℕ) (d : Entry) (sum : ℤ) → held ≡ xs → p ≤ length held → p ≢ length held → All (λ e. e.column < c) (take p held) →
    All (λ e. c ≤ e.column) (drop p held) → (get_or held p d).column ≤ c → sum ≡ (get_or held p d).value +ℤ v →
    (sum ≢ pos 0 → ys ≡ set xs p (record { column = c; value = sum })) → (sum ≡ pos 0 → ys ≡ remove xs p) → Put c v xs ys
put_held c v xs held ys p d sum is within other low high below sum_is some none =
    let inside : p < length held = omega arith in
    let from = first_high c held p d inside high in
    let here : (get_or held p d).column ≡ c = omega arith in
    elim (zero_or_other sum) [
      | inl nothing ↦
          subst (λ (l : List Entry). Put c v l ys) is (subst (Put c v held) (sym (none nothing ∙ ap (λ (l : List Entry). remove l p) (sym is)))
          (put_remove c v held p d inside low here (sym sum_is ∙ nothing)))
      | inr left ↦
          subst (λ (l : List Entry). Put c v l ys) is (subst (Put c v held) (sym (some left ∙ ap (λ (l : List Entry). set l p (record { column = c; value = sum })) (sym is)))
          (put_set c v held p d (record { column = c; value = sum }) inside low here refl sum_is left))
    ]
  where
    zero_or_other : (z : ℤ) → (z ≡ pos 0) ⊎ (z ≢ pos 0)
    zero_or_other (pos zero) = inl refl
    zero_or_other (pos (suc n)) = inr (λ h. absurd (omega (arith, ints)))
    zero_or_other (negsuc n) = inr (λ h. absurd (omega (arith, ints)))

-- the row that holds the entries, where they are lent
pub row_held : (given entries held : List Entry) (constant w : ℤ) → length given < 2 ^ 64 → Fits128 constant → IsSum given entries → held ≡ entries → w ≡ constant →
    IsRow (record { entries = held; constant = w })
row_held given entries held constant w few fits h is same =
    subst (λ (es : List Entry). IsRow (record { entries = es; constant = w })) (sym is) (subst (λ (z : ℤ). IsRow (record { entries = entries; constant = z })) (sym same) (row_from given entries constant few fits h))

pub row_of_held : (given entries held : List Entry) (constant w : ℤ) (row : SparseRow) → length given < 2 ^ 64 → Fits128 constant → IsSum given entries → held ≡ entries → w ≡ constant →
    row ≡ record { entries = held; constant = w } → IsRowOf given constant row
row_of_held given entries held constant w row few fits h held_is same is =
    subst (IsRowOf given constant) (sym is)
    (record { row = row_held given entries held constant w few fits h held_is same; entries = subst (IsSum given) (sym held_is) h; constant = same })
