-- Lemmas: the terms of a lemma that was read make a row.
use Rattle.std.proofs.Common.{◌≡◌, ◌≢◌, ℕ, suc, Bool, true, false, List, [], ◌∷◌, Option, Some, None, Result, Ok, Err, refl, sym, subst, pos, ℤ, negsuc, int_eq, ltb-true, All, arith, FitsSigned}
use Rattle.std.specs.Int.{w128}
use Rattle.std.specs.Prelude.{◌&&◌, nat_lt, not, if◌then◌else◌, option_and_then, IfSome, IfOk}
use Rattle.std.specs.Fmt.{signed_decimal}
use Rattle.std.specs.Str.{bytes_eq}
use Rattle.std.specs.Str.Parse.{signed_digits_value}
use Rattle.std.proofs.lemmas.Bool.{and_parts}
use Rattle.std.proofs.lemmas.Bool.Decides.{Decides-int_eq}
use Rattle.std.proofs.lemmas.List.Elements.{All-cons, All-nil}
use Rattle.serde_json.specs.Data.{Data}
use Rattle.serde_json.specs.Find.{as_str}
use Rattle.xm_json.specs.Lemmas.StepFacts.{bound, checked, demanded, passed}
use Rattle.xm_json.specs.Gives.{Gives}
use Rattle.xm_json.specs.Path.{Path, place_of}
use Rattle.xm_json.specs.declared.fault.PathFault.{PathFault}
use Rattle.xm_model.specs.ListView.{ListView}
use Rattle.xm_json.specs.Values.{list_at}
use Rattle.xm_model.specs.Steps.{demand}
use Rattle.xm_proof.specs.Sums.{fits128}
use Rattle.xm_proof_reader.specs.Known.{Known, pair_from}
use Rattle.xm_proof_reader.specs.Numbers.{number_of}
use Rattle.xm_proof_reader.specs.Reading.{each_after, follows, number_at, queue_and_colour, term_at, term_in, term_of_items}
use Rattle.xm_rows.specs.Row.{Fits128, IsRising, IsRow}
use Rattle.xm_rows.specs.declared.row.Entry.{Entry}

chosen : (b : Bool) (v n : ℤ) → (if b then Some v else None) ≡ Some n → (b ≡ true) × (v ≡ n)
chosen true v n e = (refl, cc)
chosen false v n e = absurd cc

-- a number that was read fits
pub number_fits : (text : List ℕ) (n : ℤ) → number_of text ≡ Some n → Fits128 n
unfolding number_of
number_fits text n e =
    let c = chosen (fits128 (signed_digits_value 10 text) && bytes_eq (signed_decimal (signed_digits_value 10 text)) text) (signed_digits_value 10 text) n e in
    subst Fits128 c.1 (ltb-true _ _ (and_parts (fits128 (signed_digits_value 10 text)) _ c.0).0)

pub fits_found : (text : List ℕ) (found : Option ℤ) → found ≡ number_of text → IfSome found Fits128
fits_found text None is = tt
fits_found text (Some n) is = number_fits text n (sym is)

text_fits : (text : Option (List ℕ)) (n : ℤ) → option_and_then number_of text ≡ Some n → Fits128 n
text_fits None n e = absurd cc
text_fits (Some text) n e = number_fits text n e

pub read_fits : (path : Path) (d : Data) (n : ℤ) → number_at path d ≡ Ok n → Fits128 n
read_fits path d n e = text_fits (as_str d) n (demanded (option_and_then number_of (as_str d)) path n e)

term_fits : (known : Known) (path : Path) (a b c : Data) (e : Entry) → term_in known path a b c ≡ Ok e → Fits128 e.value
unfolding term_in
term_fits known path a b c e is =
    let pair = bound (queue_and_colour known path 0 a b) _ e is in
    let k = bound (demand (pair_from 0 known.pairs pair.0.0 pair.0.1) (place_of path 1)) _ e pair.2 in
    let v = bound (number_at (place_of path 2) c) _ e k.2 in
    let same : v.0 ≡ e.value = cc (v.2) in
    subst Fits128 same (read_fits _ c v.0 v.1)

items_fit : (known : Known) (path : Path) (items : List Data) (e : Entry) → term_of_items known path items ≡ Ok e → Fits128 e.value
items_fit known path [] e is = absurd cc
items_fit known path (a ∷ []) e is = absurd cc
items_fit known path (a ∷ b ∷ []) e is = absurd cc
items_fit known path (a ∷ b ∷ c ∷ []) e is = term_fits known path a b c e is
items_fit known path (a ∷ b ∷ c ∷ d ∷ more) e is = absurd cc

-- what is known of each term
record IsTerm (before : Option Entry) (e : Entry) : Type 0 where
  next : follows before e ≡ true
  fits : Fits128 e.value

term_read : (known : Known) (path : Path) (before : Option Entry) (d : Data) (e : Entry) → term_at known path before d ≡ Ok e → IsTerm before e
unfolding term_at
term_read known path before d e is =
    let items = bound (list_at path d) _ e is in
    let entry = bound (term_of_items known path items.0) _ e items.2 in
    let tested = passed _ (Ok entry.0) e entry.2 in
    let same : entry.0 ≡ e = cc (tested.1) in
    subst (IsTerm before) same (record { next = checked (follows before entry.0) path tested.0; fits = items_fit known path items.0 entry.0 entry.1 })

-- terms one after another
AreTerms : Option Entry → List Entry → Type 0
AreTerms before [] = Unit {0}
AreTerms before (e ∷ es) = IsTerm before e × AreTerms (Some e) es

terms_read : (f : Option Entry → ℕ → Data → Result Entry Path) → ((before : Option Entry) (i : ℕ) (d : Data) (e : Entry) → f before i d ≡ Ok e → IsTerm before e)
    → (before : Option Entry) (i : ℕ) (xs : List Data) (es : List Entry) → each_after f before i xs ≡ Ok es → AreTerms before es
unfolding AreTerms
terms_read f one before i [] es is = let none : [] ≡ es = cc in subst (AreTerms before) none tt
terms_read f one before i (x ∷ xs) es is =
    let first = bound (f before i x) _ es is in
    let others = bound (each_after f (Some first.0) (suc i) xs) _ es first.2 in
    let same : first.0 ∷ others.0 ≡ es = cc (others.2) in
    subst (AreTerms before) same (one before i x first.0 first.1, terms_read f one (Some first.0) (suc i) xs others.0 others.1)

unzero : (z : ℤ) → not (int_eq z (pos 0)) ≡ true → z ≢ pos 0
unzero z tested is = let zeroed : int_eq z (pos 0) ≡ true = (Decides-int_eq z (pos 0)).1 is in absurd (contradict (int_eq z (pos 0)) zeroed tested)
  where
    contradict : (b : Bool) → b ≡ true → not b ≡ true → ⊥
    contradict true p q = cc
    contradict false p q = cc

nonzero_at : (before : Option Entry) (e : Entry) → follows before e ≡ true → e.value ≢ pos 0
nonzero_at None e is = unzero e.value is
nonzero_at (Some b) e is = unzero e.value (and_parts (nat_lt b.column e.column) _ is).1

nonzero_all : (before : Option Entry) (es : List Entry) → AreTerms before es → All (λ (e : Entry). e.value ≢ pos 0) es
unfolding AreTerms
nonzero_all before [] terms = All-nil _
nonzero_all before (e ∷ es) terms = All-cons (λ (x : Entry). x.value ≢ pos 0) e es (nonzero_at before e terms.0.next) (nonzero_all (Some e) es terms.1)

fit_all : (before : Option Entry) (es : List Entry) → AreTerms before es → All (λ (e : Entry). Fits128 e.value) es
unfolding AreTerms
fit_all before [] terms = All-nil _
fit_all before (e ∷ es) terms = All-cons (λ (x : Entry). Fits128 x.value) e es terms.0.fits (fit_all (Some e) es terms.1)

rising_all : (before : Option Entry) (es : List Entry) → AreTerms before es → IsRising es
unfolding AreTerms
rising_all before [] terms = tt
rising_all before (e ∷ []) terms = tt
rising_all before (e ∷ f ∷ es) terms = (ltb-true _ _ (and_parts (nat_lt e.column f.column) _ terms.1.0.next).0, rising_all (Some e) (f ∷ es) terms.1)

-- the row of a lemma
pub row_read : (known : Known) (path : Path) (xs : List Data) (es : List Entry) (constant : ℤ) → Fits128 constant
    → each_after (λ before i x. term_at known (place_of path i) before x) None 0 xs ≡ Ok es → IsRow (record { entries = es; constant = constant })
row_read known path xs es constant fits is =
    let terms = terms_read (λ before i x. term_at known (place_of path i) before x) (λ before i d e. term_read known (place_of path i) before d e) None 0 xs es is in
    record { rising = rising_all None es terms; nonzero = nonzero_all None es terms; fit = fit_all None es terms; constant_fits = fits }

-- a number of at most 2^127 - 1 has its bits
pub in_width : (z : ℤ) → Fits128 z → FitsSigned w128 z
in_width (pos n) fits = record { sfits = omega arith }
in_width (negsuc n) fits = record { sfits = omega arith }

-- of entries that were read, or not
pub rows_read : (known : Known) (path : Path) (xs : List Data) (r : Result (ListView Entry) PathFault)
    → Gives (λ (entries : ListView Entry). entries.items) r (each_after (λ before i x. term_at known (place_of path i) before x) None 0 xs)
    → IfOk r (λ (entries : ListView Entry). (constant : ℤ) → Fits128 constant → IsRow (record { entries = entries.items; constant = constant }))
rows_read known path xs (Ok entries) is = λ constant fits. row_read known path xs entries.items constant fits is
rows_read known path xs (Err fault) is = tt
