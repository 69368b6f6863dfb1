-- Items of a sum.
use Rattle.std.proofs.Common.{◌≡◌, ℕ, suc, ◌+◌, ◌<◌, Option, Some, None, Result, Ok, Err, List, [], ◌∷◌, slice_get, drop, get_or, length, set, refl, sym, ◌∙◌, ap, ℤ, add-one, drop-cons}
use Rattle.std.proofs.lemmas.List.{length-set}
use Rattle.xm_check.specs.Break.{item_test, items_test}
use Rattle.xm_check.proofs.Adding.{none_stays}
use Rattle.xm_check.specs.Inner.Touched.{number_at}
use Rattle.xm_design.specs.Designed.{Designed}
use Rattle.xm_lits.specs.declared.literal.Lit.{Lit}
use Rattle.xm_model.specs.Steps.{◌>>=◌, check, demand}
use Rattle.xm_flow.specs.ValidLemma.{Lemma}
use Rattle.xm_proof.specs.Sums.{Sums, add_entries, add_row, plus_product, put, with_constant}
use Rattle.xm_proof.specs.Valid.{has_sign, item_row, lemma_row, multiplier}
use Rattle.xm_proof.specs.declared.proof.Item.{Item}
use Rattle.xm_proof.specs.declared.proof.Item.TheVariants as item
use Rattle.xm_proof.specs.declared.verdict.Reason.{Reason}
use Rattle.xm_proof.specs.declared.verdict.Reason.TheVariants as reason
use Rattle.xm_rows.specs.Row.{SparseRow}
use Rattle.xm_rows.specs.declared.row.Entry.{Entry}

-- sums keep their columns
one_keeps : (factor : ℤ) (e : Entry) (es : List Entry) (cs after : List ℤ) (o : Option ℤ) → add_entries factor es (put cs e.column o) ≡ Some after →
    ((ds : List ℤ) → add_entries factor es (Some ds) ≡ Some after → length after ≡ length ds) → length after ≡ length cs
one_keeps factor e es cs after None g next = let none = none_stays factor es in cc
one_keeps factor e es cs after (Some z) g next = next (set cs e.column z) g ∙ length-set cs e.column z

entries_keep : (factor : ℤ) (es : List Entry) (cs after : List ℤ) → add_entries factor es (Some cs) ≡ Some after → length after ≡ length cs
entries_keep factor [] cs after h = let same : cs ≡ after = cc in ap length (sym same)
entries_keep factor (e ∷ es) cs after h = one_keeps factor e es cs after (plus_product (number_at cs e.column) factor e.value) h (λ ds g. entries_keep factor es ds after g)

ends_keep : (o : Option (List ℤ)) (z : Option ℤ) (t : Sums) → with_constant o z ≡ Some t → o ≡ Some t.columns
ends_keep None z t h = cc
ends_keep (Some cs) None t h = cc
ends_keep (Some cs) (Some z) t h = let sums : Sums = record { columns = cs; constant = z } in let same : sums ≡ t = cc in ap (λ (u : Sums). Some u.columns) same

pub row_keeps : (factor : ℤ) (row : SparseRow) (s t : Sums) → add_row factor row s ≡ Some t → length t.columns ≡ length s.columns
row_keeps factor row s t h = entries_keep factor row.entries s.columns t.columns (ends_keep (add_entries factor row.entries (Some s.columns)) (plus_product s.constant factor row.constant) t h)

parts : {A B E : Type 0} (r : Result A E) (k : A → Result B E) (y : B) → (r >>= k) ≡ Ok y → (x : A) × ((r ≡ Ok x) × (k x ≡ Ok y))
parts (Ok x) k y h = (x, (refl, h))
parts (Err e) k y h = cc

demanded : {A E : Type 0} (o : Option A) (e : E) (x : A) → demand o e ≡ Ok x → o ≡ Some x
demanded None e x h = cc
demanded (Some y) e x h = let same : y ≡ x = cc in ap Some same

pub item_keeps : (it : Designed) (lemmas : List Lemma) (path : List Lit) (i : Item) (s t : Sums) → item_test it lemmas path i s ≡ Ok t → length t.columns ≡ length s.columns
item_keeps it lemmas path i s t h =
    let a = parts (demand (item_row it lemmas path i) reason.Absent) _ t h in
    let b = parts (check (has_sign i) reason.Sign) _ t a.1.1 in
    row_keeps (multiplier i) a.0 s t (demanded (add_row (multiplier i) a.0 s) reason.Overflow t b.1.1)

pub lemma_item : (it : Designed) (lemmas : List Lemma) (path : List Lit) (k : ℕ) (m : ℤ) (s : Sums) (l : Lemma) (row : SparseRow) → slice_get lemmas k ≡ Some l → l.row ≡ row →
    item_test it lemmas path (item.Lemma k m) s ≡ demand (add_row m row s) reason.Overflow
lemma_item it lemmas path k m s l row at is =
    ap (λ (o : Option Lemma). demand (lemma_row o) reason.Absent >>= (λ (r : SparseRow). demand (add_row m r s) reason.Overflow)) at ∙ ap (λ (r : SparseRow). demand (add_row m r s) reason.Overflow) is

-- one item more
pub items_on : (it : Designed) (lemmas : List Lemma) (path : List Lit) (items : List Item) (k : ℕ) (i d : Item) (s t : Sums) (whole : Result Sums Reason) → k < length items → i ≡ get_or items k d → whole ≡ items_test it lemmas path (drop k items) s →
    item_test it lemmas path i s ≡ Ok t → whole ≡ items_test it lemmas path (drop (k + 1) items) t
items_on it lemmas path items k i d s t whole inside at so_far tested =
    so_far ∙ ap (λ (l : List Item). items_test it lemmas path l s) (drop-cons items k d inside ∙ ap (λ (x : Item). x ∷ drop (suc k) items) (sym at))
    ∙ ap (λ (r : Result Sums Reason). r >>= (λ (u : Sums). items_test it lemmas path (drop (suc k) items) u)) tested
    ∙ ap (λ (n : ℕ). items_test it lemmas path (drop n items) t) (sym (add-one k))
