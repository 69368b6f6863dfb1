-- Lemmas: what sums of rows give at a point, and that bounds never add up to 0 at least 1.
use Rattle.std.proofs.Common.{◌≡◌, ℕ, zero, suc, ◌+◌, ◌≤◌, Option, Some, None, List, [], ◌∷◌, length, true}
use Rattle.std.proofs.Common.{◌&&◌, refl, sym, ◌∙◌, ap, subst, arith, pos, ℤ, ◌+ℤ◌, ◌*ℤ◌, ◌≤ℤ◌, int_eq, length-set}
use Rattle.std.proofs.Common.{add-zero}
use Rattle.std.specs.Prelude.{slice_set, slice_index_or, replicate}
use Rattle.std.proofs.lemmas.Bool.{and_parts}
use Rattle.std.proofs.lemmas.Bool.Decides.{Decides-int_eq}
use Rattle.std.proofs.lemmas.Int.{ints}
use Rattle.std.proofs.lemmas.List.{length-replicate}
use Rattle.std.proofs.lemmas.Option.{cond_some}
use Rattle.std.proofs.Math.IntN.{zero-*ℤ, *ℤ-zero}
use Rattle.xm_design.specs.Designed.{Designed}
use Rattle.xm_lits.specs.declared.literal.Lit.{Lit}
use Rattle.xm_flow.specs.ValidLemma.{Lemma}
use Rattle.xm_rows.specs.Lemmas.Integers.{assoc, distrib, distrib_right}
use Rattle.xm_proof.specs.Sums.{Sums, add_entries, add_row, all_zero, fits128, no_sums, plus_product, put}
use Rattle.xm_proof.specs.Sums.{with_constant}
use Rattle.xm_proof.specs.Tests.{queue_columns}
use Rattle.xm_proof.specs.Valid.{AddUp, Closes, has_sign, item_row, multiplier}
use Rattle.xm_proof.specs.declared.proof.Item.{Item}
use Rattle.xm_rows.specs.Row.{SparseRow, left_side}
use Rattle.xm_rows.specs.declared.row.Entry.{Entry}

-- the numbers, each times its column, numbered from k on
abbrev pub value_from : List ℤ → ℕ → (ℕ → ℤ) → ℤ
value_from [] k x = pos 0
value_from (z ∷ zs) k x = (z *ℤ x k) +ℤ value_from zs (suc k) x

value-set : (zs : List ℤ) (k c : ℕ) (p : ℤ) (x : ℕ → ℤ) → (length zs ≤ c → x (k + c) ≡ pos 0) →
    value_from (slice_set zs c (slice_index_or zs c (pos 0) +ℤ p)) k x ≡ value_from zs k x +ℤ (p *ℤ x (k + c))
value-set [] k c p x past =
    let none : p *ℤ x (k + c) ≡ pos 0 = ap (λ z. p *ℤ z) (past (omega arith)) ∙ *ℤ-zero p in omega (arith, ints)
value-set (z ∷ zs) k zero p x past =
    let here : x (k + 0) ≡ x k = ap x (add-zero k) in
    let parted = distrib_right z p (x k) in
    let at : p *ℤ x (k + 0) ≡ p *ℤ x k = ap (λ y. p *ℤ y) here in
    omega (arith, ints)
value-set (z ∷ zs) k (suc c) p x past =
    let e : suc k + c ≡ k + suc c = omega arith in
    let rest = value-set zs (suc k) c p x (λ h. ap x e ∙ past (omega arith)) in
    let at : p *ℤ x (suc k + c) ≡ p *ℤ x (k + suc c) = ap (λ y. p *ℤ y) (ap x e) in
    omega (arith, ints)

value-zeros : (n k : ℕ) (x : ℕ → ℤ) → value_from (replicate n (pos 0)) k x ≡ pos 0
value-zeros zero k x = refl
value-zeros (suc n) k x = let rest = value-zeros n (suc k) x in let none = zero-*ℤ (x k) in omega (arith, ints)

value-all_zero : (zs : List ℤ) (k : ℕ) (x : ℕ → ℤ) → all_zero zs ≡ true → value_from zs k x ≡ pos 0
value-all_zero [] k x h = refl
value-all_zero (z ∷ zs) k x h =
    let both = and_parts (int_eq z (pos 0)) (all_zero zs) h in
    let rest = value-all_zero zs (suc k) x both.1 in
    let none : z *ℤ x k ≡ pos 0 = ap (λ y. y *ℤ x k) ((Decides-int_eq z (pos 0)).0 both.0) ∙ zero-*ℤ (x k) in
    omega (arith, ints)

pub product_is : (sum factor value s : ℤ) → plus_product sum factor value ≡ Some s → s ≡ sum +ℤ (factor *ℤ value)
product_is sum factor value s h =
    let more = factor *ℤ value in sym (cond_some (fits128 more && fits128 (sum +ℤ more)) (sum +ℤ more) s h).1

abbrev sums_of : List ℤ → ℤ → Sums
sums_of zs z = record { columns = zs; constant = z }

module _ (x : ℕ → ℤ) where
  -- the columns from n on are 0
  abbrev pub EndsAt : ℕ → Type 0
  EndsAt n = (k : ℕ) → n ≤ k → x k ≡ pos 0

  -- what the entries, taken so often, make of the columns
  abbrev Adds : ℤ → List Entry → List ℤ → List ℤ → Type 0
  Adds factor es zs ws =
      (length ws ≡ length zs) × (value_from ws 0 x ≡ value_from zs 0 x +ℤ (factor *ℤ left_side es x))

  -- one more entry, where the further ones are known
  one_more : (factor : ℤ) (e : Entry) (es : List Entry) (zs ws : List ℤ) → EndsAt (length zs) →
      ((ys : List ℤ) → EndsAt (length ys) → add_entries factor es (Some ys) ≡ Some ws → Adds factor es ys ws) →
      (o : Option ℤ) → plus_product (slice_index_or zs e.column (pos 0)) factor e.value ≡ o →
      add_entries factor es (put zs e.column o) ≡ Some ws → Adds factor (e ∷ es) zs ws
  one_more factor e [] zs ws ends again None is h = cc
  one_more factor e (f ∷ es) zs ws ends again None is h = cc
  one_more factor e es zs ws ends again (Some s) is h =
      let sum = product_is (slice_index_or zs e.column (pos 0)) factor e.value s is in
      let size : length (slice_set zs e.column s) ≡ length zs = length-set zs e.column s in
      let rest = again (slice_set zs e.column s) (subst EndsAt (sym size) ends) h in
      let zero : 0 + e.column ≡ e.column = omega arith in
      let moved = value-set zs 0 e.column (factor *ℤ e.value) x (λ past. ap x zero ∙ ends e.column past) in
      let put_there : value_from (slice_set zs e.column s) 0 x
      ≡ value_from (slice_set zs e.column (slice_index_or zs e.column (pos 0) +ℤ (factor *ℤ e.value))) 0 x =
      ap (λ z. value_from (slice_set zs e.column z) 0 x) sum in
      let at : (factor *ℤ e.value) *ℤ x (0 + e.column) ≡ factor *ℤ (e.value *ℤ x e.column) =
      ap (λ y. (factor *ℤ e.value) *ℤ y) (ap x zero) ∙ sym (assoc factor e.value (x e.column)) in
      let parted = distrib factor (e.value *ℤ x e.column) (left_side es x) in
      let value : value_from ws 0 x ≡ value_from zs 0 x +ℤ (factor *ℤ left_side (e ∷ es) x) =
      omega (arith, ints, rest.1) in
      (rest.0 ∙ size, value)

  entries_value : (factor : ℤ) (es : List Entry) (zs ws : List ℤ) → EndsAt (length zs) →
      add_entries factor es (Some zs) ≡ Some ws → Adds factor es zs ws
  entries_value factor [] zs ws ends h =
      let same : zs ≡ ws = cc in
      let none = *ℤ-zero factor in
      let nothing : value_from zs 0 x ≡ value_from zs 0 x +ℤ (factor *ℤ pos 0) = omega (arith, ints) in
      (ap length (sym same), ap (λ l. value_from l 0 x) (sym same) ∙ nothing)
  entries_value factor (e ∷ es) zs ws ends h =
      one_more factor e es zs ws ends (λ ys ends_ys same. entries_value factor es ys ws ends_ys same)
      (plus_product (slice_index_or zs e.column (pos 0)) factor e.value) refl h

  -- a row, taken so often
  row_parts : (o : Option (List ℤ)) (c : Option ℤ) (t : Sums) → with_constant o c ≡ Some t →
      (o ≡ Some t.columns) × (c ≡ Some t.constant)
  row_parts None c t h = cc
  row_parts (Some zs) None t h = cc
  row_parts (Some zs) (Some z) t h =
      let same : sums_of zs z ≡ t = cc in
      (ap (λ (s : Sums). Some s.columns) same, ap (λ (s : Sums). Some s.constant) same)

  pub row_value : (factor : ℤ) (row : SparseRow) (s t : Sums) → EndsAt (length s.columns) →
      add_row factor row s ≡ Some t →
      (length t.columns ≡ length s.columns)
      × (value_from t.columns 0 x ≡ value_from s.columns 0 x +ℤ (factor *ℤ left_side row.entries x))
      × (t.constant ≡ s.constant +ℤ (factor *ℤ row.constant))
  row_value factor row s t ends h =
      let both = row_parts (add_entries factor row.entries (Some s.columns))
      (plus_product s.constant factor row.constant) t h in
      let entries = entries_value factor row.entries s.columns t.columns ends both.0 in
      (entries.0, entries.1, product_is s.constant factor row.constant t.constant both.1)

  -- each item, so often as it is taken, is a bound that holds
  abbrev pub AreBounds : Designed → List Lemma → List Lit → Type 0
  AreBounds it lemmas path = (i : Item) (row : SparseRow) → item_row it lemmas path i ≡ Some row →
      has_sign i ≡ true → (multiplier i *ℤ row.constant) ≤ℤ (multiplier i *ℤ left_side row.entries x)

  -- bounds that hold of each item hold of their sum
  pub sum_bound : (it : Designed) (lemmas : List Lemma) (path : List Lit) →
      AreBounds it lemmas path →
      (is : List Item) (s t : Sums) → EndsAt (length s.columns) → AddUp it lemmas path is s t →
      (t.constant +ℤ value_from s.columns 0 x) ≤ℤ (value_from t.columns 0 x +ℤ s.constant)
  sum_bound it lemmas path kept [] s t ends up =
      let e : s.constant ≡ t.constant = ap (λ (u : Sums). u.constant) up in
      let f : value_from s.columns 0 x ≡ value_from t.columns 0 x = ap (λ (u : Sums). value_from u.columns 0 x) up in
      omega (arith, ints)
  sum_bound it lemmas path kept (i ∷ is) s t ends up =
      let row = up.0 in
      let mid = up.1.1.1.0 in
      let added = row_value (multiplier i) row s mid ends up.1.1.1.1.0 in
      let here = kept i row up.1.0 up.1.1.0 in
      let rest = sum_bound it lemmas path kept is mid t (subst EndsAt (sym added.0) ends) up.1.1.1.1.1 in
      let value = added.1 in
      let constant = added.2 in
      omega (arith, ints)

  -- so a sum never closes
  pub no_sum : (it : Designed) (lemmas : List Lemma) (path : List Lit) (items : List Item) →
      EndsAt (length (queue_columns it)) → AreBounds it lemmas path →
      Closes it lemmas path items → ⊥
  no_sum it lemmas path items ends kept closes =
      let n = length (queue_columns it) in
      let bound = sum_bound it lemmas path kept items (no_sums n) closes.sums
      (subst EndsAt (sym (length-replicate n (pos 0))) ends) closes.add_up in
      let first = value-zeros n 0 x in
      let last = value-all_zero closes.sums.columns 0 x closes.nothing_left in
      let large = closes.large in
      absurd (omega (arith, ints))
