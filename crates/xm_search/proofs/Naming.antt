-- Constraints with the items that name them, and rows of packets.
use Rattle.std.proofs.Common.{◌≡◌, ◌≢◌, ℕ, zero, suc, ◌+◌, ◌<◌, ◌≤◌, Some, List, [], ◌∷◌, ◌++◌, length, get_or, take, map, Bool, true, false, ◌||◌, cond, inl, inr, refl, sym, ◌∙◌, ap, subst, arith, pos, ℤ, neg_ℤ, All, slice_get, append_assoc}
use Rattle.std.specs.Prelude.{OnOk, Result, Ok, Err}
use Rattle.std.proofs.lemmas.Bool.{cases_Bool, eq-eqb}
use Rattle.std.proofs.lemmas.List.{append-nil, take_more}
use Rattle.std.proofs.lemmas.List.Elements.{All-cons, All-head, All-nil, All-tail, All-weaker}
use Rattle.xm_design.specs.Designed.{Designed}
use Rattle.xm_flow.specs.ValidLemma.{Lemma}
use Rattle.xm_lits.specs.Paths.{are_same, is_on_path}
use Rattle.xm_lits.specs.declared.literal.Lit.{Lit}
use Rattle.xm_lits.specs.declared.literal.Lit.TheVariants.{Stuck, Dead, Idle, Full, Has, Lacks}
use Rattle.xm_lp.specs.declared.decision.Con.{Con}
use Rattle.xm_proof.specs.Tests.{entries_where, entry}
use Rattle.xm_proof.specs.declared.proof.Item.{Item}
use Rattle.xm_rows.specs.Row.{Fits128, IsRising, IsRow, SparseRow}
use Rattle.xm_rows.specs.declared.row.Entry.{Entry}
use Rattle.xm_search.specs.Inner.Named.{AllNamed, AreNamed, Names}
use Rattle.xm_search.specs.declared.bounds.Bounds.{Bounds}
use Rattle.std.proofs.Common.{add-one, length-take, int_eq}
use Rattle.xm_flow.specs.ValidLemma.{lemma_of}
use Rattle.xm_flow.specs.declared.invariant.Invariant.{Invariant}
use Rattle.xm_model.specs.Component.{Component, Queue}
use Rattle.xm_proof.specs.Tests.{capacity_row, is_queue, literal_row, only_where, of_pair, of_queue, queue_columns}
use Rattle.xm_proof.specs.Valid.{item_row}
use Rattle.xm_proof.specs.declared.proof.Item.TheVariants as item
use Rattle.xm_search.specs.Constraints.{capacities, equation, said, said_by, said_row}
use Rattle.xm_search.specs.Inner.Named.{HasCapacity, row_said}
use Rattle.xm_search.specs.Inner.Taken.{all_taken, lows_taken}

abbrev pub Pair : Type 0
Pair = ℕ × ℕ

pub on_ok : {T E : Type 0} (A B C : Type 0) (r : Result T E) → OnOk r A → OnOk r B → (A → B → C) → OnOk r C
on_ok A B C (Ok x) a b f = f a b
on_ok A B C (Err e) a b f = tt

pub on_ok_one : {T E : Type 0} (A C : Type 0) (r : Result T E) → OnOk r A → (A → C) → OnOk r C
on_ok_one A C (Ok x) a f = f a
on_ok_one A C (Err e) a f = tt

-- ---- named constraints

module _ (it : Designed) (lemmas : List Lemma) (path : List Lit) where
  all_pushed : (is : List Item) (cs : List Con) (i : Item) (c : Con) → Names it lemmas path i c → AllNamed it lemmas path is cs →
      AllNamed it lemmas path (is ++ i ∷ []) (cs ++ c ∷ [])
  all_pushed [] [] i c one all = (one, tt)
  all_pushed [] (d ∷ cs) i c one all = absurd all
  all_pushed (j ∷ is) [] i c one all = absurd all
  all_pushed (j ∷ is) (d ∷ cs) i c one all = (all.0, all_pushed is cs i c one all.1)

  all_at : (is : List Item) (cs : List Con) (k : ℕ) (i : Item) (c : Con) → k < length is → k < length cs → AllNamed it lemmas path is cs →
      Names it lemmas path (get_or is k i) (get_or cs k c)
  all_at [] [] k i c a b all = absurd (omega arith)
  all_at [] (d ∷ cs) k i c a b all = absurd all
  all_at (j ∷ is) [] k i c a b all = absurd all
  all_at (j ∷ is) (d ∷ cs) zero i c a b all = all.0
  all_at (j ∷ is) (d ∷ cs) (suc k) i c a b all = all_at is cs k i c (omega arith) (omega arith) all.1

  pub named_at : (b : Bounds) (k : ℕ) (i : Item) (c : Con) → k < length b.items.items → k < length b.cons.items → AreNamed it lemmas path b →
      Names it lemmas path (get_or b.items.items k i) (get_or b.cons.items k c)
  named_at b k i c one two are = all_at b.items.items b.cons.items k i c one two are.all

  pub named_pushed : (b new : Bounds) (i : Item) (c : Con) → new.cons.items ≡ b.cons.items ++ c ∷ [] → new.items.items ≡ b.items.items ++ i ∷ [] →
      Names it lemmas path i c → AreNamed it lemmas path b → AreNamed it lemmas path new
  named_pushed b new i c cons items one are = record {
    all = subst (λ (l : List Item). AllNamed it lemmas path l new.cons.items) (sym items)
        (subst (λ (l : List Con). AllNamed it lemmas path (b.items.items ++ i ∷ []) l) (sym cons) (all_pushed b.items.items b.cons.items i c one are.all));
  }

  pub none_named : (b : Bounds) → b.cons.items ≡ [] → b.items.items ≡ [] → AreNamed it lemmas path b
  none_named b cons items = record {
    all = subst (λ (l : List Item). AllNamed it lemmas path l b.cons.items) (sym items) (subst (λ (l : List Con). AllNamed it lemmas path [] l) (sym cons) tt);
  }

  below_each : (is : List Item) (cs : List Con) → AllNamed it lemmas path is cs → All (λ c. All (λ e. e.column < length (queue_columns it)) c.row.entries) cs
  below_each [] [] all = All-nil (λ (c : Con). All (λ e. e.column < length (queue_columns it)) c.row.entries)
  below_each [] (c ∷ cs) all = absurd all
  below_each (i ∷ is) [] all = absurd all
  below_each (i ∷ is) (c ∷ cs) all = All-cons (λ (d : Con). All (λ e. e.column < length (queue_columns it)) d.row.entries) c cs all.0.below (below_each is cs all.1)

  pub all_below : (b : Bounds) → AreNamed it lemmas path b → All (λ c. All (λ e. e.column < length (queue_columns it)) c.row.entries) b.cons.items
  all_below b are = below_each b.items.items b.cons.items are.all

  count_each : (is : List Item) (cs : List Con) → AllNamed it lemmas path is cs → length is ≡ length cs
  count_each [] [] all = refl
  count_each [] (c ∷ cs) all = absurd all
  count_each (i ∷ is) [] all = absurd all
  count_each (i ∷ is) (c ∷ cs) all = ap suc (count_each is cs all.1)

  pub names_count : (b : Bounds) → AreNamed it lemmas path b → length b.items.items ≡ length b.cons.items
  names_count b are = count_each b.items.items b.cons.items are.all

-- ---- rows of packets

pub where_more : (test : Pair → Bool) (v : ℤ) (j : ℕ) (ps : List Pair) (p : Pair) →
    entries_where test v j (ps ++ p ∷ []) ≡ entries_where test v j ps ++ entries_where test v (j + length ps) (p ∷ [])
where_more test v j [] p = ap (λ (k : ℕ). entries_where test v k (p ∷ [])) (let e : j ≡ j + 0 = omega arith in e)
where_more test v j (x ∷ ps) p =
    let e : suc j + length ps ≡ j + suc (length ps) = omega arith in
    let rest = where_more test v (suc j) ps p ∙ ap (λ (k : ℕ). entries_where test v (suc j) ps ++ entries_where test v k (p ∷ [])) e in
    elim (cases_Bool (test x)) [
      | inl hit ↦ rw (hit, rest) refl
      | inr miss ↦ rw (miss, rest) refl
    ]

-- entries in columns from j to below n, with one value
record AreSpread (v : ℤ) (j n : ℕ) (es : List Entry) : Type 0 where
  pub rising : IsRising es
  pub from : All (λ e. j ≤ e.column) es
  pub below : All (λ e. e.column < n) es
  pub values : All (λ e. e.value ≡ v) es

spread_more : (v : ℤ) (j n : ℕ) (es : List Entry) → j < n → AreSpread v (suc j) n es → AreSpread v j n (entry j v ∷ es)
spread_more v j n [] low are = record {
  rising = tt;
  from = All-cons (λ e. j ≤ e.column) (entry j v) [] (omega arith) (All-nil (λ e. j ≤ e.column));
  below = All-cons (λ e. e.column < n) (entry j v) [] low (All-nil (λ e. e.column < n));
  values = All-cons (λ e. e.value ≡ v) (entry j v) [] refl (All-nil (λ e. e.value ≡ v));
}
spread_more v j n (e ∷ es) low are = record {
  rising = (All-head (λ f. suc j ≤ f.column) e es are.from, are.rising);
  from = All-cons (λ f. j ≤ f.column) (entry j v) (e ∷ es) (omega arith) (All-weaker (λ f. suc j ≤ f.column) (λ f. j ≤ f.column) (λ f h. omega arith) (e ∷ es) are.from);
  below = All-cons (λ f. f.column < n) (entry j v) (e ∷ es) low are.below;
  values = All-cons (λ f. f.value ≡ v) (entry j v) (e ∷ es) refl are.values;
}

spread_later : (v : ℤ) (j n : ℕ) (es : List Entry) → AreSpread v (suc j) n es → AreSpread v j n es
spread_later v j n es are = record {
  rising = are.rising;
  from = All-weaker (λ f. suc j ≤ f.column) (λ f. j ≤ f.column) (λ f h. omega arith) es are.from;
  below = are.below;
  values = are.values;
}

spread : (test : Pair → Bool) (v : ℤ) (j n : ℕ) (ps : List Pair) → j + length ps ≡ n → AreSpread v j n (entries_where test v j ps)
spread test v j n [] size = record {
  rising = tt;
  from = All-nil (λ e. j ≤ e.column);
  below = All-nil (λ e. e.column < n);
  values = All-nil (λ e. e.value ≡ v);
}
spread test v j n (p ∷ ps) size =
    let rest = spread test v (suc j) n ps (omega arith) in
    let low : j < n = omega arith in
    elim (test p) as (λ b. AreSpread v j n (cond b (entry j v ∷ entries_where test v (suc j) ps) (entries_where test v (suc j) ps))) [
      | true ↦ spread_more v j n (entries_where test v (suc j) ps) low rest
      | false ↦ spread_later v j n (entries_where test v (suc j) ps) rest
    ]

pub where_row : (test : Pair → Bool) (v constant : ℤ) (ps : List Pair) → v ≢ pos 0 → Fits128 v → Fits128 constant →
    IsRow (record { entries = entries_where test v 0 ps; constant = constant })
where_row test v constant ps nonzero fits constant_fits =
    let are = spread test v 0 (length ps) ps (omega arith) in
    let es = entries_where test v 0 ps in
    record {
      rising = are.rising;
      nonzero = All-weaker (λ e. e.value ≡ v) (λ e. e.value ≢ pos 0) (λ e same zero. nonzero (sym same ∙ zero)) es are.values;
      fit = All-weaker (λ e. e.value ≡ v) (λ e. Fits128 e.value) (λ e same. subst Fits128 (sym same) fits) es are.values;
      constant_fits = constant_fits;
    }

pub where_below : (test : Pair → Bool) (v : ℤ) (ps : List Pair) → All (λ e. e.column < length ps) (entries_where test v 0 ps)
where_below test v ps = (spread test v 0 (length ps) ps (omega arith)).below

-- ---- literals of a path

pub same_lit : (l : Lit) → are_same l l ≡ true
same_lit (Stuck c) = eq-eqb c c refl
same_lit (Dead c d) = rw (eq-eqb c c refl, eq-eqb d d refl) refl
same_lit (Idle c d) = rw (eq-eqb c c refl, eq-eqb d d refl) refl
same_lit (Full q) = eq-eqb q q refl
same_lit (Has q d) = rw (eq-eqb q q refl, eq-eqb d d refl) refl
same_lit (Lacks q d) = rw (eq-eqb q q refl, eq-eqb d d refl) refl

pub on_path_at : (path : List Lit) (i : ℕ) (l : Lit) → i < length path → is_on_path path (get_or path i l) ≡ true
on_path_at [] i l h = absurd (omega arith)
on_path_at (m ∷ ms) zero l h = rw (same_lit m) refl
on_path_at (m ∷ ms) (suc i) l h = let rest = on_path_at ms i l (omega arith) in later (are_same m (get_or ms i l)) (is_on_path ms (get_or ms i l)) rest
  where
    later : (a b : Bool) → b ≡ true → (a || b) ≡ true
    later true b h = refl
    later false b h = h

-- ---- one more of a list

pub take_at : {A : Type 0} (xs : List A) (q : ℕ) (m : A) → slice_get xs q ≡ Some m → take (q + 1) xs ≡ take q xs ++ m ∷ []
take_at xs q m at = ap (λ (n : ℕ). take n xs) (add-one q) ∙ go xs q m at
  where
    go : {A : Type 0} (xs : List A) (q : ℕ) (m : A) → slice_get xs q ≡ Some m → take (suc q) xs ≡ take q xs ++ m ∷ []
    go [] q m at = cc
    go (x ∷ xs) zero m at = let same : x ≡ m = cc in ap (λ y. y ∷ []) same
    go (x ∷ xs) (suc q) m at = ap (λ ys. x ∷ ys) (go xs q m at)

pub where_next : (test : Pair → Bool) (v : ℤ) (ps : List Pair) (j : ℕ) (d : Pair) (now new : List Entry) → j < length ps →
    now ≡ entries_where test v 0 (take j ps) → new ≡ now ++ entries_where test v j (get_or ps j d ∷ []) → new ≡ entries_where test v 0 (take (j + 1) ps)
where_next test v ps j d now new low before after =
    let size : 0 + length (take j ps) ≡ j = omega (arith, length-take j ps) in
    after ∙ ap (λ (l : List Entry). l ++ entries_where test v j (get_or ps j d ∷ [])) before
    ∙ ap (λ (k : ℕ). entries_where test v 0 (take j ps) ++ entries_where test v k (get_or ps j d ∷ [])) (sym size)
    ∙ sym (where_more test v 0 (take j ps) (get_or ps j d)) ∙ ap (entries_where test v 0) (sym (take_more ps j d low))

taken_more : (is : List Item) (ms : List ℤ) (i : Item) (m : ℤ) → length ms ≡ length is → all_taken (is ++ i ∷ []) (ms ++ m ∷ []) ≡ all_taken is ms ++ all_taken (i ∷ []) (m ∷ [])
taken_more [] [] i m size = refl
taken_more [] (n ∷ ms) i m size = absurd (omega arith)
taken_more (j ∷ is) [] i m size = absurd (omega arith)
taken_more (j ∷ is) (n ∷ ms) i m size =
    let rest = taken_more is ms i m (omega arith) in
    elim (cases_Bool (int_eq n (pos 0))) [ inl hit ↦ rw (hit, rest) refl | inr miss ↦ rw (miss, rest) refl ]

pub taken_next : (is : List Item) (ms : List ℤ) (k : ℕ) (d : Item) (z : ℤ) (old now new : List Item) → length ms ≡ length is → k < length is →
    now ≡ old ++ all_taken (take k is) (take k ms) → new ≡ now ++ all_taken (get_or is k d ∷ []) (get_or ms k z ∷ []) →
    new ≡ old ++ all_taken (take (k + 1) is) (take (k + 1) ms)
taken_next is ms k d z old now new size low before after =
    let same : length (take k ms) ≡ length (take k is) = omega (arith, length-take k ms, length-take k is) in
    let more = all_taken (get_or is k d ∷ []) (get_or ms k z ∷ []) in
    let below : k < length ms = omega arith in
    after ∙ ap (λ (l : List Item). l ++ more) before ∙ append_assoc old (all_taken (take k is) (take k ms)) more
    ∙ ap (λ (l : List Item). old ++ l) (sym (taken_more (take k is) (take k ms) (get_or is k d) (get_or ms k z) same))
    ∙ ap (λ (l : List Item). old ++ all_taken l (take k ms ++ get_or ms k z ∷ [])) (sym (take_more is k d low))
    ∙ ap (λ (l : List ℤ). old ++ all_taken (take (k + 1) is) l) (sym (take_more ms k z below))

lows_more : (ps : List Pair) (zs : List ℤ) (p : Pair) (z : ℤ) → length zs ≡ length ps → lows_taken (ps ++ p ∷ []) (zs ++ z ∷ []) ≡ lows_taken ps zs ++ lows_taken (p ∷ []) (z ∷ [])
lows_more [] [] p z size = refl
lows_more [] (y ∷ zs) p z size = absurd (omega arith)
lows_more (q ∷ ps) [] p z size = absurd (omega arith)
lows_more (q ∷ ps) (y ∷ zs) p z size =
    let rest = lows_more ps zs p z (omega arith) in
    elim (cases_Bool (int_eq y (pos 0))) [ inl hit ↦ rw (hit, rest) refl | inr miss ↦ rw (miss, rest) refl ]

pub lows_next : (ps : List Pair) (zs : List ℤ) (k : ℕ) (d : Pair) (z : ℤ) (old now new : List Item) → length zs ≡ length ps → k < length ps →
    now ≡ old ++ lows_taken (take k ps) (take k zs) → new ≡ now ++ lows_taken (get_or ps k d ∷ []) (get_or zs k z ∷ []) →
    new ≡ old ++ lows_taken (take (k + 1) ps) (take (k + 1) zs)
lows_next ps zs k d z old now new size low before after =
    let same : length (take k zs) ≡ length (take k ps) = omega (arith, length-take k zs, length-take k ps) in
    let more = lows_taken (get_or ps k d ∷ []) (get_or zs k z ∷ []) in
    let below : k < length zs = omega arith in
    after ∙ ap (λ (l : List Item). l ++ more) before ∙ append_assoc old (lows_taken (take k ps) (take k zs)) more
    ∙ ap (λ (l : List Item). old ++ l) (sym (lows_more (take k ps) (take k zs) (get_or ps k d) (get_or zs k z) same))
    ∙ ap (λ (l : List Pair). old ++ lows_taken l (take k zs ++ get_or zs k z ∷ [])) (sym (take_more ps k d low))
    ∙ ap (λ (l : List ℤ). old ++ lows_taken (take (k + 1) ps) l) (sym (take_more zs k z below))

capacities_more : (it : Designed) (q : ℕ) (ms : List Component) (m : Component) → capacities it q (ms ++ m ∷ []) ≡ capacities it q ms ++ capacities it (q + length ms) (m ∷ [])
capacities_more it q [] m = ap (λ (k : ℕ). capacities it k (m ∷ [])) (let e : q ≡ q + 0 = omega arith in e)
capacities_more it q (x ∷ ms) m =
    let e : suc q + length ms ≡ q + suc (length ms) = omega arith in
    let rest = capacities_more it (suc q) ms m ∙ ap (λ (k : ℕ). capacities it (suc q) ms ++ capacities it k (m ∷ [])) e in
    elim (cases_Bool (is_queue (Some x))) [ inl hit ↦ rw (hit, rest) refl | inr miss ↦ rw (miss, rest) refl ]

pub capacities_next : (it : Designed) (q : ℕ) (ms : List Component) (m : Component) (old now new : List Con) → slice_get ms q ≡ Some m → q < length ms →
    now ≡ old ++ capacities it 0 (take q ms) → new ≡ now ++ capacities it q (m ∷ []) → new ≡ old ++ capacities it 0 (take (q + 1) ms)
capacities_next it q ms m old now new at low before after =
    let size : 0 + length (take q ms) ≡ q = omega (arith, length-take q ms) in
    after ∙ ap (λ (l : List Con). l ++ capacities it q (m ∷ [])) before ∙ append_assoc old (capacities it 0 (take q ms)) (capacities it q (m ∷ []))
    ∙ ap (λ (k : ℕ). old ++ (capacities it 0 (take q ms) ++ capacities it k (m ∷ []))) (sym size)
    ∙ ap (λ (l : List Con). old ++ l) (sym (capacities_more it 0 (take q ms) m))
    ∙ ap (λ (l : List Component). old ++ capacities it 0 l) (sym (take_at ms q m at))

said_more : (it : Designed) (ls : List Lit) (l : Lit) → said it (ls ++ l ∷ []) ≡ said it ls ++ said_by (said_row it l)
said_more it [] l = append-nil (said_by (said_row it l))
said_more it (m ∷ ls) l =
    ap (λ (cs : List Con). said_by (said_row it m) ++ cs) (said_more it ls l) ∙ sym (append_assoc (said_by (said_row it m)) (said it ls) (said_by (said_row it l)))

pub said_next : (it : Designed) (path : List Lit) (i : ℕ) (d : Lit) (old now new : List Con) → i < length path →
    now ≡ old ++ said it (take i path) → new ≡ now ++ said_by (said_row it (get_or path i d)) → new ≡ old ++ said it (take (i + 1) path)
said_next it path i d old now new low before after =
    let more = said_by (said_row it (get_or path i d)) in
    after ∙ ap (λ (l : List Con). l ++ more) before ∙ append_assoc old (said it (take i path)) more
    ∙ ap (λ (l : List Con). old ++ l) (sym (said_more it (take i path) (get_or path i d)))
    ∙ ap (λ (l : List Lit). old ++ said it l) (sym (take_more path i d low))

pub equations_next : (ls : List Invariant) (k : ℕ) (x : Invariant) (old now new : List Con) → k < length ls → x ≡ get_or ls k x →
    now ≡ old ++ map equation (map lemma_of (take k ls)) → new ≡ now ++ equation (lemma_of x) ∷ [] → new ≡ old ++ map equation (map lemma_of (take (k + 1) ls))
equations_next ls k x old now new low at before after =
    let last = equation (lemma_of x) ∷ [] in
    after ∙ ap (λ (l : List Con). l ++ last) before ∙ append_assoc old (map equation (map lemma_of (take k ls))) last
    ∙ ap (λ (l : List Con). old ++ l) (sym (more (take k ls) x))
    ∙ ap (λ (y : Invariant). old ++ map equation (map lemma_of (take k ls ++ y ∷ []))) at
    ∙ ap (λ (l : List Invariant). old ++ map equation (map lemma_of l)) (sym (take_more ls k x low))
  where
    more : (ls : List Invariant) (x : Invariant) → map equation (map lemma_of (ls ++ x ∷ [])) ≡ map equation (map lemma_of ls) ++ equation (lemma_of x) ∷ []
    more [] x = refl
    more (y ∷ ls) x = ap (λ (l : List Con). equation (lemma_of y) ∷ l) (more ls x)

pub mapped_at : (ls : List Invariant) (k : ℕ) (x : Invariant) → k < length ls → x ≡ get_or ls k x → slice_get (map lemma_of ls) k ≡ Some (lemma_of x)
mapped_at [] k x low at = absurd (omega arith)
mapped_at (y ∷ ls) zero x low at = ap (λ (z : Invariant). Some (lemma_of z)) (sym at)
mapped_at (y ∷ ls) (suc k) x low at = mapped_at ls k x (omega arith) at

pub mapped_all : (P : Lemma → Type 0) (ls : List Invariant) (k : ℕ) (x : Invariant) → k < length ls → x ≡ get_or ls k x → All P (map lemma_of ls) → P (lemma_of x)
mapped_all P [] k x low at all = absurd (omega arith)
mapped_all P (y ∷ ls) zero x low at all = subst (λ (z : Invariant). P (lemma_of z)) (sym at) (All-head P (lemma_of y) (map lemma_of ls) all)
mapped_all P (y ∷ ls) (suc k) x low at all = mapped_all P ls k x (omega arith) at (All-tail P (lemma_of y) (map lemma_of ls) all)

-- ---- what literals of the path say

pub said_is : (it : Designed) (l : Lit) (n : ℕ) (row : SparseRow) → HasCapacity it l n → row_said (queue_columns it) n l ≡ Some row → literal_row it l ≡ Some row
said_is it (Full q) n row has is =
    let size = has.full q refl in
    ap (λ (m : ℕ). Some (record { entries = entries_where (of_queue q) (pos 1) 0 (queue_columns it); constant = pos m })) size ∙ is
said_is it (Has q d) n row has is = is
said_is it (Lacks q d) n row has is = is
said_is it (Stuck c) n row has is = cc
said_is it (Dead c d) n row has is = cc
said_is it (Idle c d) n row has is = cc

pub path_row : (it : Designed) (lemmas : List Lemma) (path : List Lit) (l : Lit) (n : ℕ) (row : SparseRow) → HasCapacity it l n → is_on_path path l ≡ true →
    row_said (queue_columns it) n l ≡ Some row → item_row it lemmas path (item.Path l (pos 0)) ≡ Some row
path_row it lemmas path l n row has on is = let speaks = has.speaks in rw (on, speaks) (said_is it l n row has is)

pub said_below : (ps : List Pair) (l : Lit) (n : ℕ) (row : SparseRow) → row_said ps n l ≡ Some row → All (λ e. e.column < length ps) row.entries
said_below ps (Full q) n row is =
    let same : record { entries = entries_where (of_queue q) (pos 1) 0 ps; constant = pos n } ≡ row = cc in
    subst (λ (r : SparseRow). All (λ e. e.column < length ps) r.entries) same (where_below (of_queue q) (pos 1) ps)
said_below ps (Has q d) n row is =
    let same : record { entries = entries_where (of_pair q d) (pos 1) 0 ps; constant = pos 1 } ≡ row = cc in
    subst (λ (r : SparseRow). All (λ e. e.column < length ps) r.entries) same (where_below (of_pair q d) (pos 1) ps)
said_below ps (Lacks q d) n row is =
    let same : record { entries = entries_where (of_pair q d) (neg_ℤ (pos 1)) 0 ps; constant = pos 0 } ≡ row = cc in
    subst (λ (r : SparseRow). All (λ e. e.column < length ps) r.entries) same (where_below (of_pair q d) (neg_ℤ (pos 1)) ps)
said_below ps (Stuck c) n row is = cc
said_below ps (Dead c d) n row is = cc
said_below ps (Idle c d) n row is = cc

pub within : {A : Type 0} (xs : List A) (i : ℕ) (x : A) → slice_get xs i ≡ Some x → i < length xs
within [] i x at = cc
within (y ∷ ys) zero x at = omega arith
within (y ∷ ys) (suc i) x at = let rest = within ys i x at in omega arith

-- ---- capacities

pub capacity_is : (it : Designed) (q input out capacity : ℕ) (initial : List ℕ) (pairs : List Pair) (row : SparseRow) → slice_get it.net.prims q ≡ Some (Queue input out capacity initial) →
    pairs ≡ queue_columns it → row ≡ record { entries = entries_where (of_queue q) (neg_ℤ (pos 1)) 0 pairs; constant = neg_ℤ (pos capacity) } →
    only_where (is_queue (slice_get it.net.prims q)) (Some (capacity_row it q)) ≡ Some row
capacity_is it q input out capacity initial pairs row at same is =
    rw at (ap (λ (ps : List Pair). Some (record { entries = entries_where (of_queue q) (neg_ℤ (pos 1)) 0 ps; constant = neg_ℤ (pos capacity) })) (sym same) ∙ ap Some (sym is))

pub capacity_below : (it : Designed) (q capacity : ℕ) (pairs : List Pair) (row : SparseRow) → pairs ≡ queue_columns it →
    row ≡ record { entries = entries_where (of_queue q) (neg_ℤ (pos 1)) 0 pairs; constant = neg_ℤ (pos capacity) } → All (λ e. e.column < length (queue_columns it)) row.entries
capacity_below it q capacity pairs row same is =
    subst (λ (r : SparseRow). All (λ e. e.column < length (queue_columns it)) r.entries) (sym is)
    (subst (λ (n : ℕ). All (λ e. e.column < n) (entries_where (of_queue q) (neg_ℤ (pos 1)) 0 pairs)) (ap length same) (where_below (of_queue q) (neg_ℤ (pos 1)) pairs))

-- ---- the shared constraints, once those of a path are taken away

front : {A : Type 0} (n : ℕ) (xs ys zs : List A) → n ≡ length xs → ys ≡ xs ++ zs → take n ys ≡ xs
front n xs ys zs size is = ap (take n) is ∙ ap (λ (m : ℕ). take m (xs ++ zs)) size ∙ go xs zs
  where
    go : {A : Type 0} (xs zs : List A) → take (length xs) (xs ++ zs) ≡ xs
    go [] [] = refl
    go [] (z ∷ zs) = refl
    go (x ∷ xs) zs = ap (λ ys. x ∷ ys) (go xs zs)

named_front : (it : Designed) (lemmas : List Lemma) (path : List Lit) (n : ℕ) (is : List Item) (cs : List Con) → AllNamed it lemmas path is cs → AllNamed it lemmas path (take n is) (take n cs)
named_front it lemmas path zero [] [] all = tt
named_front it lemmas path zero [] (c ∷ cs) all = tt
named_front it lemmas path zero (i ∷ is) [] all = tt
named_front it lemmas path zero (i ∷ is) (c ∷ cs) all = tt
named_front it lemmas path (suc n) [] [] all = tt
named_front it lemmas path (suc n) [] (c ∷ cs) all = absurd all
named_front it lemmas path (suc n) (i ∷ is) [] all = absurd all
named_front it lemmas path (suc n) (i ∷ is) (c ∷ cs) all = (all.0, named_front it lemmas path n is cs all.1)

pub all_next : (xs : List Con) (i : ℕ) (d : Con) (old now new : List Con) → i < length xs → now ≡ old ++ take i xs → new ≡ now ++ get_or xs i d ∷ [] → new ≡ old ++ take (i + 1) xs
all_next xs i d old now new low before after =
    after ∙ ap (λ (l : List Con). l ++ get_or xs i d ∷ []) before ∙ append_assoc old (take i xs) (get_or xs i d ∷ []) ∙ ap (λ (l : List Con). old ++ l) (sym (take_more xs i d low))
