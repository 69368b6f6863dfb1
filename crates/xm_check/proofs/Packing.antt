-- The columns of the packets of a queue.
use Rattle.std.proofs.Common.{◌≡◌, ℕ, zero, suc, ◌+◌, ◌<◌, ◌≤◌, Some, List, [], ◌∷◌, ◌++◌, map, slice_get, length, Bool, true, false, ◌&&◌, nat_eq, nat_lt, cond, refl, sym, ◌∙◌, ap, subst, arith, inl, inr, ℤ}
use Rattle.std.specs.Prelude.{◌⊎◌, All}
use Rattle.std.proofs.lemmas.Bool.{and_from, and_parts, cases_Bool, cases_eq, cases_order, cond-true, cond-false, eq-eqb, eqb-true, ne_eqb, lt-ltb, ltb-true}
use Rattle.std.proofs.lemmas.List.{append-nil}
use Rattle.std.proofs.lemmas.List.Elements.{All-cons, All-nil}
use Rattle.xm_colours.specs.Family.{Rises}
use Rattle.xm_proof.specs.Lemmas.QueuePairs.{IsBelow, Ordered, Pair, below_apart, below_apart_back, colour_of, in_at, pairs_ordered}
use Rattle.xm_colours.specs.Pairs.{queue_pairs, queue_pairs_at}
use Rattle.xm_model.specs.Component.{Component, Fork, Function, Join, Merge, Queue, Sink, Source, Switch}
use Rattle.xm_model.specs.Membership.{IsIn}
use Rattle.xm_proof.specs.Tests.{entries_where, entry, of_pair, of_queue}
use Rattle.xm_rows.specs.declared.row.Entry.{Entry}

-- entries of pairs that pass a test
pub none_where : (test : Pair → Bool) (v : ℤ) (j : ℕ) (ps : List Pair) → ((x : Pair) → IsIn ps x → test x ≡ false) → entries_where test v j ps ≡ []
none_where test v j [] fails = refl
none_where test v j (p ∷ ps) fails =
    cond-false {A = List Entry} (test p) (entry j v ∷ entries_where test v (suc j) ps) (entries_where test v (suc j) ps) (fails p (inl refl))
    ∙ none_where test v (suc j) ps (λ x i. fails x (inr i))

pub same_where : (test other : Pair → Bool) (v : ℤ) (j : ℕ) (ps : List Pair) → ((x : Pair) → IsIn ps x → test x ≡ other x) → entries_where test v j ps ≡ entries_where other v j ps
same_where test other v j [] same = refl
same_where test other v j (p ∷ ps) same =
    ap (λ (b : Bool). cond b (entry j v ∷ entries_where test v (suc j) ps) (entries_where test v (suc j) ps)) (same p (inl refl))
    ∙ ap (λ (es : List Entry). cond (other p) (entry j v ∷ es) es) (same_where test other v (suc j) ps (λ x i. same x (inr i)))

differs : (q d : ℕ) (x : Pair) → (x.0 ≡ q → x.1 ≡ d → ⊥) → of_pair q d x ≡ false
differs q d x h = elim (cases_Bool (of_pair q d x)) [
  | inl hit ↦ (let both = and_parts (nat_eq x.0 q) (nat_eq x.1 d) hit in absurd (h (eqb-true x.0 q both.0) (eqb-true x.1 d both.1)))
  | inr miss ↦ miss
]

-- a pair has one entry
pub one_where : (q d r : ℕ) (v : ℤ) (j : ℕ) (ps : List Pair) → Ordered ps → slice_get ps r ≡ Some (q, d) → entries_where (of_pair q d) v j ps ≡ entry (j + r) v ∷ []
one_where q d r v j [] ordered h = cc
one_where q d zero v j (p ∷ ps) ordered h =
    let same : p ≡ (q, d) = cc in
    let x : p.0 ≡ q = ap (λ (y : Pair). y.0) same in let y : p.1 ≡ d = ap (λ (z : Pair). z.1) same in
    let hit = and_from (nat_eq p.0 q) (nat_eq p.1 d) (eq-eqb p.0 q x) (eq-eqb p.1 d y) in
    let rest = none_where (of_pair q d) v (suc j) ps (λ z i. differs q d z (below_apart p z q d x y (ordered.0 z i))) in
    let e : j ≡ j + 0 = omega arith in
    cond-true {A = List Entry} (of_pair q d p) (entry j v ∷ entries_where (of_pair q d) v (suc j) ps) (entries_where (of_pair q d) v (suc j) ps) hit
    ∙ ap (λ (es : List Entry). entry j v ∷ es) rest ∙ ap (λ (k : ℕ). entry k v ∷ []) e
one_where q d (suc r) v j (p ∷ ps) ordered h =
    let miss = differs q d p (below_apart_back p (q, d) q d refl refl (ordered.0 (q, d) (in_at ps r (q, d) h))) in
    let e : suc j + r ≡ j + suc r = omega arith in
    cond-false {A = List Entry} (of_pair q d p) (entry j v ∷ entries_where (of_pair q d) v (suc j) ps) (entries_where (of_pair q d) v (suc j) ps) miss
    ∙ one_where q d r v (suc j) ps ordered.1 h ∙ ap (λ (k : ℕ). entry k v ∷ []) e

-- the pairs of a queue with colours below n
abbrev pub colours_below : ℕ → ℕ → Pair → Bool
colours_below q n pair = nat_eq pair.0 q && nat_lt pair.1 n

not_below : (q n : ℕ) (x : Pair) → (x.0 ≡ q → x.1 < n → ⊥) → colours_below q n x ≡ false
not_below q n x h = elim (cases_Bool (colours_below q n x)) [
  | inl hit ↦ (let both = and_parts (nat_eq x.0 q) (nat_lt x.1 n) hit in absurd (h (eqb-true x.0 q both.0) (ltb-true x.1 n both.1)))
  | inr miss ↦ miss
]

is_below : (q n : ℕ) (x : Pair) → x.0 ≡ q → x.1 < n → colours_below q n x ≡ true
is_below q n x same low = and_from (nat_eq x.0 q) (nat_lt x.1 n) (eq-eqb x.0 q same) (lt-ltb x.1 n low)

-- what the three tests say of a pair
data Kind (q d : ℕ) (x : Pair) : Type 0 where
  Before : colours_below q (d + 1) x ≡ true → colours_below q d x ≡ true → of_pair q d x ≡ false → Kind q d x
  Here : colours_below q (d + 1) x ≡ true → colours_below q d x ≡ false → of_pair q d x ≡ true → x.0 ≡ q → x.1 ≡ d → Kind q d x
  Apart : colours_below q (d + 1) x ≡ false → colours_below q d x ≡ false → of_pair q d x ≡ false → Kind q d x

kind_of : (q d : ℕ) (x : Pair) → Kind q d x
kind_of q d x = elim (cases_eq x.0 q) [
  | inr differ ↦ Apart (not_below q (d + 1) x (λ e _. differ e)) (not_below q d x (λ e _. differ e)) (differs q d x (λ e _. differ e))
  | inl same ↦ elim (cases_order x.1 d) [
    | inl equal ↦ Here (is_below q (d + 1) x same (omega arith)) (not_below q d x (λ _ l. let low = l in omega arith)) (and_from (nat_eq x.0 q) (nat_eq x.1 d) (eq-eqb x.0 q same) (eq-eqb x.1 d equal)) same equal
    | inr apart ↦ elim apart [
      | inl low ↦ Before (is_below q (d + 1) x same (omega arith)) (is_below q d x same low) (differs q d x (λ _ e. let equal = e in omega arith))
      | inr high ↦ Apart (not_below q (d + 1) x (λ _ l. let low = l in omega arith)) (not_below q d x (λ _ l. let low = l in omega arith)) (differs q d x (λ _ e. let equal = e in omega arith))
    ]
  ]
]

three : (a b c : Bool) (e : Entry) (as' bs cs : List Entry) → as' ≡ bs ++ cs → ((a ≡ true) × (b ≡ true) × (c ≡ false)) ⊎ ((a ≡ false) × (b ≡ false) × (c ≡ false)) →
    cond a (e ∷ as') as' ≡ cond b (e ∷ bs) bs ++ cond c (e ∷ cs) cs
three a b c e as' bs cs h (inl k) = rw (k.0, k.1, k.2) (ap (λ (es : List Entry). e ∷ es) h)
three a b c e as' bs cs h (inr k) = rw (k.0, k.1, k.2) h

three_here : (a b c : Bool) (e : Entry) (as' bs cs : List Entry) → as' ≡ bs ++ cs → bs ≡ [] → a ≡ true → b ≡ false → c ≡ true →
    cond a (e ∷ as') as' ≡ cond b (e ∷ bs) bs ++ cond c (e ∷ cs) cs
three_here a b c e as' bs cs h none x y z =
    let rest : as' ≡ cs = h ∙ ap (λ (es : List Entry). es ++ cs) none in
    rw (x, y, z) (ap (λ (es : List Entry). e ∷ es) rest ∙ ap (λ (es : List Entry). es ++ (e ∷ cs)) (sym none))

above_none : (p x : Pair) (q d : ℕ) → p.0 ≡ q → p.1 ≡ d → IsBelow p x → x.0 ≡ q → x.1 < d → ⊥
above_none p x q d s t (inl low) u l = omega arith
above_none p x q d s t (inr both) u l = let high = both.1 in omega arith

-- one colour more
pub more_where : (q d : ℕ) (v : ℤ) (j : ℕ) (ps : List Pair) → Ordered ps → entries_where (colours_below q (d + 1)) v j ps ≡ entries_where (colours_below q d) v j ps ++ entries_where (of_pair q d) v j ps
more_where q d v j [] ordered = refl
more_where q d v j (p ∷ ps) ordered =
    let rest = more_where q d v (suc j) ps ordered.1 in
    let A = entries_where (colours_below q (d + 1)) v (suc j) ps in let B = entries_where (colours_below q d) v (suc j) ps in let C = entries_where (of_pair q d) v (suc j) ps in
    elim (kind_of q d p) [
      | Before x y z ↦ three (colours_below q (d + 1) p) (colours_below q d p) (of_pair q d p) (entry j v) A B C rest (inl (x, y, z))
      | Here x y z s t ↦ three_here (colours_below q (d + 1) p) (colours_below q d p) (of_pair q d p) (entry j v) A B C rest (none_where (colours_below q d) v (suc j) ps (λ u i. not_below q d u (above_none p u q d s t (ordered.0 u i)))) x y z
      | Apart x y z ↦ three (colours_below q (d + 1) p) (colours_below q d p) (of_pair q d p) (entry j v) A B C rest (inr (x, y, z))
    ]

pub no_colours : (q : ℕ) (v : ℤ) (ps : List Pair) → entries_where (colours_below q 0) v 0 ps ≡ []
no_colours q v ps = none_where (colours_below q 0) v 0 ps (λ x _. not_below q 0 x (λ _ l. let low = l in omega arith))

pub all_colours : (q n : ℕ) (v : ℤ) (ps : List Pair) → ((x : Pair) → IsIn ps x → x.0 ≡ q → x.1 < n) → entries_where (colours_below q n) v 0 ps ≡ entries_where (of_queue q) v 0 ps
all_colours q n v ps low = same_where (colours_below q n) (of_queue q) v 0 ps (λ x i. elim (cases_eq x.0 q) [
  | inl same ↦ is_below q n x same (low x i same) ∙ sym (eq-eqb x.0 q same)
  | inr differ ↦ not_below q n x (λ e _. differ e) ∙ sym (ne_eqb x.0 q differ)
])

pub no_pair : (q d : ℕ) (v : ℤ) (ps : List Pair) → ((x : Pair) → IsIn ps x → x.0 ≡ q → x.1 ≡ d → ⊥) → entries_where (of_pair q d) v 0 ps ≡ []
no_pair q d v ps none = none_where (of_pair q d) v 0 ps (λ x i. differs q d x (none x i))

-- every entry is in one of the columns
pub where_over : (test : Pair → Bool) (v : ℤ) (j n : ℕ) (ps : List Pair) → j + length ps ≡ n → All (λ (e : Entry). e.column < n) (entries_where test v j ps)
where_over test v j n [] size = All-nil (λ (e : Entry). e.column < n)
where_over test v j n (p ∷ ps) size =
    let rest = where_over test v (suc j) n ps (omega arith) in
    let low : j < n = omega arith in
    elim (test p) as (λ b. All (λ (e : Entry). e.column < n) (cond b (entry j v ∷ entries_where test v (suc j) ps) (entries_where test v (suc j) ps))) [
      | true ↦ All-cons (λ (e : Entry). e.column < n) (entry j v) (entries_where test v (suc j) ps) low rest
      | false ↦ rest
    ]

-- what is added for one colour of a queue: nothing, where the queue lacks it
pub missing : (colours : ℕ → List ℕ) (prims : List Component) (q d input out capacity : ℕ) (initial : List ℕ) (v : ℤ) (es : List Entry) → slice_get prims q ≡ Some (Queue input out capacity initial) → (IsIn (colours out) d → ⊥) →
    es ≡ es ++ entries_where (of_pair q d) v 0 (queue_pairs colours 0 prims)
missing colours prims q d input out capacity initial v es at lacks =
    let none = no_pair q d v (queue_pairs colours 0 prims) (λ x i s t. lacks (subst (λ (e : ℕ). IsIn (colours out) e) t (colour_of colours 0 q d input out capacity initial prims at x (let same = s in omega arith) i))) in
    sym (ap (λ (l : List Entry). es ++ l) none ∙ append-nil es)

pub present : (colours : ℕ → List ℕ) (prims : List Component) (q d r : ℕ) (v : ℤ) (es more : List Entry) → ((c : ℕ) → Rises (colours c)) → slice_get (queue_pairs colours 0 prims) r ≡ Some (q, d) → more ≡ es ++ entry r v ∷ [] →
    more ≡ es ++ entries_where (of_pair q d) v 0 (queue_pairs colours 0 prims)
present colours prims q d r v es more rise at pushed =
    let e : 0 + r ≡ r = omega arith in
    pushed ∙ ap (λ (l : List Entry). es ++ l) (sym (one_where q d r v 0 (queue_pairs colours 0 prims) (pairs_ordered colours 0 prims rise) at ∙ ap (λ (k : ℕ). entry k v ∷ []) e))

pub grown : (colours : ℕ → List ℕ) (prims : List Component) (q d : ℕ) (v : ℤ) (es more : List Entry) → ((c : ℕ) → Rises (colours c)) → es ≡ entries_where (colours_below q d) v 0 (queue_pairs colours 0 prims) →
    more ≡ es ++ entries_where (of_pair q d) v 0 (queue_pairs colours 0 prims) → more ≡ entries_where (colours_below q (d + 1)) v 0 (queue_pairs colours 0 prims)
grown colours prims q d v es more rise so_far added =
    added ∙ ap (λ (l : List Entry). l ++ entries_where (of_pair q d) v 0 (queue_pairs colours 0 prims)) so_far ∙ sym (more_where q d v 0 (queue_pairs colours 0 prims) (pairs_ordered colours 0 prims rise))

pub filled : (colours : ℕ → List ℕ) (prims : List Component) (q d input out capacity : ℕ) (initial : List ℕ) (v : ℤ) (es : List Entry) → slice_get prims q ≡ Some (Queue input out capacity initial) → ((e : ℕ) → IsIn (colours out) e → e < d) →
    es ≡ entries_where (colours_below q d) v 0 (queue_pairs colours 0 prims) → es ≡ entries_where (of_queue q) v 0 (queue_pairs colours 0 prims)
filled colours prims q d input out capacity initial v es at low so_far =
    so_far ∙ all_colours q d v (queue_pairs colours 0 prims) (λ x i s. low x.1 (colour_of colours 0 q d input out capacity initial prims at x (let same = s in omega arith) i))

pub over_from : (test : Pair → Bool) (v : ℤ) (ps : List Pair) (es : List Entry) → es ≡ entries_where test v 0 ps → All (λ (e : Entry). e.column < length ps) es
over_from test v ps es same = subst (λ (l : List Entry). All (λ (e : Entry). e.column < length ps) l) (sym same) (where_over test v 0 (length ps) ps (omega arith))
