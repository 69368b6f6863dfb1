-- What the steps of a post make of what a board keeps.
use Rattle.std.proofs.Common.{◌≡◌, ◌≢◌, ℕ, zero, suc, ◌+◌, ◌<◌, ◌≤◌, Bool, List, [], ◌∷◌, ◌++◌, length, map, take, set, get_or, Some, slice_get, refl, ap, sym, ◌∙◌, subst, inl, inr, arith, append_assoc}
use Rattle.std.proofs.lemmas.Bool.{cases_lt}
use Rattle.std.proofs.lemmas.Bool.Decides.{eqb_tells}
use Rattle.std.proofs.lemmas.Option.{same_Some, slice_get-get_or, slice_get-map}
use Rattle.std.proofs.lemmas.List.{append-nil}
use Rattle.xm_board.proofs.Keeping.{is_at}
use Rattle.xm_board.specs.Inner.Posting.{HasHeard, IsRisen, IsTold, moves_on}
use Rattle.xm_board.specs.declared.row_log.RowLog.{RowLog}
use Rattle.xm_board.specs.declared.two_cycles.TwoCycles.{TwoCycles}
use Rattle.xm_model.specs.Net.{Network}
use Rattle.xm_model.specs.Next.{move}
use Rattle.xm_model.specs.Signals.{Signals, only_if}
use Rattle.xm_model.specs.declared.state.Wire.{Wire}
use Rattle.xm_order.specs.Lemmas.Items.{get-set_other}
use Rattle.xm_parts.specs.Projection.{wire_of}
use Rattle.xm_trace.specs.Moves.{moved_on}
use Rattle.xm_trace.specs.declared.trace.Move.{Move}

-- ---- rows that go

module _ (old now : List RowLog) (p : ℕ) (log d : RowLog) (inside : p < length now) (here : IsRisen (get_or now p d) log) (rest : (q : ℕ) → p ≤ q → slice_get now q ≡ slice_get old q)
  where
    pub risen_more : ((q : ℕ) (was x : RowLog) → q < p → slice_get old q ≡ Some was → slice_get now q ≡ Some x → IsRisen was x) → (q : ℕ) (was x : RowLog) → q < p + 1 → slice_get old q ≡ Some was → slice_get (set now p log) q ≡ Some x → IsRisen was x
    risen_more so_far q was x h at_old at_new =
        elim (eqb_tells q p) [
          | inl t ↦
              let new : log ≡ x = is_at now p log x inside (ap (slice_get (set now p log)) (sym t.1) ∙ at_new) in
              let there : slice_get now p ≡ Some (get_or now p d) = slice_get-get_or now p d inside in
              let before : Some (get_or now p d) ≡ Some was = sym there ∙ (rest p (omega arith) ∙ (ap (slice_get old) (sym t.1) ∙ at_old)) in
              subst (λ (y : RowLog). IsRisen y x) (same_Some _ _ before) (subst (λ (y : RowLog). IsRisen (get_or now p d) y) new here)
          | inr t ↦ so_far q was x (let ne = t.1 in omega arith) at_old (sym (get-set_other now p q log t.1) ∙ at_new)
        ]

    pub rest_more : (q : ℕ) → p + 1 ≤ q → slice_get (set now p log) q ≡ slice_get old q
    rest_more q h = let ne : q ≢ p = omega arith in get-set_other now p q log ne ∙ rest q (omega arith)

-- ---- moves that come

pub moves_on-append : (φ : Signals) (t : ℕ) (cs ds : List ℕ) → moves_on φ t (cs ++ ds) ≡ moves_on φ t cs ++ moves_on φ t ds
moves_on-append φ t [] ds = refl
moves_on-append φ t (c ∷ cs) ds = ap (λ (ms : List Move). moved_on t c (move φ c) ++ ms) (moves_on-append φ t cs ds) ∙ sym (append_assoc (moved_on t c (move φ c)) (moves_on φ t cs) (moves_on φ t ds))

pub taken_next : {X : Type 0} (xs : List X) (k : ℕ) (x : X) → slice_get xs k ≡ Some x → take (suc k) xs ≡ take k xs ++ x ∷ []
taken_next [] k x e = absurd cc
taken_next (y ∷ ys) zero x e = let same : y ≡ x = same_Some _ _ e in ap (λ z. z ∷ []) same
taken_next (y ∷ ys) (suc k) x e = ap (λ zs. y ∷ zs) (taken_next ys k x e)

pub moves_next : (φ : Signals) (t : ℕ) (channels : List ℕ) (wires : List Wire) (k c : ℕ) (w : Wire) (before after start : List Move) → slice_get channels k ≡ Some c → slice_get wires k ≡ Some w → wires ≡ map (wire_of φ) channels → before ≡ start ++ moves_on φ t (take k channels) → after ≡ before ++ moved_on t c (only_if w.ready w.offer) → after ≡ start ++ moves_on φ t (take (k + 1) channels)
moves_next φ t channels wires k c w before after start at there are so_far is =
    let image : slice_get (map (wire_of φ) channels) k ≡ Some (wire_of φ c) = rw (slice_get-map (wire_of φ) channels k, at) refl in
    let shown : Some w ≡ Some (wire_of φ c) = sym there ∙ (ap (λ (ws : List Wire). slice_get ws k) are ∙ image) in
    let wire : w ≡ wire_of φ c = same_Some _ _ shown in
    let one : moved_on t c (only_if w.ready w.offer) ≡ moved_on t c (move φ c) = ap (λ (v : Wire). moved_on t c (only_if v.ready v.offer)) wire in
    let next : suc k ≡ k + 1 = omega arith in
    let last : moves_on φ t (take (k + 1) channels) ≡ moves_on φ t (take k channels) ++ moved_on t c (move φ c) =
    ap (λ n. moves_on φ t (take n channels)) (sym next) ∙ (ap (moves_on φ t) (taken_next channels k c at) ∙ (moves_on-append φ t (take k channels) (c ∷ []) ∙ ap (λ (ms : List Move). moves_on φ t (take k channels) ++ ms) (append-nil (moved_on t c (move φ c))))) in
    is ∙ (ap (λ (ms : List Move). ms ++ moved_on t c (only_if w.ready w.offer)) so_far ∙ (ap (λ (ms : List Move). (start ++ moves_on φ t (take k channels)) ++ ms) one ∙ (append_assoc start (moves_on φ t (take k channels)) (moved_on t c (move φ c)) ∙ ap (λ (ms : List Move). start ++ ms) (sym last))))

-- ---- what is told

told_twice : (net : Network) (label : ℕ → ℕ) (p q : ℕ) (level : Bool) (a b c : TwoCycles) → IsTold net label p q level a b → IsTold net label p q level b c → IsTold net label p q level a c
told_twice net label p q level a b c one two = record {
  now_whole = two.now_whole ∙ one.now_whole;
  next_whole = two.next_whole ∙ one.next_whole;
  now_rest = λ r k d cut ne. two.now_rest r k d cut ne ∙ one.now_rest r k d cut ne;
  next_rest = λ r k d cut ne. two.next_rest r k d cut ne ∙ one.next_rest r k d cut ne;
  next_same = λ h. two.next_same h ∙ one.next_same h;
  now_same = λ h. two.now_same h ∙ one.now_same h;
}

module _ (net : Network) (label : ℕ → ℕ) (p : ℕ) (wires : List Wire) (level : ℕ → Bool) (old now : List TwoCycles) (near : List ℕ) (k q : ℕ) (it d : TwoCycles) (at : slice_get near k ≡ Some q) (inside : q < length now) (told : IsTold net label p q (level q) (get_or now q d) it) (heard : HasHeard net label p q wires (level q) it)
  where
    pub told_more : ((r : ℕ) (was x : TwoCycles) → slice_get old r ≡ Some was → slice_get now r ≡ Some x → IsTold net label p r (level r) was x) → (r : ℕ) (was x : TwoCycles) → slice_get old r ≡ Some was → slice_get (set now q it) r ≡ Some x → IsTold net label p r (level r) was x
    told_more so_far r was x at_old at_new =
        elim (eqb_tells r q) [
          | inl t ↦
              let new : it ≡ x = is_at now q it x inside (ap (slice_get (set now q it)) (sym t.1) ∙ at_new) in
              let before = so_far q was (get_or now q d) (ap (slice_get old) (sym t.1) ∙ at_old) (slice_get-get_or now q d inside) in
              let both = told_twice net label p q (level q) was (get_or now q d) it before told in
              subst (λ (s : ℕ). IsTold net label p s (level s) was x) (sym t.1) (subst (λ (y : TwoCycles). IsTold net label p q (level q) was y) new both)
          | inr t ↦ so_far r was x at_old (sym (get-set_other now q r it t.1) ∙ at_new)
        ]

    pub heard_more : ((j r : ℕ) (x : TwoCycles) → j < k → slice_get near j ≡ Some r → slice_get now r ≡ Some x → HasHeard net label p r wires (level r) x) → (j r : ℕ) (x : TwoCycles) → j < k + 1 → slice_get near j ≡ Some r → slice_get (set now q it) r ≡ Some x → HasHeard net label p r wires (level r) x
    heard_more so_far j r x h at_near at_new =
        elim (eqb_tells r q) [
          | inl t ↦
              let new : it ≡ x = is_at now q it x inside (ap (slice_get (set now q it)) (sym t.1) ∙ at_new) in
              subst (λ (s : ℕ). HasHeard net label p s wires (level s) x) (sym t.1) (subst (λ (y : TwoCycles). HasHeard net label p q wires (level q) y) new heard)
          | inr t ↦ elim (cases_lt j k) [
            | inl less ↦ so_far j r x less at_near (sym (get-set_other now q r it t.1) ∙ at_new)
            | inr more ↦ absurd (t.1 (let same : j ≡ k = omega arith in same_Some _ _ (sym at_near ∙ (ap (slice_get near) same ∙ at))))
          ]
        ]
