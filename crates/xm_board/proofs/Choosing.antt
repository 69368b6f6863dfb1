-- Lemmas: the part that is chosen is the next.
use Rattle.std.proofs.Common.{◌≡◌, ◌<◌, ◌≤◌, ◌+◌, ℕ, zero, suc, Bool, true, false, List, [], ◌∷◌, Option, Some, None, length, min, slice_get, sym, refl, ap, ◌∙◌, subst, arith, inl, inr, ltb-true}
use Rattle.std.specs.Prelude.{◌⊎◌, ◌&&◌, nat_eq, nat_lt, not, if◌then◌else◌, slice_index_or}
use Rattle.std.specs.List.{list_any}
use Rattle.std.proofs.Math.Bool.{or-true}
use Rattle.std.proofs.lemmas.Bool.{and_from, and_parts, cases_Bool, cases_lt, cond-false, cond-true, eq-eqb, eqb-true, lt-ltb, ltb-false, not-true, or_cases}
use Rattle.std.proofs.lemmas.Option.{get_or_from_slice_get, slice_get-get_or, slice_get_within}
use Rattle.xm_board.specs.Core.{AllDone, Core, IsCore, IsFloor, IsLeastOut, IsNext, IsReady, IsWhole, NoneReady, cycle, is_out}
use Rattle.xm_board.specs.Inner.Choosing.{IsLeastBelow, best_below, better_of, first_mark, is_below, is_earlier, is_ready, none_behind}
use Rattle.xm_board.proofs.Standing.{a_ready}

-- ---- neighbours that are behind

passed : (b rest : Bool) → (if b then false else rest) ≡ true → (b ≡ false) × (rest ≡ true)
passed true rest e = absurd cc
passed false rest e = (refl, e)

not_below : (cycles : List ℕ) (y q : ℕ) → is_below y (slice_get cycles q) ≡ false → q < length cycles → y ≤ slice_index_or cycles q 0
not_below cycles y q is lt =
    let at = slice_get-get_or cycles q 0 lt in
    ltb-false (slice_index_or cycles q 0) y (ap (is_below y) (sym at) ∙ is)

none_ahead : (cycles : List ℕ) (y : ℕ) (qs : List ℕ) → none_behind cycles y qs ≡ true → (q : ℕ) → q < length cycles → list_any (nat_eq q) qs ≡ true → y ≤ slice_index_or cycles q 0
none_ahead cycles y [] is q lt near = absurd cc
none_ahead cycles y (x ∷ qs) is q lt near =
    let both = passed (is_below y (slice_get cycles x)) (none_behind cycles y qs) is in
    elim (or_cases (nat_eq q x) (list_any (nat_eq q) qs) near) [
      | inl here ↦ (let same : x ≡ q = sym (eqb-true q x here) in not_below cycles y q (ap (λ (z : ℕ). is_below y (slice_get cycles z)) (sym same) ∙ both.0) lt)
      | inr later ↦ none_ahead cycles y qs both.1 q lt later
    ]

record Behind (cycles : List ℕ) (y : ℕ) (qs : List ℕ) : Type 0 where
  part : ℕ
  inside : part < length cycles
  near : list_any (nat_eq part) qs ≡ true
  less : slice_index_or cycles part 0 < y

some_below : (y : ℕ) (o : Option ℕ) → is_below y o ≡ true → (z : ℕ) × (o ≡ Some z) × (z < y)
some_below y None e = absurd cc
some_below y (Some z) e = (z, refl, ltb-true z y e)

behind : (cycles : List ℕ) (y : ℕ) (qs : List ℕ) → none_behind cycles y qs ≡ false → Behind cycles y qs
behind cycles y [] is = absurd cc
behind cycles y (x ∷ qs) is =
    elim (cases_Bool (is_below y (slice_get cycles x))) [
      | inl t ↦ (let found = some_below y (slice_get cycles x) t in
          let value : slice_index_or cycles x 0 ≡ found.0 = get_or_from_slice_get cycles x found.0 0 found.1 in
          let lower = found.2 in
          record { part = x; inside = slice_get_within cycles x found.0 found.1; near = rw (eq-eqb x x refl) refl; less = omega arith })
      | inr f ↦ (let rest = behind cycles y qs (sym (cond-false {A = Bool} (is_below y (slice_get cycles x)) false (none_behind cycles y qs) f) ∙ is) in
          record { part = rest.part; inside = rest.inside; near = rw rest.near (or-true (nat_eq rest.part x)); less = rest.less })
    ]

-- ---- ready parts

module _ (c : Core) (whole : IsWhole c) where
  ready_is : (p : ℕ) → p < c.count → is_ready c p ≡ true → IsReady c p
  ready_is p part is =
      let a = and_parts (not (is_out c p)) _ is in
      let b = and_parts (nat_lt (cycle c p) c.target) _ a.1 in
      let same = whole.cycles in
      record {
        part = part;
        inside = not-true (is_out c p) a.0;
        early = ltb-true _ _ b.0;
        last = λ q also near. none_ahead c.cycles (cycle c p) (slice_index_or c.neighbours p []) b.1 q (omega arith) near;
      }

  none_is_behind : (p : ℕ) → IsReady c p → none_behind c.cycles (cycle c p) (slice_index_or c.neighbours p []) ≡ true
  none_is_behind p r = elim (cases_Bool (none_behind c.cycles (cycle c p) (slice_index_or c.neighbours p []))) [
    | inl t ↦ t
    | inr f ↦ (let b = behind c.cycles (cycle c p) (slice_index_or c.neighbours p []) f in
        let same = whole.cycles in let inside = b.inside in
        let le = r.last b.part (omega arith) b.near in let less = b.less in absurd (omega arith))
  ]

  is_one : (p : ℕ) → IsReady c p → is_ready c p ≡ true
  is_one p r = and_from (not (is_out c p)) _ (ap not r.inside) (and_from (nat_lt (cycle c p) c.target) _ (lt-ltb _ _ r.early) (none_is_behind p r))

  -- ---- the best so far

  record IsBest (n p : ℕ) : Type 0 where
    part : p < n
    ready : IsReady c p
    least : (q : ℕ) → q < n → IsReady c q → (cycle c p < cycle c q) ⊎ ((cycle c p ≡ cycle c q) × (p ≤ q))

  abbrev Best : ℕ → Option ℕ → Type 0
  Best n None = (q : ℕ) → q < n → IsReady c q → ⊥
  Best n (Some p) = IsBest n p

  below_or : (q n : ℕ) → q < suc n → (q < n) ⊎ (q ≡ n)
  below_or q n lt = elim (cases_lt q n) [ inl l ↦ inl l | inr g ↦ inr (omega arith) ]

  -- n comes first
  first_is : (n : ℕ) (best : Option ℕ) → IsReady c n → is_earlier c best n ≡ true → Best n best → IsBest (suc n) n
  first_is n None ready earlier before = record {
    part = omega arith;
    ready = ready;
    least = λ q lt r. elim (below_or q n lt) [ inl l ↦ absurd (before q l r) | inr e ↦ inr (ap (cycle c) (sym e), omega arith) ];
  }
  first_is n (Some b) ready earlier before = record {
    part = omega arith;
    ready = ready;
    least = λ q lt r. elim (below_or q n lt) [
      | inl l ↦ (let less = ltb-true _ _ earlier in elim (before.least q l r) [ inl m ↦ inl (omega arith) | inr m ↦ (let same = m.0 in inl (omega arith)) ])
      | inr e ↦ inr (ap (cycle c) (sym e), omega arith)
    ];
  }

  -- the best stays
  stays_best : (n : ℕ) (best : Option ℕ) → n < c.count → (is_ready c n && is_earlier c best n) ≡ false → Best n best → Best (suc n) best
  stays_best n None part fails before = λ q lt r. elim (below_or q n lt) [
    | inl l ↦ before q l r
    | inr e ↦ (let one = is_one n (subst (IsReady c) e r) in let both : (is_ready c n && true) ≡ true = and_from (is_ready c n) true one refl in absurd cc)
  ]
  stays_best n (Some b) part fails before = record {
    part = (let l = before.part in omega arith);
    ready = before.ready;
    least = λ q lt r. elim (below_or q n lt) [
      | inl l ↦ before.least q l r
      | inr e ↦ later q e r
    ];
  } where
    later : (q : ℕ) → q ≡ n → IsReady c q → (cycle c b < cycle c q) ⊎ ((cycle c b ≡ cycle c q) × (b ≤ q))
    later q e r =
        let one = is_one n (subst (IsReady c) e r) in
        let inside = before.part in
        elim (cases_Bool (nat_lt (cycle c n) (cycle c b))) [
          | inl t ↦ absurd (let both : (is_ready c n && nat_lt (cycle c n) (cycle c b)) ≡ true = and_from (is_ready c n) (nat_lt (cycle c n) (cycle c b)) one t in cc)
          | inr f ↦ (let le : cycle c b ≤ cycle c n = ltb-false _ _ f in
              let same : cycle c q ≡ cycle c n = ap (cycle c) e in
              elim (cases_lt (cycle c b) (cycle c q)) [ inl l ↦ inl l | inr g ↦ inr (omega arith, omega arith) ])
        ]

  best_more : (n : ℕ) (best : Option ℕ) → n < c.count → Best n best → Best (suc n) (better_of c best n)
  best_more n best part before = elim (cases_Bool (is_ready c n && is_earlier c best n)) [
    | inl t ↦ (let both = and_parts (is_ready c n) (is_earlier c best n) t in
        subst (Best (suc n)) (sym (cond-true {A = Option ℕ} (is_ready c n && is_earlier c best n) (Some n) best t)) (first_is n best (ready_is n part both.0) both.1 before))
    | inr f ↦ subst (Best (suc n)) (sym (cond-false {A = Option ℕ} (is_ready c n && is_earlier c best n) (Some n) best f)) (stays_best n best part f before)
  ]

  best_all : (n : ℕ) → n ≤ c.count → Best n (best_below c n)
  best_all zero le = λ q lt r. absurd (omega arith)
  best_all (suc n) le = best_more n (best_below c n) (omega arith) (best_all n (omega arith))

  pub next_is : (p : ℕ) → Some p ≡ best_below c c.count → IsNext c p
  next_is p is =
      let best : IsBest c.count p = subst (Best c.count) (sym is) (best_all c.count (omega arith)) in
      record { ready = best.ready; least = λ q r. best.least q r.part r }

  pub none_is : None ≡ best_below c c.count → NoneReady c
  none_is is =
      let none : Best c.count None = subst (Best c.count) (sym is) (best_all c.count (omega arith)) in
      λ p r. none p r.part r

-- ---- parts that are out

pub mark_found : (i p : ℕ) (marks : List Bool) → Some p ≡ first_mark i marks → (k : ℕ) × (p ≡ i + k) × (k < length marks) × (slice_index_or marks k false ≡ true) × ((j : ℕ) → slice_index_or marks j false ≡ true → k ≤ j)
mark_found i p [] is = absurd cc
mark_found i p (true ∷ marks) is = (0, (let same : p ≡ i = cc in omega arith), omega arith, refl, λ j m. omega arith)
mark_found i p (false ∷ marks) is =
    let rest = mark_found (suc i) p marks is in
    let e = rest.1 in let lt = rest.2 in
    (suc rest.0, omega arith, omega arith, rest.3, later rest.0 rest.4)
  where
    later : (k : ℕ) → ((j : ℕ) → slice_index_or marks j false ≡ true → k ≤ j) → (j : ℕ) → slice_index_or (false ∷ marks) j false ≡ true → suc k ≤ j
    later k least zero m = absurd cc
    later k least (suc j) m = let le = least j m in omega arith

pub no_mark : (i : ℕ) (marks : List Bool) → None ≡ first_mark i marks → (j : ℕ) → slice_index_or marks j false ≡ false
no_mark i [] is j = refl
no_mark i (true ∷ marks) is j = absurd cc
no_mark i (false ∷ marks) is zero = refl
no_mark i (false ∷ marks) is (suc j) = no_mark (suc i) marks is j

pub least_is : (c : Core) → IsWhole c → (p : ℕ) → Some p ≡ first_mark 0 c.out → IsLeastOut c p
least_is c whole p is =
    let found = mark_found 0 p c.out is in
    let place : p ≡ found.0 = (let e = found.1 in omega arith) in
    let same = whole.out in let lt = found.2 in
    record {
      part = omega arith;
      out = ap (is_out c) place ∙ found.3;
      least = λ q part out. (let le = found.4 q out in omega arith);
    }

-- where none is ready and none is out, all is done
pub finished_is : (c : Core) → IsCore c → NoneReady c → None ≡ first_mark 0 c.out → AllDone c
finished_is c core none is = λ p part. elim (cases_lt (cycle c p) c.target) [
  | inl early ↦ (let r = a_ready c p core part early (λ q also. no_mark 0 c.out is q) in absurd (none r.0 r.1))
  | inr late ↦ (let le = core.below p part in omega arith)
]

-- ---- the least cycle

pub least_first : (c : Core) (t : ℕ) → t ≡ cycle c 0 → IsLeastBelow c 1 t
least_first c t is = record {
  part = 0;
  inside = omega arith;
  at = sym is;
  least = λ q lt. (let same : q ≡ 0 = omega arith in let e : cycle c q ≡ cycle c 0 = ap (cycle c) same in omega arith);
}

pub least_more : (c : Core) (n t u : ℕ) → IsLeastBelow c n t → u ≡ min t (cycle c n) → IsLeastBelow c (n + 1) u
least_more c n t u so_far is = elim (cases_lt (cycle c n) t) [
  | inl less ↦ record {
    part = n;
    inside = omega arith;
    at = omega arith;
    least = λ q lt. elim (cases_lt q n) [
      | inl l ↦ (let le = so_far.least q l in omega arith)
      | inr g ↦ (let same : q ≡ n = omega arith in let e : cycle c q ≡ cycle c n = ap (cycle c) same in omega arith)
    ];
  }
  | inr more ↦ record {
    part = so_far.part;
    inside = (let l = so_far.inside in omega arith);
    at = (let e = so_far.at in omega arith);
    least = λ q lt. elim (cases_lt q n) [
      | inl l ↦ (let le = so_far.least q l in omega arith)
      | inr g ↦ (let same : q ≡ n = omega arith in let e : cycle c q ≡ cycle c n = ap (cycle c) same in omega arith)
    ];
  }
]

pub least_all : (c : Core) (n t : ℕ) → IsLeastBelow c n t → n ≡ c.count → IsFloor c t
least_all c n t all is = record {
  part = all.part;
  is_part = (let l = all.inside in omega arith);
  at = all.at;
  least = λ q lt. all.least q (omega arith);
}
