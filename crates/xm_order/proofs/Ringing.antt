-- A ring is cut out of a path, and is a loop once it begins at its least signal.
use Rattle.std.proofs.Common.{◌≡◌, ℕ, suc, ◌+◌, ◌-◌, ◌<◌, ◌≤◌, List, ◌++◌, Some, length, take, drop, slice_get, refl, sym, ◌∙◌, ap, subst, inl, inr, arith, length-append, length-drop}
use Rattle.std.proofs.lemmas.List.{length-take-le, take-append-drop}
use Rattle.std.proofs.lemmas.Option.{slice_get_within}
use Rattle.xm_model.specs.Net.{Network}
use Rattle.xm_order.specs.Lemmas.Items.{append_cases, get-append_left, get-append_right}
use Rattle.xm_order.specs.Dependence.{Depends}
use Rattle.xm_order.specs.Loop.{IsLoop, rank}
use Rattle.xm_order.specs.Inner.Path.{IsPath, IsRing, LastNeeds}
use Rattle.xm_order.specs.declared.signal.Signal.{Signal}

-- the end of a path from a signal on which its last depends
pub ring_from : (net : Network) (front ring : List Signal) (τ : Signal) → IsPath net (front ++ ring) → LastNeeds net (front ++ ring) τ → slice_get ring 0 ≡ Some τ → IsRing net ring
ring_from net front ring τ path last first = record {
  is_path = record {
    distinct = λ j k σ at_j at_k. (let both = path.distinct (length front + j) (length front + k) σ (there j σ at_j) (there k σ at_k) in omega arith);
    next = λ k σ ρ at_k at_next. path.next (length front + k) σ ρ (there k σ at_k) (get-append_right front ring (suc (length front + k)) (suc k) (omega arith) ∙ at_next);
  };
  closes = λ ρ at_first σ at_last.
      let same : τ ≡ ρ = cc in
      let inside = slice_get_within ring 0 τ first in
      let end : length (front ++ ring) - 1 ≡ length front + (length ring - 1) = simp length-append (omega arith) in
      subst (λ (x : Signal). Depends net σ x) same (last σ (get-append_right front ring (length (front ++ ring) - 1) (length ring - 1) end ∙ at_last));
} where
  there : (k : ℕ) (σ : Signal) → slice_get ring k ≡ Some σ → slice_get (front ++ ring) (length front + k) ≡ Some σ
  there k σ at = get-append_right front ring (length front + k) k refl ∙ at

-- a ring turned is a loop where its first signal is the least
module _ (net : Network) (xs ys : List Signal) (ring : IsRing net (xs ++ ys)) (some : 0 < length ys) where
  at_left : (k : ℕ) (σ : Signal) → slice_get xs k ≡ Some σ → slice_get (xs ++ ys) k ≡ Some σ
  at_left k σ at = get-append_left xs ys k σ at

  at_right : (k : ℕ) (σ : Signal) → slice_get ys k ≡ Some σ → slice_get (xs ++ ys) (length xs + k) ≡ Some σ
  at_right k σ at = get-append_right xs ys (length xs + k) k refl ∙ at

  distinct : (j k : ℕ) (σ : Signal) → slice_get (ys ++ xs) j ≡ Some σ → slice_get (ys ++ xs) k ≡ Some σ → j ≡ k
  distinct j k σ at_j at_k = elim (append_cases ys xs j σ at_j) [
    | inl h ↦ elim (append_cases ys xs k σ at_k) [
      | inl i ↦ (let both = ring.is_path.distinct (length xs + j) (length xs + k) σ (at_right j σ h) (at_right k σ i) in omega arith)
      | inr w ↦ absurd (
          let both = ring.is_path.distinct (length xs + j) w.0 σ (at_right j σ h) (at_left w.0 σ w.2) in
          let inside = slice_get_within xs w.0 σ w.2 in omega arith)
    ]
    | inr v ↦ elim (append_cases ys xs k σ at_k) [
      | inl i ↦ absurd (
          let both = ring.is_path.distinct v.0 (length xs + k) σ (at_left v.0 σ v.2) (at_right k σ i) in
          let inside = slice_get_within xs v.0 σ v.2 in omega arith)
      | inr w ↦ (
          let both = ring.is_path.distinct v.0 w.0 σ (at_left v.0 σ v.2) (at_left w.0 σ w.2) in
          let here = v.1 in let there = w.1 in omega arith)
    ]
  ]

  next : (k : ℕ) (σ τ : Signal) → slice_get (ys ++ xs) k ≡ Some σ → slice_get (ys ++ xs) (suc k) ≡ Some τ → Depends net σ τ
  next k σ τ at_k at_next = elim (append_cases ys xs k σ at_k) [
    | inl h ↦ (
        let inside = slice_get_within ys k σ h in
        elim (append_cases ys xs (suc k) τ at_next) [
          | inl i ↦ ring.is_path.next (length xs + k) σ τ (at_right k σ h) (get-append_right xs ys (suc (length xs + k)) (suc k) (omega arith) ∙ i)
          | inr w ↦ (
              let e = w.1 in
              let start : w.0 ≡ 0 = omega arith in
              let end : length (xs ++ ys) - 1 ≡ length xs + k = simp length-append (omega arith) in
              ring.closes τ (subst (λ (j : ℕ). slice_get (xs ++ ys) j ≡ Some τ) start (at_left w.0 τ w.2)) σ (ap (slice_get (xs ++ ys)) end ∙ at_right k σ h))
        ])
    | inr v ↦ elim (append_cases ys xs (suc k) τ at_next) [
      | inl i ↦ absurd (let inside = slice_get_within ys (suc k) τ i in let e = v.1 in omega arith)
      | inr w ↦ (
          let e : w.0 ≡ suc v.0 = let here = v.1 in let there = w.1 in omega arith in
          ring.is_path.next v.0 σ τ (at_left v.0 σ v.2) (at_left (suc v.0) τ (subst (λ (j : ℕ). slice_get xs j ≡ Some τ) e w.2)))
    ]
  ]

  closes : (σ τ : Signal) → slice_get (ys ++ xs) (length (ys ++ xs) - 1) ≡ Some σ → slice_get (ys ++ xs) 0 ≡ Some τ → Depends net σ τ
  closes σ τ at_last at_first =
      let len : length (ys ++ xs) ≡ length ys + length xs = length-append ys xs in
      elim (append_cases ys xs 0 τ at_first) [
        | inl h ↦ elim (append_cases ys xs (length (ys ++ xs) - 1) σ at_last) [
          | inl i ↦ (
              let inside = slice_get_within ys (length (ys ++ xs) - 1) σ i in
              let none : length xs ≡ 0 = omega arith in
              let end : length (xs ++ ys) - 1 ≡ length xs + (length (ys ++ xs) - 1) = simp length-append (omega arith) in
              let start : 0 ≡ length xs + 0 = omega arith in
              ring.closes τ (get-append_right xs ys 0 0 start ∙ h) σ (ap (slice_get (xs ++ ys)) end ∙ at_right (length (ys ++ xs) - 1) σ i))
          | inr w ↦ (
              let e = w.1 in
              let inside = slice_get_within xs w.0 σ w.2 in
              let seam : suc w.0 ≡ length xs + 0 = omega arith in
              ring.is_path.next w.0 σ τ (at_left w.0 σ w.2) (get-append_right xs ys (suc w.0) 0 seam ∙ h))
        ]
        | inr v ↦ absurd (let e = v.1 in omega arith)
      ]

  pub turned_loop : ((k : ℕ) (σ τ : Signal) → slice_get ys 0 ≡ Some σ → slice_get (xs ++ ys) k ≡ Some τ → rank σ ≤ rank τ) → IsLoop net (ys ++ xs)
  turned_loop least = record {
    some = simp length-append (omega arith);
    distinct = distinct;
    next = next;
    closes = closes;
    least = λ k σ τ at_first at_k. elim (append_cases ys xs 0 σ at_first) [
      | inl h ↦ elim (append_cases ys xs k τ at_k) [
        | inl i ↦ least (length xs + k) σ τ h (at_right k τ i)
        | inr w ↦ least w.0 σ τ h (at_left w.0 τ w.2)
      ]
      | inr v ↦ absurd (let e = v.1 in omega arith)
    ];
  }

-- the head of the rest of a list
drop-head : (xs : List Signal) (i : ℕ) (σ : Signal) → i < length xs → slice_get xs i ≡ Some σ → slice_get (drop i xs) 0 ≡ Some σ
drop-head xs i σ inside at =
    let len = length-take-le i xs (omega arith) in
    sym (get-append_right (take i xs) (drop i xs) i 0 (omega arith)) ∙ ap (λ (ys : List Signal). slice_get ys i) (take-append-drop i xs) ∙ at

head-drop : (xs : List Signal) (i : ℕ) (σ : Signal) → i < length xs → slice_get (drop i xs) 0 ≡ Some σ → slice_get xs i ≡ Some σ
head-drop xs i σ inside at =
    let len = length-take-le i xs (omega arith) in
    ap (λ (ys : List Signal). slice_get ys i) (sym (take-append-drop i xs)) ∙ get-append_right (take i xs) (drop i xs) i 0 (omega arith) ∙ at

pub turned_at : (net : Network) (ring : List Signal) (i : ℕ) → IsRing net ring → i < length ring →
    ((k : ℕ) (σ τ : Signal) → slice_get ring i ≡ Some σ → slice_get ring k ≡ Some τ → rank σ ≤ rank τ) → IsLoop net (drop i ring ++ take i ring)
turned_at net ring i is_ring inside least =
    let whole = take-append-drop i ring in
    let left = length-drop i ring in
    turned_loop net (take i ring) (drop i ring) (subst (λ (xs : List Signal). IsRing net xs) (sym whole) is_ring) (omega arith)
    (λ k σ τ at_first at_k. least k σ τ (head-drop ring i σ inside at_first) (ap (λ (xs : List Signal). slice_get xs k) (sym whole) ∙ at_k))

pub ring_at : (net : Network) (path : List Signal) (i : ℕ) (τ : Signal) → IsPath net path → LastNeeds net path τ → slice_get path i ≡ Some τ → IsRing net (drop i path)
ring_at net path i τ is_path last at =
    let whole = take-append-drop i path in
    ring_from net (take i path) (drop i path) τ (subst (λ (xs : List Signal). IsPath net xs) (sym whole) is_path) (subst (λ (xs : List Signal). LastNeeds net xs τ) (sym whole) last)
    (drop-head path i τ (slice_get_within path i τ at) at)
