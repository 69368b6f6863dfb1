-- The moves of all parts are taken in the order of the run.
use Rattle.std.proofs.Common.{◌≡◌, ◌≢◌, ℕ, zero, suc, ◌+◌, ◌-◌, ◌<◌, ◌≤◌, Bool, true, false, List, [], ◌∷◌, ◌++◌, length, set, eq-eqb, Option, Some, None, slice_get, refl, ap, sym, ◌∙◌, subst, inl, inr, arith, append_assoc, length-append}
use Rattle.std.specs.Prelude.{cond, filter, replicate}
use Rattle.std.proofs.lemmas.Bool.Decides.{eqb_tells}
use Rattle.std.proofs.lemmas.List.{append-nil}
use Rattle.std.proofs.lemmas.List.Elements.{filter-append}
use Rattle.std.proofs.lemmas.Option.{same_Some}
use Rattle.xm_board.proofs.Keeping.{set_cases}
use Rattle.xm_board.specs.Inner.Merging.{AreLeft, AreTaken, NoneAt, NoneOf, cycle_rest, due, part_of, round_rest}
use Rattle.xm_model.specs.ListView.{ListView}
use Rattle.xm_model.specs.Next.{move}
use Rattle.xm_model.specs.Signals.{Signals}
use Rattle.xm_order.specs.Lemmas.Items.{append_cases, get-append_right, get-replicate}
use Rattle.xm_parts.specs.Partition.{lies_in}
use Rattle.xm_trace.specs.Moves.{cycle_moves, moved_on, round_moves}
use Rattle.xm_trace.specs.declared.trace.Move.{Move}

-- ---- which move comes next

-- the first that passes a test is one of all
head_of : (f : Move → Bool) (ms : List Move) (m : Move) → slice_get (filter f ms) 0 ≡ Some m → (k : ℕ) × (slice_get ms k ≡ Some m)
head_of f [] m at = absurd cc
head_of f (x ∷ xs) m at = by (f x) at (head_of f xs m) where
  by : (b : Bool) → slice_get (cond b (x ∷ filter f xs) (filter f xs)) 0 ≡ Some m → (slice_get (filter f xs) 0 ≡ Some m → (k : ℕ) × (slice_get xs k ≡ Some m)) → (k : ℕ) × (slice_get (x ∷ xs) k ≡ Some m)
  by true there rest = (0, there)
  by false there rest = let found = rest there in (suc found.0, found.1)

part-append : (label : ℕ → ℕ) (p : ℕ) (xs ys : List Move) → part_of label p (xs ++ ys) ≡ part_of label p xs ++ part_of label p ys
part-append label p xs ys = filter-append (λ (m : Move). lies_in label p m.channel) xs ys

-- a move on a channel is that of the channel's part
own : (label : ℕ → ℕ) (p t c : ℕ) (o : Option ℕ) → label c ≡ p → part_of label p (moved_on t c o) ≡ moved_on t c o
own label p t c None e = refl
own label p t c (Some d) e = rw (eq-eqb (label c) p e) refl

not_own : (label : ℕ → ℕ) (p q t c : ℕ) (o : Option ℕ) → label c ≡ p → q ≢ p → part_of label q (moved_on t c o) ≡ []
not_own label p q t c None e ne = refl
not_own label p q t c (Some d) e ne = elim (eqb_tells (label c) q) [
  | inl u ↦ absurd (ne (sym u.1 ∙ e))
  | inr u ↦ rw u.0 refl
]

abbrev pub move_of : ℕ → ℕ → Option ℕ → Option Move
move_of t c None = None
move_of t c (Some d) = Some (record { cycle = t; channel = c; colour = d })

none_due : (label : ℕ → ℕ) (p t c : ℕ) (left : List Move) → NoneAt t c left → (x : Option Move) → slice_get (part_of label p left) 0 ≡ x → due t c x ≡ None
none_due label p t c left none None at = refl
none_due label p t c left none (Some m) at =
    let found = head_of (λ (x : Move). lies_in label p x.channel) left m at in
    elim (eqb_tells m.cycle t) [
      | inl u ↦ elim (eqb_tells m.channel c) [
        | inl v ↦ absurd (none found.0 m found.1 u.1 v.1)
        | inr v ↦ rw (u.0, v.0) refl
      ]
      | inr u ↦ rw u.0 refl
    ]

due_itself : (t c d : ℕ) → due t c (Some (record { cycle = t; channel = c; colour = d })) ≡ Some (record { cycle = t; channel = c; colour = d })
due_itself t c d = rw (eq-eqb t t refl, eq-eqb c c refl) refl

-- at its place a part has the move that is due, if there is one
pub next_is : (label : ℕ → ℕ) (p t c : ℕ) (o : Option ℕ) (made left items : List Move) (place : ℕ) → label c ≡ p → NoneAt t c left →
    items ≡ part_of label p (made ++ (moved_on t c o ++ left)) → place ≡ length (part_of label p made) → due t c (slice_get items place) ≡ move_of t c o
next_is label p t c o made left items place e none is at =
    ap (due t c) (ap (λ (ms : List Move). slice_get ms place) (is ∙ part-append label p made (moved_on t c o ++ left))
    ∙ get-append_right (part_of label p made) (part_of label p (moved_on t c o ++ left)) place 0 (omega arith)) ∙ by o where
      by : (x : Option ℕ) → due t c (slice_get (part_of label p (moved_on t c x ++ left)) 0) ≡ move_of t c x
      by None = none_due label p t c left none (slice_get (part_of label p left) 0) refl
      by (Some d) = rw (eq-eqb (label c) p e) (due_itself t c d)

pub moved_is : (t c : ℕ) (o : Option ℕ) (it : Move) → move_of t c o ≡ Some it → moved_on t c o ≡ it ∷ []
moved_is t c None it e = absurd cc
moved_is t c (Some d) it e = ap (λ (m : Move). m ∷ []) (same_Some _ _ e)

pub none_moved : (t c : ℕ) (o : Option ℕ) → move_of t c o ≡ None → moved_on t c o ≡ []
none_moved t c None e = refl
none_moved t c (Some d) e = absurd cc

-- ---- one move is taken, or none

pub took : (label : ℕ → ℕ) (all : List (ListView Move)) (places : List ℕ) (made : List Move) (t c p : ℕ) (o : Option ℕ) (left : List Move) (it : Move) (place : ℕ) →
    label c ≡ p → AreLeft label all places made (moved_on t c o ++ left) → moved_on t c o ≡ it ∷ [] → p < length places → slice_get places p ≡ Some place →
    AreTaken label all made (moved_on t c o) left (set places p (place + 1)) (made ++ it ∷ [])
took label all places made t c p o left it place e are is inside at = record {
  made_is = ap (λ (ms : List Move). made ++ ms) (sym is);
  are_left = record {
    each = λ q ms there. are.each q ms there ∙ ap (part_of label q) (sym (append_assoc made (moved_on t c o) left) ∙ ap (λ (ms : List Move). (made ++ ms) ++ left) is);
    place = λ q n there. elim (set_cases places p (place + 1) q n inside there) [
      | inl h ↦ (let before = are.place p place at in
          let grows : length (part_of label p (made ++ it ∷ [])) ≡ length (part_of label p made) + 1 =
          ap (λ (ms : List Move). length (part_of label p (made ++ ms))) (sym is) ∙ (ap length (part-append label p made (moved_on t c o) ∙ ap (λ (ms : List Move). part_of label p made ++ ms) (own label p t c o e ∙ is))
          ∙ length-append (part_of label p made) (it ∷ [])) in
          let same : place + 1 ≡ n = h.1 in
          let whole : n ≡ length (part_of label p (made ++ it ∷ [])) = omega arith in
          whole ∙ ap (λ (r : ℕ). length (part_of label r (made ++ it ∷ []))) (sym h.0))
      | inr h ↦ are.place q n h.1 ∙ sym (ap (λ (ms : List Move). length (part_of label q (made ++ ms))) (sym is) ∙ ap length (part-append label q made (moved_on t c o) ∙ (ap (λ (ms : List Move). part_of label q made ++ ms) (not_own label p q t c o e h.0) ∙ append-nil (part_of label q made))))
    ];
  };
}

pub passed_by : (label : ℕ → ℕ) (all : List (ListView Move)) (places : List ℕ) (made : List Move) (t c : ℕ) (o : Option ℕ) (left : List Move) →
    AreLeft label all places made (moved_on t c o ++ left) → moved_on t c o ≡ [] → AreTaken label all made (moved_on t c o) left places made
passed_by label all places made t c o left are is = record {
  made_is = sym (append-nil made) ∙ ap (λ (ms : List Move). made ++ ms) (sym is);
  are_left = record {
    each = λ q ms there. are.each q ms there ∙ ap (λ (ms : List Move). part_of label q (made ++ (ms ++ left))) is;
    place = are.place;
  };
}

-- ---- the moves of a cycle

pub cycle_whole : (φ : Signals) (t c n : ℕ) → cycle_moves φ t c ++ cycle_rest φ t c n ≡ cycle_moves φ t (c + n)
cycle_whole φ t c zero = append-nil (cycle_moves φ t c) ∙ (let same : c ≡ c + 0 = omega arith in ap (cycle_moves φ t) same)
cycle_whole φ t c (suc n) =
    sym (append_assoc (cycle_moves φ t c) (moved_on t c (move φ c)) (cycle_rest φ t (suc c) n))
    ∙ (cycle_whole φ t (suc c) n ∙ (let same : suc c + n ≡ c + suc n = omega arith in ap (cycle_moves φ t) same))

moved_at : (t c : ℕ) (o : Option ℕ) (k : ℕ) (m : Move) → slice_get (moved_on t c o) k ≡ Some m → (m.cycle ≡ t) × (m.channel ≡ c)
moved_at t c None k m at = absurd cc
moved_at t c (Some d) zero m at = let same : record { cycle = t; channel = c; colour = d } ≡ m = same_Some _ _ at in (ap (λ (x : Move). x.cycle) (sym same), ap (λ (x : Move). x.channel) (sym same))
moved_at t c (Some d) (suc k) m at = absurd cc

rest_later : (φ : Signals) (t c n k : ℕ) (m : Move) → slice_get (cycle_rest φ t c n) k ≡ Some m → c ≤ m.channel
rest_later φ t c zero k m at = absurd cc
rest_later φ t c (suc n) k m at = elim (append_cases (moved_on t c (move φ c)) (cycle_rest φ t (suc c) n) k m at) [
  | inl h ↦ (let there = (moved_at t c (move φ c) k m h).1 in omega arith)
  | inr h ↦ (let there = rest_later φ t (suc c) n h.0 m h.2 in omega arith)
]

pub none_at : (φ : Signals) (t c n : ℕ) (left : List Move) → NoneOf t left → NoneAt t c (cycle_rest φ t (suc c) n ++ left)
none_at φ t c n left none k m at cycle_is channel_is = elim (append_cases (cycle_rest φ t (suc c) n) left k m at) [
  | inl h ↦ (let later = rest_later φ t (suc c) n k m h in omega arith)
  | inr h ↦ none h.0 m h.2 cycle_is
]

-- ---- the moves of a round

pub round_on : (φ : ℕ → Signals) (channels t i k : ℕ) → round_moves φ channels t i ++ round_rest φ channels (t + i) k ≡ round_moves φ channels t (i + k)
round_on φ channels t i zero = append-nil (round_moves φ channels t i) ∙ (let same : i ≡ i + 0 = omega arith in ap (round_moves φ channels t) same)
round_on φ channels t i (suc k) =
    let next : suc (t + i) ≡ t + suc i = omega arith in
    let end : suc i + k ≡ i + suc k = omega arith in
    sym (append_assoc (round_moves φ channels t i) (cycle_moves (φ (t + i)) (t + i) channels) (round_rest φ channels (suc (t + i)) k))
    ∙ (ap (λ (u : ℕ). round_moves φ channels t (suc i) ++ round_rest φ channels u k) next ∙ (round_on φ channels t (suc i) k ∙ ap (round_moves φ channels t) end))

pub round_whole : (φ : ℕ → Signals) (channels t n : ℕ) → round_rest φ channels t n ≡ round_moves φ channels t n
round_whole φ channels t n =
    let here : t ≡ t + 0 = omega arith in
    let many : 0 + n ≡ n = omega arith in
    ap (λ (u : ℕ). round_rest φ channels u n) here ∙ (round_on φ channels t 0 n ∙ ap (round_moves φ channels t) many)

cycle_of : (φ : Signals) (t n k : ℕ) (m : Move) → slice_get (cycle_moves φ t n) k ≡ Some m → m.cycle ≡ t
cycle_of φ t zero k m at = absurd cc
cycle_of φ t (suc c) k m at = elim (append_cases (cycle_moves φ t c) (moved_on t c (move φ c)) k m at) [
  | inl h ↦ cycle_of φ t c k m h
  | inr h ↦ (moved_at t c (move φ c) h.0 m h.2).0
]

round_later : (φ : ℕ → Signals) (channels t n k : ℕ) (m : Move) → slice_get (round_rest φ channels t n) k ≡ Some m → t ≤ m.cycle
round_later φ channels t zero k m at = absurd cc
round_later φ channels t (suc n) k m at = elim (append_cases (cycle_moves (φ t) t channels) (round_rest φ channels (suc t) n) k m at) [
  | inl h ↦ (let there = cycle_of (φ t) t channels k m h in omega arith)
  | inr h ↦ (let there = round_later φ channels (suc t) n h.0 m h.2 in omega arith)
]

pub none_of : (φ : ℕ → Signals) (channels t n : ℕ) → NoneOf t (round_rest φ channels (suc t) n)
none_of φ channels t n k m at is = let later = round_later φ channels (suc t) n k m at in omega arith

-- ---- what was taken, and what follows

-- two steps, one after the other
pub taken_on : (label : ℕ → ℕ) (all : List (ListView Move)) (start one before two whole left : List Move) (places : List ℕ) (made : List Move) →
    before ≡ start ++ one → one ++ two ≡ whole → AreTaken label all before two left places made → AreTaken label all start whole left places made
taken_on label all start one before two whole left places made e f is = record {
  made_is = is.made_is ∙ (ap (λ (ms : List Move). ms ++ two) e ∙ (append_assoc start one two ∙ ap (λ (ms : List Move). start ++ ms) f));
  are_left = is.are_left;
}

pub left_is : (label : ℕ → ℕ) (all : List (ListView Move)) (places : List ℕ) (made left right : List Move) → left ≡ right → AreLeft label all places made left → AreLeft label all places made right
left_is label all places made left right e = subst (λ (ms : List Move). AreLeft label all places made ms) e

-- nothing was taken yet
pub none_taken : (label : ℕ → ℕ) (all : List (ListView Move)) (places : List ℕ) (made left : List Move) → AreLeft label all places made left → AreTaken label all made [] left places made
none_taken label all places made left are = record { made_is = sym (append-nil made); are_left = are }

pub cycle_begins : (φ : Signals) (t n : ℕ) (left : List Move) → cycle_moves φ t n ++ left ≡ cycle_rest φ t 0 (n - 0) ++ left
cycle_begins φ t n left =
    let many : 0 + (n - 0) ≡ n = omega arith in
    ap (λ (ms : List Move). ms ++ left) (sym (cycle_whole φ t 0 (n - 0) ∙ ap (cycle_moves φ t) many))

pub cycle_next : (φ : Signals) (t c n : ℕ) (left : List Move) → c < n → cycle_rest φ t c (n - c) ++ left ≡ moved_on t c (move φ c) ++ (cycle_rest φ t (suc c) (n - (c + 1)) ++ left)
cycle_next φ t c n left h =
    let many : n - c ≡ suc (n - (c + 1)) = omega arith in
    ap (λ (k : ℕ). cycle_rest φ t c k ++ left) many ∙ append_assoc (moved_on t c (move φ c)) (cycle_rest φ t (suc c) (n - (c + 1))) left

pub cycle_ends : (φ : Signals) (t c n : ℕ) (left : List Move) → n ≤ c → cycle_rest φ t c (n - c) ++ left ≡ left
cycle_ends φ t c n left h = let none : n - c ≡ 0 = omega arith in ap (λ (k : ℕ). cycle_rest φ t c k ++ left) none

pub round_next : (φ : ℕ → Signals) (channels t to : ℕ) → t < to → round_rest φ channels t (to - t) ≡ cycle_moves (φ t) t channels ++ round_rest φ channels (suc t) (to - (t + 1))
round_next φ channels t to h = let many : to - t ≡ suc (to - (t + 1)) = omega arith in ap (round_rest φ channels t) many

pub round_more : (φ : ℕ → Signals) (channels from t : ℕ) → from ≤ t → round_moves φ channels from (t - from) ++ cycle_moves (φ t) t channels ≡ round_moves φ channels from (t + 1 - from)
round_more φ channels from t h =
    let here : t ≡ from + (t - from) = omega arith in
    let many : suc (t - from) ≡ t + 1 - from = omega arith in
    ap (λ (u : ℕ). round_moves φ channels from (t - from) ++ cycle_moves (φ u) u channels) here ∙ ap (round_moves φ channels from) many

pub suc_is : (t : ℕ) → suc t ≡ t + 1
suc_is t = omega arith

-- before the first cycle nothing was taken
pub nothing_taken : (label : ℕ → ℕ) (all : List (ListView Move)) (places : List ℕ) (made : List Move) (φ : ℕ → Signals) (channels from to count : ℕ) → places ≡ replicate count 0 → made ≡ [] →
    ((p : ℕ) (ms : ListView Move) → slice_get all p ≡ Some ms → ms.items ≡ part_of label p (round_moves φ channels from (to - from))) →
    AreTaken label all [] (round_moves φ channels from (from - from)) (round_rest φ channels from (to - from)) places made
nothing_taken label all places made φ channels from to count zeros empty are =
    let none : from - from ≡ 0 = omega arith in
    record {
      made_is = empty ∙ ap (round_moves φ channels from) (sym none);
      are_left = record {
        each = λ p ms at. are p ms at ∙ ap (part_of label p) (sym (round_whole φ channels from (to - from)) ∙ ap (λ (xs : List Move). xs ++ round_rest φ channels from (to - from)) (sym empty));
        place = λ p n at. sym (get-replicate count 0 n p (ap (λ (xs : List ℕ). slice_get xs p) (sym zeros) ∙ at)) ∙ ap (λ (xs : List Move). length (part_of label p xs)) (sym empty);
      };
    }
