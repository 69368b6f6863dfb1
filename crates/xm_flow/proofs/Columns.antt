-- The columns of a design: each stands once, and each term of a flow row has one.
use Rattle.std.proofs.Common.{◌≡◌, ℕ, zero, suc, ◌+◌, ◌<◌, ◌≤◌, inl, inr, List, [], ◌∷◌, ◌++◌, length, map, option_map, slice_get, slice_index, Some, Bool, true, false, cond, nat_eq, nat_lt, refl, sym, ◌∙◌, ap, ap₂, subst, arith, All}
use Rattle.std.proofs.lemmas.Bool.{cases_Bool, cases_eq, cond-true, cond-false, ltb-true, ne_eqb}
use Rattle.std.proofs.lemmas.List.{length-map}
use Rattle.std.proofs.lemmas.List.Elements.{All-cons, All-nil}
use Rattle.std.proofs.lemmas.Option.{slice_get-map, slice_get_within}
use Rattle.xm_colours.specs.Family.{Rises, colours_at}
use Rattle.xm_colours.specs.Pairs.{pairs, queue_pairs, queue_pairs_at}
use Rattle.xm_design.specs.Designed.{Designed, IsDesigned}
use Rattle.xm_model.specs.Component.{Component, Source, Sink, Queue, Function, Fork, Join, Switch, Merge}
use Rattle.xm_model.specs.Lemmas.PortCounts.{IsCounted, counted, output_below, input_below}
use Rattle.xm_model.specs.Net.{HasPrim}
use Rattle.xm_model.specs.Ports.{HasOutput, HasInput, fork_output_a, fork_output_b, fork_input, function_output, function_input, join_output, join_input_a, join_input_b, merge_output, merge_input_a, merge_input_b, queue_output, queue_input, switch_output_a, switch_output_b, switch_input}
use Rattle.xm_model.specs.Membership.{IsIn, times}
use Rattle.xm_model.specs.Signals.{at_side}
use Rattle.xm_model.specs.declared.primitive.Side.{Side}
use Rattle.xm_model.specs.declared.primitive.Side.TheVariants.{A, B}
use Rattle.xm_order.specs.Lemmas.Items.{get-append_left, get-append_right}
use Rattle.xm_flow.specs.FlowRows.{Column, Count, FlowRow, Moves, Term, columns, count_of, flow_rows, if_coloured, image_row, merge_row, minus, moves_of, plus, queue_row, rows_at, rows_from, same_row, sides_row, taken_to}
use Rattle.xm_flow.specs.Holding.{pair_count}
use Rattle.xm_flow.specs.Lemmas.Listing.{all_append, all_mapped}
use Rattle.xm_flow.proofs.Numbering.{AreApart, IsListed}
use Rattle.xm_colours.specs.Lemmas.Rising.{above, rises_on}

-- ---- items that stand once

abbrev pub Apart : {X : Type 0} → List X → Type 0
Apart {X} xs = (i j : ℕ) (x : X) → slice_get xs i ≡ Some x → slice_get xs j ≡ Some x → i ≡ j

-- where an item of two lists stands
data Where {X : Type 0} (xs ys : List X) (i : ℕ) (x : X) : Type 0 where
  left : slice_get xs i ≡ Some x → Where xs ys i x
  right : (k : ℕ) → i ≡ length xs + k → slice_get ys k ≡ Some x → Where xs ys i x

further : {X : Type 0} (z : X) (xs ys : List X) (i : ℕ) (x : X) → Where xs ys i x → Where (z ∷ xs) ys (suc i) x
further z xs ys i x (left at) = left at
further z xs ys i x (right k is at) = right k (omega arith) at

where_at : {X : Type 0} (xs ys : List X) (i : ℕ) (x : X) → slice_get (xs ++ ys) i ≡ Some x → Where xs ys i x
where_at [] ys i x at = right i (omega arith) at
where_at (z ∷ xs) ys zero x at = left at
where_at (z ∷ xs) ys (suc i) x at = further z xs ys i x (where_at xs ys i x at)

apart_append : {X : Type 0} (xs ys : List X) → Apart xs → Apart ys → ((i j : ℕ) (x : X) → slice_get xs i ≡ Some x → slice_get ys j ≡ Some x → ⊥) → Apart (xs ++ ys)
apart_append xs ys p q never i j x at_i at_j = go (where_at xs ys i x at_i) (where_at xs ys j x at_j)
  where
    go : Where xs ys i x → Where xs ys j x → i ≡ j
    go (left a) (left b) = p i j x a b
    go (left a) (right k is b) = absurd (never i k x a b)
    go (right k is a) (left b) = absurd (never j k x b a)
    go (right k is a) (right l it b) = let same = q k l x a b in omega arith

mapped_at : {X Y : Type 0} (f : X → Y) (xs : List X) (i : ℕ) (y : Y) → slice_get (map f xs) i ≡ Some y → (x : X) × ((slice_get xs i ≡ Some x) × (f x ≡ y))
mapped_at f [] i y at = cc
mapped_at f (x ∷ xs) zero y at = let is : f x ≡ y = cc in (x, (refl, is))
mapped_at f (x ∷ xs) (suc i) y at = mapped_at f xs i y at

get_right : {X : Type 0} (xs ys : List X) (i : ℕ) (x : X) → slice_get ys i ≡ Some x → slice_get (xs ++ ys) (length xs + i) ≡ Some x
get_right xs ys i x at = get-append_right xs ys (length xs + i) i refl ∙ at

map_at : {X Y : Type 0} (f : X → Y) (xs : List X) (i : ℕ) (x : X) → slice_get xs i ≡ Some x → slice_get (map f xs) i ≡ Some (f x)
map_at f xs i x at = slice_get-map f xs i ∙ ap (option_map f) at

apart_map : {X Y : Type 0} (f : X → Y) → ((x y : X) → f x ≡ f y → x ≡ y) → (xs : List X) → Apart xs → Apart (map f xs)
apart_map f inj xs p i j y at_i at_j =
    let a = mapped_at f xs i y at_i in
    let b = mapped_at f xs j y at_j in
    let same = inj a.0 b.0 (a.1.1 ∙ sym b.1.1) in
    p i j a.0 a.1.0 (b.1.0 ∙ ap Some (sym same))

in_at : (xs : List ℕ) (i x : ℕ) → slice_get xs i ≡ Some x → IsIn xs x
in_at [] i x at = cc
in_at (y ∷ ys) zero x at = let is : y ≡ x = cc in inl is
in_at (y ∷ ys) (suc i) x at = inr (in_at ys i x at)

at_in : (xs : List ℕ) (x : ℕ) → IsIn xs x → (i : ℕ) × (slice_get xs i ≡ Some x)
at_in [] x h = absurd h
at_in (y ∷ ys) x (inl is) = (0, ap Some is)
at_in (y ∷ ys) x (inr h) = let rest = at_in ys x h in (suc rest.0, rest.1)

apart_rising : (ds : List ℕ) → Rises ds → Apart ds
apart_rising [] up i j x at_i at_j = cc
apart_rising (d ∷ ds) up zero zero x at_i at_j = refl
apart_rising (d ∷ ds) up zero (suc j) x at_i at_j =
    let is : d ≡ x = cc in let low = above d ds up x (in_at ds j x at_j) in absurd (omega arith)
apart_rising (d ∷ ds) up (suc i) zero x at_i at_j =
    let is : d ≡ x = cc in let low = above d ds up x (in_at ds i x at_i) in absurd (omega arith)
apart_rising (d ∷ ds) up (suc i) (suc j) x at_i at_j = ap suc (apart_rising ds (rises_on d ds up) i j x at_i at_j)

-- ---- pairs

pair_second : (c d e : ℕ) → ◌≡◌ {A = ℕ × ℕ} (c, d) (c, e) → d ≡ e
pair_second c d e h = ap (λ (p : ℕ × ℕ). p.1) h

module _ (colours : ℕ → List ℕ) (rise : (c : ℕ) → Rises (colours c)) where
  pair_below : (n i : ℕ) (x : ℕ × ℕ) → slice_get (pairs colours n) i ≡ Some x → x.0 < n
  pair_below zero i x at = cc
  pair_below (suc n) i x at = go (λ a. pair_below n i x a) (where_at (pairs colours n) (map (λ d. (n, d)) (colours n)) i x at)
    where
      go : (slice_get (pairs colours n) i ≡ Some x → x.0 < n) → Where (pairs colours n) (map (λ d. (n, d)) (colours n)) i x → x.0 < suc n
      go before (left a) = let low = before a in omega arith
      go before (right k is a) = let m = mapped_at {X = ℕ} {Y = ℕ × ℕ} (λ d. (n, d)) (colours n) k x a in let same = ap (λ (p : ℕ × ℕ). p.0) m.1.1 in omega arith

  pairs_apart : (n : ℕ) → Apart {X = ℕ × ℕ} (pairs colours n)
  pairs_apart zero = λ i j x at_i at_j. (cc)
  pairs_apart (suc n) =
      apart_append (pairs colours n) (map (λ d. (n, d)) (colours n)) (pairs_apart n)
      (apart_map {X = ℕ} {Y = ℕ × ℕ} (λ d. (n, d)) (λ d e h. pair_second n d e h) (colours n) (apart_rising (colours n) (rise n)))
      (λ i j x at_i at_j.
      let low = pair_below n i x at_i in
      let m = mapped_at {X = ℕ} {Y = ℕ × ℕ} (λ d. (n, d)) (colours n) j x at_j in
      let same = ap (λ (p : ℕ × ℕ). p.0) m.1.1 in
      absurd (omega arith))

  at_queue : (p i : ℕ) (m : Component) (x : ℕ × ℕ) → slice_get (queue_pairs_at colours p m) i ≡ Some x → x.0 ≡ p
  at_queue p i (Queue input out capacity initial) x at = let m = mapped_at {X = ℕ} {Y = ℕ × ℕ} (λ d. (p, d)) (colours out) i x at in sym (ap (λ (q : ℕ × ℕ). q.0) m.1.1)
  at_queue p i (Source out cs mode) x at = cc
  at_queue p i (Sink input mode) x at = cc
  at_queue p i (Function input out table) x at = cc
  at_queue p i (Fork input a b ta tb) x at = cc
  at_queue p i (Join a b out pass) x at = cc
  at_queue p i (Switch input a b to_a) x at = cc
  at_queue p i (Merge a b out) x at = cc

  queue_above : (p i : ℕ) (ms : List Component) (x : ℕ × ℕ) → slice_get (queue_pairs colours p ms) i ≡ Some x → p ≤ x.0
  queue_above p i [] x at = cc
  queue_above p i (m ∷ ms) x at = go (λ k a. queue_above (suc p) k ms x a) (where_at (queue_pairs_at colours p m) (queue_pairs colours (suc p) ms) i x at)
    where
      go : ((k : ℕ) → slice_get (queue_pairs colours (suc p) ms) k ≡ Some x → suc p ≤ x.0) → Where (queue_pairs_at colours p m) (queue_pairs colours (suc p) ms) i x → p ≤ x.0
      go behind (left a) = let same = at_queue p i m x a in omega arith
      go behind (right k is a) = let low = behind k a in omega arith

  one_queue : (p : ℕ) (m : Component) → Apart {X = ℕ × ℕ} (queue_pairs_at colours p m)
  one_queue p (Queue input out capacity initial) =
      apart_map {X = ℕ} {Y = ℕ × ℕ} (λ d. (p, d)) (λ d e h. pair_second p d e h) (colours out) (apart_rising (colours out) (rise out))
  one_queue p (Source out cs mode) = λ i j x at_i at_j. (cc)
  one_queue p (Sink input mode) = λ i j x at_i at_j. (cc)
  one_queue p (Function input out table) = λ i j x at_i at_j. (cc)
  one_queue p (Fork input a b ta tb) = λ i j x at_i at_j. (cc)
  one_queue p (Join a b out pass) = λ i j x at_i at_j. (cc)
  one_queue p (Switch input a b to_a) = λ i j x at_i at_j. (cc)
  one_queue p (Merge a b out) = λ i j x at_i at_j. (cc)

  queues_apart : (p : ℕ) (ms : List Component) → Apart {X = ℕ × ℕ} (queue_pairs colours p ms)
  queues_apart p [] = λ i j x at_i at_j. (cc)
  queues_apart p (m ∷ ms) =
      apart_append (queue_pairs_at colours p m) (queue_pairs colours (suc p) ms) (one_queue p m) (queues_apart (suc p) ms)
      (λ i j x at_i at_j. let same = at_queue p i m x at_i in let low = queue_above (suc p) j ms x at_j in absurd (omega arith))

  pair_listed : (n c d : ℕ) → c < n → IsIn (colours c) d → (i : ℕ) × (slice_get (pairs colours n) i ≡ Some (c, d))
  pair_listed zero c d below h = absurd (omega arith)
  pair_listed (suc n) c d below h =
      elim (cases_eq c n) [
        | inl same ↦
            let i = at_in (colours c) d h in
            let here : slice_get (map (λ e. (n, e)) (colours n)) i.0 ≡ Some (n, d) = map_at {X = ℕ} {Y = ℕ × ℕ} (λ e. (n, e)) (colours n) i.0 d (ap (λ (k : ℕ). slice_get (colours k) i.0) (sym same) ∙ i.1) in
            (length (pairs colours n) + i.0, get_right (pairs colours n) (map (λ e. (n, e)) (colours n)) i.0 (n, d) here ∙ ap (λ (k : ℕ). Some (k, d)) (sym same))
        | inr other ↦
            let rest = pair_listed n c d (omega arith) h in
            (rest.0, get-append_left (pairs colours n) (map (λ e. (n, e)) (colours n)) rest.0 (c, d) rest.1)
      ]

  queue_listed : (p : ℕ) (ms : List Component) (i input out capacity d : ℕ) (initial : List ℕ) → slice_get ms i ≡ Some (Queue input out capacity initial) → IsIn (colours out) d →
      (j : ℕ) × (slice_get (queue_pairs colours p ms) j ≡ Some (p + i, d))
  queue_listed p [] i input out capacity d initial at h = cc
  queue_listed p (m ∷ ms) zero input out capacity d initial at h =
      let is : m ≡ Queue input out capacity initial = cc in
      let j = at_in (colours out) d h in
      let same : p ≡ p + 0 = omega arith in
      let here : slice_get (queue_pairs_at colours p m) j.0 ≡ Some (p, d) = ap (λ (x : Component). slice_get (queue_pairs_at colours p x) j.0) is ∙ map_at {X = ℕ} {Y = ℕ × ℕ} (λ e. (p, e)) (colours out) j.0 d j.1 in
      (j.0, get-append_left (queue_pairs_at colours p m) (queue_pairs colours (suc p) ms) j.0 (p, d) here ∙ ap (λ (k : ℕ). Some (k, d)) same)
  queue_listed p (m ∷ ms) (suc i) input out capacity d initial at h =
      let rest = queue_listed (suc p) ms i input out capacity d initial at h in
      let same : suc p + i ≡ p + suc i = omega arith in (
        length (queue_pairs_at colours p m) + rest.0,
        get_right (queue_pairs_at colours p m) (queue_pairs colours (suc p) ms) rest.0 (suc p + i, d) rest.1 ∙ ap (λ (k : ℕ). Some (k, d)) same,
      )

-- ---- columns

moves_apart : (x y : ℕ × ℕ) → moves_of x ≡ moves_of y → x ≡ y
moves_apart x y h = let one : x.0 ≡ y.0 = cc in let two : x.1 ≡ y.1 = cc in ap₂ (λ (a b : ℕ). (a, b)) one two

counts_apart : (x y : ℕ × ℕ) → count_of x ≡ count_of y → x ≡ y
counts_apart x y h = let one : x.0 ≡ y.0 = cc in let two : x.1 ≡ y.1 = cc in ap₂ (λ (a b : ℕ). (a, b)) one two

pub columns_apart : (it : Designed) → IsDesigned it → AreApart (columns it)
columns_apart it designed =
    let colours = colours_at it.colours in
    let rise = designed.colours.rise in
    let ps = pairs colours it.net.channels in
    let qs = queue_pairs colours 0 it.net.prims in
    apart_append (map moves_of ps) (map count_of qs) (apart_map moves_of moves_apart ps (pairs_apart colours rise it.net.channels))
    (apart_map count_of counts_apart qs (queues_apart colours rise 0 it.net.prims))
    (λ i j x at_i at_j.
    let a = mapped_at moves_of ps i x at_i in
    let b = mapped_at count_of qs j x at_j in
    kinds a.0 b.0 (a.1.1 ∙ sym b.1.1))
  where
    kinds : (x y : ℕ × ℕ) → moves_of x ≡ count_of y → ⊥
    kinds x y h = cc

-- ---- the terms of flow rows have columns

in_if_times : (d : ℕ) (xs : List ℕ) → 0 < times d xs → IsIn xs d
in_if_times d [] some = absurd (omega arith)
in_if_times d (x ∷ xs) some =
    elim (cases_eq x d) [
      | inl same ↦ inl same
      | inr other ↦
          let none = cond-false {A = ℕ} (nat_eq x d) 1 0 (ne_eqb x d other) in
          inr (in_if_times d xs (omega (arith, none)))
    ]

in_taken : (table : List ℕ) (e d : ℕ) (ds : List ℕ) → IsIn (taken_to table e ds) d → IsIn ds d
in_taken table e d [] h = h
in_taken table e d (x ∷ xs) h = by_test (nat_eq (slice_index table x) e) (λ g. in_taken table e d xs g) h
  where
    by_test : (b : Bool) → (IsIn (taken_to table e xs) d → IsIn xs d) → IsIn (cond b (x ∷ taken_to table e xs) (taken_to table e xs)) d → IsIn (x ∷ xs) d
    by_test true rest (inl is) = inl is
    by_test true rest (inr g) = inr (rest g)
    by_test false rest g = inr (rest g)

module _ (it : Designed) (designed : IsDesigned it) where
  abbrev Named : Term → Type 0
  Named t = IsListed (columns it) t.column

  moves_listed : (c d : ℕ) → c < it.net.channels → IsIn (colours_at it.colours c) d → IsListed (columns it) (Moves c d)
  moves_listed c d below h =
      let ps = pairs (colours_at it.colours) it.net.channels in
      let i = pair_listed (colours_at it.colours) designed.colours.rise it.net.channels c d below h in
      record { place = i.0; at = get-append_left (map moves_of ps) (map count_of (queue_pairs (colours_at it.colours) 0 it.net.prims)) i.0 (Moves c d) (map_at moves_of ps i.0 (c, d) i.1) }

  count_listed : (p input out capacity d : ℕ) (initial : List ℕ) → HasPrim it.net p (Queue input out capacity initial) → IsIn (colours_at it.colours out) d → IsListed (columns it) (Count p d)
  count_listed p input out capacity d initial has h =
      let ps = pairs (colours_at it.colours) it.net.channels in
      let qs = queue_pairs (colours_at it.colours) 0 it.net.prims in
      let j = queue_listed (colours_at it.colours) designed.colours.rise 0 it.net.prims p input out capacity d initial has h in
      let same : 0 + p ≡ p = omega arith in
      let at : slice_get qs j.0 ≡ Some (p, d) = j.1 ∙ ap (λ (k : ℕ). Some (k, d)) same in
      record {
        place = length (map moves_of ps) + j.0;
        at = get_right (map moves_of ps) (map count_of qs) j.0 (Count p d) (map_at count_of qs j.0 (p, d) at);
      }

  wired : IsCounted it.net
  wired = counted it.net designed.net

  takes_below : (p : ℕ) (m : Component) (c : ℕ) → HasPrim it.net p m → HasInput m c → c < it.net.channels
  takes_below p m c has takes = input_below it.net wired p m c has takes

  drives_below : (p : ℕ) (m : Component) (c : ℕ) → HasPrim it.net p m → HasOutput m c → c < it.net.channels
  drives_below p m c has drives = output_below it.net wired p m c has drives

  if_named : (sign : Column → Term) (c d : ℕ) → ((k : Column) → (sign k).column ≡ k) → c < it.net.channels → All Named (if_coloured (colours_at it.colours) sign c d)
  if_named sign c d is below =
      elim (cases_Bool (nat_lt 0 (times d (colours_at it.colours c)))) [
        | inl some ↦
            let h = in_if_times d (colours_at it.colours c) (ltb-true 0 (times d (colours_at it.colours c)) some) in
            subst (All Named) (sym (cond-true (nat_lt 0 (times d (colours_at it.colours c))) (sign (Moves c d) ∷ []) [] some))
            (All-cons Named (sign (Moves c d)) [] (subst (IsListed (columns it)) (sym (is (Moves c d))) (moves_listed c d below h)) (All-nil Named))
        | inr none ↦ subst (All Named) (sym (cond-false (nat_lt 0 (times d (colours_at it.colours c))) (sign (Moves c d) ∷ []) [] none)) (All-nil Named)
      ]

  image_named : (input : ℕ) (table : List ℕ) (out e : ℕ) → input < it.net.channels → out < it.net.channels → IsIn (colours_at it.colours out) e →
      All Named (image_row (colours_at it.colours) input table out e).left
  image_named input table out e in_below out_below h =
      All-cons Named (plus (Moves out e)) (map (λ d. minus (Moves input d)) (taken_to table e (colours_at it.colours input))) (moves_listed out e out_below h)
      (all_mapped Named (λ d. minus (Moves input d)) (taken_to table e (colours_at it.colours input)) (λ d g. moves_listed input d in_below (in_taken table e d (colours_at it.colours input) g)))

  same_named : (input out d : ℕ) → input < it.net.channels → out < it.net.channels → IsIn (colours_at it.colours out) d → All Named (same_row (colours_at it.colours) input out d).left
  same_named input out d in_below out_below h =
      All-cons Named (plus (Moves out d)) (if_coloured (colours_at it.colours) minus input d) (moves_listed out d out_below h) (if_named minus input d (λ k. refl) in_below)

  side_takes : (pass : Side) (a b out : ℕ) → HasInput (Join a b out pass) (at_side pass a b)
  side_takes A a b out = join_input_a
  side_takes B a b out = join_input_b

  abbrev RowNamed : FlowRow → Type 0
  RowNamed row = All Named row.left

  at_named : (p : ℕ) (m : Component) → HasPrim it.net p m → All RowNamed (rows_at (colours_at it.colours) p m)
  at_named p (Source out cs mode) has = All-nil RowNamed
  at_named p (Sink input mode) has = All-nil RowNamed
  at_named p (Queue input out capacity initial) has =
      all_mapped RowNamed (queue_row (colours_at it.colours) p input out initial) (colours_at it.colours out) (λ d h.
      all_append Named (if_coloured (colours_at it.colours) plus input d) (minus (Moves out d) ∷ minus (Count p d) ∷ []) (if_named plus input d (λ k. refl) (takes_below p _ input has queue_input))
      (All-cons Named (minus (Moves out d)) (minus (Count p d) ∷ []) (moves_listed out d (drives_below p _ out has queue_output) h)
      (All-cons Named (minus (Count p d)) [] (count_listed p input out capacity d initial has h) (All-nil Named))))
  at_named p (Function input out table) has =
      all_mapped RowNamed (image_row (colours_at it.colours) input table out) (colours_at it.colours out) (λ e h.
      image_named input table out e (takes_below p _ input has function_input) (drives_below p _ out has function_output) h)
  at_named p (Fork input a b ta tb) has =
      all_append RowNamed (map (image_row (colours_at it.colours) input ta a) (colours_at it.colours a)) (map (image_row (colours_at it.colours) input tb b) (colours_at it.colours b))
      (all_mapped RowNamed (image_row (colours_at it.colours) input ta a) (colours_at it.colours a) (λ e h. image_named input ta a e (takes_below p _ input has fork_input) (drives_below p _ a has fork_output_a) h))
      (all_mapped RowNamed (image_row (colours_at it.colours) input tb b) (colours_at it.colours b) (λ e h. image_named input tb b e (takes_below p _ input has fork_input) (drives_below p _ b has fork_output_b) h))
  at_named p (Join a b out pass) has =
      all_append RowNamed (map (same_row (colours_at it.colours) (at_side pass a b) out) (colours_at it.colours out)) (sides_row (colours_at it.colours) a b ∷ [])
      (all_mapped RowNamed (same_row (colours_at it.colours) (at_side pass a b) out) (colours_at it.colours out) (λ d h.
      same_named (at_side pass a b) out d (takes_below p _ (at_side pass a b) has (side_takes pass a b out)) (drives_below p _ out has join_output) h))
      (All-cons RowNamed (sides_row (colours_at it.colours) a b) []
      (all_append Named (map (λ d. plus (Moves a d)) (colours_at it.colours a)) (map (λ d. minus (Moves b d)) (colours_at it.colours b))
      (all_mapped Named (λ d. plus (Moves a d)) (colours_at it.colours a) (λ d h. moves_listed a d (takes_below p _ a has join_input_a) h))
      (all_mapped Named (λ d. minus (Moves b d)) (colours_at it.colours b) (λ d h. moves_listed b d (takes_below p _ b has join_input_b) h)))
      (All-nil RowNamed))
  at_named p (Switch input a b to_a) has =
      all_append RowNamed (map (same_row (colours_at it.colours) input a) (colours_at it.colours a)) (map (same_row (colours_at it.colours) input b) (colours_at it.colours b))
      (all_mapped RowNamed (same_row (colours_at it.colours) input a) (colours_at it.colours a) (λ d h. same_named input a d (takes_below p _ input has switch_input) (drives_below p _ a has switch_output_a) h))
      (all_mapped RowNamed (same_row (colours_at it.colours) input b) (colours_at it.colours b) (λ d h. same_named input b d (takes_below p _ input has switch_input) (drives_below p _ b has switch_output_b) h))
  at_named p (Merge a b out) has =
      all_mapped RowNamed (merge_row (colours_at it.colours) a b out) (colours_at it.colours out) (λ d h.
      All-cons Named (plus (Moves out d)) (if_coloured (colours_at it.colours) minus a d ++ if_coloured (colours_at it.colours) minus b d) (moves_listed out d (drives_below p _ out has merge_output) h)
      (all_append Named (if_coloured (colours_at it.colours) minus a d) (if_coloured (colours_at it.colours) minus b d) (if_named minus a d (λ k. refl) (takes_below p _ a has merge_input_a))
      (if_named minus b d (λ k. refl) (takes_below p _ b has merge_input_b))))

  from_named : (p : ℕ) (ms : List Component) → ((i : ℕ) (m : Component) → slice_get ms i ≡ Some m → HasPrim it.net (p + i) m) → All RowNamed (rows_from (colours_at it.colours) p ms)
  from_named p [] are_prims = All-nil RowNamed
  from_named p (m ∷ ms) are_prims =
      let same : p + 0 ≡ p = omega arith in
      all_append RowNamed (rows_at (colours_at it.colours) p m) (rows_from (colours_at it.colours) (suc p) ms)
      (at_named p m (subst (λ (q : ℕ). HasPrim it.net q m) same (are_prims 0 m refl)))
      (from_named (suc p) ms (λ i x found. let next : p + suc i ≡ suc p + i = omega arith in subst (λ (q : ℕ). HasPrim it.net q x) next (are_prims (suc i) x found)))

  pub rows_named : All (λ row. All (λ t. IsListed (columns it) t.column) row.left) (flow_rows it)
  rows_named = from_named 0 it.net.prims (λ i m found. let same : i ≡ 0 + i = omega arith in subst (λ (q : ℕ). HasPrim it.net q m) same found)

-- ---- by number

pub pair_at : (colours : ℕ → List ℕ) (n c i d : ℕ) → c < n → slice_get (colours c) i ≡ Some d → slice_get (pairs colours n) (length (pairs colours c) + i) ≡ Some (c, d)
pair_at colours zero c i d below at = absurd (omega arith)
pair_at colours (suc n) c i d below at =
    elim (cases_eq c n) [
      | inl same ↦
          subst (λ (k : ℕ). slice_get (pairs colours n ++ map (λ e. (n, e)) (colours n)) (length (pairs colours k) + i) ≡ Some (k, d)) (sym same)
          (get_right (pairs colours n) (map (λ e. (n, e)) (colours n)) i (n, d)
          (map_at {X = ℕ} {Y = ℕ × ℕ} (λ e. (n, e)) (colours n) i d (ap (λ (k : ℕ). slice_get (colours k) i) (sym same) ∙ at)))
      | inr other ↦
          get-append_left (pairs colours n) (map (λ e. (n, e)) (colours n)) (length (pairs colours c) + i) (c, d) (pair_at colours n c i d (omega arith) at)
    ]

pub move_column : (it : Designed) (c d i b : ℕ) → b ≡ length (pairs (colours_at it.colours) c) → c < it.net.channels → slice_get (colours_at it.colours c) i ≡ Some d →
    slice_get (columns it) (b + i) ≡ Some (Moves c d)
move_column it c d i b is below at =
    let ps = pairs (colours_at it.colours) it.net.channels in
    let qs = queue_pairs (colours_at it.colours) 0 it.net.prims in
    subst (λ (n : ℕ). slice_get (columns it) (n + i) ≡ Some (Moves c d)) (sym is)
    (get-append_left (map moves_of ps) (map count_of qs) (length (pairs (colours_at it.colours) c) + i) (Moves c d)
    (map_at moves_of ps (length (pairs (colours_at it.colours) c) + i) (c, d) (pair_at (colours_at it.colours) it.net.channels c i d below at)))

pub move_below : (it : Designed) (c d i b : ℕ) → b ≡ length (pairs (colours_at it.colours) c) → c < it.net.channels → slice_get (colours_at it.colours c) i ≡ Some d → b + i < pair_count it
move_below it c d i b is below at =
    let low = slice_get_within (pairs (colours_at it.colours) it.net.channels) (length (pairs (colours_at it.colours) c) + i) (c, d) (pair_at (colours_at it.colours) it.net.channels c i d below at) in
    omega arith

pub count_column : (it : Designed) (q d j m : ℕ) → m ≡ pair_count it → slice_get (queue_pairs (colours_at it.colours) 0 it.net.prims) j ≡ Some (q, d) → slice_get (columns it) (m + j) ≡ Some (Count q d)
count_column it q d j m is at =
    let ps = pairs (colours_at it.colours) it.net.channels in
    let qs = queue_pairs (colours_at it.colours) 0 it.net.prims in
    let len = length-map ps moves_of in
    subst (λ (n : ℕ). slice_get (columns it) (n + j) ≡ Some (Count q d)) (len ∙ sym is)
    (get_right (map moves_of ps) (map count_of qs) j (Count q d) (map_at count_of qs j (q, d) at))
