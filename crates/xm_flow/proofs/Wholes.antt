-- The rows of all primitives: in order, and few.
use Rattle.std.proofs.Common.{◌≡◌, ◌∙◌, ℕ, zero, suc, ◌+◌, ◌*◌, ◌^◌, ◌<◌, ◌≤◌, inl, inr, List, [], ◌∷◌, ◌++◌, length, length-append, map, get_or, take, slice_get, Some, refl, sym, ap, subst, arith, append_assoc, All}
use Rattle.std.proofs.lemmas.List.{append-nil, length-map, length-take-le, map-append, take_more}
use Rattle.std.proofs.lemmas.List.Elements.{All-cons, All-nil}
use Rattle.std.proofs.lemmas.Option.{get_or_from_slice_get}
use Rattle.xm_colours.specs.Family.{Rises, colours_at}
use Rattle.xm_colours.specs.Pairs.{queue_pairs, queue_pairs_at}
use Rattle.xm_design.specs.Designed.{Designed, IsDesigned}
use Rattle.xm_model.specs.Component.{Component, Fork, Function, Join, Merge, Queue, Sink, Source, Switch, component_of}
use Rattle.xm_model.specs.Membership.{IsIn}
use Rattle.xm_model.specs.Signals.{at_side}
use Rattle.xm_model.specs.declared.primitive.Primitive.{Primitive}
use Rattle.xm_rows.specs.Row.{IsRow, SparseRow}
use Rattle.xm_flow.specs.Inner.Building.{AreMade, IsMade, a_row, no_rows}
use Rattle.xm_flow.specs.FlowRows.{AreFlowRows, Column, FlowRow, columns, flow_rows, image_row, merge_row, queue_row, rows_at, rows_from, same_row, sides_row}
use Rattle.xm_colours.specs.Lemmas.Rising.{above, rises_on}

-- ---- one more primitive

pub pair_number : (colours : ℕ → List ℕ) (p q : ℕ) (m : Component) → length (queue_pairs_at colours p m) ≡ length (queue_pairs_at colours q m)
pair_number colours p q (Source out cs mode) = refl
pair_number colours p q (Sink input mode) = refl
pair_number colours p q (Queue input out capacity initial) = length-map (colours out) (λ d. (p, d)) ∙ sym (length-map (colours out) (λ d. (q, d)))
pair_number colours p q (Function input out table) = refl
pair_number colours p q (Fork input a b ta tb) = refl
pair_number colours p q (Join a b out pass) = refl
pair_number colours p q (Switch input a b to_a) = refl
pair_number colours p q (Merge a b out) = refl

pairs-push : (colours : ℕ → List ℕ) (p : ℕ) (ms : List Component) (m : Component) → queue_pairs colours p (ms ++ m ∷ []) ≡ queue_pairs colours p ms ++ queue_pairs_at colours (p + length ms) m
pairs-push colours p [] m = let same : p ≡ p + 0 = omega arith in append-nil (queue_pairs_at colours p m) ∙ ap (λ q. queue_pairs_at colours q m) same
pairs-push colours p (x ∷ xs) m =
    let same : suc p + length xs ≡ p + suc (length xs) = omega arith in
    ap (λ l. queue_pairs_at colours p x ++ l) (pairs-push colours (suc p) xs m ∙ ap (λ q. queue_pairs colours (suc p) xs ++ queue_pairs_at colours q m) same)
    ∙ sym (append_assoc (queue_pairs_at colours p x) (queue_pairs colours (suc p) xs) (queue_pairs_at colours (p + suc (length xs)) m))

pub pairs_push : (colours : ℕ → List ℕ) (p : ℕ) (ms : List Component) (m : Component) → length (queue_pairs colours p (ms ++ m ∷ [])) ≡ length (queue_pairs colours p ms) + length (queue_pairs_at colours 0 m)
pairs_push colours p ms m =
    let all = ap length (pairs-push colours p ms m) in
    let both = length-append (queue_pairs colours p ms) (queue_pairs_at colours (p + length ms) m) in
    let same = pair_number colours (p + length ms) 0 m in
    omega (arith, all, both, same)

pub pairs_more : (colours : ℕ → List ℕ) (ms : List Primitive) (i : ℕ) (d m : Primitive) → i < length ms → m ≡ get_or ms i d →
    length (queue_pairs colours 0 (map component_of (take (i + 1) ms))) ≡ length (queue_pairs colours 0 (map component_of (take i ms))) + length (queue_pairs_at colours 0 (component_of m))
pairs_more colours ms i d m within is =
    ap (λ l. length (queue_pairs colours 0 l)) (ap (map component_of) (take_more ms i d within ∙ ap (λ x. take i ms ++ x ∷ []) (sym is)) ∙ map-append component_of (take i ms) (m ∷ []))
    ∙ pairs_push colours 0 (map component_of (take i ms)) (component_of m)

from_push : (colours : ℕ → List ℕ) (p : ℕ) (ms : List Component) (m : Component) → rows_from colours p (ms ++ m ∷ []) ≡ rows_from colours p ms ++ rows_at colours (p + length ms) m
from_push colours p [] m = let same : p ≡ p + 0 = omega arith in append-nil (rows_at colours p m) ∙ ap (λ q. rows_at colours q m) same
from_push colours p (x ∷ xs) m =
    let same : suc p + length xs ≡ p + suc (length xs) = omega arith in
    ap (λ l. rows_at colours p x ++ l) (from_push colours (suc p) xs m ∙ ap (λ q. rows_from colours (suc p) xs ++ rows_at colours q m) same)
    ∙ sym (append_assoc (rows_at colours p x) (rows_from colours (suc p) xs) (rows_at colours (p + suc (length xs)) m))

pub rows_more : (colours : ℕ → List ℕ) (ms : List Component) (i : ℕ) (m : Component) → i < length ms → slice_get ms i ≡ Some m →
    rows_from colours 0 (take (i + 1) ms) ≡ rows_from colours 0 (take i ms) ++ rows_at colours i m
rows_more colours ms i m within at =
    let is : get_or ms i m ≡ m = get_or_from_slice_get ms i m m at in
    let taken = length-take-le i ms (omega arith) in
    let number : 0 + length (take i ms) ≡ i = omega (arith, taken) in
    ap (rows_from colours 0) (take_more ms i m within ∙ ap (λ x. take i ms ++ x ∷ []) is) ∙ from_push colours 0 (take i ms) m ∙ ap (λ q. rows_from colours 0 (take i ms) ++ rows_at colours q m) number

pub listed_more : (colours : ℕ → List ℕ) (ms : List Component) (i : ℕ) (m : Component) → i < length ms → slice_get ms i ≡ Some m →
    queue_pairs colours 0 (take (i + 1) ms) ≡ queue_pairs colours 0 (take i ms) ++ queue_pairs_at colours i m
listed_more colours ms i m within at =
    let is : get_or ms i m ≡ m = get_or_from_slice_get ms i m m at in
    let taken = length-take-le i ms (omega arith) in
    let number : 0 + length (take i ms) ≡ i = omega (arith, taken) in
    ap (queue_pairs colours 0) (take_more ms i m within ∙ ap (λ x. take i ms ++ x ∷ []) is) ∙ pairs-push colours 0 (take i ms) m
    ∙ ap (λ q. queue_pairs colours 0 (take i ms) ++ queue_pairs_at colours q m) number

-- ---- made rows are the flow rows

made_length : (listed : List Column) (fs : List FlowRow) (rs : List SparseRow) → AreMade listed fs rs → length rs ≡ length fs
made_length listed [] [] no_rows = refl
made_length listed [] (r ∷ rs) h = elim h [ ]
made_length listed (f ∷ fs) [] h = elim h [ ]
made_length listed (f ∷ fs) (r ∷ rs) (a_row made rest) = let more = made_length listed fs rs rest in omega arith

made_at : (listed : List Column) (fs : List FlowRow) (rs : List SparseRow) → AreMade listed fs rs → (i : ℕ) (f : FlowRow) (r : SparseRow) → slice_get fs i ≡ Some f → slice_get rs i ≡ Some r → IsMade listed f r
made_at listed [] rs h i f r at_f at_r = cc
made_at listed (g ∷ fs) [] h i f r at_f at_r = elim h [ ]
made_at listed (g ∷ fs) (s ∷ rs) (a_row made rest) zero f r at_f at_r = let same : g ≡ f = cc in let is : s ≡ r = cc in subst (λ x. IsMade listed x r) same (subst (IsMade listed g) is made)
made_at listed (g ∷ fs) (s ∷ rs) (a_row made rest) (suc i) f r at_f at_r = made_at listed fs rs rest i f r at_f at_r

pub made_rows : (listed : List Column) (fs : List FlowRow) (rs : List SparseRow) → AreMade listed fs rs → All IsRow rs
made_rows listed [] [] no_rows = All-nil IsRow
made_rows listed [] (r ∷ rs) h = elim h [ ]
made_rows listed (f ∷ fs) [] h = elim h [ ]
made_rows listed (f ∷ fs) (r ∷ rs) (a_row made rest) = All-cons IsRow r rs made.row (made_rows listed fs rs rest)

pub made_flow : (it : Designed) (rows : List SparseRow) → AreMade (columns it) (flow_rows it) rows → AreFlowRows it rows
made_flow it rows made = record {
  whole = made_length (columns it) (flow_rows it) rows made;
  at = λ i row sparse at_row at_sparse. (made_at (columns it) (flow_rows it) rows made i row sparse at_row at_sparse).numbered;
}

-- ---- and few

few_rising : (xs : List ℕ) (m n : ℕ) → Rises xs → ((d : ℕ) → IsIn xs d → (m ≤ d) × (d < n)) → m ≤ n → length xs + m ≤ n
few_rising [] m n rise low below = omega arith
few_rising (x ∷ xs) m n rise low below =
    let here = low x (inl refl) in
    let rest = few_rising xs (suc x) n (rises_on x xs rise) (λ d h. (let up = above x xs rise d h in let more = low d (inr h) in (omega arith, more.1))) (omega arith) in
    omega (arith, rest, here)

pub few_colours : (xs : List ℕ) (n : ℕ) → Rises xs → ((d : ℕ) → IsIn xs d → d < n) → length xs ≤ n
few_colours xs n rise low = let h = few_rising xs 0 n rise (λ d i. (omega arith, low d i)) (omega arith) in omega (arith, h)

few_at : (colours : ℕ → List ℕ) → ((c : ℕ) → length (colours c) ≤ 64) → (p : ℕ) (m : Component) → length (rows_at colours p m) ≤ 129
few_at colours few p (Source out cs mode) = omega arith
few_at colours few p (Sink input mode) = omega arith
few_at colours few p (Queue input out capacity initial) = let a = length-map (colours out) (queue_row colours p input out initial) in let x = few out in omega (arith, a, x)
few_at colours few p (Function input out table) = let a = length-map (colours out) (image_row colours input table out) in let x = few out in omega (arith, a, x)
few_at colours few p (Fork input a b ta tb) =
    let one = length-map (colours a) (image_row colours input ta a) in
    let two = length-map (colours b) (image_row colours input tb b) in
    let both = length-append (map (image_row colours input ta a) (colours a)) (map (image_row colours input tb b) (colours b)) in
    let x = few a in let y = few b in omega (arith, one, two, both, x, y)
few_at colours few p (Join a b out pass) =
    let one = length-map (colours out) (same_row colours (at_side pass a b) out) in
    let both = length-append (map (same_row colours (at_side pass a b) out) (colours out)) (sides_row colours a b ∷ []) in
    let x = few out in omega (arith, one, both, x)
few_at colours few p (Switch input a b to_a) =
    let one = length-map (colours a) (same_row colours input a) in
    let two = length-map (colours b) (same_row colours input b) in
    let both = length-append (map (same_row colours input a) (colours a)) (map (same_row colours input b) (colours b)) in
    let x = few a in let y = few b in omega (arith, one, two, both, x, y)
few_at colours few p (Merge a b out) = let one = length-map (colours out) (merge_row colours a b out) in let x = few out in omega (arith, one, x)

few_from : (colours : ℕ → List ℕ) → ((c : ℕ) → length (colours c) ≤ 64) → (p : ℕ) (ms : List Component) → length (rows_from colours p ms) ≤ 129 * length ms
few_from colours few p [] = omega arith
few_from colours few p (m ∷ ms) =
    let here = few_at colours few p m in let rest = few_from colours few (suc p) ms in
    let len = length-append (rows_at colours p m) (rows_from colours (suc p) ms) in omega (arith, here, rest, len)

pub few_rows : (it : Designed) → IsDesigned it → ((c d : ℕ) → IsIn (colours_at it.colours c) d → d < it.net.colours) → (rows : List SparseRow) → AreMade (columns it) (flow_rows it) rows → length rows < 2 ^ 20
few_rows it designed below rows made =
    let len = made_length (columns it) (flow_rows it) rows made in
    let few = few_from (colours_at it.colours) (λ c. (let n = few_colours (colours_at it.colours c) it.net.colours (designed.colours.rise c) (below c) in omega (arith, n, designed.net.limits.colours))) 0 it.net.prims in
    omega (arith, len, few, designed.net.limits.prims)

pub same_length : (ms : List Primitive) (ns own : List Component) → map component_of ms ≡ ns → ns ≡ own → length ms ≡ length own
same_length ms ns own is same = sym (length-map ms component_of) ∙ ap length is ∙ ap length same
