-- Queue pairs by their number: the primitive that each belongs to, and its colour.
use Rattle.std.proofs.Common.{◌≡◌, ◌∙◌, ℕ, zero, suc, ◌+◌, ◌<◌, ◌≤◌, List, [], ◌∷◌, ◌++◌, length, length-append, take, slice_get, option_map, Some, refl, sym, ap, subst, arith}
use Rattle.std.proofs.lemmas.List.{take_all, take_more}
use Rattle.std.proofs.lemmas.Option.{get_or_from_slice_get, slice_get-map}
use Rattle.xm_colours.specs.Family.{colours_at}
use Rattle.xm_colours.specs.Pairs.{queue_pairs, queue_pairs_at}
use Rattle.xm_design.specs.Designed.{Designed}
use Rattle.xm_model.specs.Component.{Component, Content}
use Rattle.xm_model.specs.Net.{HasPrim}
use Rattle.xm_order.specs.Lemmas.Items.{get-append_left, get-append_right}
use Rattle.xm_flow.specs.FlowRows.{count_of}
use Rattle.xm_flow.specs.Holding.{count_columns, count_value, point, queue_pair_count, value_or}
use Rattle.xm_flow.specs.Inner.Reaching.{HasPair, IsReached}
use Rattle.xm_flow.proofs.Wholes.{pair_number, pairs_push}

-- a pair of primitive q stands behind all pairs of those below q
pair_get : (colours : ℕ → List ℕ) (p : ℕ) (ms : List Component) (q : ℕ) (m : Component) (k : ℕ) (x : ℕ × ℕ) →
    slice_get ms q ≡ Some m → slice_get (queue_pairs_at colours (p + q) m) k ≡ Some x →
    slice_get (queue_pairs colours p ms) (length (queue_pairs colours p (take q ms)) + k) ≡ Some x
pair_get colours p [] q m k x at has = cc
pair_get colours p (y ∷ ys) zero m k x at has =
    let is : m ≡ y = cc in
    let here : p + 0 ≡ p = omega arith in
    let own : slice_get (queue_pairs_at colours p y) k ≡ Some x =
    subst (λ (i : ℕ). slice_get (queue_pairs_at colours i y) k ≡ Some x) here (subst (λ (n : Component). slice_get (queue_pairs_at colours (p + 0) n) k ≡ Some x) is has) in
    let first : 0 + k ≡ k = omega arith in
    ap (slice_get (queue_pairs colours p (y ∷ ys))) first ∙ get-append_left (queue_pairs_at colours p y) (queue_pairs colours (suc p) ys) k x own
pair_get colours p (y ∷ ys) (suc q) m k x at has =
    let here : p + suc q ≡ suc p + q = omega arith in
    let own : slice_get (queue_pairs_at colours (suc p + q) m) k ≡ Some x = subst (λ (i : ℕ). slice_get (queue_pairs_at colours i m) k ≡ Some x) here has in
    let len = length-append (queue_pairs_at colours p y) (queue_pairs colours (suc p) (take q ys)) in
    get-append_right (queue_pairs_at colours p y) (queue_pairs colours (suc p) ys) _ (length (queue_pairs colours (suc p) (take q ys)) + k) (omega (arith, len))
    ∙ pair_get colours (suc p) ys q m k x at own

-- the j-th queue pair, where primitive p is reached and its own pair is (p, d)
pub count_point : (it : Designed) (p below j k d : ℕ) (m : Component) (s : ℕ → Content) → HasPair it p below j → HasPrim it.net p m → j ≡ below + k →
    slice_get (queue_pairs_at (colours_at it.colours) p m) k ≡ Some (p, d) → point (count_columns it) (count_value s) j ≡ count_value s (count_of (p, d))
count_point it p below j k d m s pair has is at =
    let whole = queue_pairs (colours_at it.colours) 0 it.net.prims in
    let number : j ≡ length (queue_pairs (colours_at it.colours) 0 (take p it.net.prims)) + k = omega (arith, is, pair.reached.number) in
    let zeroth : 0 + p ≡ p = omega arith in
    let own : slice_get (queue_pairs_at (colours_at it.colours) (0 + p) m) k ≡ Some (p, d) =
    subst (λ (i : ℕ). slice_get (queue_pairs_at (colours_at it.colours) i m) k ≡ Some (p, d)) (sym zeroth) at in
    let found : slice_get whole j ≡ Some (p, d) = ap (slice_get whole) number ∙ pair_get (colours_at it.colours) 0 it.net.prims p m k (p, d) has own in
    ap (value_or (count_value s)) (slice_get-map count_of whole j ∙ ap (option_map count_of) found)

-- none stand below the first primitive
pub reached_first : (it : Designed) → IsReached it 0 0
reached_first it = record { within = omega arith; number = none it.net.prims; few = omega arith }
  where
    none : (ms : List Component) → 0 ≡ length (queue_pairs (colours_at it.colours) 0 (take 0 ms))
    none [] = refl
    none (m ∷ ms) = refl

-- one primitive more
pub reached_more : (it : Designed) (p below here : ℕ) (m : Component) → IsReached it p below → p < length it.net.prims → HasPrim it.net p m →
    here ≡ length (queue_pairs_at (colours_at it.colours) 0 m) → here ≤ 64 → IsReached it (p + 1) (below + here)
reached_more it p below here m reached inside has is few =
    let taken = take_more it.net.prims p m inside ∙ ap (λ (x : Component). take p it.net.prims ++ x ∷ []) (get_or_from_slice_get it.net.prims p m m has) in
    let more = ap (λ (ms : List Component). length (queue_pairs (colours_at it.colours) 0 ms)) taken ∙ pairs_push (colours_at it.colours) 0 (take p it.net.prims) m in
    record { within = omega arith; number = omega (arith, more, reached.number, is); few = omega (arith, reached.few, few) }

-- and where the pair is one of its own
pub reached_here : (it : Designed) (p below here j : ℕ) (m : Component) → IsReached it p below → p < length it.net.prims → HasPrim it.net p m →
    here ≡ length (queue_pairs_at (colours_at it.colours) 0 m) → below ≤ j → j < below + here → HasPair it p below j
reached_here it p below here j m reached inside has is low high = record {
  reached = reached;
  inside = inside;
  low = low;
  high = λ n own. (let same : m ≡ n = cc in let number = pair_number (colours_at it.colours) p 0 m in let len : length (queue_pairs_at (colours_at it.colours) p n) ≡ here = ap (λ (x : Component). length (queue_pairs_at (colours_at it.colours) p x)) (sym same) ∙ number ∙ sym is in omega (arith, len, high));
}

-- past the last primitive there are none
pub reached_all : (it : Designed) (p below j : ℕ) → IsReached it p below → length it.net.prims ≤ p → below ≤ j → j < queue_pair_count it → ⊥
reached_all it p below j reached past low within =
    let all = ap (λ (ms : List Component). length (queue_pairs (colours_at it.colours) 0 ms)) (take_all p it.net.prims past) in
    omega (arith, all, reached.number, low, within)
