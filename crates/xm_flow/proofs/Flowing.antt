-- Each flow row holds at each moment of a run, as terms over its columns.
use Rattle.std.proofs.Common.{◌≡◌, ℕ, zero, suc, ◌+◌, ◌<◌, ◌≤◌, pos, neg_ℤ, ℤ, ◌+ℤ◌, ◌*ℤ◌, Bool, true, false, ◌&&◌, Option, Some, None, List, [], ◌∷◌, map, slice_get, refl, sym, ◌∙◌, ap, subst, arith, cond, nat_lt, inl, inr, All}
use Rattle.std.proofs.lemmas.Int.{ints}
use Rattle.std.proofs.lemmas.Bool.{cases_Bool, cond-true, cond-false, ltb-false, ne_eqb}
use Rattle.std.proofs.lemmas.List.Elements.{All-cons, All-nil}
use Rattle.std.proofs.Math.IntN.{*ℤ-zero}
use Rattle.xm_colours.specs.Cuts.{CutsHold}
use Rattle.xm_colours.specs.Family.{AreColours}
use Rattle.xm_design.specs.ColouredRuns.{ColoursHold}
use Rattle.xm_design.specs.Lemmas.Offers.{only_if_some}
use Rattle.xm_model.specs.Component.{Component, Content, Source, Sink, Queue, Function, Fork, Join, Switch, Merge}
use Rattle.xm_model.specs.Lemmas.PortCounts.{count_append, counted, input_below}
use Rattle.xm_model.specs.Frame.{MergeEquation}
use Rattle.xm_model.specs.Net.{HasPrim, IsNet, Network}
use Rattle.xm_model.specs.Next.{joined, left, move, next_at, reset_at}
use Rattle.xm_model.specs.Ports.{HasInput, fork_input, function_input, join_input_a, join_input_b, merge_input_a, merge_input_b, queue_input, switch_input}
use Rattle.xm_model.specs.Membership.{IsIn, times}
use Rattle.xm_model.specs.Run.{IsRun, TapeFits, is_offer, moves}
use Rattle.xm_model.specs.Signals.{Signals, at_side, grant, granted_offer, is_a, is_b, only_if, packets_in, pref_in}
use Rattle.xm_model.specs.declared.state.Choice.{Choice}
use Rattle.xm_model.specs.declared.primitive.Side.{Side}
use Rattle.xm_model.specs.declared.primitive.Side.TheVariants.{A, B}
use Rattle.xm_order.specs.Dependence.{IsOrder}
use Rattle.xm_order.specs.declared.signal.Signal.{Signal}
use Rattle.xm_flow.specs.FlowRows.{Column, Count, FlowRow, Moves, Term, if_coloured, image_row, merge_row, minus, plus, queue_row, row_value, rows_at, rows_from, same_row, sides_row, taken_to}
use Rattle.xm_flow.specs.Holding.{column_value}
use Rattle.xm_flow.proofs.Image.{total, image_flow, value-append, value-minus, value-plus, function_moves, fork_moves_a, fork_moves_b, join_moves, switch_moves, same_moves, same_totals, to_a_same, to_b_same}
use Rattle.xm_flow.specs.Lemmas.Listing.{all_append, all_mapped}
use Rattle.xm_flow.proofs.Rising.{once_in}

times-joined : (d : ℕ) (ps : List ℕ) (arrival : Option ℕ) → times d (joined ps arrival) ≡ times d ps + cond (is_offer d arrival) 1 0
times-joined d ps None = omega arith
times-joined d ps (Some e) = omega (arith, count_append d ps (e ∷ []))

times-left : (d : ℕ) (ps : List ℕ) (departure : Option ℕ) → ((e : ℕ) → departure ≡ Some e → slice_get ps 0 ≡ Some e) →
    times d ps ≡ times d (left ps departure) + cond (is_offer d departure) 1 0
times-left d ps None h = omega arith
times-left d [] (Some e) h = let none = h e refl in cc
times-left d (p ∷ ps) (Some e) h = let same = h e refl in let is : p ≡ e = cc in rw is (omega arith)

-- what moves through a merge moves on one side
merge_once : (d : ℕ) (pref : Side) (x y : Option ℕ) (r : Bool) →
    cond (is_offer d (only_if r (granted_offer (grant pref x y) x y))) 1 0
    ≡ cond (is_offer d (only_if (is_a (grant pref x y) && r) x)) 1 0 + cond (is_offer d (only_if (is_b (grant pref x y) && r) y)) 1 0
merge_once d A (Some x) y true = omega arith
merge_once d A (Some x) y false = omega arith
merge_once d A None (Some y) true = omega arith
merge_once d A None (Some y) false = omega arith
merge_once d A None None true = omega arith
merge_once d A None None false = omega arith
merge_once d B x (Some y) true = omega arith
merge_once d B x (Some y) false = omega arith
merge_once d B (Some x) None true = omega arith
merge_once d B (Some x) None false = omega arith
merge_once d B None None true = omega arith
merge_once d B None None false = omega arith

merge_moves : (a b out d : ℕ) (pref : Side) (φ : Signals) → MergeEquation a b out pref φ →
    cond (is_offer d (move φ out)) 1 0 ≡ cond (is_offer d (move φ a)) 1 0 + cond (is_offer d (move φ b)) 1 0
merge_moves a b out d pref φ e = rw (e.offer_out, e.ready_a, e.ready_b) (merge_once d pref (φ.offer a) (φ.offer b) (φ.ready out))

passed : (pass : Side) (a b : ℕ) (φ : Signals) → at_side pass (move φ a) (move φ b) ≡ move φ (at_side pass a b)
passed A a b φ = refl
passed B a b φ = refl

side_takes : (pass : Side) (a b out : ℕ) → HasInput (Join a b out pass) (at_side pass a b)
side_takes A a b out = join_input_a
side_takes B a b out = join_input_b

module _ (net : Network) (signals : List Signal) (colours : ℕ → List ℕ) (cycles : ℕ) (w : ℕ → ℕ → Choice) (s : ℕ → ℕ → Content) (φ : ℕ → Signals)
    (coloured : ColoursHold) (cuts : CutsHold)
    (is_net : IsNet net) (order : IsOrder net signals) (are : AreColours net colours) (tape : TapeFits net cycles w) (run : IsRun net cycles w s φ) where
  below : (p : ℕ) (m : Component) (c : ℕ) → HasPrim net p m → HasInput m c → c < net.channels
  below p m c has takes = input_below net (counted net is_net) p m c has takes

  once : (c : ℕ) → c < net.channels → (t x : ℕ) → t < cycles → move (φ t) c ≡ Some x → times x (colours c) ≡ 1
  once c is_channel t x h is =
      once_in (colours c) (are.rise c) x
      ((coloured net signals colours cycles w s φ is_net order are.closed tape run).1 t c x h is_channel (only_if_some ((φ t).ready c) ((φ t).offer c) x is).1)

  -- a colour outside the channel's set never moves
  moves_none : (c d : ℕ) → c < net.channels → times d (colours c) ≡ 0 → (t : ℕ) → t ≤ cycles → moves φ c d t ≡ 0
  moves_none c d is_channel none zero h = refl
  moves_none c d is_channel none (suc t) h =
      let before = moves_none c d is_channel none t (omega arith) in
      let still : is_offer d (move (φ t) c) ≡ false = by_move (move (φ t) c) refl in
      rw still (omega (arith, before)) where
        by_move : (o : Option ℕ) → move (φ t) c ≡ o → is_offer d o ≡ false
        by_move None is = refl
        by_move (Some x) is = ne_eqb x d (λ same.
            let one = once c is_channel t x (omega arith) is in
            let e : times x (colours c) ≡ times d (colours c) = ap (λ (y : ℕ). times y (colours c)) same in
            omega (arith, one, e, none))

  coloured_value : (sign : Column → Term) (v : ℤ) (c d : ℕ) → ((k : Column) → sign k ≡ record { value = v; column = k }) → c < net.channels → (t : ℕ) → t ≤ cycles →
      row_value (column_value (s t) φ t) (if_coloured colours sign c d) ≡ v *ℤ pos (moves φ c d t)
  coloured_value sign v c d is is_channel t h =
      elim (cases_Bool (nat_lt 0 (times d (colours c)))) [
        | inl some ↦
            let one = ap (λ (k : Term). (k.value *ℤ column_value (s t) φ t k.column) +ℤ pos 0) (is (Moves c d)) in
            rw (cond-true (nat_lt 0 (times d (colours c))) (sign (Moves c d) ∷ []) [] some) (one ∙ (let same : (v *ℤ pos (moves φ c d t)) +ℤ pos 0 ≡ v *ℤ pos (moves φ c d t) = omega (arith, ints) in same))
        | inr none ↦
            let few : times d (colours c) ≤ 0 = ltb-false 0 (times d (colours c)) none in
            let never = moves_none c d is_channel (omega (arith, few)) t h in
            let z = *ℤ-zero v in
            rw (cond-false (nat_lt 0 (times d (colours c))) (sign (Moves c d) ∷ []) [] none, never) (sym z)
      ]

  queue_flow : (p input out capacity d : ℕ) (initial : List ℕ) → HasPrim net p (Queue input out capacity initial) → (t : ℕ) → t ≤ cycles →
      moves φ input d t + times d initial ≡ moves φ out d t + times d (packets_in (s t p))
  queue_flow p input out capacity d initial has zero h =
      let first : packets_in (s 0 p) ≡ initial = ap packets_in (run.start p) ∙ ap (λ o. packets_in (reset_at o)) has in rw first (omega arith)
  queue_flow p input out capacity d initial has (suc t) h =
      let before = queue_flow p input out capacity d initial has t (omega arith) in
      let e = run.frames t (omega arith) p _ has in
      let ps = packets_in (s t p) in
      let now : packets_in (s (suc t) p) ≡ joined (left ps (move (φ t) out)) (move (φ t) input) =
      ap packets_in (run.steps t p (omega arith)) ∙ ap (λ o. packets_in (next_at o (s t p) (φ t))) has in
      let came = times-joined d (left ps (move (φ t) out)) (move (φ t) input) in
      let went = times-left d ps (move (φ t) out) (λ x is. sym e.offer_out ∙ (only_if_some ((φ t).ready out) ((φ t).offer out) x is).1) in
      rw now (omega (arith, before, came, went))

  merge_flow : (p a b out d : ℕ) → HasPrim net p (Merge a b out) → (t : ℕ) → t ≤ cycles → moves φ out d t ≡ moves φ a d t + moves φ b d t
  merge_flow p a b out d has zero h = omega arith
  merge_flow p a b out d has (suc t) h =
      let before = merge_flow p a b out d has t (omega arith) in
      let e = run.frames t (omega arith) p _ has in
      let now = merge_moves a b out d (pref_in (s t p)) (φ t) e in
      omega (arith, before, now)

  plus_value : (c d t : ℕ) → c < net.channels → t ≤ cycles → row_value (column_value (s t) φ t) (if_coloured colours plus c d) ≡ pos (moves φ c d t)
  plus_value c d t is_channel h = let v = coloured_value plus (pos 1) c d (λ k. refl) is_channel t h in omega (arith, ints)

  minus_value : (c d t : ℕ) → c < net.channels → t ≤ cycles → row_value (column_value (s t) φ t) (if_coloured colours minus c d) ≡ neg_ℤ (pos (moves φ c d t))
  minus_value c d t is_channel h = let v = coloured_value minus (neg_ℤ (pos 1)) c d (λ k. refl) is_channel t h in omega (arith, ints)

  abbrev Holds : ℕ → FlowRow → Type 0
  Holds t row = row_value (column_value (s t) φ t) row.left ≡ row.constant

  of_queue : (p input out capacity d : ℕ) (initial : List ℕ) → HasPrim net p (Queue input out capacity initial) → (t : ℕ) → t ≤ cycles → Holds t (queue_row colours p input out initial d)
  of_queue p input out capacity d initial has t h =
      let e = queue_flow p input out capacity d initial has t h in
      let m = plus_value input d t (below p _ input has queue_input) h in
      let parted = value-append (column_value (s t) φ t) (if_coloured colours plus input d) (minus (Moves out d) ∷ minus (Count p d) ∷ []) in
      omega (arith, ints, e)

  of_image : (t input out e : ℕ) (table : List ℕ) → moves φ out e t ≡ total φ input (taken_to table e (colours input)) t → Holds t (image_row colours input table out e)
  of_image t input out e table same =
      let rest = value-minus (column_value (s t) φ t) φ input t (λ d. refl) (taken_to table e (colours input)) in omega (arith, ints)

  of_same : (t input out d : ℕ) → input < net.channels → t ≤ cycles → moves φ out d t ≡ moves φ input d t → Holds t (same_row colours input out d)
  of_same t input out d is_channel h same = let m = minus_value input d t is_channel h in omega (arith, ints)

  of_merge : (p a b out d : ℕ) → HasPrim net p (Merge a b out) → (t : ℕ) → t ≤ cycles → Holds t (merge_row colours a b out d)
  of_merge p a b out d has t h =
      let e = merge_flow p a b out d has t h in
      let m = minus_value a d t (below p _ a has merge_input_a) h in
      let n = minus_value b d t (below p _ b has merge_input_b) h in
      let parted = value-append (column_value (s t) φ t) (if_coloured colours minus a d) (if_coloured colours minus b d) in
      omega (arith, ints, e)

  of_function : (p input out e : ℕ) (table : List ℕ) → HasPrim net p (Function input out table) → (t : ℕ) → t ≤ cycles → Holds t (image_row colours input table out e)
  of_function p input out e table has t h =
      of_image t input out e table (image_flow φ input out cycles e table (colours input) (λ u early. function_moves input out table (φ u) (run.frames u early p _ has))
      (λ u x early is. once input (below p _ input has function_input) u x early is) t h)

  of_fork_a : (p input a b e : ℕ) (ta tb : List ℕ) → HasPrim net p (Fork input a b ta tb) → (t : ℕ) → t ≤ cycles → Holds t (image_row colours input ta a e)
  of_fork_a p input a b e ta tb has t h =
      of_image t input a e ta (image_flow φ input a cycles e ta (colours input) (λ u early. fork_moves_a input a b ta tb (φ u) (run.frames u early p _ has))
      (λ u x early is. once input (below p _ input has fork_input) u x early is) t h)

  of_fork_b : (p input a b e : ℕ) (ta tb : List ℕ) → HasPrim net p (Fork input a b ta tb) → (t : ℕ) → t ≤ cycles → Holds t (image_row colours input tb b e)
  of_fork_b p input a b e ta tb has t h =
      of_image t input b e tb (image_flow φ input b cycles e tb (colours input) (λ u early. fork_moves_b input a b ta tb (φ u) (run.frames u early p _ has))
      (λ u x early is. once input (below p _ input has fork_input) u x early is) t h)

  of_join : (p a b out d : ℕ) (pass : Side) → HasPrim net p (Join a b out pass) → (t : ℕ) → t ≤ cycles → Holds t (same_row colours (at_side pass a b) out d)
  of_join p a b out d pass has t h =
      of_same t (at_side pass a b) out d (below p _ (at_side pass a b) has (side_takes pass a b out)) h
      (same_moves φ out (at_side pass a b) d cycles (λ u early. ap (is_offer d) ((join_moves a b out pass (φ u) (run.frames u early p _ has)).0 ∙ passed pass a b (φ u))) t h)

  of_sides : (p a b out : ℕ) (pass : Side) → HasPrim net p (Join a b out pass) → (t : ℕ) → t ≤ cycles → Holds t (sides_row colours a b)
  of_sides p a b out pass has t h =
      let same = same_totals φ a b cycles (colours a) (colours b) (λ u early. (join_moves a b out pass (φ u) (run.frames u early p _ has)).1)
      (λ u x early is. once a (below p _ a has join_input_a) u x early is) (λ u x early is. once b (below p _ b has join_input_b) u x early is) t h in
      let minuses = value-minus (column_value (s t) φ t) φ b t (λ d. refl) (colours b) in
      let pluses = value-plus (column_value (s t) φ t) φ a t (λ d. refl) (colours a) in
      let parted = value-append (column_value (s t) φ t) (map (λ d. plus (Moves a d)) (colours a)) (map (λ d. minus (Moves b d)) (colours b)) in
      omega (arith, ints)

  of_switch_a : (p input a b d : ℕ) (to_a : List Bool) → HasPrim net p (Switch input a b to_a) → IsIn (colours a) d → (t : ℕ) → t ≤ cycles → Holds t (same_row colours input a d)
  of_switch_a p input a b d to_a has inside t h =
      of_same t input a d (below p _ input has switch_input) h
      (same_moves φ a input d cycles (λ u early. ap (is_offer d) (switch_moves input a b to_a (φ u) (run.frames u early p _ has)).0 ∙ to_a_same to_a d (move (φ u) input) ((cuts net colours is_net are p input a b to_a d has).0 inside)) t h)

  of_switch_b : (p input a b d : ℕ) (to_a : List Bool) → HasPrim net p (Switch input a b to_a) → IsIn (colours b) d → (t : ℕ) → t ≤ cycles → Holds t (same_row colours input b d)
  of_switch_b p input a b d to_a has inside t h =
      of_same t input b d (below p _ input has switch_input) h
      (same_moves φ b input d cycles (λ u early. ap (is_offer d) (switch_moves input a b to_a (φ u) (run.frames u early p _ has)).1 ∙ to_b_same to_a d (move (φ u) input) ((cuts net colours is_net are p input a b to_a d has).1 inside)) t h)

  at_hold : (p : ℕ) (m : Component) → HasPrim net p m → (t : ℕ) → t ≤ cycles → All (Holds t) (rows_at colours p m)
  at_hold p (Source out cs mode) has t h = All-nil (Holds t)
  at_hold p (Sink input mode) has t h = All-nil (Holds t)
  at_hold p (Queue input out capacity initial) has t h = all_mapped (Holds t) (queue_row colours p input out initial) (colours out) (λ d inside. of_queue p input out capacity d initial has t h)
  at_hold p (Function input out table) has t h = all_mapped (Holds t) (image_row colours input table out) (colours out) (λ e inside. of_function p input out e table has t h)
  at_hold p (Fork input a b ta tb) has t h =
      all_append (Holds t) (map (image_row colours input ta a) (colours a)) (map (image_row colours input tb b) (colours b))
      (all_mapped (Holds t) (image_row colours input ta a) (colours a) (λ e inside. of_fork_a p input a b e ta tb has t h))
      (all_mapped (Holds t) (image_row colours input tb b) (colours b) (λ e inside. of_fork_b p input a b e ta tb has t h))
  at_hold p (Join a b out pass) has t h =
      all_append (Holds t) (map (same_row colours (at_side pass a b) out) (colours out)) (sides_row colours a b ∷ [])
      (all_mapped (Holds t) (same_row colours (at_side pass a b) out) (colours out) (λ d inside. of_join p a b out d pass has t h))
      (All-cons (Holds t) (sides_row colours a b) [] (of_sides p a b out pass has t h) (All-nil (Holds t)))
  at_hold p (Switch input a b to_a) has t h =
      all_append (Holds t) (map (same_row colours input a) (colours a)) (map (same_row colours input b) (colours b))
      (all_mapped (Holds t) (same_row colours input a) (colours a) (λ d inside. of_switch_a p input a b d to_a has inside t h))
      (all_mapped (Holds t) (same_row colours input b) (colours b) (λ d inside. of_switch_b p input a b d to_a has inside t h))
  at_hold p (Merge a b out) has t h = all_mapped (Holds t) (merge_row colours a b out) (colours out) (λ d inside. of_merge p a b out d has t h)

  from_hold : (p : ℕ) (ms : List Component) → ((i : ℕ) (m : Component) → slice_get ms i ≡ Some m → HasPrim net (p + i) m) → (t : ℕ) → t ≤ cycles → All (Holds t) (rows_from colours p ms)
  from_hold p [] are_prims t h = All-nil (Holds t)
  from_hold p (m ∷ ms) are_prims t h =
      let same : p + 0 ≡ p = omega arith in
      all_append (Holds t) (rows_at colours p m) (rows_from colours (suc p) ms) (at_hold p m (subst (λ (q : ℕ). HasPrim net q m) same (are_prims 0 m refl)) t h)
      (from_hold (suc p) ms (λ i x found. let next : p + suc i ≡ suc p + i = omega arith in subst (λ (q : ℕ). HasPrim net q x) next (are_prims (suc i) x found)) t h)

  pub rows_hold : (t : ℕ) → t ≤ cycles → All (λ row. row_value (column_value (s t) φ t) row.left ≡ row.constant) (rows_from colours 0 net.prims)
  rows_hold t h = from_hold 0 net.prims (λ i m found. let same : i ≡ 0 + i = omega arith in subst (λ (q : ℕ). HasPrim net q m) same found) t h
