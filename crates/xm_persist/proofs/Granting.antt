-- What is found along an order is exact.
use Rattle.std.proofs.Common.{◌≡◌, ◌≢◌, ℕ, ◌+◌, ◌<◌, Bool, true, false, cond, nat_eq, Option, Some, None, List, length, slice_get, refl, sym, ◌∙◌, ap, subst, inl, inr, arith}
use Rattle.std.proofs.lemmas.Bool.{and_parts, and_from, cases_eq}
use Rattle.std.proofs.lemmas.Option.{slice_get_within}
use Rattle.std.specs.Prelude.{IfNone, IfSome}
use Rattle.xm_model.specs.Component.{Component, Fork}
use Rattle.xm_model.specs.Lemmas.PortCounts.{IsCounted, apart, at_first, at_second, counted, output_below, times_within}
use Rattle.xm_model.specs.Net.{HasPrim, IsNet, Network}
use Rattle.xm_model.specs.Ports.{HasOutput, IsInitiator, IsTarget, HasInput, fork_output_a, fork_output_b, fork_input, function_output, function_input, join_output, join_input_a, join_input_b, merge_output, merge_input_a, merge_input_b, queue_output, queue_input, sink_input, source_output, switch_output_a, switch_output_b, switch_input}
use Rattle.xm_model.specs.Lemmas.OneTarget.{apart_inputs}
use Rattle.xm_model.specs.declared.primitive.SinkMode.{SinkMode}
use Rattle.xm_model.specs.declared.primitive.SinkMode.TheVariants as sink_mode
use Rattle.xm_model.specs.declared.primitive.SourceMode.{SourceMode}
use Rattle.xm_model.specs.declared.primitive.SourceMode.TheVariants as source_mode
use Rattle.xm_order.specs.Dependence.{IsOrder, Needs, fork_offer_a_b, fork_offer_a_in, fork_offer_b_a, fork_offer_b_in, fork_ready_a, fork_ready_b, function_offer, function_ready, join_offer_a, join_offer_b, join_ready_a_b, join_ready_a_out, join_ready_b_a, join_ready_b_out, merge_offer_a, merge_offer_b, switch_offer_a, switch_offer_b}
use Rattle.xm_order.specs.declared.signal.Signal.{Signal}
use Rattle.xm_order.specs.declared.signal.Signal.TheVariants as signal
use Rattle.xm_persist.proofs.Grounds.{grounds, target_grounds}
use Rattle.xm_persist.specs.declared.persistencies.Persistency.{Persistency}
use Rattle.xm_persist.specs.Inner.Persistencies.{granted_in, AreExact, IsExact, GrantedBy, OthersStay, grants_initiator, keeps_offer, keeps_ready, grants_target}
use Rattle.xm_persist.specs.Rights.{AllGranted, IsFirstUngranted, Granted, Initiator, Target, fork_a, fork_b, fork_in, function_in, function_out, join_a, join_b, join_out, merge_a, merge_b, merge_out, queue_in, queue_out, sink_in, source_out, switch_a, switch_b, switch_in}

kept : (mode : SourceMode) → mode ≢ source_mode.Free → keeps_offer mode ≡ true
kept source_mode.Keep h = refl
kept source_mode.Eager h = refl
kept source_mode.Free h = absurd (h refl)
kept source_mode.Fair h = refl

kept_ready : (mode : SinkMode) → mode ≢ sink_mode.Free → keeps_ready mode ≡ true
kept_ready sink_mode.Keep h = refl
kept_ready sink_mode.Free h = absurd (h refl)

not_free : (mode : SourceMode) → keeps_offer mode ≡ true → mode ≢ source_mode.Free
not_free source_mode.Keep h is = cc
not_free source_mode.Eager h is = cc
not_free source_mode.Free h is = cc
not_free source_mode.Fair h is = cc

not_free_ready : (mode : SinkMode) → keeps_ready mode ≡ true → mode ≢ sink_mode.Free
not_free_ready sink_mode.Keep h is = cc
not_free_ready sink_mode.Free h is = cc

module _ (net : Network) (is_net : IsNet net) (granted : Signal → Bool) where
  wired : IsCounted net
  wired = counted net is_net

  second_output : (i input a b : ℕ) (ta tb : List ℕ) → HasPrim net i (Fork input a b ta tb) → nat_eq b a ≡ false
  second_output i input a b ta tb has =
      let within = times_within net i _ a has in
      let once = wired.one_initiator a (output_below net wired i _ a has fork_output_a) in
      apart a b (omega arith)

  -- what was found of a right is exact where those on which it rests are
  initiator_sound : (i : ℕ) (m : Component) (c : ℕ) → HasPrim net i m → HasOutput m c → ((τ : Signal) → Needs m (signal.Offer c) τ → IsExact net granted τ) → grants_initiator m c granted ≡ true → Granted net (Initiator c)
  initiator_sound i m c has (source_output {colours = cs} {mode = mode}) known is = source_out i c cs mode has (not_free mode is)
  initiator_sound i m c has (queue_output {input = input} {capacity = capacity} {initial = initial}) known is = queue_out i input c capacity initial has
  initiator_sound i m c has (function_output {input = input} {table = table}) known is = function_out i input c table has ((known (signal.Offer input) function_offer).0 is)
  initiator_sound i m c has (fork_output_a {input = input} {b = b} {table_a = ta} {table_b = tb}) known is =
      let both = and_parts (granted (signal.Offer input)) (granted (signal.Ready (cond (nat_eq c c) b c))) is in
      let other : granted (signal.Ready b) ≡ true = ap (λ e. granted (signal.Ready e)) (sym (at_first c b c)) ∙ both.1 in
      fork_a i input c b ta tb has ((known (signal.Offer input) fork_offer_a_in).0 both.0) ((known (signal.Ready b) fork_offer_a_b).0 other)
  initiator_sound i m c has (fork_output_b {input = input} {a = a} {table_a = ta} {table_b = tb}) known is =
      let both = and_parts (granted (signal.Offer input)) (granted (signal.Ready (cond (nat_eq c a) c a))) is in
      let other : granted (signal.Ready a) ≡ true = ap (λ e. granted (signal.Ready e)) (sym (at_second a c c a (second_output i input a c ta tb has))) ∙ both.1 in
      fork_b i input a c ta tb has ((known (signal.Offer input) fork_offer_b_in).0 both.0) ((known (signal.Ready a) fork_offer_b_a).0 other)
  initiator_sound i m c has (join_output {a = a} {b = b} {pass = pass}) known is =
      let both = and_parts (granted (signal.Offer a)) (granted (signal.Offer b)) is in
      join_out i a b c pass has ((known (signal.Offer a) join_offer_a).0 both.0) ((known (signal.Offer b) join_offer_b).0 both.1)
  initiator_sound i m c has (switch_output_a {input = input} {b = b} {to_a = to_a}) known is = switch_a i input c b to_a has ((known (signal.Offer input) switch_offer_a).0 is)
  initiator_sound i m c has (switch_output_b {input = input} {a = a} {to_a = to_a}) known is = switch_b i input a c to_a has ((known (signal.Offer input) switch_offer_b).0 is)
  initiator_sound i m c has (merge_output {a = a} {b = b}) known is =
      let both = and_parts (granted (signal.Offer a)) (granted (signal.Offer b)) is in
      merge_out i a b c has ((known (signal.Offer a) merge_offer_a).0 both.0) ((known (signal.Offer b) merge_offer_b).0 both.1)

  initiator_found : (i : ℕ) (m : Component) (c : ℕ) → HasPrim net i m → HasOutput m c → ((τ : Signal) → Needs m (signal.Offer c) τ → IsExact net granted τ) → Granted net (Initiator c) → grants_initiator m c granted ≡ true
  initiator_found i m c has (source_output {mode = mode}) known g = kept mode (grounds net wired c g i _ has source_output)
  initiator_found i m c has queue_output known g = refl
  initiator_found i m c has (function_output {input = input}) known g = (known (signal.Offer input) function_offer).1 (grounds net wired c g i _ has function_output)
  initiator_found i m c has (fork_output_a {input = input} {b = b}) known g =
      let x = grounds net wired c g i _ has fork_output_a in
      let other : granted (signal.Ready (cond (nat_eq c c) b c)) ≡ true = ap (λ e. granted (signal.Ready e)) (at_first c b c) ∙ (known (signal.Ready b) fork_offer_a_b).1 (x.1.0 refl) in
      and_from (granted (signal.Offer input)) _ ((known (signal.Offer input) fork_offer_a_in).1 x.0) other
  initiator_found i m c has (fork_output_b {input = input} {a = a} {table_a = ta} {table_b = tb}) known g =
      let x = grounds net wired c g i _ has fork_output_b in
      let other : granted (signal.Ready (cond (nat_eq c a) c a)) ≡ true = ap (λ e. granted (signal.Ready e)) (at_second a c c a (second_output i input a c ta tb has)) ∙ (known (signal.Ready a) fork_offer_b_a).1 (x.1.1 refl) in
      and_from (granted (signal.Offer input)) _ ((known (signal.Offer input) fork_offer_b_in).1 x.0) other
  initiator_found i m c has (join_output {a = a} {b = b}) known g =
      let x = grounds net wired c g i _ has join_output in
      and_from (granted (signal.Offer a)) (granted (signal.Offer b)) ((known (signal.Offer a) join_offer_a).1 x.0) ((known (signal.Offer b) join_offer_b).1 x.1)
  initiator_found i m c has (switch_output_a {input = input}) known g = (known (signal.Offer input) switch_offer_a).1 (grounds net wired c g i _ has switch_output_a)
  initiator_found i m c has (switch_output_b {input = input}) known g = (known (signal.Offer input) switch_offer_b).1 (grounds net wired c g i _ has switch_output_b)
  initiator_found i m c has (merge_output {a = a} {b = b}) known g =
      let x = grounds net wired c g i _ has merge_output in
      and_from (granted (signal.Offer a)) (granted (signal.Offer b)) ((known (signal.Offer a) merge_offer_a).1 x.0) ((known (signal.Offer b) merge_offer_b).1 x.1)

  target_sound : (i : ℕ) (m : Component) (c : ℕ) → HasPrim net i m → HasInput m c → ((τ : Signal) → Needs m (signal.Ready c) τ → IsExact net granted τ) → grants_target m c granted ≡ true → Granted net (Target c)
  target_sound i m c has (sink_input {mode = mode}) known is = sink_in i c mode has (not_free_ready mode is)
  target_sound i m c has (queue_input {out = out} {capacity = capacity} {initial = initial}) known is = queue_in i c out capacity initial has
  target_sound i m c has (function_input {out = out} {table = table}) known is = function_in i c out table has ((known (signal.Ready out) function_ready).0 is)
  target_sound i m c has (fork_input {a = a} {b = b} {table_a = ta} {table_b = tb}) known is =
      let both = and_parts (granted (signal.Ready a)) (granted (signal.Ready b)) is in
      fork_in i c a b ta tb has ((known (signal.Ready a) fork_ready_a).0 both.0) ((known (signal.Ready b) fork_ready_b).0 both.1)
  target_sound i m c has (join_input_a {b = b} {out = out} {pass = pass}) known is =
      let both = and_parts (granted (signal.Ready out)) (granted (signal.Offer (cond (nat_eq c c) b c))) is in
      let other : granted (signal.Offer b) ≡ true = ap (λ e. granted (signal.Offer e)) (sym (at_first c b c)) ∙ both.1 in
      join_a i c b out pass has ((known (signal.Ready out) join_ready_a_out).0 both.0) ((known (signal.Offer b) join_ready_a_b).0 other)
  target_sound i m c has (join_input_b {a = a} {out = out} {pass = pass}) known is =
      let both = and_parts (granted (signal.Ready out)) (granted (signal.Offer (cond (nat_eq c a) c a))) is in
      let other : granted (signal.Offer a) ≡ true = ap (λ e. granted (signal.Offer e)) (sym (at_second a c c a (apart_inputs net is_net i a c _ has refl join_input_a))) ∙ both.1 in
      join_b i a c out pass has ((known (signal.Ready out) join_ready_b_out).0 both.0) ((known (signal.Offer a) join_ready_b_a).0 other)
  target_sound i m c has (switch_input {a = a} {b = b} {to_a = to_a}) known is = switch_in i c a b to_a has
  target_sound i m c has (merge_input_a {b = b} {out = out}) known is = merge_a i c b out has
  target_sound i m c has (merge_input_b {a = a} {out = out}) known is = merge_b i a c out has

  target_found : (i : ℕ) (m : Component) (c : ℕ) → HasPrim net i m → HasInput m c → ((τ : Signal) → Needs m (signal.Ready c) τ → IsExact net granted τ) → Granted net (Target c) → grants_target m c granted ≡ true
  target_found i m c has (sink_input {mode = mode}) known g = kept_ready mode (target_grounds net is_net c g i _ has sink_input)
  target_found i m c has queue_input known g = refl
  target_found i m c has (function_input {out = out}) known g = (known (signal.Ready out) function_ready).1 (target_grounds net is_net c g i _ has function_input)
  target_found i m c has (fork_input {a = a} {b = b}) known g =
      let x = target_grounds net is_net c g i _ has fork_input in
      and_from (granted (signal.Ready a)) (granted (signal.Ready b)) ((known (signal.Ready a) fork_ready_a).1 x.0) ((known (signal.Ready b) fork_ready_b).1 x.1)
  target_found i m c has (join_input_a {b = b} {out = out}) known g =
      let x = target_grounds net is_net c g i _ has join_input_a in
      let other : granted (signal.Offer (cond (nat_eq c c) b c)) ≡ true = ap (λ e. granted (signal.Offer e)) (at_first c b c) ∙ (known (signal.Offer b) join_ready_a_b).1 (x.1.0 refl) in
      and_from (granted (signal.Ready out)) _ ((known (signal.Ready out) join_ready_a_out).1 x.0) other
  target_found i m c has (join_input_b {a = a} {out = out}) known g =
      let x = target_grounds net is_net c g i _ has join_input_b in
      let other : granted (signal.Offer (cond (nat_eq c a) c a)) ≡ true = ap (λ e. granted (signal.Offer e)) (at_second a c c a (apart_inputs net is_net i a c _ has refl join_input_a)) ∙ (known (signal.Offer a) join_ready_b_a).1 (x.1.1 refl) in
      and_from (granted (signal.Ready out)) _ ((known (signal.Ready out) join_ready_b_out).1 x.0) other
  target_found i m c has switch_input known g = refl
  target_found i m c has merge_input_a known g = refl
  target_found i m c has merge_input_b known g = refl

-- ---- along an order

module _ (net : Network) (is_net : IsNet net) (signals : List Signal) (order : IsOrder net signals) where
  exact_made : (old new : Signal → Bool) (n : ℕ) (σ : Signal) → slice_get signals n ≡ Some σ → AreExact net signals n old → GrantedBy net old new σ → IsExact net new σ
  exact_made old new n (signal.Offer c) at before made =
      let d = made.0 in
      let known : (τ : Signal) → Needs d.prim (signal.Offer c) τ → IsExact net old τ = λ τ needs.
      let j = order.after n (signal.Offer c) τ at (record { place = d.place; prim = d.prim; has = d.has; needs = needs }) in before j.0 τ j.1.0 j.1.1 in
      (λ is. initiator_sound net is_net old d.place d.prim c d.has d.has_output known (sym made.1 ∙ is), λ g. made.1 ∙ initiator_found net is_net old d.place d.prim c d.has d.has_output known g)
  exact_made old new n (signal.Ready c) at before made =
      let d = made.0 in
      let known : (τ : Signal) → Needs d.prim (signal.Ready c) τ → IsExact net old τ = λ τ needs.
      let j = order.after n (signal.Ready c) τ at (record { place = d.place; prim = d.prim; has = d.has; needs = needs }) in before j.0 τ j.1.0 j.1.1 in
      (λ is. target_sound net is_net old d.place d.prim c d.has d.has_input known (sym made.1 ∙ is), λ g. made.1 ∙ target_found net is_net old d.place d.prim c d.has d.has_input known g)

  -- what stays stays exact
  exact_still : (old new : Signal → Bool) (σ τ : Signal) → OthersStay old new σ → τ ≢ σ → IsExact net old τ → IsExact net new τ
  exact_still old new σ τ only differs exact = (λ is. exact.0 (sym (only τ differs) ∙ is), λ g. only τ differs ∙ exact.1 g)

  -- one more right
  pub exact_more : (old new : Signal → Bool) (n : ℕ) (σ : Signal) → slice_get signals n ≡ Some σ → AreExact net signals n old → GrantedBy net old new σ → OthersStay old new σ → AreExact net signals (n + 1) new
  exact_more old new n σ at before made only k τ h at_k = elim (cases_eq k n) [
    | inl same ↦
        let one : σ ≡ τ = (let there : slice_get signals n ≡ Some τ = ap (slice_get signals) (sym same) ∙ at_k in cc) in
        subst (IsExact net new) one (exact_made old new n σ at before made)
    | inr differs ↦ exact_still old new σ τ only (λ same. differs (order.once k n σ (at_k ∙ ap Some same) at)) (before k τ (omega arith) at_k)
  ]

-- a right that the primitive which was looked up grants or not
pub granted_offer : (net : Network) (old new : Signal → Bool) (p c : ℕ) (m : Component) (v : Bool) → HasPrim net p m → IsInitiator net p c → v ≡ grants_initiator m c old → new (signal.Offer c) ≡ v → GrantedBy net old new (signal.Offer c)
granted_offer net old new p c m v has d is put =
    let same : d.prim ≡ m = (let there = d.has in cc) in
    (record { place = p; prim = m; has = has; has_output = subst (λ (x : Component). HasOutput x c) same d.has_output }, put ∙ is)

pub granted_ready : (net : Network) (old new : Signal → Bool) (p c : ℕ) (m : Component) (v : Bool) → HasPrim net p m → IsTarget net p c → v ≡ grants_target m c old → new (signal.Ready c) ≡ v → GrantedBy net old new (signal.Ready c)
granted_ready net old new p c m v has d is put =
    let same : d.prim ≡ m = (let there = d.has in cc) in
    (record { place = p; prim = m; has = has; has_input = subst (λ (x : Component). HasInput x c) same d.has_input }, put ∙ is)

-- granted that are exact along a whole order are exact at each channel
pub exact_at : (net : Network) (signals : List Signal) (granted : Signal → Bool) → IsOrder net signals → AreExact net signals (length signals) granted → (c : ℕ) → c < net.channels → IsExact net granted (signal.Offer c)
exact_at net signals granted order exact c below = let at = order.whole (signal.Offer c) below in exact at.0 (signal.Offer c) (slice_get_within signals at.0 _ at.1) at.1

-- of what the code lends: the net, its order and what was found
pub record AreLent (net lent : Network) (signals listed : List Signal) (persistencies items : List Persistency) : Type 0 where
  pub net_is : lent ≡ net
  pub order_is : listed ≡ signals
  pub persistencies_are : items ≡ persistencies
  pub order : IsOrder net signals
  pub whole : length persistencies ≡ lent.channels
  pub exact : AreExact lent listed (length listed) (granted_in persistencies)

module _ (net lent : Network) (signals listed : List Signal) (persistencies items : List Persistency) (are : AreLent net lent signals listed persistencies items) where
  exact_lent : (c : ℕ) → c < net.channels → IsExact net (granted_in items) (signal.Offer c)
  exact_lent c below =
      let here : AreExact net signals (length signals) (granted_in persistencies) = rw (are.net_is, are.order_is) at are.exact in
      rw are.persistencies_are (exact_at net signals (granted_in persistencies) are.order here c below)

  count : length items ≡ net.channels
  count = ap length are.persistencies_are ∙ are.whole ∙ ap (λ n. n.channels) are.net_is

  -- a search that found none, and one that found the first
  all_granted : ((c : ℕ) → c < length items → granted_in items (signal.Offer c) ≡ true) → AllGranted net
  all_granted found c below = (exact_lent c below).0 (found c (omega (arith, count)))

  first_ungranted : (c : ℕ) → c < length items → granted_in items (signal.Offer c) ≡ false → ((e : ℕ) → e < c → granted_in items (signal.Offer e) ≡ true) → IsFirstUngranted net c
  first_ungranted c within ungranted below = record {
    is_channel = omega (arith, count);
    ungranted = λ g. (let is = (exact_lent c (omega (arith, count))).1 g in cc);
    granted_below = λ i h. (exact_lent i (omega (arith, count))).0 (below i h);
  }

  -- the answer of a search
  pub found_none : (found : Option ℕ) → IfNone found ((c : ℕ) → c < length items → granted_in items (signal.Offer c) ≡ true) → IfNone found (AllGranted net)
  found_none None h = all_granted h
  found_none (Some c) h = tt

  pub found_some : (found : Option ℕ) → IfSome found (λ c. c < length items) → IfSome found (λ c. granted_in items (signal.Offer c) ≡ false) →
      IfSome found (λ c. (e : ℕ) → e < c → granted_in items (signal.Offer e) ≡ true) → IfSome found (IsFirstUngranted net)
  found_some None within ungranted below = tt
  found_some (Some c) within ungranted below = first_ungranted c within ungranted below
