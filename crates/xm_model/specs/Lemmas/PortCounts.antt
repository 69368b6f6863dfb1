-- Wiring by counts: in a net each channel stands once among the output ports and once among the input ports.
use Rattle.std.specs.Prelude.{◌≡◌, ◌⊎◌, ℕ, ◌+◌, ◌<◌, ◌≤◌, Bool, true, false, cond, nat_eq, List, [], ◌∷◌, ◌++◌, length, map, slice_get, Some, All, refl}
use Rattle.std.proofs.Common.{zero, suc, subst, ap, sym, ◌∙◌, arith, inl, inr, length-append, eq-eqb}
use Rattle.std.proofs.lemmas.Bool.{cases_eq, cases_lt, cases_order, ne_eqb, cond-true, cond-false}
use Rattle.std.proofs.lemmas.Bool.Decides.{eqb_tells}
use Rattle.xm_model.specs.Component.{Component, Source, Sink, Queue, Function, Fork, Join, Switch, Merge}
use Rattle.xm_model.specs.Net.{Network, HasPrim, IsNet, inputs, outputs, ports, ends_at}
use Rattle.xm_model.specs.Membership.{IsIn, times}
use Rattle.xm_model.specs.Lemmas.ChannelEnds.{IsEnd, ends_at-append}
use Rattle.xm_model.specs.Ports.{HasOutput, HasInput, InitiatorOf, TargetOf, IsInitiator, IsTarget, source_output, queue_output, function_output, fork_output_a, fork_output_b, join_output, switch_output_a, switch_output_b, merge_output, sink_input, queue_input, function_input, fork_input, join_input_a, join_input_b, switch_input, merge_input_a, merge_input_b}

-- the channels that all these ports name
abbrev pub all_ports : (Component → List ℕ) → List Component → List ℕ
all_ports f [] = []
all_ports f (m ∷ ms) = f m ++ all_ports f ms

abbrev pub all_outputs : List Component → List ℕ
all_outputs ms = all_ports outputs ms

abbrev pub all_inputs : List Component → List ℕ
all_inputs ms = all_ports inputs ms

pub record IsCounted (net : Network) : Type 0 where
  pub one_initiator : (c : ℕ) → c < net.channels → times c (all_outputs net.prims) ≡ 1
  pub one_target : (c : ℕ) → c < net.channels → times c (all_inputs net.prims) ≡ 1
  pub outputs_below : (c : ℕ) → net.channels ≤ c → times c (all_outputs net.prims) ≡ 0
  pub inputs_below : (c : ℕ) → net.channels ≤ c → times c (all_inputs net.prims) ≡ 0

-- a channel that a port names has a primitive with that port
pub count_append : (c : ℕ) (xs ys : List ℕ) → times c (xs ++ ys) ≡ times c xs + times c ys
count_append c [] ys = omega arith
count_append c (x ∷ xs) ys = let rest = count_append c xs ys in omega (arith, rest)

pub first_or_rest : (x c n : ℕ) → 0 < cond (nat_eq x c) 1 0 + n → (x ≡ c) ⊎ (0 < n)
first_or_rest x c n h = elim (cases_eq x c) [ inl same ↦ inl same | inr differs ↦ inr (omega (arith, h, cond-false {A = ℕ} (nat_eq x c) 1 0 (ne_eqb x c differs))) ]

-- a channel that an output names is driven
out_port : (p : Component) (c : ℕ) → 0 < times c (outputs p) → HasOutput p c
out_port (Source out colours mode) c h = elim (first_or_rest out c 0 h) [ inl same ↦ subst (HasOutput (Source out colours mode)) same source_output | inr none ↦ absurd (omega arith) ]
out_port (Sink input mode) c h = absurd (omega arith)
out_port (Queue input out capacity initial) c h = elim (first_or_rest out c 0 h) [ inl same ↦ subst (HasOutput (Queue input out capacity initial)) same queue_output | inr none ↦ absurd (omega arith) ]
out_port (Function input out table) c h = elim (first_or_rest out c 0 h) [ inl same ↦ subst (HasOutput (Function input out table)) same function_output | inr none ↦ absurd (omega arith) ]
out_port (Fork input a b ta tb) c h = elim (first_or_rest a c (times c (b ∷ [])) h) [
  | inl same ↦ subst (HasOutput (Fork input a b ta tb)) same fork_output_a
  | inr more ↦ elim (first_or_rest b c 0 more) [ inl same ↦ subst (HasOutput (Fork input a b ta tb)) same fork_output_b | inr none ↦ absurd (omega arith) ]
]
out_port (Join a b out pass) c h = elim (first_or_rest out c 0 h) [ inl same ↦ subst (HasOutput (Join a b out pass)) same join_output | inr none ↦ absurd (omega arith) ]
out_port (Switch input a b to_a) c h = elim (first_or_rest a c (times c (b ∷ [])) h) [
  | inl same ↦ subst (HasOutput (Switch input a b to_a)) same switch_output_a
  | inr more ↦ elim (first_or_rest b c 0 more) [ inl same ↦ subst (HasOutput (Switch input a b to_a)) same switch_output_b | inr none ↦ absurd (omega arith) ]
]
out_port (Merge a b out) c h = elim (first_or_rest out c 0 h) [ inl same ↦ subst (HasOutput (Merge a b out)) same merge_output | inr none ↦ absurd (omega arith) ]

in_port : (p : Component) (c : ℕ) → 0 < times c (inputs p) → HasInput p c
in_port (Source out colours mode) c h = absurd (omega arith)
in_port (Sink input mode) c h = elim (first_or_rest input c 0 h) [ inl same ↦ subst (HasInput (Sink input mode)) same sink_input | inr none ↦ absurd (omega arith) ]
in_port (Queue input out capacity initial) c h = elim (first_or_rest input c 0 h) [ inl same ↦ subst (HasInput (Queue input out capacity initial)) same queue_input | inr none ↦ absurd (omega arith) ]
in_port (Function input out table) c h = elim (first_or_rest input c 0 h) [ inl same ↦ subst (HasInput (Function input out table)) same function_input | inr none ↦ absurd (omega arith) ]
in_port (Fork input a b ta tb) c h = elim (first_or_rest input c 0 h) [ inl same ↦ subst (HasInput (Fork input a b ta tb)) same fork_input | inr none ↦ absurd (omega arith) ]
in_port (Join a b out pass) c h = elim (first_or_rest a c (times c (b ∷ [])) h) [
  | inl same ↦ subst (HasInput (Join a b out pass)) same join_input_a
  | inr more ↦ elim (first_or_rest b c 0 more) [ inl same ↦ subst (HasInput (Join a b out pass)) same join_input_b | inr none ↦ absurd (omega arith) ]
]
in_port (Switch input a b to_a) c h = elim (first_or_rest input c 0 h) [ inl same ↦ subst (HasInput (Switch input a b to_a)) same switch_input | inr none ↦ absurd (omega arith) ]
in_port (Merge a b out) c h = elim (first_or_rest a c (times c (b ∷ [])) h) [
  | inl same ↦ subst (HasInput (Merge a b out)) same merge_input_a
  | inr more ↦ elim (first_or_rest b c 0 more) [ inl same ↦ subst (HasInput (Merge a b out)) same merge_input_b | inr none ↦ absurd (omega arith) ]
]

-- a channel that is named has a primitive that names it
initiator_among : (ms : List Component) (c : ℕ) → 0 < times c (all_outputs ms) → (i : ℕ) × ((p : Component) × ((slice_get ms i ≡ Some p) × HasOutput p c))
initiator_among [] c h = absurd (omega arith)
initiator_among (p ∷ ps) c h =
    elim (cases_lt 0 (times c (outputs p))) [
      | inl here ↦ (0, (p, (refl, out_port p c here)))
      | inr none ↦ let rest = initiator_among ps c (omega (arith, h, count_append c (outputs p) (all_outputs ps))) in (suc rest.0, rest.1)
    ]

target_among : (ms : List Component) (c : ℕ) → 0 < times c (all_inputs ms) → (i : ℕ) × ((p : Component) × ((slice_get ms i ≡ Some p) × HasInput p c))
target_among [] c h = absurd (omega arith)
target_among (p ∷ ps) c h =
    elim (cases_lt 0 (times c (inputs p))) [
      | inl here ↦ (0, (p, (refl, in_port p c here)))
      | inr none ↦ let rest = target_among ps c (omega (arith, h, count_append c (inputs p) (all_inputs ps))) in (suc rest.0, rest.1)
    ]

pub find_initiator : (net : Network) (c : ℕ) → 0 < times c (all_outputs net.prims) → InitiatorOf net c
find_initiator net c h = let d = initiator_among net.prims c h in record { place = d.0; prim = d.1.0; has = d.1.1.0; has_output = d.1.1.1 }

pub find_target : (net : Network) (c : ℕ) → 0 < times c (all_inputs net.prims) → TargetOf net c
find_target net c h = let d = target_among net.prims c h in record { place = d.0; prim = d.1.0; has = d.1.1.0; has_input = d.1.1.1 }

pub one : (t : Bool) (x y : ℕ) → t ≡ true → cond t x y ≡ x
one true x y h = refl
one false x y h = cc

pub apart : (a b : ℕ) → times a (a ∷ b ∷ []) ≤ 1 → nat_eq b a ≡ false
apart a b h = elim (cases_eq b a) [ inl same ↦ absurd (omega (arith, h, one (nat_eq a a) 1 0 (eq-eqb a a refl), one (nat_eq b a) 1 0 (eq-eqb b a same))) | inr differs ↦ ne_eqb b a differs ]

pub at_first : {X : Type 0} (a : ℕ) (x y : X) → cond (nat_eq a a) x y ≡ x
at_first a x y = cond-true (nat_eq a a) x y (eq-eqb a a refl)

pub at_second : {X : Type 0} (a b : ℕ) (x y : X) → nat_eq b a ≡ false → cond (nat_eq b a) x y ≡ y
at_second a b x y h = cond-false (nat_eq b a) x y h

pub here_once : (c n : ℕ) → 0 < cond (nat_eq c c) 1 0 + n
here_once c n = omega (arith, one (nat_eq c c) 1 0 (eq-eqb c c refl))

pub output_counted : (p : Component) (c : ℕ) → HasOutput p c → 0 < times c (outputs p)
output_counted p c source_output = here_once c 0
output_counted p c queue_output = here_once c 0
output_counted p c function_output = here_once c 0
output_counted p c (fork_output_a {b = b}) = here_once c (cond (nat_eq b c) 1 0 + 0)
output_counted p c (fork_output_b {a = a}) = omega (arith, here_once c 0)
output_counted p c join_output = here_once c 0
output_counted p c (switch_output_a {b = b}) = here_once c (cond (nat_eq b c) 1 0 + 0)
output_counted p c (switch_output_b {a = a}) = omega (arith, here_once c 0)
output_counted p c merge_output = here_once c 0

pub input_counted : (p : Component) (c : ℕ) → HasInput p c → 0 < times c (inputs p)
input_counted p c sink_input = here_once c 0
input_counted p c queue_input = here_once c 0
input_counted p c function_input = here_once c 0
input_counted p c fork_input = here_once c 0
input_counted p c (join_input_a {b = b}) = here_once c (cond (nat_eq b c) 1 0 + 0)
input_counted p c (join_input_b {a = a}) = omega (arith, here_once c 0)
input_counted p c switch_input = here_once c 0
input_counted p c (merge_input_a {b = b}) = here_once c (cond (nat_eq b c) 1 0 + 0)
input_counted p c (merge_input_b {a = a}) = omega (arith, here_once c 0)

-- a primitive's ports are among the net's
pub ports_among : (f : Component → List ℕ) (ms : List Component) (i : ℕ) (p : Component) (c : ℕ) → slice_get ms i ≡ Some p → times c (f p) ≤ times c (all_ports f ms)
ports_among f [] i p c has = cc
ports_among f (q ∷ ps) zero p c has = let same : q ≡ p = cc in rw same (omega (arith, count_append c (f p) (all_ports f ps)))
ports_among f (q ∷ ps) (suc i) p c has = omega (arith, ports_among f ps i p c has, count_append c (f q) (all_ports f ps))

pub times_within : (net : Network) (i : ℕ) (p : Component) (c : ℕ) → HasPrim net i p → times c (outputs p) ≤ times c (all_outputs net.prims)
times_within net i p c has = ports_among outputs net.prims i p c has

pub times_within_in : (net : Network) (i : ℕ) (p : Component) (c : ℕ) → HasPrim net i p → times c (inputs p) ≤ times c (all_inputs net.prims)
times_within_in net i p c has = ports_among inputs net.prims i p c has

two_among : (ms : List Component) (i j : ℕ) (p q : Component) (c : ℕ) → slice_get ms i ≡ Some p → slice_get ms j ≡ Some q → HasOutput p c → HasOutput q c → i < j → 2 ≤ times c (all_outputs ms)
two_among [] i j p q c has_p has_q dp dq below = cc
two_among (r ∷ ps) i zero p q c has_p has_q dp dq below = absurd (omega arith)
two_among (r ∷ ps) zero (suc j) p q c has_p has_q dp dq below =
    let same : r ≡ p = cc in
    let here = output_counted p c dp in
    let there = output_counted q c dq in
    let within = ports_among outputs ps j q c has_q in
    rw same (omega (arith, count_append c (outputs p) (all_outputs ps)))
two_among (r ∷ ps) (suc i) (suc j) p q c has_p has_q dp dq below =
    let rest = two_among ps i j p q c has_p has_q dp dq (omega arith) in
    omega (arith, count_append c (outputs r) (all_outputs ps))

module _ (net : Network) (wired : IsCounted net) where
  pub output_below : (i : ℕ) (p : Component) (c : ℕ) → HasPrim net i p → HasOutput p c → c < net.channels
  output_below i p c has has_output =
      elim (cases_lt c net.channels) [ inl below ↦ below | inr above ↦ absurd (omega (arith, wired.outputs_below c above, times_within net i p c has, output_counted p c has_output)) ]

  pub input_below : (i : ℕ) (p : Component) (c : ℕ) → HasPrim net i p → HasInput p c → c < net.channels
  input_below i p c has has_input =
      elim (cases_lt c net.channels) [ inl below ↦ below | inr above ↦ absurd (omega (arith, wired.inputs_below c above, times_within_in net i p c has, input_counted p c has_input)) ]

  pub one_place : (i j : ℕ) (p q : Component) (c : ℕ) → HasPrim net i p → HasPrim net j q → HasOutput p c → HasOutput q c → i ≡ j
  one_place i j p q c has_p has_q dp dq =
      let once = wired.one_initiator c (output_below i p c has_p dp) in
      elim (cases_order i j) [
        | inl same ↦ same
        | inr w ↦ elim w [
          | inl below ↦ absurd (let two = two_among net.prims i j p q c has_p has_q dp dq below in omega arith)
          | inr above ↦ absurd (let two = two_among net.prims j i q p c has_q has_p dq dp above in omega arith)
        ]
      ]

  pub one_prim : (i j : ℕ) (p q : Component) (c : ℕ) → HasPrim net i p → HasPrim net j q → HasOutput p c → HasOutput q c → p ≡ q
  one_prim i j p q c has_p has_q dp dq =
      let same = one_place i j p q c has_p has_q dp dq in
      let here : slice_get net.prims i ≡ slice_get net.prims j = ap (slice_get net.prims) same in
      cc

  pub apart_outputs : (i : ℕ) (p : Component) (a b : ℕ) → HasPrim net i p → outputs p ≡ a ∷ b ∷ [] → HasOutput p a → a ≡ b → ⊥
  apart_outputs i p a b has are has_output same =
      let below = output_below i p a has has_output in
      let once = wired.one_initiator a below in
      let within : times a (outputs p) ≤ times a (all_outputs net.prims) = times_within net i p a has in
      let both : times a (a ∷ b ∷ []) ≤ 1 = subst (λ (cs : List ℕ). times a cs ≤ 1) are (omega arith) in
      let differ = apart a b both in
      let equal = eq-eqb b a (sym same) in
      cc

-- the ends at a channel are as many as the ports that name it
ends_count : (cs : List ℕ) (b c : ℕ) → length (ends_at (map (λ k. (k, b)) cs) c) ≡ times c cs
ends_count [] b c = refl
ends_count (k ∷ cs) b c =
    let rest = ends_count cs b c in
    elim (eqb_tells k c) [ inl t ↦ rw t.0 (omega (arith, rest)) | inr t ↦ rw t.0 (omega (arith, rest)) ]

ports_count : (f : Component → List ℕ) (ms : List Component) (b c : ℕ) → length (ends_at (ports f ms b) c) ≡ times c (all_ports f ms)
ports_count f [] b c = refl
ports_count f (m ∷ ms) b c =
    let here = ends_count (f m) b c in
    let rest = ports_count f ms (b + 1) c in
    ap length (ends_at-append (map (λ k. (k, b)) (f m)) (ports f ms (b + 1)) c)
    ∙ simp length-append (omega (arith, here, rest, count_append c (f m) (all_ports f ms)))

none_above : (cs : List ℕ) (n c : ℕ) → All (λ k. k < n) cs → n ≤ c → times c cs ≡ 0
none_above [] n c all h = refl
none_above (k ∷ cs) n c all h =
    let here : k < n = all 0 k (omega arith) in
    let rest = none_above cs n c (λ i d below. all (suc i) d (omega arith)) h in
    let miss : nat_eq k c ≡ false = ne_eqb k c (λ same. absurd (omega arith)) in
    rw miss (omega (arith, rest))

none_above_all : (f : Component → List ℕ) (ms : List Component) (n c : ℕ) → All (λ m. All (λ k. k < n) (f m)) ms → n ≤ c → times c (all_ports f ms) ≡ 0
none_above_all f [] n c all h = refl
none_above_all f (m ∷ ms) n c all h =
    let here = none_above (f m) n c (all 0 m (omega arith)) h in
    let rest = none_above_all f ms n c (λ i d below. all (suc i) d (omega arith)) h in
    omega (arith, here, rest, count_append c (f m) (all_ports f ms))

pub counted : (net : Network) → IsNet net → IsCounted net
counted net is_net = record {
  one_initiator = λ c below. sym (ports_count outputs net.prims 0 c) ∙ ap length (is_net.wired c below).initiator.1;
  one_target = λ c below. sym (ports_count inputs net.prims 0 c) ∙ ap length (is_net.wired c below).target.1;
  outputs_below = λ c above. none_above_all outputs net.prims net.channels c is_net.limits.outputs above;
  inputs_below = λ c above. none_above_all inputs net.prims net.channels c is_net.limits.inputs above;
}

in_counted : (cs : List ℕ) (c : ℕ) → IsIn cs c → 0 < times c cs
in_counted [] c h = absurd h
in_counted (k ∷ cs) c (inl same) = rw (eq-eqb k c same) (omega arith)
in_counted (k ∷ cs) c (inr h) = let rest = in_counted cs c h in omega (arith, rest)

-- whom an output port, or an input port, belongs to
pub initiator_from : (net : Network) (p c : ℕ) → IsEnd outputs net.prims p c → IsInitiator net p c
initiator_from net p c o = record { prim = o.primitive; has = o.there; has_output = out_port o.primitive c (in_counted (outputs o.primitive) c o.port) }

pub target_from : (net : Network) (p c : ℕ) → IsEnd inputs net.prims p c → IsTarget net p c
target_from net p c o = record { prim = o.primitive; has = o.there; has_input = in_port o.primitive c (in_counted (inputs o.primitive) c o.port) }
