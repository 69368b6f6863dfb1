-- A primitive that touches a part has a port at one of its channels, and a primitive with such a port touches it.
use Rattle.std.proofs.Common.{◌≡◌, ℕ, true, false, List, [], ◌∷◌, ◌++◌, Some, refl, ap, subst, ◌∙◌, inl, inr, eq-eqb}
use Rattle.std.specs.Prelude.{◌⊎◌}
use Rattle.std.proofs.lemmas.Bool.Decides.{eqb_tells}
use Rattle.xm_model.specs.Component.{Component, Source, Sink, Queue, Function, Fork, Join, Switch, Merge}
use Rattle.xm_model.specs.Lemmas.Local.{IsPort}
use Rattle.xm_model.specs.Net.{HasPrim, Network, inputs, outputs}
use Rattle.xm_model.specs.Membership.{IsIn}
use Rattle.xm_model.specs.Ports.{fork_output_a, fork_output_b, fork_input, function_output, function_input, join_output, join_input_a, join_input_b, merge_output, merge_input_a, merge_input_b, queue_output, queue_input, sink_input, source_output, switch_output_a, switch_output_b, switch_input}
use Rattle.xm_parts.specs.Partition.{IsPartition, far_at, is_queue, some_lies_in, touches_at}

some_here : (label : ℕ → ℕ) (p : ℕ) (cs : List ℕ) (c : ℕ) → IsIn cs c → label c ≡ p → some_lies_in label p cs ≡ true
some_here label p [] c h e = absurd h
some_here label p (d ∷ cs) c (inl same) e = rw (eq-eqb (label d) p (ap label same ∙ e)) refl
some_here label p (d ∷ cs) c (inr h) e =
    let rest = some_here label p cs c h e in
    elim (eqb_tells (label d) p) [ inl t ↦ (let is = t.0 in rw is refl) | inr t ↦ (let is = t.0 in rw is rest) ]

some_found : (label : ℕ → ℕ) (p : ℕ) (cs : List ℕ) → some_lies_in label p cs ≡ true → (c : ℕ) × IsIn cs c × (label c ≡ p)
some_found label p [] h = absurd cc
some_found label p (d ∷ cs) h =
    elim (eqb_tells (label d) p) [
      | inl t ↦ (d, inl refl, t.1)
      | inr t ↦ (let is = t.0 in let rest = some_found label p cs (rw is at h) in (rest.0, inr rest.1, rest.2))
    ]

port_in : (m : Component) (c : ℕ) → IsPort m c → IsIn (inputs m ++ outputs m) c
port_in m c (inl source_output) = inl refl
port_in m c (inl queue_output) = inr (inl refl)
port_in m c (inl function_output) = inr (inl refl)
port_in m c (inl fork_output_a) = inr (inl refl)
port_in m c (inl fork_output_b) = inr (inr (inl refl))
port_in m c (inl join_output) = inr (inr (inl refl))
port_in m c (inl switch_output_a) = inr (inl refl)
port_in m c (inl switch_output_b) = inr (inr (inl refl))
port_in m c (inl merge_output) = inr (inr (inl refl))
port_in m c (inr sink_input) = inl refl
port_in m c (inr queue_input) = inl refl
port_in m c (inr function_input) = inl refl
port_in m c (inr fork_input) = inl refl
port_in m c (inr join_input_a) = inl refl
port_in m c (inr join_input_b) = inr (inl refl)
port_in m c (inr switch_input) = inl refl
port_in m c (inr merge_input_a) = inl refl
port_in m c (inr merge_input_b) = inr (inl refl)

port_from : (m : Component) (c : ℕ) → IsIn (inputs m ++ outputs m) c → IsPort m c
port_from (Source out cs mode) c (inl e) = subst (IsPort (Source out cs mode)) e (inl source_output)
port_from (Source out cs mode) c (inr h) = absurd h
port_from (Sink input mode) c (inl e) = subst (IsPort (Sink input mode)) e (inr sink_input)
port_from (Sink input mode) c (inr h) = absurd h
port_from (Queue input out k ps) c (inl e) = subst (IsPort (Queue input out k ps)) e (inr queue_input)
port_from (Queue input out k ps) c (inr (inl e)) = subst (IsPort (Queue input out k ps)) e (inl queue_output)
port_from (Queue input out k ps) c (inr (inr h)) = absurd h
port_from (Function input out t) c (inl e) = subst (IsPort (Function input out t)) e (inr function_input)
port_from (Function input out t) c (inr (inl e)) = subst (IsPort (Function input out t)) e (inl function_output)
port_from (Function input out t) c (inr (inr h)) = absurd h
port_from (Fork input a b ta tb) c (inl e) = subst (IsPort (Fork input a b ta tb)) e (inr fork_input)
port_from (Fork input a b ta tb) c (inr (inl e)) = subst (IsPort (Fork input a b ta tb)) e (inl fork_output_a)
port_from (Fork input a b ta tb) c (inr (inr (inl e))) = subst (IsPort (Fork input a b ta tb)) e (inl fork_output_b)
port_from (Fork input a b ta tb) c (inr (inr (inr h))) = absurd h
port_from (Join a b out pass) c (inl e) = subst (IsPort (Join a b out pass)) e (inr join_input_a)
port_from (Join a b out pass) c (inr (inl e)) = subst (IsPort (Join a b out pass)) e (inr join_input_b)
port_from (Join a b out pass) c (inr (inr (inl e))) = subst (IsPort (Join a b out pass)) e (inl join_output)
port_from (Join a b out pass) c (inr (inr (inr h))) = absurd h
port_from (Switch input a b t) c (inl e) = subst (IsPort (Switch input a b t)) e (inr switch_input)
port_from (Switch input a b t) c (inr (inl e)) = subst (IsPort (Switch input a b t)) e (inl switch_output_a)
port_from (Switch input a b t) c (inr (inr (inl e))) = subst (IsPort (Switch input a b t)) e (inl switch_output_b)
port_from (Switch input a b t) c (inr (inr (inr h))) = absurd h
port_from (Merge a b out) c (inl e) = subst (IsPort (Merge a b out)) e (inr merge_input_a)
port_from (Merge a b out) c (inr (inl e)) = subst (IsPort (Merge a b out)) e (inr merge_input_b)
port_from (Merge a b out) c (inr (inr (inl e))) = subst (IsPort (Merge a b out)) e (inl merge_output)
port_from (Merge a b out) c (inr (inr (inr h))) = absurd h

pub touching : (net : Network) (label : ℕ → ℕ) (p i c : ℕ) (m : Component) → HasPrim net i m → IsPort m c → label c ≡ p → touches_at net label p i ≡ true
touching net label p i c m has port e = rw has (some_here label p (inputs m ++ outputs m) c (port_in m c port) e)

-- a port of a primitive at a channel of the part
pub record Touch (label : ℕ → ℕ) (p : ℕ) (m : Component) : Type 0 where
  pub channel : ℕ
  pub port : IsPort m channel
  pub lies : label channel ≡ p

pub touched : (net : Network) (label : ℕ → ℕ) (p i : ℕ) (m : Component) → HasPrim net i m → touches_at net label p i ≡ true → Touch label p m
touched net label p i m has h =
    let found = some_found label p (inputs m ++ outputs m) (rw has at h) in
    record { channel = found.0; port = port_from m found.0 found.1; lies = found.2 }

-- of a primitive that is no queue, all channels lie in the part that it touches
pub all_lie : (net : Network) (label : ℕ → ℕ) (p i c : ℕ) (m : Component) → IsPartition net label → HasPrim net i m → is_queue m ≡ false → touches_at net label p i ≡ true → IsPort m c → label c ≡ p
all_lie net label p i c m partition has no_queue touch port =
    let t = touched net label p i m has touch in
    partition.together i m c t.channel has no_queue port t.port ∙ t.lies

-- a channel of a queue that touches the part lies in it, or is its far channel
module _ (net : Network) (label : ℕ → ℕ) (p i input out capacity : ℕ) (initial : List ℕ) (has : HasPrim net i (Queue input out capacity initial)) (touch : touches_at net label p i ≡ true) where
  pub input_end : (label input ≡ p) ⊎ (far_at net label p i ≡ Some input)
  input_end =
      elim (eqb_tells (label input) p) [
        | inl t ↦ inl t.1
        | inr t ↦ (let is = t.0 in elim (eqb_tells (label out) p) [
          | inl u ↦ (let also = u.0 in inr (rw (has, is, also) refl))
          | inr u ↦ (let also = u.0 in absurd (let none = rw (has, is, also) at touch in cc))
        ])
      ]

  pub out_end : (label out ≡ p) ⊎ (far_at net label p i ≡ Some out)
  out_end =
      elim (eqb_tells (label out) p) [
        | inl t ↦ inl t.1
        | inr t ↦ (let is = t.0 in elim (eqb_tells (label input) p) [
          | inl u ↦ (let also = u.0 in inr (rw (has, also, is) refl))
          | inr u ↦ (let also = u.0 in absurd (let none = rw (has, also, is) at touch in cc))
        ])
      ]
