-- Labels that keep a primitive's channels together, and labels that do not.
use Rattle.std.proofs.Common.{◌≡◌, ◌≢◌, ℕ, ◌<◌, Bool, true, false, refl, ap, sym, ◌∙◌, inl, inr, arith, eq-eqb, ◌+◌, ◌≤◌}
use Rattle.std.specs.Prelude.{◌&&◌, ◌⊎◌, nat_eq}
use Rattle.std.proofs.lemmas.Bool.{cases_lt, eqb-true}
use Rattle.std.proofs.lemmas.Bool.Decides.{eqb_tells}
use Rattle.xm_model.specs.Component.{Component, Source, Sink, Queue, Function, Fork, Join, Switch, Merge}
use Rattle.xm_model.specs.Lemmas.Local.{IsPort}
use Rattle.xm_model.specs.Net.{HasPrim, Network}
use Rattle.xm_model.specs.Ports.{fork_output_a, fork_output_b, fork_input, function_output, function_input, join_output, join_input_a, join_input_b, merge_output, merge_input_a, merge_input_b, queue_output, queue_input, sink_input, source_output, switch_output_a, switch_output_b, switch_input}
use Rattle.xm_parts.specs.Given.{IsSplit, IsTogether, one_label}
use Rattle.xm_parts.specs.Partition.{IsPartition, is_queue}

-- a channel of the primitive
abbrev one_port : Component → ℕ
one_port (Source out cs mode) = out
one_port (Sink input mode) = input
one_port (Queue input out k ps) = input
one_port (Function input out t) = input
one_port (Fork input a b ta tb) = input
one_port (Join a b out pass) = a
one_port (Switch input a b t) = input
one_port (Merge a b out) = a

both : (x y z : ℕ) → (nat_eq x y && nat_eq x z) ≡ true → (y ≡ x) × (z ≡ x)
both x y z h = by_first (nat_eq x y) (nat_eq x z) refl refl h where
  by_first : (a b : Bool) → nat_eq x y ≡ a → nat_eq x z ≡ b → (a && b) ≡ true → (y ≡ x) × (z ≡ x)
  by_first true true e f g = (sym (eqb-true x y e), sym (eqb-true x z f))
  by_first true false e f g = absurd cc
  by_first false b e f g = absurd cc

neither : (x y z : ℕ) → (nat_eq x y && nat_eq x z) ≡ false → (x ≢ y) ⊎ (x ≢ z)
neither x y z h =
    elim (eqb_tells x y) [
      | inr t ↦ inl t.1
      | inl t ↦ elim (eqb_tells x z) [
        | inr u ↦ inr u.1
        | inl u ↦ absurd (let a = t.0 in let b = u.0 in let g = rw (a, b) at h in cc)
      ]
    ]

ports_same : (label : ℕ → ℕ) (m : Component) (c : ℕ) → is_queue m ≡ false → one_label label m ≡ true → IsPort m c → label c ≡ label (one_port m)
ports_same label m c q h (inl source_output) = refl
ports_same label m c q h (inl queue_output) = absurd cc
ports_same label m c q h (inl (function_output {input = input} {out = out})) = sym (eqb-true (label input) (label out) h)
ports_same label m c q h (inl (fork_output_a {input = input} {a = a} {b = b})) = (both (label input) (label a) (label b) h).0
ports_same label m c q h (inl (fork_output_b {input = input} {a = a} {b = b})) = (both (label input) (label a) (label b) h).1
ports_same label m c q h (inl (join_output {a = a} {b = b} {out = out})) = (both (label a) (label b) (label out) h).1
ports_same label m c q h (inl (switch_output_a {input = input} {a = a} {b = b})) = (both (label input) (label a) (label b) h).0
ports_same label m c q h (inl (switch_output_b {input = input} {a = a} {b = b})) = (both (label input) (label a) (label b) h).1
ports_same label m c q h (inl (merge_output {a = a} {b = b} {out = out})) = (both (label a) (label b) (label out) h).1
ports_same label m c q h (inr sink_input) = refl
ports_same label m c q h (inr queue_input) = absurd cc
ports_same label m c q h (inr function_input) = refl
ports_same label m c q h (inr fork_input) = refl
ports_same label m c q h (inr join_input_a) = refl
ports_same label m c q h (inr (join_input_b {a = a} {b = b} {out = out})) = (both (label a) (label b) (label out) h).0
ports_same label m c q h (inr switch_input) = refl
ports_same label m c q h (inr merge_input_a) = refl
ports_same label m c q h (inr (merge_input_b {a = a} {b = b} {out = out})) = (both (label a) (label b) (label out) h).0

pub together : (label : ℕ → ℕ) (m : Component) → one_label label m ≡ true → IsTogether label m
together label m h q c d at_c at_d = ports_same label m c q h at_c ∙ sym (ports_same label m d q h at_d)

pub partition_from : (net : Network) (label : ℕ → ℕ) → ((i : ℕ) (m : Component) → HasPrim net i m → one_label label m ≡ true) → IsPartition net label
partition_from net label each = record { together = λ i m c d has q at_c at_d. together label m (each i m has) q c d at_c at_d }

pub split : (label : ℕ → ℕ) (m : Component) → one_label label m ≡ false → IsSplit label m
split label (Source out cs mode) h = absurd cc
split label (Sink input mode) h = absurd cc
split label (Queue input out k ps) h = absurd cc
split label (Function input out t) h =
    record { no_queue = refl; one = input; two = out; is_one = inr function_input; is_two = inl function_output; differ = λ e. (let same : nat_eq (label input) (label out) ≡ true = eq-eqb (label input) (label out) e in let none : true ≡ false = sym same ∙ h in absurd cc) }
split label (Fork input a b ta tb) h = elim (neither (label input) (label a) (label b) h) [
  | inl d ↦ record { no_queue = refl; one = input; two = a; is_one = inr fork_input; is_two = inl fork_output_a; differ = d }
  | inr d ↦ record { no_queue = refl; one = input; two = b; is_one = inr fork_input; is_two = inl fork_output_b; differ = d }
]
split label (Join a b out pass) h = elim (neither (label a) (label b) (label out) h) [
  | inl d ↦ record { no_queue = refl; one = a; two = b; is_one = inr join_input_a; is_two = inr join_input_b; differ = d }
  | inr d ↦ record { no_queue = refl; one = a; two = out; is_one = inr join_input_a; is_two = inl join_output; differ = d }
]
split label (Switch input a b t) h = elim (neither (label input) (label a) (label b) h) [
  | inl d ↦ record { no_queue = refl; one = input; two = a; is_one = inr switch_input; is_two = inl switch_output_a; differ = d }
  | inr d ↦ record { no_queue = refl; one = input; two = b; is_one = inr switch_input; is_two = inl switch_output_b; differ = d }
]
split label (Merge a b out) h = elim (neither (label a) (label b) (label out) h) [
  | inl d ↦ record { no_queue = refl; one = a; two = b; is_one = inr merge_input_a; is_two = inr merge_input_b; differ = d }
  | inr d ↦ record { no_queue = refl; one = a; two = out; is_one = inr merge_input_a; is_two = inl merge_output; differ = d }
]

-- the greatest label so far
pub raised_below : (f : ℕ → ℕ) (c old new : ℕ) → old ≤ new → f c < new → ((d : ℕ) → d < c → f d < old) → (d : ℕ) → d < c + 1 → f d < new
raised_below f c old new up here before d h =
    elim (cases_lt d c) [
      | inl less ↦ (let b = before d less in omega arith)
      | inr not_less ↦ (let same : d ≡ c = omega arith in let e : f d ≡ f c = ap f same in omega arith)
    ]
