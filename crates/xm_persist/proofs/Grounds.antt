-- What a granted right rests on, at the one primitive of its channel.
use Rattle.std.proofs.Common.{◌≡◌, ◌≢◌, ℕ, refl, sym, subst, eq-eqb}
use Rattle.xm_persist.specs.Rights.{ForksTarget, Granted, Initiator, Target, fork_a, fork_b, fork_in, function_in, function_out, join_a, join_b, join_out, merge_a, merge_b, merge_out, queue_in, queue_out, sink_in, source_out, switch_a, switch_b, switch_in}
use Rattle.xm_model.specs.Lemmas.PortCounts.{IsCounted, apart_outputs, counted, one_prim}
use Rattle.xm_model.specs.Component.{Component, Fork, Function, Join, Merge, Queue, Sink, Source, Switch}
use Rattle.xm_model.specs.Net.{HasPrim, IsNet, Network}
use Rattle.xm_model.specs.Ports.{HasOutput, HasInput, fork_output_a, fork_output_b, fork_input, function_input, join_input_a, join_input_b, merge_input_a, merge_input_b, queue_input, sink_input, switch_input, function_output, join_output, merge_output, queue_output, source_output, switch_output_a, switch_output_b}
use Rattle.xm_model.specs.Lemmas.OneTarget.{apart_inputs, one_target}
use Rattle.xm_model.specs.declared.primitive.Side.{Side}
use Rattle.xm_model.specs.declared.primitive.SinkMode.TheVariants as sink_mode
use Rattle.xm_model.specs.declared.primitive.SourceMode.TheVariants as source_mode

module _ (net : Network) (wired : IsCounted net) where
  -- a granted output of a fork rests on the readiness of the other
  abbrev pub Grounds : Component → ℕ → Type 0
  Grounds (Source out colours mode) c = mode ≢ source_mode.Free
  Grounds (Sink input mode) c = Unit {0}
  Grounds (Queue input out capacity initial) c = Unit {0}
  Grounds (Function input out table) c = Granted net (Initiator input)
  Grounds (Fork input a b ta tb) c = Granted net (Initiator input) × ((c ≡ a → Granted net (Target b)) × (c ≡ b → Granted net (Target a)))
  Grounds (Join a b out pass) c = Granted net (Initiator a) × Granted net (Initiator b)
  Grounds (Switch input a b to_a) c = Granted net (Initiator input)
  Grounds (Merge a b out) c = Granted net (Initiator a) × Granted net (Initiator b)

  at_prim : (c i j : ℕ) (p q : Component) → HasPrim net i p → HasOutput p c → HasPrim net j q → HasOutput q c → Grounds q c → Grounds p c
  at_prim c i j p q has has_output has_q output_q holds = subst (λ (x : Component). Grounds x c) (one_prim net wired j i q p c has_q has output_q has_output) holds

  pub grounds : (c : ℕ) → Granted net (Initiator c) → (i : ℕ) (p : Component) → HasPrim net i p → HasOutput p c → Grounds p c
  grounds c (source_out j out colours mode has_q kept) i p has has_output = at_prim c i j p _ has has_output has_q source_output kept
  grounds c (queue_out j input out capacity initial has_q) i p has has_output = at_prim c i j p _ has has_output has_q queue_output tt
  grounds c (function_out j input out table has_q g) i p has has_output = at_prim c i j p _ has has_output has_q function_output g
  grounds c (fork_a j input a b ta tb has_q g h) i p has has_output =
      at_prim c i j p _ has has_output has_q fork_output_a (g, (λ same. h, λ same. absurd (apart_outputs net wired j _ c b has_q refl fork_output_a same)))
  grounds c (fork_b j input a b ta tb has_q g h) i p has has_output =
      at_prim c i j p _ has has_output has_q fork_output_b (g, (λ same. absurd (apart_outputs net wired j _ a c has_q refl fork_output_a (sym same)), λ same. h))
  grounds c (join_out j a b out pass has_q g h) i p has has_output = at_prim c i j p _ has has_output has_q join_output (g, h)
  grounds c (switch_a j input a b to_a has_q g) i p has has_output = at_prim c i j p _ has has_output has_q switch_output_a g
  grounds c (switch_b j input a b to_a has_q g) i p has has_output = at_prim c i j p _ has has_output has_q switch_output_b g
  grounds c (merge_out j a b out has_q g h) i p has has_output = at_prim c i j p _ has has_output has_q merge_output (g, h)

module _ (net : Network) (is_net : IsNet net) where
  -- a granted target rests on what its primitive's other ports are granted
  abbrev pub TargetGrounds : Component → ℕ → Type 0
  TargetGrounds (Source out colours mode) c = Unit {0}
  TargetGrounds (Sink input mode) c = mode ≢ sink_mode.Free
  TargetGrounds (Queue input out capacity initial) c = Unit {0}
  TargetGrounds (Function input out table) c = Granted net (Target out)
  TargetGrounds (Fork input a b ta tb) c = Granted net (Target a) × Granted net (Target b)
  TargetGrounds (Join a b out pass) c = Granted net (Target out) × ((c ≡ a → Granted net (Initiator b)) × (c ≡ b → Granted net (Initiator a)))
  TargetGrounds (Switch input a b to_a) c = Unit {0}
  TargetGrounds (Merge a b out) c = Unit {0}

  at_target : (c i j : ℕ) (p q : Component) → HasPrim net i p → HasInput p c → HasPrim net j q → HasInput q c → TargetGrounds q c → TargetGrounds p c
  at_target c i j p q has has_input has_q input_q holds = subst (λ (x : Component). TargetGrounds x c) (one_target net is_net j i c q p has_q has input_q has_input) holds

  inputs_differ : (i a b out : ℕ) (pass : Side) → HasPrim net i (Join a b out pass) → a ≡ b → ⊥
  inputs_differ i a b out pass has same = let apart = apart_inputs net is_net i a b _ has refl join_input_a in let equal = eq-eqb b a (sym same) in cc

  pub target_grounds : (c : ℕ) → Granted net (Target c) → (i : ℕ) (p : Component) → HasPrim net i p → HasInput p c → TargetGrounds p c
  target_grounds c (sink_in j input mode has_q kept) i p has has_input = at_target c i j p _ has has_input has_q sink_input kept
  target_grounds c (queue_in j input out capacity initial has_q) i p has has_input = at_target c i j p _ has has_input has_q queue_input tt
  target_grounds c (function_in j input out table has_q g) i p has has_input = at_target c i j p _ has has_input has_q function_input g
  target_grounds c (fork_in j input a b ta tb has_q g h) i p has has_input = at_target c i j p _ has has_input has_q fork_input (g, h)
  target_grounds c (join_a j a b out pass has_q g h) i p has has_input =
      at_target c i j p _ has has_input has_q join_input_a (g, (λ same. h, λ same. absurd (inputs_differ j c b out pass has_q same)))
  target_grounds c (join_b j a b out pass has_q g h) i p has has_input =
      at_target c i j p _ has has_input has_q join_input_b (g, (λ same. absurd (inputs_differ j a c out pass has_q (sym same)), λ same. h))
  target_grounds c (switch_in j input a b to_a has_q) i p has has_input = at_target c i j p _ has has_input has_q switch_input tt
  target_grounds c (merge_a j a b out has_q) i p has has_input = at_target c i j p _ has has_input has_q merge_input_a tt
  target_grounds c (merge_b j a b out has_q) i p has has_input = at_target c i j p _ has has_input has_q merge_input_b tt

pub forks_target : ForksTarget
forks_target net p input a b ta tb is_net has on_a on_b =
    let wired = counted net is_net in
    let of_a = grounds net wired a on_a p _ has fork_output_a in
    let of_b = grounds net wired b on_b p _ has fork_output_b in
    (of_b.1.1 refl, of_a.1.0 refl)
