-- Primitives that fit keep the limits of a net.
use Rattle.std.proofs.Common.{◌≡◌, ℕ, ◌*◌, ◌<◌, ◌≤◌, List, [], ◌∷◌, length, map, sum_by, refl, arith}
use Rattle.std.proofs.lemmas.List.{length-map}
use Rattle.std.proofs.lemmas.List.Elements.{All-cons, All-head, All-nil, All-tail, All-weaker}
use Rattle.std.proofs.lemmas.List.Sums.{sum_by-cons}
use Rattle.std.specs.List.{All}
use Rattle.xm_model.specs.Component.{Component, Source, Sink, Queue, Function, Fork, Join, Switch, Merge, component_of}
use Rattle.xm_model.specs.Net.{FitsComponent, IsWithinLimits, capacity_of, inputs, network_of, outputs}
use Rattle.xm_model.specs.Limits.{most_channels, most_colours, most_primitives}
use Rattle.xm_model.specs.declared.primitive.Primitive.{Primitive}
use Rattle.xm_tests_nets.specs.Inner.Fitting.{Fits, FitsPorts}

one : (n c : ℕ) → c < n → All (λ k. k < n) (c ∷ [])
one n c h = All-cons (λ k. k < n) c [] h (All-nil (λ k. k < n))

two : (n c d : ℕ) → c < n → d < n → All (λ k. k < n) (c ∷ d ∷ [])
two n c d h i = All-cons (λ k. k < n) c (d ∷ []) h (one n d i)

outputs_fit : (n : ℕ) (m : Component) → FitsPorts n m → All (λ c. c < n) (outputs m)
outputs_fit n (Source out _ _) h = one n out h
outputs_fit n (Sink _ _) h = All-nil (λ k. k < n)
outputs_fit n (Queue _ out _ _) h = one n out h.1
outputs_fit n (Function _ out _) h = one n out h.1
outputs_fit n (Fork _ a b _ _) h = two n a b h.1 h.2
outputs_fit n (Join _ _ out _) h = one n out h.2
outputs_fit n (Switch _ a b _) h = two n a b h.1 h.2
outputs_fit n (Merge _ _ out) h = one n out h.2

inputs_fit : (n : ℕ) (m : Component) → FitsPorts n m → All (λ c. c < n) (inputs m)
inputs_fit n (Source _ _ _) h = All-nil (λ k. k < n)
inputs_fit n (Sink input _) h = one n input h
inputs_fit n (Queue input _ _ _) h = one n input h.0
inputs_fit n (Function input _ _) h = one n input h.0
inputs_fit n (Fork input _ _ _ _) h = one n input h.0
inputs_fit n (Join a b _ _) h = two n a b h.0 h.1
inputs_fit n (Switch input _ _ _) h = one n input h.0
inputs_fit n (Merge a b _) h = two n a b h.0 h.1

is_small : (n : ℕ) (m : Component) → FitsPorts n m → capacity_of m ≤ 200
is_small n (Source _ _ _) h = omega arith
is_small n (Sink _ _) h = omega arith
is_small n (Queue _ _ _ _) h = h.2
is_small n (Function _ _ _) h = omega arith
is_small n (Fork _ _ _ _ _) h = omega arith
is_small n (Join _ _ _ _) h = omega arith
is_small n (Switch _ _ _ _) h = omega arith
is_small n (Merge _ _ _) h = omega arith

small_sum : (ms : List Component) → All (λ m. capacity_of m ≤ 200) ms → sum_by capacity_of ms ≤ 200 * length ms
small_sum [] small = omega arith
small_sum (m ∷ ms) small =
    let head : capacity_of m ≤ 200 = All-head (λ k. capacity_of k ≤ 200) m ms small in
    let rest : sum_by capacity_of ms ≤ 200 * length ms = small_sum ms (All-tail (λ k. capacity_of k ≤ 200) m ms small) in
    omega (arith, sum_by-cons capacity_of m ms)

pub within_limits : (channels colours : ℕ) (prims : List Primitive) → 0 < length prims → length prims ≤ most_primitives → 0 < channels → channels ≤ most_channels → 0 < colours → colours ≤ most_colours
    → All (Fits channels colours) (map component_of prims) → IsWithinLimits (network_of prims channels colours)
within_limits channels colours prims some_prims few_prims some few some_colours few_colours all =
    let ms = map component_of prims in
    let long = length-map prims component_of in
    let sum = small_sum ms (All-weaker (Fits channels colours) (λ m. capacity_of m ≤ 200) (λ m h. is_small channels m h.0) ms all) in
    record {
      some_prims = omega (arith, long);
      prims = omega (arith, long);
      some_channels = some;
      channels = few;
      some_colours = some_colours;
      colours = few_colours;
      outputs = All-weaker (Fits channels colours) (λ m. All (λ c. c < channels) (outputs m)) (λ m h. outputs_fit channels m h.0) ms all;
      inputs = All-weaker (Fits channels colours) (λ m. All (λ c. c < channels) (inputs m)) (λ m h. inputs_fit channels m h.0) ms all;
      primitives = All-weaker (Fits channels colours) (FitsComponent colours) (λ m h. h.1) ms all;
      capacities = omega (arith, long, sum);
    }
