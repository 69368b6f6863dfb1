-- What is no channel has no ends, and a primitive of the net fits it.
use Rattle.std.proofs.Common.{◌≡◌, ℕ, ◌+◌, ◌<◌, ◌≤◌, false, List, [], ◌∷◌, ◌++◌, map, All, nat_eq, refl, ap, ◌∙◌, arith}
use Rattle.std.proofs.Common.{suc}
use Rattle.std.proofs.lemmas.Bool.{ne_eqb}
use Rattle.xm_model.specs.Component.{Component}
use Rattle.xm_model.specs.Net.{IsNet, Network, ends_at, initiators, inputs, outputs, ports, targets}
use Rattle.xm_model.specs.Lemmas.ChannelEnds.{ends_at-append}

none_of_one : (cs : List ℕ) (n b c : ℕ) → All (λ k. k < n) cs → n ≤ c → ends_at (map (λ k. (k, b)) cs) c ≡ []
none_of_one [] n b c all h = refl
none_of_one (k ∷ cs) n b c all h =
    let here : k < n = all 0 k (omega arith) in
    let miss : nat_eq k c ≡ false = ne_eqb k c (λ same. absurd (omega arith)) in
    rw miss (none_of_one cs n b c (λ i d below. all (suc i) d (omega arith)) h)

none_of_all : (f : Component → List ℕ) (ms : List Component) (n b c : ℕ) → All (λ m. All (λ k. k < n) (f m)) ms →
    n ≤ c → ends_at (ports f ms b) c ≡ []
none_of_all f [] n b c all h = refl
none_of_all f (m ∷ ms) n b c all h =
    let here = none_of_one (f m) n b c (all 0 m (omega arith)) h in
    let rest = none_of_all f ms n (b + 1) c (λ i d below. all (suc i) d (omega arith)) h in
    ends_at-append (map (λ k. (k, b)) (f m)) (ports f ms (b + 1)) c ∙ ap (λ (l : List ℕ). l ++ ends_at (ports f ms (b + 1)) c) here ∙ rest

pub no_targets : (net : Network) → IsNet net → (c : ℕ) → net.channels ≤ c → targets net.prims c ≡ []
no_targets net is_net c h = none_of_all inputs net.prims net.channels 0 c is_net.limits.inputs h

pub no_initiators : (net : Network) → IsNet net → (c : ℕ) → net.channels ≤ c → initiators net.prims c ≡ []
no_initiators net is_net c h = none_of_all outputs net.prims net.channels 0 c is_net.limits.outputs h
