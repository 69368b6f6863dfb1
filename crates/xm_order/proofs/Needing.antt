-- What a primitive's signals need, kind by kind.
use Rattle.std.proofs.Common.{◌≡◌, ◌≢◌, ℕ, zero, suc, ◌⊎◌, Some, List, [], ◌∷◌, Bool, slice_get, refl, sym, subst, ap, inl, inr, ◌∙◌}
use Rattle.std.proofs.lemmas.Bool.{cases_eq}
use Rattle.std.proofs.lemmas.Result.{IfOk-weaker}
use Rattle.std.specs.Prelude.{IfOk, Result}
use Rattle.smallvec.specs.SmallVec.{SmallVec}
use Rattle.xm_model.specs.Component.{Component, Fork, Function, Join, Merge, Switch}
use Rattle.xm_model.specs.Lemmas.PortCounts.{counted, one_prim}
use Rattle.xm_model.specs.Net.{HasPrim, IsNet, Network}
use Rattle.xm_model.specs.Ports.{HasOutput, IsInitiator, IsTarget, HasInput, fork_output_a, fork_output_b, fork_input, function_output, function_input, join_output, join_input_a, join_input_b, merge_output, merge_input_a, merge_input_b, switch_output_a, switch_output_b, switch_input}
use Rattle.xm_model.specs.Lemmas.OneTarget.{one_target}
use Rattle.xm_model.specs.declared.primitive.Side.{Side}
use Rattle.xm_order.proofs.Within.{given}
use Rattle.xm_order.specs.Dependence
use Rattle.xm_order.specs.Dependence.{Depends, Needs}
use Rattle.xm_order.specs.Inner.Listed.{ListsAll}
use Rattle.xm_order.specs.declared.signal.Signal.{Signal}
use Rattle.xm_order.specs.declared.signal.Signal.TheVariants as signal

module _ (P : Signal → Type 0) where
  at : (x σ : Signal) → P x → Some x ≡ Some σ → P σ
  at x σ h e = let same : x ≡ σ = cc in subst P same h

  pub lists_one : (x : Signal) → P x → ((τ : Signal) → P τ → τ ≡ x) → ListsAll P (x ∷ [])
  lists_one x h only = record { each = each; whole = λ τ p. (0, ap Some (sym (only τ p))) } where
    each : (k : ℕ) (σ : Signal) → slice_get (x ∷ []) k ≡ Some σ → P σ
    each zero σ e = at x σ h e
    each (suc k) σ e = absurd cc

  pub lists_two : (x y : Signal) → P x → P y → ((τ : Signal) → P τ → (τ ≡ x) ⊎ (τ ≡ y)) → ListsAll P (x ∷ y ∷ [])
  lists_two x y h i only = record {
    each = each;
    whole = λ τ p. elim (only τ p) [ inl e ↦ (0, ap Some (sym e)) | inr e ↦ (1, ap Some (sym e)) ];
  } where
    each : (k : ℕ) (σ : Signal) → slice_get (x ∷ y ∷ []) k ≡ Some σ → P σ
    each zero σ e = at x σ h e
    each (suc zero) σ e = at y σ i e
    each (suc (suc k)) σ e = absurd cc

  pub lists_three : (x y z : Signal) → P x → P y → P z → ((τ : Signal) → P τ → (τ ≡ x) ⊎ ((τ ≡ y) ⊎ (τ ≡ z))) → ListsAll P (x ∷ y ∷ z ∷ [])
  lists_three x y z h i j only = record {
    each = each;
    whole = λ τ p. elim (only τ p) [
      | inl e ↦ (0, ap Some (sym e))
      | inr more ↦ elim more [ inl e ↦ (1, ap Some (sym e)) | inr e ↦ (2, ap Some (sym e)) ]
    ];
  } where
    each : (k : ℕ) (σ : Signal) → slice_get (x ∷ y ∷ z ∷ []) k ≡ Some σ → P σ
    each zero σ e = at x σ h e
    each (suc zero) σ e = at y σ i e
    each (suc (suc zero)) σ e = at z σ j e
    each (suc (suc (suc k))) σ e = absurd cc

-- signals that are listed whole are so in the answer that has them
pub lists_answered : {E : Type 0} (P : Signal → Type 0) (signals : List Signal) (answer : Result (SmallVec Signal) E) → IfOk answer (λ needs. needs.items ≡ signals) → ListsAll P signals → IfOk answer (λ needs. ListsAll P needs.items)
lists_answered P signals answer has lists = IfOk-weaker answer (λ (needs : SmallVec Signal). needs.items ≡ signals) (λ (needs : SmallVec Signal). ListsAll P needs.items) (λ needs same. rw same lists) has

function_offer_only : (input out c : ℕ) (table : List ℕ) (τ : Signal) → Needs (Function input out table) (signal.Offer c) τ → τ ≡ signal.Offer input
function_offer_only input out c table τ Dependence.function_offer = refl

pub function_offers : (input out c : ℕ) (table : List ℕ) → HasOutput (Function input out table) c → ListsAll (Needs (Function input out table) (signal.Offer c)) (signal.Offer input ∷ [])
function_offers input out c table function_output = lists_one (Needs (Function input c table) (signal.Offer c)) _ Dependence.function_offer (function_offer_only input c c table)

function_ready_only : (input out c : ℕ) (table : List ℕ) (τ : Signal) → Needs (Function input out table) (signal.Ready c) τ → τ ≡ signal.Ready out
function_ready_only input out c table τ Dependence.function_ready = refl

pub function_readies : (input out c : ℕ) (table : List ℕ) → HasInput (Function input out table) c → ListsAll (Needs (Function input out table) (signal.Ready c)) (signal.Ready out ∷ [])
function_readies input out c table function_input = lists_one (Needs (Function c out table) (signal.Ready c)) _ Dependence.function_ready (function_ready_only c out c table)

switch_offer_only : (input a b c : ℕ) (to_a : List Bool) (τ : Signal) → Needs (Switch input a b to_a) (signal.Offer c) τ → τ ≡ signal.Offer input
switch_offer_only input a b c to_a τ Dependence.switch_offer_a = refl
switch_offer_only input a b c to_a τ Dependence.switch_offer_b = refl

pub switch_offers : (input a b c : ℕ) (to_a : List Bool) → HasOutput (Switch input a b to_a) c → ListsAll (Needs (Switch input a b to_a) (signal.Offer c)) (signal.Offer input ∷ [])
switch_offers input a b c to_a switch_output_a = lists_one (Needs (Switch input c b to_a) (signal.Offer c)) _ Dependence.switch_offer_a (switch_offer_only input c b c to_a)
switch_offers input a b c to_a switch_output_b = lists_one (Needs (Switch input a c to_a) (signal.Offer c)) _ Dependence.switch_offer_b (switch_offer_only input a c c to_a)

switch_ready_only : (input a b c : ℕ) (to_a : List Bool) (τ : Signal) → Needs (Switch input a b to_a) (signal.Ready c) τ → (τ ≡ signal.Offer input) ⊎ ((τ ≡ signal.Ready a) ⊎ (τ ≡ signal.Ready b))
switch_ready_only input a b c to_a τ Dependence.switch_ready_in = inl refl
switch_ready_only input a b c to_a τ Dependence.switch_ready_a = inr (inl refl)
switch_ready_only input a b c to_a τ Dependence.switch_ready_b = inr (inr refl)

pub switch_readies : (input a b c : ℕ) (to_a : List Bool) → HasInput (Switch input a b to_a) c → ListsAll (Needs (Switch input a b to_a) (signal.Ready c)) (signal.Offer input ∷ signal.Ready a ∷ signal.Ready b ∷ [])
switch_readies input a b c to_a switch_input = lists_three (Needs (Switch c a b to_a) (signal.Ready c)) _ _ _ Dependence.switch_ready_in Dependence.switch_ready_a Dependence.switch_ready_b (switch_ready_only c a b c to_a)

merge_offer_only : (a b out c : ℕ) (τ : Signal) → Needs (Merge a b out) (signal.Offer c) τ → (τ ≡ signal.Offer a) ⊎ (τ ≡ signal.Offer b)
merge_offer_only a b out c τ Dependence.merge_offer_a = inl refl
merge_offer_only a b out c τ Dependence.merge_offer_b = inr refl

pub merge_offers : (a b out c : ℕ) → HasOutput (Merge a b out) c → ListsAll (Needs (Merge a b out) (signal.Offer c)) (signal.Offer a ∷ signal.Offer b ∷ [])
merge_offers a b out c merge_output = lists_two (Needs (Merge a b c) (signal.Offer c)) _ _ Dependence.merge_offer_a Dependence.merge_offer_b (merge_offer_only a b c c)

merge_ready_only : (a b out c : ℕ) (τ : Signal) → Needs (Merge a b out) (signal.Ready c) τ → (τ ≡ signal.Offer a) ⊎ ((τ ≡ signal.Offer b) ⊎ (τ ≡ signal.Ready out))
merge_ready_only a b out c τ Dependence.merge_ready_a_a = inl refl
merge_ready_only a b out c τ Dependence.merge_ready_a_b = inr (inl refl)
merge_ready_only a b out c τ Dependence.merge_ready_a_out = inr (inr refl)
merge_ready_only a b out c τ Dependence.merge_ready_b_a = inl refl
merge_ready_only a b out c τ Dependence.merge_ready_b_b = inr (inl refl)
merge_ready_only a b out c τ Dependence.merge_ready_b_out = inr (inr refl)

pub merge_readies : (a b out c : ℕ) → HasInput (Merge a b out) c → ListsAll (Needs (Merge a b out) (signal.Ready c)) (signal.Offer a ∷ signal.Offer b ∷ signal.Ready out ∷ [])
merge_readies a b out c merge_input_a = lists_three (Needs (Merge c b out) (signal.Ready c)) _ _ _ Dependence.merge_ready_a_a Dependence.merge_ready_a_b Dependence.merge_ready_a_out (merge_ready_only c b out c)
merge_readies a b out c merge_input_b = lists_three (Needs (Merge a c out) (signal.Ready c)) _ _ _ Dependence.merge_ready_b_a Dependence.merge_ready_b_b Dependence.merge_ready_b_out (merge_ready_only a c out c)

join_offer_only : (a b out c : ℕ) (pass : Side) (τ : Signal) → Needs (Join a b out pass) (signal.Offer c) τ → (τ ≡ signal.Offer a) ⊎ (τ ≡ signal.Offer b)
join_offer_only a b out c pass τ Dependence.join_offer_a = inl refl
join_offer_only a b out c pass τ Dependence.join_offer_b = inr refl

pub join_offers : (a b out c : ℕ) (pass : Side) → HasOutput (Join a b out pass) c → ListsAll (Needs (Join a b out pass) (signal.Offer c)) (signal.Offer a ∷ signal.Offer b ∷ [])
join_offers a b out c pass join_output = lists_two (Needs (Join a b c pass) (signal.Offer c)) _ _ Dependence.join_offer_a Dependence.join_offer_b (join_offer_only a b c c pass)

fork_ready_only : (input a b c : ℕ) (ta tb : List ℕ) (τ : Signal) → Needs (Fork input a b ta tb) (signal.Ready c) τ → (τ ≡ signal.Ready a) ⊎ (τ ≡ signal.Ready b)
fork_ready_only input a b c ta tb τ Dependence.fork_ready_a = inl refl
fork_ready_only input a b c ta tb τ Dependence.fork_ready_b = inr refl

pub fork_readies : (input a b c : ℕ) (ta tb : List ℕ) → HasInput (Fork input a b ta tb) c → ListsAll (Needs (Fork input a b ta tb) (signal.Ready c)) (signal.Ready a ∷ signal.Ready b ∷ [])
fork_readies input a b c ta tb fork_input = lists_two (Needs (Fork c a b ta tb) (signal.Ready c)) _ _ Dependence.fork_ready_a Dependence.fork_ready_b (fork_ready_only c a b c ta tb)

-- the other of two channels
pub record IsOther (a b c other : ℕ) : Type 0 where
  pub at_first : c ≡ a → other ≡ b
  pub at_second : c ≢ a → other ≡ a

-- also where both are one
other_at_second : (a b other : ℕ) → IsOther a b b other → other ≡ a
other_at_second a b other o = elim (cases_eq b a) [ inl same ↦ o.at_first same ∙ same | inr apart ↦ o.at_second apart ]

fork_offer_only : (input a b c other : ℕ) (ta tb : List ℕ) → IsOther a b c other → (τ : Signal) → Needs (Fork input a b ta tb) (signal.Offer c) τ → (τ ≡ signal.Offer input) ⊎ (τ ≡ signal.Ready other)
fork_offer_only input a b c other ta tb o τ Dependence.fork_offer_a_in = inl refl
fork_offer_only input a b c other ta tb o τ Dependence.fork_offer_a_b = inr (ap signal.Ready (sym (o.at_first refl)))
fork_offer_only input a b c other ta tb o τ Dependence.fork_offer_b_in = inl refl
fork_offer_only input a b c other ta tb o τ Dependence.fork_offer_b_a = inr (ap signal.Ready (sym (other_at_second a c other o)))

fork_offer_input : (input a b c : ℕ) (ta tb : List ℕ) → HasOutput (Fork input a b ta tb) c → Needs (Fork input a b ta tb) (signal.Offer c) (signal.Offer input)
fork_offer_input input a b c ta tb fork_output_a = Dependence.fork_offer_a_in
fork_offer_input input a b c ta tb fork_output_b = Dependence.fork_offer_b_in

fork_offer_other : (input a b c other : ℕ) (ta tb : List ℕ) → IsOther a b c other → HasOutput (Fork input a b ta tb) c → Needs (Fork input a b ta tb) (signal.Offer c) (signal.Ready other)
fork_offer_other input a b c other ta tb o fork_output_a = subst (λ (d : ℕ). Needs (Fork input c b ta tb) (signal.Offer c) (signal.Ready d)) (sym (o.at_first refl)) Dependence.fork_offer_a_b
fork_offer_other input a b c other ta tb o fork_output_b = subst (λ (d : ℕ). Needs (Fork input a c ta tb) (signal.Offer c) (signal.Ready d)) (sym (other_at_second a c other o)) Dependence.fork_offer_b_a

pub fork_offers : (input a b c other : ℕ) (ta tb : List ℕ) → IsOther a b c other → HasOutput (Fork input a b ta tb) c → ListsAll (Needs (Fork input a b ta tb) (signal.Offer c)) (signal.Offer input ∷ signal.Ready other ∷ [])
fork_offers input a b c other ta tb o d = lists_two (Needs (Fork input a b ta tb) (signal.Offer c)) _ _ (fork_offer_input input a b c ta tb d) (fork_offer_other input a b c other ta tb o d) (fork_offer_only input a b c other ta tb o)

join_ready_only : (a b out c other : ℕ) (pass : Side) → IsOther a b c other → (τ : Signal) → Needs (Join a b out pass) (signal.Ready c) τ → (τ ≡ signal.Ready out) ⊎ (τ ≡ signal.Offer other)
join_ready_only a b out c other pass o τ Dependence.join_ready_a_out = inl refl
join_ready_only a b out c other pass o τ Dependence.join_ready_a_b = inr (ap signal.Offer (sym (o.at_first refl)))
join_ready_only a b out c other pass o τ Dependence.join_ready_b_out = inl refl
join_ready_only a b out c other pass o τ Dependence.join_ready_b_a = inr (ap signal.Offer (sym (other_at_second a c other o)))

join_ready_out : (a b out c : ℕ) (pass : Side) → HasInput (Join a b out pass) c → Needs (Join a b out pass) (signal.Ready c) (signal.Ready out)
join_ready_out a b out c pass join_input_a = Dependence.join_ready_a_out
join_ready_out a b out c pass join_input_b = Dependence.join_ready_b_out

join_ready_other : (a b out c other : ℕ) (pass : Side) → IsOther a b c other → HasInput (Join a b out pass) c → Needs (Join a b out pass) (signal.Ready c) (signal.Offer other)
join_ready_other a b out c other pass o join_input_a = subst (λ (d : ℕ). Needs (Join c b out pass) (signal.Ready c) (signal.Offer d)) (sym (o.at_first refl)) Dependence.join_ready_a_b
join_ready_other a b out c other pass o join_input_b = subst (λ (d : ℕ). Needs (Join a c out pass) (signal.Ready c) (signal.Offer d)) (sym (other_at_second a c other o)) Dependence.join_ready_b_a

pub join_readies : (a b out c other : ℕ) (pass : Side) → IsOther a b c other → HasInput (Join a b out pass) c → ListsAll (Needs (Join a b out pass) (signal.Ready c)) (signal.Ready out ∷ signal.Offer other ∷ [])
join_readies a b out c other pass o t = lists_two (Needs (Join a b out pass) (signal.Ready c)) _ _ (join_ready_out a b out c pass t) (join_ready_other a b out c other pass o t) (join_ready_only a b out c other pass o)

module _ (net : Network) (is_net : IsNet net) where
  -- what the initiator needs for the offer of a channel is all that the offer depends on
  pub offer_depends : (p c : ℕ) (m : Component) (places : List Signal) → HasPrim net p m → HasOutput m c → ListsAll (Needs m (signal.Offer c)) places → ListsAll (Depends net (signal.Offer c)) places
  offer_depends p c m places has has_output lists = record {
    each = λ k σ at. record { place = p; prim = m; has = has; needs = lists.each k σ at };
    whole = λ σ d.
        let same : d.prim ≡ m = one_prim net (counted net is_net) d.place p d.prim m c d.has has (given d.prim (signal.Offer c) σ d.needs) has_output in
        lists.whole σ (subst (λ (x : Component). Needs x (signal.Offer c) σ) same d.needs);
  }

  -- and what its target needs for its readiness
  pub ready_depends : (p c : ℕ) (m : Component) (places : List Signal) → HasPrim net p m → HasInput m c → ListsAll (Needs m (signal.Ready c)) places → ListsAll (Depends net (signal.Ready c)) places
  ready_depends p c m places has has_input lists = record {
    each = λ k σ at. record { place = p; prim = m; has = has; needs = lists.each k σ at };
    whole = λ σ d.
        let same : d.prim ≡ m = one_target net is_net d.place p c d.prim m d.has has (given d.prim (signal.Ready c) σ d.needs) has_input in
        lists.whole σ (subst (λ (x : Component). Needs x (signal.Ready c) σ) same d.needs);
  }

  -- the initiator that is found at a place drives its channel, and the target takes from it
  pub initiator_there : (p c : ℕ) (m : Component) → HasPrim net p m → IsInitiator net p c → HasOutput m c
  initiator_there p c m has d = let same : d.prim ≡ m = let there = d.has in cc in subst (λ (x : Component). HasOutput x c) same d.has_output

  pub target_there : (p c : ℕ) (m : Component) → HasPrim net p m → IsTarget net p c → HasInput m c
  target_there p c m has t = let same : t.prim ≡ m = let there = t.has in cc in subst (λ (x : Component). HasInput x c) same t.has_input
