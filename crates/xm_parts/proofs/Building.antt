-- Lists of a part, built one number after another.
use Rattle.std.proofs.Common.{◌≡◌, ℕ, zero, suc, ◌+◌, ◌<◌, ◌≤◌, Bool, true, false, List, [], ◌∷◌, ◌++◌, length, get_or, set, refl, ap, sym, ◌∙◌, subst, inl, inr, arith, eq-eqb, length-append, Some, None, slice_get}
use Rattle.std.specs.Prelude.{cond, nat_eq}
use Rattle.std.proofs.lemmas.Bool.{cases_lt, cond-true, cond-false, ne_eqb}
use Rattle.std.proofs.lemmas.Bool.Decides.{eqb_tells}
use Rattle.std.proofs.lemmas.Grind.{get_or-set_at}
use Rattle.std.proofs.lemmas.List.{get_or-set_other}
use Rattle.std.proofs.lemmas.Option.{get_or_from_slice_get, slice_get_within}
use Rattle.xm_model.specs.Component.{Component, Queue, Source, Sink, Function, Fork, Join, Switch, Merge}
use Rattle.xm_model.specs.Lemmas.Local.{IsPort}
use Rattle.xm_model.specs.Net.{HasPrim, IsNet, Network}
use Rattle.xm_model.specs.Ports.{fork_output_a, fork_output_b, fork_input, function_output, function_input, join_output, join_input_a, join_input_b, merge_output, merge_input_a, merge_input_b, queue_output, queue_input, sink_input, source_output, switch_output_a, switch_output_b, switch_input}
use Rattle.xm_parts.proofs.Parting.{port_below}
use Rattle.xm_parts.proofs.Passing.{get-append_at, get-append_cases, get-append_left, passing_at, passing_from, passing_length, place_below}
use Rattle.xm_parts.specs.Inner.Built.{AreCutsTo, AreRenamedTo, ArePlaces, port_read}
use Rattle.xm_parts.specs.Kept.{channel_place, label_at, near_place, port_place, renamed}
use Rattle.xm_parts.specs.Partition.{far_at, is_cut, lies_in, touches_at}
use Rattle.xm_parts.specs.Passing.{passing, place}
use Rattle.xm_parts.specs.declared.part.Cut.{Cut}

pub place_few : (test : ℕ → Bool) (n : ℕ) → place test n ≤ n
place_few test zero = omega arith
place_few test (suc n) = step (test n) (place_few test n) where
  step : (b : Bool) → place test n ≤ n → place test n + cond b 1 0 ≤ suc n
  step true h = omega arith
  step false h = omega arith

-- the counts of all parts, one channel on
pub counts_more : (label : ℕ → ℕ) (counts : List ℕ) (c : ℕ) → label c < length counts → ((q : ℕ) → q < length counts → get_or counts q 0 ≡ channel_place label q c) →
    (q : ℕ) → q < length counts → get_or (set counts (label c) (get_or counts (label c) 0 + 1)) q 0 ≡ channel_place label q (suc c)
counts_more label counts c inside are q below =
    elim (eqb_tells q (label c)) [
      | inl t ↦ (let here = are (label c) inside in
          let one : cond {A = ℕ} (nat_eq (label c) q) 1 0 ≡ 1 = cond-true {A = ℕ} (nat_eq (label c) q) 1 0 (eq-eqb (label c) q (sym t.1)) in
          let same : channel_place label q c ≡ channel_place label (label c) c = ap (λ (x : ℕ). channel_place label x c) t.1 in
          get_or-set_at counts (label c) q (get_or counts (label c) 0 + 1) 0 t.1 inside ∙ (let e : get_or counts (label c) 0 + 1 ≡ channel_place label q c + cond {A = ℕ} (nat_eq (label c) q) 1 0 = omega arith in e))
      | inr t ↦ (let none : cond {A = ℕ} (nat_eq (label c) q) 1 0 ≡ 0 = cond-false {A = ℕ} (nat_eq (label c) q) 1 0 (ne_eqb (label c) q (λ e. t.1 (sym e))) in
          let there = are q below in
          get_or-set_other counts (label c) q (get_or counts (label c) 0 + 1) 0 t.1 ∙ (let e : get_or counts q 0 ≡ channel_place label q c + cond {A = ℕ} (nat_eq (label c) q) 1 0 = omega arith in e))
    ]

pub counts_now : (label : ℕ → ℕ) (counts : List ℕ) (c : ℕ) → label c < length counts → ((q : ℕ) → q < length counts → get_or counts q 0 ≡ channel_place label q c) →
    (q : ℕ) → q < length counts → get_or (set counts (label c) (get_or counts (label c) 0 + 1)) q 0 ≡ channel_place label q (c + 1)
counts_now label counts c inside are q below = counts_more label counts c inside are q below ∙ ap (channel_place label q) (let e : suc c ≡ c + 1 = omega arith in e)

renamed_same : (r s : ℕ → ℕ) (m : Component) → ((c : ℕ) → IsPort m c → r c ≡ s c) → renamed r m ≡ renamed s m
renamed_same r s (Source out cs mode) same = let o = same out (inl source_output) in cc
renamed_same r s (Sink input mode) same = let o = same input (inr sink_input) in cc
renamed_same r s (Queue input out k ps) same = let a = same input (inr queue_input) in let o = same out (inl queue_output) in cc
renamed_same r s (Function input out t) same = let a = same input (inr function_input) in let o = same out (inl function_output) in cc
renamed_same r s (Fork input a b ta tb) same = let x = same input (inr fork_input) in let y = same a (inl fork_output_a) in let z = same b (inl fork_output_b) in cc
renamed_same r s (Join a b out pass) same = let x = same a (inr join_input_a) in let y = same b (inr join_input_b) in let z = same out (inl join_output) in cc
renamed_same r s (Switch input a b t) same = let x = same input (inr switch_input) in let y = same a (inl switch_output_a) in let z = same b (inl switch_output_b) in cc
renamed_same r s (Merge a b out) same = let x = same a (inr merge_input_a) in let y = same b (inr merge_input_b) in let z = same out (inl merge_output) in cc

-- a place that is read
pub place_read : (labels places : List ℕ) → ArePlaces labels places → (c : ℕ) → c < length labels → get_or places c 0 ≡ channel_place (label_at labels) (label_at labels c) c
place_read labels places are c below = get_or_from_slice_get places c _ 0 (are.at c below)

module _ (net : Network) (is_net : IsNet net) (labels places : List ℕ) (whole : length labels ≡ net.channels) (are : ArePlaces labels places) (p : ℕ) where
  port_same : (i c far : ℕ) → c < net.channels → far ≡ place (lies_in (label_at labels) p) net.channels + place (is_cut net (label_at labels) p) i → port_read (label_at labels) places p far c ≡ port_place net (label_at labels) p i c
  port_same i c far below far_is =
      elim (eqb_tells (label_at labels c) p) [
        | inl t ↦ (let is = t.0 in cond-true {A = ℕ} (lies_in (label_at labels) p c) _ _ is ∙ place_read labels places are c (omega arith) ∙ ap (λ (q : ℕ). channel_place (label_at labels) q c) t.1 ∙ sym (cond-true {A = ℕ} (lies_in (label_at labels) p c) _ _ is))
        | inr t ↦ (let is = t.0 in cond-false {A = ℕ} (lies_in (label_at labels) p c) _ _ is ∙ far_is ∙ sym (cond-false {A = ℕ} (lies_in (label_at labels) p c) _ _ is))
      ]

  pub local_is : (i far : ℕ) (m : Component) → HasPrim net i m → far ≡ place (lies_in (label_at labels) p) net.channels + place (is_cut net (label_at labels) p) i →
      renamed (port_read (label_at labels) places p far) m ≡ renamed (port_place net (label_at labels) p i) m
  local_is i far m has far_is = renamed_same _ _ m (λ c port. port_same i c far (port_below net is_net i m c has port) far_is)

  near_same : (c : ℕ) → c < net.channels → port_read (label_at labels) places p 0 c ≡ near_place (label_at labels) p c
  near_same c below =
      elim (eqb_tells (label_at labels c) p) [
        | inl t ↦ (let is = t.0 in cond-true {A = ℕ} (lies_in (label_at labels) p c) _ _ is ∙ place_read labels places are c (omega arith) ∙ ap (λ (q : ℕ). channel_place (label_at labels) q c) t.1 ∙ sym (cond-true {A = ℕ} (lies_in (label_at labels) p c) _ _ is))
        | inr t ↦ (let is = t.0 in cond-false {A = ℕ} (lies_in (label_at labels) p c) _ _ is ∙ sym (cond-false {A = ℕ} (lies_in (label_at labels) p c) _ _ is))
      ]

  pub near_is : (i : ℕ) (m : Component) → HasPrim net i m → renamed (port_read (label_at labels) places p 0) m ≡ renamed (near_place (label_at labels) p) m
  near_is i m has = renamed_same _ _ m (λ c port. near_same c (port_below net is_net i m c has port))

module _ (net : Network) (label : ℕ → ℕ) (p : ℕ) (r : ℕ → ℕ → ℕ) (i : ℕ) where
  pub locals_push : (xs : List Component) (new : Component) → touches_at net label p i ≡ true → ((m : Component) → HasPrim net i m → new ≡ renamed (r i) m) → AreRenamedTo net label p r i xs → AreRenamedTo net label p r (suc i) (xs ++ new ∷ [])
  locals_push xs new touch is before = record {
    whole =
        let one : cond {A = ℕ} (touches_at net label p i) 1 0 ≡ 1 = cond-true {A = ℕ} (touches_at net label p i) 1 0 touch in
        let n = passing_length (touches_at net label p) (suc i) in let m = passing_length (touches_at net label p) i in let w = before.whole in
        omega (arith, length-append xs (new ∷ []));
    each = λ k j m at has.
        let from = passing_from (touches_at net label p) (suc i) k j at in
        elim (cases_lt j i) [
          | inl less ↦ (let there = passing_at (touches_at net label p) i j less from.passes in
              get-append_left xs (new ∷ []) k _ (before.each k j m (ap (slice_get (passing (touches_at net label p) i)) (sym from.at) ∙ there) has))
          | inr more ↦ (let b = from.below in let same : i ≡ j = omega arith in
              let here : HasPrim net i m = ap (slice_get net.prims) same ∙ has in
              let m0 = passing_length (touches_at net label p) i in let w = before.whole in let f = from.at in let q : place (touches_at net label p) i ≡ place (touches_at net label p) j = ap (place (touches_at net label p)) same in
              get-append_at xs new k (omega arith) ∙ ap Some (is m here ∙ ap (λ (x : ℕ). renamed (r x) m) same))
        ];
  }

  pub locals_skip : (xs : List Component) → touches_at net label p i ≡ false → AreRenamedTo net label p r i xs → AreRenamedTo net label p r (suc i) xs
  locals_skip xs touch before = record {
    whole =
        let none : cond {A = ℕ} (touches_at net label p i) 1 0 ≡ 0 = cond-false {A = ℕ} (touches_at net label p i) 1 0 touch in
        let n = passing_length (touches_at net label p) (suc i) in let m = passing_length (touches_at net label p) i in let w = before.whole in omega arith;
    each = λ k j m at has.
        let from = passing_from (touches_at net label p) (suc i) k j at in
        elim (cases_lt j i) [
          | inl less ↦ (let there = passing_at (touches_at net label p) i j less from.passes in before.each k j m (ap (slice_get (passing (touches_at net label p) i)) (sym from.at) ∙ there) has)
          | inr more ↦ absurd (let b = from.below in let same : i ≡ j = omega arith in let both : false ≡ true = sym touch ∙ ap (touches_at net label p) same ∙ from.passes in cc)
        ];
  }

module _ (net : Network) (label : ℕ → ℕ) (p i : ℕ) where
  pub cuts_push : (xs : List Cut) (new : Cut) (c : ℕ) → far_at net label p i ≡ Some c → new.part ≡ label c → new.wire ≡ channel_place label (label c) c → AreCutsTo net label p i xs → AreCutsTo net label p (suc i) (xs ++ new ∷ [])
  cuts_push xs new c is part wire before =
      let cut : is_cut net label p i ≡ true = rw is refl in
      record {
        whole =
            let one : cond {A = ℕ} (is_cut net label p i) 1 0 ≡ 1 = cond-true {A = ℕ} (is_cut net label p i) 1 0 cut in
            let n = passing_length (is_cut net label p) (suc i) in let m = passing_length (is_cut net label p) i in let w = before.whole in
            omega (arith, length-append xs (new ∷ []));
        each = λ k j d found at far stands.
            let from = passing_from (is_cut net label p) (suc i) k j at in
            elim (get-append_cases xs (new ∷ []) k found stands) [
              | inl h ↦ elim (cases_lt j i) [
                | inl less ↦ (let there = passing_at (is_cut net label p) i j less from.passes in before.each k j d found (ap (slice_get (passing (is_cut net label p) i)) (sym from.at) ∙ there) far h)
                | inr more ↦ absurd (let inside = slice_get_within xs k found h in let b = from.below in let same : i ≡ j = omega arith in let q : place (is_cut net label p) i ≡ place (is_cut net label p) j = ap (place (is_cut net label p)) same in
                    let m = passing_length (is_cut net label p) i in let w = before.whole in let f = from.at in omega arith)
              ]
              | inr h ↦ last h.0 k j d found from.below from.passes from.at far h.1 h.2 (before.whole ∙ passing_length (is_cut net label p) i)
            ];
      } where
        last : (l k j d : ℕ) (found : Cut) → j < suc i → is_cut net label p j ≡ true → place (is_cut net label p) j ≡ k → far_at net label p j ≡ Some d → k ≡ length xs + l → slice_get (new ∷ []) l ≡ Some found → length xs ≡ place (is_cut net label p) i → (found.part ≡ label d) × (found.wire ≡ channel_place label (label d) d)
        last zero k j d found below passes at far k_is there w =
            let one : new ≡ found = cc in
            elim (cases_lt j i) [
              | inl less ↦ absurd (let rises = place_below (is_cut net label p) j i less passes in omega arith)
              | inr more ↦ (let same : i ≡ j = omega arith in
                  let e : Some c ≡ Some d = sym is ∙ ap (far_at net label p) same ∙ far in let c_is : c ≡ d = cc in
                  (ap (λ (x : Cut). x.part) (sym one) ∙ part ∙ ap label c_is, ap (λ (x : Cut). x.wire) (sym one) ∙ wire ∙ ap (λ (x : ℕ). channel_place label (label x) x) c_is))
            ]
        last (suc l) k j d found below passes at far k_is there w = absurd cc

  pub cuts_skip : (xs : List Cut) → far_at net label p i ≡ None → AreCutsTo net label p i xs → AreCutsTo net label p (suc i) xs
  cuts_skip xs is before =
      let cut : is_cut net label p i ≡ false = rw is refl in
      record {
        whole =
            let none : cond {A = ℕ} (is_cut net label p i) 1 0 ≡ 0 = cond-false {A = ℕ} (is_cut net label p i) 1 0 cut in
            let n = passing_length (is_cut net label p) (suc i) in let m = passing_length (is_cut net label p) i in let w = before.whole in omega arith;
        each = λ k j d found at far stands.
            let from = passing_from (is_cut net label p) (suc i) k j at in
            elim (cases_lt j i) [
              | inl less ↦ (let there = passing_at (is_cut net label p) i j less from.passes in before.each k j d found (ap (slice_get (passing (is_cut net label p) i)) (sym from.at) ∙ there) far stands)
              | inr more ↦ absurd (let b = from.below in let same : i ≡ j = omega arith in let both : false ≡ true = sym cut ∙ ap (is_cut net label p) same ∙ from.passes in cc)
            ];
      }

pub cuts_on : (net : Network) (label : ℕ → ℕ) (p i : ℕ) (xs : List Cut) → AreCutsTo net label p (suc i) xs → AreCutsTo net label p (i + 1) xs
cuts_on net label p i xs h = subst (λ (n : ℕ). AreCutsTo net label p n xs) (let e : suc i ≡ i + 1 = omega arith in e) h

pub locals_on : (net : Network) (label : ℕ → ℕ) (p : ℕ) (r : ℕ → ℕ → ℕ) (i : ℕ) (xs : List Component) → AreRenamedTo net label p r (suc i) xs → AreRenamedTo net label p r (i + 1) xs
locals_on net label p r i xs h = subst (λ (n : ℕ). AreRenamedTo net label p r n xs) (let e : suc i ≡ i + 1 = omega arith in e) h

pub place_on : (test : ℕ → Bool) (i : ℕ) → place test (i + 1) ≡ place test i + cond (test i) 1 0
place_on test i = ap (place test) (let e : i + 1 ≡ suc i = omega arith in e)
