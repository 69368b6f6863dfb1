-- Groups of linked channels, joined one pair after another, and their numbers.
use Rattle.std.proofs.Common.{◌≡◌, ◌≢◌, ℕ, ◌+◌, ◌<◌, ◌≤◌, true, false, List, [], ◌∷◌, ◌++◌, length, get_or, refl, ap, sym, ◌∙◌, subst, inl, inr, arith, eq-eqb, Some, None}
use Rattle.std.specs.Prelude.{◌⊎◌, cond, nat_eq}
use Rattle.std.proofs.lemmas.Bool.{cases_lt, cond-true, cond-false, eqb-true, ne_eqb}
use Rattle.std.proofs.lemmas.Bool.Decides.{eqb_tells}
use Rattle.std.proofs.Math.ListN.{get_or-append}
use Rattle.std.proofs.Math.Seq.{get_or-append_seam}
use Rattle.xm_model.specs.Component.{Component, Source, Sink, Queue, Function, Fork, Join, Switch, Merge}
use Rattle.xm_model.specs.Lemmas.Local.{IsPort}
use Rattle.xm_model.specs.Net.{Network}
use Rattle.xm_model.specs.Ports.{fork_output_a, fork_output_b, fork_input, function_output, function_input, join_output, join_input_a, join_input_b, merge_output, merge_input_a, merge_input_b, sink_input, source_output, switch_output_a, switch_output_b, switch_input}
use Rattle.xm_parts.proofs.Parting.{slice_get-found}
use Rattle.xm_parts.proofs.Passing.{passing_from, passing_length, place_once}
use Rattle.xm_parts.specs.Inner.Grouped.{IsGrouped, JoinedAt, Keeps, is_least, three_ports}
use Rattle.xm_parts.specs.declared.islands_of.Trio.{Trio}
use Rattle.xm_parts.specs.Partition.{AreIslands, Linked, by, is_queue, itself}
use Rattle.xm_parts.specs.Passing.{passing, place}

pub linked_on : (net : Network) (c d e : ℕ) → Linked net c d → Linked net d e → Linked net c e
linked_on net c d e itself l = l
linked_on net c d e (by i m has q p r rest) l = by i m has q p r (linked_on net _ d e rest l)

pub linked_back : (net : Network) (c d : ℕ) → Linked net c d → Linked net d c
linked_back net c d itself = itself
linked_back net c d (by i m has q p r rest) = linked_on net d _ c (linked_back net _ d rest) (by i m has q r p itself)

-- the greater of two labels is replaced by the lesser
module _ (net : Network) (f g : ℕ → ℕ) (a b : ℕ) (is : IsGrouped net f) (in_a : a < net.channels) (in_b : b < net.channels) (less : f a < f b)
    (new : (c : ℕ) → c < net.channels → g c ≡ cond (nat_eq (f c) (f b)) (f a) (f c)) where
  moved : (c : ℕ) → c < net.channels → f c ≡ f b → g c ≡ f a
  moved c below e = new c below ∙ cond-true {A = ℕ} (nat_eq (f c) (f b)) (f a) (f c) (eq-eqb (f c) (f b) e)

  stayed : (c : ℕ) → c < net.channels → f c ≢ f b → g c ≡ f c
  stayed c below ne = new c below ∙ cond-false {A = ℕ} (nat_eq (f c) (f b)) (f a) (f c) (ne_eqb (f c) (f b) ne)

  pub join_keeps : Keeps net.channels f g
  join_keeps c d in_c in_d e =
      elim (eqb_tells (f c) (f b)) [
        | inl t ↦ moved c in_c t.1 ∙ sym (moved d in_d (sym e ∙ t.1))
        | inr t ↦ stayed c in_c t.1 ∙ e ∙ sym (stayed d in_d (λ h. t.1 (e ∙ h)))
      ]

  pub join_joins : g a ≡ g b
  join_joins = stayed a in_a (λ e. omega arith) ∙ sym (moved b in_b refl)

  pub join_grouped : Linked net a b → IsGrouped net g
  join_grouped link = record {
    linked = λ c d in_c in_d e.
        elim (eqb_tells (f c) (f b)) [
          | inl t ↦ elim (eqb_tells (f d) (f b)) [
            | inl u ↦ is.linked c d in_c in_d (t.1 ∙ sym u.1)
            | inr u ↦ (let same : f a ≡ f d = sym (moved c in_c t.1) ∙ e ∙ stayed d in_d u.1 in
                linked_on net c b d (is.linked c b in_c in_b t.1) (linked_on net b a d (linked_back net a b link) (is.linked a d in_a in_d same)))
          ]
          | inr t ↦ elim (eqb_tells (f d) (f b)) [
            | inl u ↦ (let same : f c ≡ f a = sym (stayed c in_c t.1) ∙ e ∙ moved d in_d u.1 in
                linked_on net c a d (is.linked c a in_c in_a same) (linked_on net a b d link (is.linked b d in_b in_d (sym u.1))))
            | inr u ↦ is.linked c d in_c in_d (sym (stayed c in_c t.1) ∙ e ∙ stayed d in_d u.1)
          ]
        ];
    below = λ c in_c.
        elim (eqb_tells (f c) (f b)) [
          | inl t ↦ (let m = moved c in_c t.1 in let l = is.below c in_c in let e = t.1 in omega arith)
          | inr t ↦ (let m = stayed c in_c t.1 in let l = is.below c in_c in omega arith)
        ];
    own = λ c in_c.
        elim (eqb_tells (f c) (f b)) [
          | inl t ↦ (let m = moved c in_c t.1 in let low = is.below a in_a in let o = is.own a in_a in
              let in_label : f a < net.channels = omega arith in
              ap g m ∙ stayed (f a) in_label (λ e. (let x = o ∙ sym o in let y : f a ≡ f b = sym o ∙ e in omega arith)) ∙ o ∙ sym m)
          | inr t ↦ (let m = stayed c in_c t.1 in let low = is.below c in_c in let o = is.own c in_c in
              let in_label : f c < net.channels = omega arith in
              ap g m ∙ stayed (f c) in_label (λ e. t.1 (sym o ∙ e)) ∙ o ∙ sym m)
        ];
  }

-- each channel is a group at first
pub alone : (net : Network) (f : ℕ → ℕ) → ((c : ℕ) → c < net.channels → f c ≡ c) → IsGrouped net f
alone net f is = record {
  linked = λ c d in_c in_d e. subst (λ (x : ℕ). Linked net c x) (sym (is c in_c) ∙ e ∙ is d in_d) itself;
  below = λ c in_c. (let e = is c in_c in omega arith);
  own = λ c in_c. ap f (is c in_c);
}

-- the three channels are those of its ports
pub record ThreeOf (m : Component) (t : Trio) : Type 0 where
  pub no_queue : is_queue m ≡ false
  pub is_x : IsPort m t.x
  pub is_y : IsPort m t.y
  pub is_z : IsPort m t.z
  pub all : (c : ℕ) → IsPort m c → (c ≡ t.x) ⊎ ((c ≡ t.y) ⊎ (c ≡ t.z))

abbrev three : ℕ → ℕ → ℕ → Trio
three x y z = record { x = x; y = y; z = z }

three_is : (m : Component) (t : Trio) → three_ports m ≡ Some t → ThreeOf m t
three_is (Source out cs mode) t e = subst (ThreeOf (Source out cs mode)) (let s : three out out out ≡ t = cc in s) (record { no_queue = refl; is_x = inl source_output; is_y = inl source_output; is_z = inl source_output; all = ports }) where
  ports : (c : ℕ) → IsPort (Source out cs mode) c → (c ≡ out) ⊎ ((c ≡ out) ⊎ (c ≡ out))
  ports c (inl source_output) = inl refl
  ports c (inr h) = elim h [ ]
three_is (Sink input mode) t e = subst (ThreeOf (Sink input mode)) (let s : three input input input ≡ t = cc in s) (record { no_queue = refl; is_x = inr sink_input; is_y = inr sink_input; is_z = inr sink_input; all = ports }) where
  ports : (c : ℕ) → IsPort (Sink input mode) c → (c ≡ input) ⊎ ((c ≡ input) ⊎ (c ≡ input))
  ports c (inl h) = elim h [ ]
  ports c (inr sink_input) = inl refl
three_is (Queue input out k ps) t e = absurd cc
three_is (Function input out tb) t e = subst (ThreeOf (Function input out tb)) (let s : three input out out ≡ t = cc in s) (record { no_queue = refl; is_x = inr function_input; is_y = inl function_output; is_z = inl function_output; all = ports }) where
  ports : (c : ℕ) → IsPort (Function input out tb) c → (c ≡ input) ⊎ ((c ≡ out) ⊎ (c ≡ out))
  ports c (inl function_output) = inr (inl refl)
  ports c (inr function_input) = inl refl
three_is (Fork input a b ta tb) t e = subst (ThreeOf (Fork input a b ta tb)) (let s : three input a b ≡ t = cc in s) (record { no_queue = refl; is_x = inr fork_input; is_y = inl fork_output_a; is_z = inl fork_output_b; all = ports }) where
  ports : (c : ℕ) → IsPort (Fork input a b ta tb) c → (c ≡ input) ⊎ ((c ≡ a) ⊎ (c ≡ b))
  ports c (inl fork_output_a) = inr (inl refl)
  ports c (inl fork_output_b) = inr (inr refl)
  ports c (inr fork_input) = inl refl
three_is (Join a b out pass) t e = subst (ThreeOf (Join a b out pass)) (let s : three a b out ≡ t = cc in s) (record { no_queue = refl; is_x = inr join_input_a; is_y = inr join_input_b; is_z = inl join_output; all = ports }) where
  ports : (c : ℕ) → IsPort (Join a b out pass) c → (c ≡ a) ⊎ ((c ≡ b) ⊎ (c ≡ out))
  ports c (inl join_output) = inr (inr refl)
  ports c (inr join_input_a) = inl refl
  ports c (inr join_input_b) = inr (inl refl)
three_is (Switch input a b to) t e = subst (ThreeOf (Switch input a b to)) (let s : three input a b ≡ t = cc in s) (record { no_queue = refl; is_x = inr switch_input; is_y = inl switch_output_a; is_z = inl switch_output_b; all = ports }) where
  ports : (c : ℕ) → IsPort (Switch input a b to) c → (c ≡ input) ⊎ ((c ≡ a) ⊎ (c ≡ b))
  ports c (inl switch_output_a) = inr (inl refl)
  ports c (inl switch_output_b) = inr (inr refl)
  ports c (inr switch_input) = inl refl
three_is (Merge a b out) t e = subst (ThreeOf (Merge a b out)) (let s : three a b out ≡ t = cc in s) (record { no_queue = refl; is_x = inr merge_input_a; is_y = inr merge_input_b; is_z = inl merge_output; all = ports }) where
  ports : (c : ℕ) → IsPort (Merge a b out) c → (c ≡ a) ⊎ ((c ≡ b) ⊎ (c ≡ out))
  ports c (inl merge_output) = inr (inr refl)
  ports c (inr merge_input_a) = inl refl
  ports c (inr merge_input_b) = inr (inl refl)

pub three_of : (m : Component) (t : Trio) → three_ports m ≡ Some t → ThreeOf m t
three_of = three_is

pub no_three : (m : Component) → three_ports m ≡ None → is_queue m ≡ true
no_three (Source out cs mode) e = absurd cc
no_three (Sink input mode) e = absurd cc
no_three (Queue input out k ps) e = refl
no_three (Function input out t) e = absurd cc
no_three (Fork input a b ta tb) e = absurd cc
no_three (Join a b out pass) e = absurd cc
no_three (Switch input a b t) e = absurd cc
no_three (Merge a b out) e = absurd cc

pub all_joined : (m : Component) (t : Trio) (f : ℕ → ℕ) → ThreeOf m t → f t.x ≡ f t.y → f t.x ≡ f t.z → (c d : ℕ) → IsPort m c → IsPort m d → f c ≡ f d
all_joined m t f of y z c d at_c at_d = to_x c (of.all c at_c) ∙ sym (to_x d (of.all d at_d)) where
  to_x : (c : ℕ) → ((c ≡ t.x) ⊎ ((c ≡ t.y) ⊎ (c ≡ t.z))) → f c ≡ f t.x
  to_x c (inl e) = ap f e
  to_x c (inr (inl e)) = ap f e ∙ sym y
  to_x c (inr (inr e)) = ap f e ∙ sym z

linked_same : (net : Network) (f : ℕ → ℕ) → ((i : ℕ) → JoinedAt net f i) → (c d : ℕ) → Linked net c d → f c ≡ f d
linked_same net f each c d itself = refl
linked_same net f each c d (by i m has q p r rest) = each i m _ _ has q p r ∙ linked_same net f each _ d rest

-- the numbers of the groups, in the order of their least channels
pub numbered : (net : Network) (f number : ℕ → ℕ) → IsGrouped net f → ((i : ℕ) → JoinedAt net f i) → ((c : ℕ) → c < net.channels → number c ≡ place (is_least f) (f c)) → AreIslands net number
numbered net f number is each of = record {
  together = λ c d in_c in_d link. of c in_c ∙ ap (place (is_least f)) (linked_same net f each c d link) ∙ sym (of d in_d);
  apart = λ c d in_c in_d e.
      is.linked c d in_c in_d (place_once (is_least f) (f c) (f d) (eq-eqb (f (f c)) (f c) (is.own c in_c)) (eq-eqb (f (f d)) (f d) (is.own d in_d)) (sym (of c in_c) ∙ e ∙ of d in_d));
  in_order = λ c j in_c less.
      let n = of c in_c in
      let long = passing_length (is_least f) (f c) in
      let found = slice_get-found (passing (is_least f) (f c)) j (omega arith) in
      let from = passing_from (is_least f) (f c) j found.0 found.1 in
      let low = is.below c in_c in let below = from.below in
      let own : f found.0 ≡ found.0 = eqb-true (f found.0) found.0 from.passes in
      (found.0, omega arith, of found.0 (omega arith) ∙ ap (place (is_least f)) own ∙ from.at);
}

-- one number more
pub number_more : (labels made : List ℕ) (c next number : ℕ) → get_or labels c 0 ≤ c → get_or labels (get_or labels c 0) 0 ≡ get_or labels c 0 → next ≡ place (is_least (λ k. get_or labels k 0)) c →
    ((k : ℕ) → k < c → get_or made k 0 ≡ place (is_least (λ j. get_or labels j 0)) (get_or labels k 0)) →
    number ≡ cond (is_least (λ k. get_or labels k 0) c) next (get_or made (get_or labels c 0) 0) → number ≡ place (is_least (λ k. get_or labels k 0)) (get_or labels c 0)
number_more labels made c next number low own next_is each is =
    elim (eqb_tells (get_or labels c 0) c) [
      | inl t ↦ is ∙ cond-true {A = ℕ} (is_least (λ k. get_or labels k 0) c) _ _ t.0 ∙ next_is ∙ ap (place (is_least (λ k. get_or labels k 0))) (sym t.1)
      | inr t ↦ is ∙ cond-false {A = ℕ} (is_least (λ k. get_or labels k 0) c) _ _ t.0 ∙ each (get_or labels c 0) (let ne = t.1 in omega arith) ∙ ap (place (is_least (λ k. get_or labels k 0))) own
    ]

pub numbers_push : (f : ℕ → ℕ) (made : List ℕ) (number c : ℕ) → length made ≡ c → ((k : ℕ) → k < c → get_or made k 0 ≡ place (is_least f) (f k)) → number ≡ place (is_least f) (f c) →
    (k : ℕ) → k < c + 1 → get_or (made ++ number ∷ []) k 0 ≡ place (is_least f) (f k)
numbers_push f made number c len each is k below =
    elim (cases_lt k c) [
      | inl less ↦ get_or-append made (number ∷ []) 0 k (omega arith) ∙ each k less
      | inr more ↦ (let same : k ≡ length made = omega arith in let also : c ≡ k = omega arith in ap (λ (j : ℕ). get_or (made ++ number ∷ []) j 0) same ∙ get_or-append_seam made number [] 0 ∙ is ∙ ap (λ (j : ℕ). place (is_least f) (f j)) also)
    ]
