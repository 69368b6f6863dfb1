-- In the least closed family a switch's outputs have no colours but those that go there.
use Rattle.std.proofs.Common.{◌≡◌, ◌≢◌, ℕ, Bool, true, false, not, List, [], ◌∷◌, slice_get, slice_index, nat_eq, cond, sym, ◌∙◌, ap, subst, inl, inr, arith}
use Rattle.std.proofs.lemmas.Bool.{cases_eq, ne_eqb, cond-true, cond-false, cases_Bool, not-true}
use Rattle.xm_colours.specs.Family.{Closed, IsClosed, IsLeast, Within}
use Rattle.xm_colours.specs.Cuts.{CutsHold, SwitchesCut}
use Rattle.xm_model.specs.Lemmas.PortCounts.{IsCounted, counted, apart, at_first, output_below, one_place, times_within}
use Rattle.xm_model.specs.Component.{Component, Fork, Function, Join, Merge, Queue, Sink, Source, Switch}
use Rattle.xm_model.specs.Net.{HasPrim, Network}
use Rattle.xm_model.specs.Ports.{HasOutput, fork_output_a, fork_output_b, function_output, join_output, merge_output, queue_output, source_output, switch_output_a, switch_output_b}
use Rattle.xm_model.specs.Membership.{IsIn}
use Rattle.xm_model.specs.Signals.{at_side, takes_a}

-- the colours of the list that pass the test with this answer
abbrev keep : (ℕ → Bool) → List ℕ → List ℕ
keep test [] = []
keep test (d ∷ ds) = cond (test d) (d ∷ keep test ds) (keep test ds)

in_keep : (test : ℕ → Bool) (d : ℕ) (ds : List ℕ) → IsIn ds d → test d ≡ true → IsIn (keep test ds) d
in_keep test d [] inside yields = inside
in_keep test d (x ∷ xs) inside yields = elim (cases_Bool (test x)) [
  | inl on ↦ rw (cond-true (test x) (x ∷ keep test xs) (keep test xs) on) (elim inside [ inl same ↦ inl same | inr rest ↦ inr (in_keep test d xs rest yields) ])
  | inr off ↦ rw (cond-false (test x) (x ∷ keep test xs) (keep test xs) off) (elim inside [ inl same ↦ absurd (let both = ap test same in cc) | inr rest ↦ in_keep test d xs rest yields ])
]

keep_within : (test : ℕ → Bool) (d : ℕ) (ds : List ℕ) → IsIn (keep test ds) d → IsIn ds d × (test d ≡ true)
keep_within test d [] inside = absurd inside
keep_within test d (x ∷ xs) inside = elim (cases_Bool (test x)) [
  | inl on ↦ elim (rw (cond-true (test x) (x ∷ keep test xs) (keep test xs) on) at inside) [ inl same ↦ (inl same, ap test (sym same) ∙ on) | inr rest ↦ (inr (keep_within test d xs rest).0, (keep_within test d xs rest).1) ]
  | inr off ↦ let rest = keep_within test d xs (rw (cond-false (test x) (x ∷ keep test xs) (keep test xs) off) at inside) in (inr rest.0, rest.1)
]

-- a primitive stays closed where its inputs lose colours and its outputs keep theirs
closed_still : (p : Component) (family colours : ℕ → List ℕ) → ((c : ℕ) → Within (family c) (colours c)) → ((c : ℕ) → HasOutput p c → family c ≡ colours c) → Closed colours p → Closed family p
closed_still (Source out cs mode) family colours less same closed = λ d inside. subst (λ (xs : List ℕ). IsIn xs d) (sym (same out source_output)) (closed d inside)
closed_still (Sink input mode) family colours less same closed = tt
closed_still (Queue input out capacity initial) family colours less same closed = (
  λ d inside. subst (λ (xs : List ℕ). IsIn xs d) (sym (same out queue_output)) (closed.0 d (less input d inside)),
  λ d inside. subst (λ (xs : List ℕ). IsIn xs d) (sym (same out queue_output)) (closed.1 d inside),
)
closed_still (Function input out table) family colours less same closed = λ d inside. subst (λ (xs : List ℕ). IsIn xs (slice_index table d)) (sym (same out function_output)) (closed d (less input d inside))
closed_still (Fork input a b ta tb) family colours less same closed = (
  λ d inside. subst (λ (xs : List ℕ). IsIn xs (slice_index ta d)) (sym (same a fork_output_a)) (closed.0 d (less input d inside)),
  λ d inside. subst (λ (xs : List ℕ). IsIn xs (slice_index tb d)) (sym (same b fork_output_b)) (closed.1 d (less input d inside)),
)
closed_still (Join a b out pass) family colours less same closed = λ d inside. subst (λ (xs : List ℕ). IsIn xs d) (sym (same out join_output)) (closed d (less (at_side pass a b) d inside))
closed_still (Switch input a b to_a) family colours less same closed = (
  λ d inside goes. subst (λ (xs : List ℕ). IsIn xs d) (sym (same a switch_output_a)) (closed.0 d (less input d inside) goes),
  λ d inside goes. subst (λ (xs : List ℕ). IsIn xs d) (sym (same b switch_output_b)) (closed.1 d (less input d inside) goes),
)
closed_still (Merge a b out) family colours less same closed = (
  λ d inside. subst (λ (xs : List ℕ). IsIn xs d) (sym (same out merge_output)) (closed.0 d (less a d inside)),
  λ d inside. subst (λ (xs : List ℕ). IsIn xs d) (sym (same out merge_output)) (closed.1 d (less b d inside)),
)

module _ (net : Network) (colours : ℕ → List ℕ) (wired : IsCounted net) (closed : IsClosed net colours) (i input a b : ℕ) (to_a : List Bool) (has : HasPrim net i (Switch input a b to_a)) where
  abbrev cut : ℕ → List ℕ
  cut c = cond (nat_eq c a) (keep (takes_a to_a) (colours a)) (cond (nat_eq c b) (keep (λ d. not (takes_a to_a d)) (colours b)) (colours c))

  distinct : nat_eq b a ≡ false
  distinct =
      let within = times_within net i _ a has in
      let once = wired.one_initiator a (output_below net wired i _ a has switch_output_a) in
      apart a b (omega arith)

  cut_a : cut a ≡ keep (takes_a to_a) (colours a)
  cut_a = at_first a (keep (takes_a to_a) (colours a)) _

  cut_b : cut b ≡ keep (λ d. not (takes_a to_a d)) (colours b)
  cut_b = cond-false (nat_eq b a) (keep (takes_a to_a) (colours a)) _ distinct ∙ at_first b (keep (λ d. not (takes_a to_a d)) (colours b)) (colours b)

  cut_other : (c : ℕ) → c ≢ a → c ≢ b → cut c ≡ colours c
  cut_other c not_a not_b =
      cond-false (nat_eq c a) (keep (takes_a to_a) (colours a)) _ (ne_eqb c a not_a)
      ∙ cond-false (nat_eq c b) (keep (λ d. not (takes_a to_a d)) (colours b)) (colours c) (ne_eqb c b not_b)

  less : (c : ℕ) → Within (cut c) (colours c)
  less c d inside = elim (cases_eq c a) [
    | inl is_a ↦
        let here : IsIn (cut a) d = subst (λ (x : ℕ). IsIn (cut x) d) is_a inside in
        let kept : IsIn (keep (takes_a to_a) (colours a)) d = subst (λ (xs : List ℕ). IsIn xs d) cut_a here in
        subst (λ (x : ℕ). IsIn (colours x) d) (sym is_a) (keep_within (takes_a to_a) d (colours a) kept).0
    | inr not_a ↦ elim (cases_eq c b) [
      | inl is_b ↦
          let here : IsIn (cut b) d = subst (λ (x : ℕ). IsIn (cut x) d) is_b inside in
          let kept : IsIn (keep (λ x. not (takes_a to_a x)) (colours b)) d = subst (λ (xs : List ℕ). IsIn xs d) cut_b here in
          subst (λ (x : ℕ). IsIn (colours x) d) (sym is_b) (keep_within (λ x. not (takes_a to_a x)) d (colours b) kept).0
      | inr not_b ↦ subst (λ (xs : List ℕ). IsIn xs d) (cut_other c not_a not_b) inside
    ]
  ]

  cut_closed : IsClosed net cut
  cut_closed j p has_p = elim (cases_eq j i) [
    | inl same ↦
        let at : slice_get net.prims j ≡ slice_get net.prims i = ap (slice_get net.prims) same in
        let is : Switch input a b to_a ≡ p = cc in
        let old : Closed colours (Switch input a b to_a) = closed i _ has in
        subst (λ (x : Component). Closed cut x) is (
          λ d inside goes. subst (λ (xs : List ℕ). IsIn xs d) (sym cut_a) (in_keep (takes_a to_a) d (colours a) (old.0 d (less input d inside) goes) goes),
          λ d inside goes. subst (λ (xs : List ℕ). IsIn xs d) (sym cut_b) (in_keep (λ x. not (takes_a to_a x)) d (colours b) (old.1 d (less input d inside) goes) (ap not goes)),
        )
    | inr differs ↦ closed_still p cut colours less (λ c has_output. cut_other c
        (λ is_a. differs (one_place net wired j i p _ a has_p has (subst (HasOutput p) is_a has_output) switch_output_a))
        (λ is_b. differs (one_place net wired j i p _ b has_p has (subst (HasOutput p) is_b has_output) switch_output_b))) (closed j p has_p)
  ]

switches_cut : (net : Network) (colours : ℕ → List ℕ) → IsCounted net → IsClosed net colours → IsLeast net colours → SwitchesCut net colours
switches_cut net colours wired closed least i input a b to_a d has = (
  λ inside. (keep_within (takes_a to_a) d (colours a)
      (subst (λ (xs : List ℕ). IsIn xs d) (cut_a net colours wired closed i input a b to_a has) (least (cut net colours wired closed i input a b to_a has) (cut_closed net colours wired closed i input a b to_a has) a d inside))).1,
  λ inside. not-true (takes_a to_a d) (keep_within (λ x. not (takes_a to_a x)) d (colours b)
      (subst (λ (xs : List ℕ). IsIn xs d) (cut_b net colours wired closed i input a b to_a has) (least (cut net colours wired closed i input a b to_a has) (cut_closed net colours wired closed i input a b to_a has) b d inside))).1,
)

pub cuts_hold : CutsHold
cuts_hold net colours is_net are = switches_cut net colours (counted net is_net) are.closed are.least
