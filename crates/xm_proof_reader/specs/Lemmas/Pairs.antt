-- Lemmas: the place of a queue pair among all.
use Rattle.std.proofs.Common.{◌≡◌, ℕ, zero, suc, ◌+◌, List, [], ◌∷◌, Option, Some, None, false, slice_get, nat_eq, refl, ◌∙◌, ap, sym, subst, arith, inl, inr}
use Rattle.std.specs.Prelude.{◌&&◌}
use Rattle.std.proofs.lemmas.Bool.{and_from, and_parts, cases_Bool, cond-false, cond-true, eq-eqb, eqb-true}
use Rattle.xm_colours.specs.Family.{Rises}
use Rattle.xm_colours.specs.Pairs.{queue_pairs}
use Rattle.xm_model.specs.Component.{Component}
use Rattle.xm_model.specs.Membership.{IsIn}
use Rattle.xm_proof.specs.Lemmas.QueuePairs.{Ordered, Pair, below_apart_back, in_at, of_a_queue, pairs_ordered}
use Rattle.xm_proof_reader.specs.Inner.Outputs.{output_of}
use Rattle.xm_proof_reader.specs.Known.{pair_from}

-- a pair that is not the one that is looked for
other : (q d : ℕ) (x : Pair) → (x.0 ≡ q → x.1 ≡ d → ⊥) → nat_eq x.0 q && nat_eq x.1 d ≡ false
other q d x h = elim (cases_Bool (nat_eq x.0 q && nat_eq x.1 d)) [
  | inl hit ↦ (let both = and_parts (nat_eq x.0 q) (nat_eq x.1 d) hit in absurd (h (eqb-true x.0 q both.0) (eqb-true x.1 d both.1)))
  | inr miss ↦ miss
]

none_from : (q d j : ℕ) (ps : List Pair) → ((x : Pair) → IsIn ps x → x.0 ≡ q → x.1 ≡ d → ⊥) → pair_from j ps q d ≡ None
none_from q d j [] fails = refl
none_from q d j (p ∷ ps) fails =
    cond-false {A = Option ℕ} (nat_eq p.0 q && nat_eq p.1 d) (Some j) (pair_from (suc j) ps q d) (other q d p (fails p (inl refl)))
    ∙ none_from q d (suc j) ps (λ x i. fails x (inr i))

found_from : (q d r j : ℕ) (ps : List Pair) → Ordered ps → slice_get ps r ≡ Some (q, d) → pair_from j ps q d ≡ Some (j + r)
found_from q d r j [] ordered at = cc
found_from q d zero j (p ∷ ps) ordered at =
    let same : p ≡ (q, d) = cc in
    let hit = and_from (nat_eq p.0 q) (nat_eq p.1 d) (eq-eqb p.0 q (ap (λ (x : Pair). x.0) same)) (eq-eqb p.1 d (ap (λ (x : Pair). x.1) same)) in
    let e : j ≡ j + 0 = omega arith in
    cond-true {A = Option ℕ} (nat_eq p.0 q && nat_eq p.1 d) (Some j) (pair_from (suc j) ps q d) hit ∙ ap (λ (k : ℕ). Some k) e
found_from q d (suc r) j (p ∷ ps) ordered at =
    let miss = other q d p (below_apart_back p (q, d) q d refl refl (ordered.0 (q, d) (in_at ps r (q, d) at))) in
    let e : suc j + r ≡ j + suc r = omega arith in
    cond-false {A = Option ℕ} (nat_eq p.0 q && nat_eq p.1 d) (Some j) (pair_from (suc j) ps q d) miss
    ∙ found_from q d r (suc j) ps ordered.1 at ∙ ap (λ (k : ℕ). Some k) e

module _ (colours : ℕ → List ℕ) (prims : List Component) (q d : ℕ) where
  -- a queue pair is at its place
  pub placed : (r : ℕ) → ((c : ℕ) → Rises (colours c)) → slice_get (queue_pairs colours 0 prims) r ≡ Some (q, d) → pair_from 0 (queue_pairs colours 0 prims) q d ≡ Some r
  placed r rise at =
      let e : 0 + r ≡ r = omega arith in
      found_from q d r 0 (queue_pairs colours 0 prims) (pairs_ordered colours 0 prims rise) at ∙ ap (λ (k : ℕ). Some k) e

  -- what is no queue has none, and a queue has them for the colours of its output
  pub unplaced : ((out : ℕ) → output_of (slice_get prims q) ≡ Some out → IsIn (colours out) d → ⊥) → pair_from 0 (queue_pairs colours 0 prims) q d ≡ None
  unplaced lacks = none_from q d 0 (queue_pairs colours 0 prims) (λ x inside s t.
      let found = of_a_queue colours 0 prims x inside in
      let place : found.0 ≡ q = (let e = found.1 in omega arith) in
      let queue = ap (λ (i : ℕ). output_of (slice_get prims i)) (sym place) ∙ ap output_of found.2.queue in
      lacks found.2.out queue (subst (λ (e : ℕ). IsIn (colours found.2.out) e) t found.2.colour))
