-- In a well-wired net a channel has the primitive whose port names it, and no other.
use Rattle.std.specs.Prelude.{◌≡◌, ℕ, ◌+◌, ◌<◌, ◌⊎◌, List, [], ◌∷◌, ◌++◌, length, map, slice_get, Some, refl}
use Rattle.std.proofs.Common.{zero, suc, add-zero, zero-add, subst, ap, sym, ◌∙◌, arith, inl, inr, eq-eqb}
use Rattle.std.proofs.lemmas.Bool.Decides.{eqb_tells}
use Rattle.std.proofs.lemmas.List.{map-append}
use Rattle.std.proofs.lemmas.List.Elements.{filter-append}
use Rattle.std.proofs.lemmas.Option.{slice_get_within}
use Rattle.xm_model.specs.Component.{Component}
use Rattle.xm_model.specs.Membership.{IsIn}
use Rattle.xm_model.specs.Net.{Network, IsWellWired, ends_at, initiators, inputs, outputs, ports, targets}

-- a port of primitive p at channel c
abbrev pub HasPort : ℕ → ℕ → List (ℕ × ℕ) → Type 0
HasPort c p es = IsIn {X = ℕ × ℕ} es (c, p)

IsIn-append_left : {X : Type 0} (x : X) (ys zs : List X) → IsIn ys x → IsIn (ys ++ zs) x
IsIn-append_left x [] zs h = absurd h
IsIn-append_left x (y ∷ ys) zs (inl e) = inl e
IsIn-append_left x (y ∷ ys) zs (inr h) = inr (IsIn-append_left x ys zs h)

IsIn-append_right : {X : Type 0} (x : X) (ys zs : List X) → IsIn zs x → IsIn (ys ++ zs) x
IsIn-append_right x [] zs h = h
IsIn-append_right x (y ∷ ys) zs h = inr (IsIn-append_right x ys zs h)

IsIn-port : (c p : ℕ) (cs : List ℕ) → IsIn cs c → HasPort c p (map (λ k. (k, p)) cs)
IsIn-port c p [] h = absurd h
IsIn-port c p (k ∷ cs) (inl e) = inl (ap (λ i. (i, p)) e)
IsIn-port c p (k ∷ cs) (inr h) = inr (IsIn-port c p cs h)

IsIn-ports : (f : Component → List ℕ) (ms : List Component) (b i c : ℕ) (m : Component) → slice_get ms i ≡ Some m → IsIn (f m) c → HasPort c (b + i) (ports f ms b)
IsIn-ports f [] b i c m e h = absurd cc
IsIn-ports f (x ∷ ms) b zero c m e h =
    let same : x ≡ m = cc in
    rw (add-zero) (IsIn-append_left {X = ℕ × ℕ} (c, b) (map (λ k. (k, b)) (f x)) (ports f ms (b + 1)) (IsIn-port c b (f x) (subst (λ y. IsIn (f y) c) (sym same) h)))
IsIn-ports f (x ∷ ms) b (suc i) c m e h =
    let next : (b + 1) + i ≡ b + suc i = omega arith in
    IsIn-append_right {X = ℕ × ℕ} (c, b + suc i) (map (λ k. (k, b)) (f x)) (ports f ms (b + 1)) (subst (λ k. HasPort c k (ports f ms (b + 1))) next (IsIn-ports f ms (b + 1) i c m e h))

IsIn-ends_at : (es : List (ℕ × ℕ)) (c p : ℕ) → HasPort c p es → IsIn (ends_at es c) p
IsIn-ends_at [] c p h = absurd h
IsIn-ends_at (e ∷ es) c p (inl same) = rw (eq-eqb e.0 c (ap (λ x. x.0) same)) (inl (ap (λ x. x.1) same))
IsIn-ends_at (e ∷ es) c p (inr h) =
    elim (eqb_tells e.0 c) [
      | inl t ↦ rw t.0 (inr (IsIn-ends_at es c p h))
      | inr t ↦ rw t.0 (IsIn-ends_at es c p h)
    ]

the_one : (l : List ℕ) (p q : ℕ) → l ≡ q ∷ [] → IsIn l p → l ≡ p ∷ []
the_one l p q e h = rw e (elim (let g : IsIn (q ∷ []) p = subst (λ k. IsIn k p) e h in g) [ inl same ↦ ap (λ k. k ∷ []) same | inr left ↦ absurd left ])

module _ (net : Network) (wired : IsWellWired net) (p c : ℕ) (m : Component) (is_prim : slice_get net.prims p ≡ Some m) (is_channel : c < net.channels) where
  -- an output port tells the initiator of its channel
  pub initiators-output : IsIn (outputs m) c → initiators net.prims c ≡ p ∷ []
  initiators-output h =
      let at : HasPort c p (ports outputs net.prims 0) = subst (λ k. HasPort c k (ports outputs net.prims 0)) (zero-add p) (IsIn-ports outputs net.prims 0 p c m is_prim h) in
      the_one (initiators net.prims c) p _ (wired c is_channel).initiator.1 (IsIn-ends_at (ports outputs net.prims 0) c p at)

  -- an input port tells its target
  pub targets-input : IsIn (inputs m) c → targets net.prims c ≡ p ∷ []
  targets-input h =
      let at : HasPort c p (ports inputs net.prims 0) = subst (λ k. HasPort c k (ports inputs net.prims 0)) (zero-add p) (IsIn-ports inputs net.prims 0 p c m is_prim h) in
      the_one (targets net.prims c) p _ (wired c is_channel).target.1 (IsIn-ends_at (ports inputs net.prims 0) c p at)

-- primitive p is there, and one of these ports of it names channel c
pub record IsEnd (f : Component → List ℕ) (ms : List Component) (p c : ℕ) : Type 0 where
  pub primitive : Component
  pub there : slice_get ms p ≡ Some primitive
  pub port : IsIn (f primitive) c

pub ends_at-append : (xs ys : List (ℕ × ℕ)) (c : ℕ) → ends_at (xs ++ ys) c ≡ ends_at xs c ++ ends_at ys c
ends_at-append xs ys c = simp (filter-append, map-append)

IsIn-append_cases : {X : Type 0} (x : X) (ys zs : List X) → IsIn (ys ++ zs) x → IsIn ys x ⊎ IsIn zs x
IsIn-append_cases x [] zs h = inr h
IsIn-append_cases x (y ∷ ys) zs (inl e) = inl (inl e)
IsIn-append_cases x (y ∷ ys) zs (inr h) = elim (IsIn-append_cases x ys zs h) [ inl g ↦ inl (inr g) | inr g ↦ inr g ]

-- an end of one primitive's ports
ends_of_one : (cs : List ℕ) (b c q : ℕ) → IsIn (ends_at (map (λ k. (k, b)) cs) c) q → (b ≡ q) × IsIn cs c
ends_of_one [] b c q h = absurd h
ends_of_one (k ∷ cs) b c q h =
    elim (eqb_tells k c) [
      | inl t ↦ elim (let g : IsIn (b ∷ ends_at (map (λ k. (k, b)) cs) c) q = rw t.0 at h in g) [ inl e ↦ (e, inl t.1) | inr g ↦ (let r = ends_of_one cs b c q g in (r.0, inr r.1)) ]
      | inr t ↦ (let r = ends_of_one cs b c q (rw t.0 at h) in (r.0, inr r.1))
    ]

end_from : (f : Component → List ℕ) (ms : List Component) (b c q : ℕ) → IsIn (ends_at (ports f ms b) c) q → (i : ℕ) × (b + i ≡ q) × IsEnd f ms i c
end_from f [] b c q h = absurd h
end_from f (m ∷ ms) b c q h =
    elim (IsIn-append_cases q (ends_at (map (λ k. (k, b)) (f m)) c) (ends_at (ports f ms (b + 1)) c) (subst (λ l. IsIn l q) (ends_at-append (map (λ k. (k, b)) (f m)) (ports f ms (b + 1)) c) h)) [
      | inl g ↦ (let r = ends_of_one (f m) b c q g in (0, omega (arith, r.0), record { primitive = m; there = refl; port = r.1 }))
      | inr g ↦ (let r = end_from f ms (b + 1) c q g in (suc r.0, omega (arith, r.1), record { primitive = r.2.primitive; there = r.2.there; port = r.2.port }))
    ]

-- whom a port belongs to
pub end_of : (f : Component → List ℕ) (ms : List Component) (c p : ℕ) → ends_at (ports f ms 0) c ≡ p ∷ [] → IsEnd f ms p c
end_of f ms c p e =
    let r = end_from f ms 0 c p (subst (λ l. IsIn l p) (sym e) (inl refl)) in
    subst (λ k. IsEnd f ms k c) (sym (zero-add r.0) ∙ r.1) r.2

pub end_within : (f : Component → List ℕ) (ms : List Component) (c p : ℕ) → ends_at (ports f ms 0) c ≡ p ∷ [] → p < length ms
end_within f ms c p e = slice_get_within ms p _ (end_of f ms c p e).there
