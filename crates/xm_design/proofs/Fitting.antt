-- The net's colours are a closed family, so no other colour comes into a state.
use Rattle.std.proofs.Common.{◌≡◌, ℕ, zero, suc, ◌<◌, ◌≤◌, Bool, Option, Some, None, List, [], ◌∷◌, slice_get, refl, sym, ◌∙◌, ap, subst, inl, inr, arith}
use Rattle.std.specs.Prelude.{All}
use Rattle.std.proofs.lemmas.Bool.{cases_eq}
use Rattle.xm_model.specs.Component.{Component, Content, Fork, Function, Held, Join, Merge, Nothing, Packets, Pending, Pref, Queue, Sink, Source, Switch}
use Rattle.xm_model.specs.Net.{FitsComponent, HasPrim, IsNet, Network}
use Rattle.xm_model.specs.Next.{FitsContent, content_after, next_at, reset_at, reset_content}
use Rattle.xm_model.specs.Membership.{IsIn}
use Rattle.xm_model.specs.Run.{IsRun}
use Rattle.xm_model.specs.Signals.{Signals}
use Rattle.xm_model.specs.declared.state.Choice.{Choice}
use Rattle.xm_model.specs.declared.primitive.Side.{Side}
use Rattle.xm_colours.specs.Family.{AreColours, Closed, IsClosed}
use Rattle.xm_design.specs.ColouredRuns.{FitsColours, FitsHold, FitsNext}
use Rattle.xm_design.proofs.Coloured.{coloured, colours_hold, next_fits}
use Rattle.xm_model.specs.Lemmas.PortCounts.{counted, output_below, input_below}
use Rattle.xm_model.specs.Lemmas.PrimitiveFits.{prim_fits}

-- the numbers below n
abbrev upto : ℕ → List ℕ
upto zero = []
upto (suc n) = n ∷ upto n

in_upto : (n d : ℕ) → d < n → IsIn (upto n) d
in_upto zero d h = absurd (omega arith)
in_upto (suc n) d h = elim (cases_eq n d) [ inl same ↦ inl same | inr differs ↦ inr (in_upto n d (omega arith)) ]

below : (n d : ℕ) → IsIn (upto n) d → d < n
below zero d inside = absurd inside
below (suc n) d (inl same) = omega arith
below (suc n) d (inr rest) = let low = below n d rest in omega arith

all_in : (n : ℕ) (ds : List ℕ) → All (λ d. d < n) ds → (d : ℕ) → IsIn ds d → d < n
all_in n [] all d inside = absurd inside
all_in n (x ∷ xs) all d (inl same) = let low : x < n = all 0 x (omega arith) in omega arith
all_in n (x ∷ xs) all d (inr rest) = all_in n xs (λ i y h. all (suc i) y (omega arith)) d rest

all_closed : (n : ℕ) (m : Component) → FitsComponent n m → Closed (λ c. upto n) m
all_closed n (Source out cs mode) fits = λ d h. in_upto n d (all_in n cs fits.2 d h)
all_closed n (Sink input mode) fits = tt
all_closed n (Queue input out capacity initial) fits = (λ d h. h, λ d h. in_upto n d (all_in n initial fits.3 d h))
all_closed n (Function input out table) fits = λ d h. in_upto n _ (fits.1 d 0 (let low = below n d h in omega (arith, fits.0)))
all_closed n (Fork input a b ta tb) fits = (λ d h. in_upto n _ (fits.0.1 d 0 (let low = below n d h in omega (arith, fits.0.0))), λ d h. in_upto n _ (fits.1.1 d 0 (let low = below n d h in omega (arith, fits.1.0))))
all_closed n (Join a b out pass) fits = λ d h. h
all_closed n (Switch input a b to_a) fits = (λ d h goes. h, λ d h goes. h)
all_closed n (Merge a b out) fits = (λ d h. h, λ d h. h)

-- the content has the primitive's form
abbrev Form : Component → Content → Type 0
Form (Source out cs mode) x = (o : Option ℕ) × (x ≡ Pending o)
Form (Sink input mode) x = (b : Bool) × (x ≡ Held b)
Form (Queue input out capacity initial) x = (ps : List ℕ) × (x ≡ Packets ps)
Form (Function input out table) x = x ≡ Nothing
Form (Fork input a b ta tb) x = x ≡ Nothing
Form (Join a b out pass) x = x ≡ Nothing
Form (Switch input a b to_a) x = x ≡ Nothing
Form (Merge a b out) x = (side : Side) × (x ≡ Pref side)

reset_form : (m : Component) → Form m (reset_content m)
reset_form (Source out cs mode) = (_, refl)
reset_form (Sink input mode) = (_, refl)
reset_form (Queue input out capacity initial) = (_, refl)
reset_form (Function input out table) = refl
reset_form (Fork input a b ta tb) = refl
reset_form (Join a b out pass) = refl
reset_form (Switch input a b to_a) = refl
reset_form (Merge a b out) = (_, refl)

next_form : (m : Component) (x : Content) (φ : Signals) → Form m (content_after m x φ)
next_form (Source out cs mode) x φ = (_, refl)
next_form (Sink input mode) x φ = (_, refl)
next_form (Queue input out capacity initial) x φ = (_, refl)
next_form (Function input out table) x φ = refl
next_form (Fork input a b ta tb) x φ = refl
next_form (Join a b out pass) x φ = refl
next_form (Switch input a b to_a) x φ = refl
next_form (Merge a b out) x φ = (_, refl)

each_below : (n : ℕ) (ps : List ℕ) → ((j d : ℕ) → slice_get ps j ≡ Some d → IsIn (upto n) d) → All (λ d. d < n) ps
each_below n [] at i y h = absurd (omega arith)
each_below n (p ∷ ps) at zero y h = below n p (at 0 p refl)
each_below n (p ∷ ps) at (suc i) y h = each_below n ps (λ j. at (suc j)) i y (omega arith)

-- a content of this form with colours of the net
fits : (n : ℕ) (m : Component) (x : Content) → Form m x → FitsColours (λ c. upto n) m x → FitsContent n m x
fits n (Source out cs mode) x (None, same) known = subst (FitsContent n (Source out cs mode)) (sym same) tt
fits n (Source out cs mode) x (Some d, same) known =
    let it : FitsColours (λ c. upto n) (Source out cs mode) (Pending (Some d)) = subst (FitsColours (λ c. upto n) (Source out cs mode)) same known in
    subst (FitsContent n (Source out cs mode)) (sym same) (below n d (it d refl))
fits n (Sink input mode) x (b, same) known = subst (FitsContent n (Sink input mode)) (sym same) tt
fits n (Queue input out capacity initial) x (ps, same) known =
    let it : FitsColours (λ c. upto n) (Queue input out capacity initial) (Packets ps) = subst (FitsColours (λ c. upto n) (Queue input out capacity initial)) same known in
    subst (FitsContent n (Queue input out capacity initial)) (sym same) (it.1, each_below n ps it.0)
fits n (Function input out table) x same known = subst (FitsContent n (Function input out table)) (sym same) tt
fits n (Fork input a b ta tb) x same known = subst (FitsContent n (Fork input a b ta tb)) (sym same) tt
fits n (Join a b out pass) x same known = subst (FitsContent n (Join a b out pass)) (sym same) tt
fits n (Switch input a b to_a) x same known = subst (FitsContent n (Switch input a b to_a)) (sym same) tt
fits n (Merge a b out) x (side, same) known = subst (FitsContent n (Merge a b out)) (sym same) tt

form_at : (net : Network) (cycles : ℕ) (w : ℕ → ℕ → Choice) (s : ℕ → ℕ → Content) (φ : ℕ → Signals) → IsRun net cycles w s φ → (t : ℕ) → t ≤ cycles → (p : ℕ) (m : Component) → HasPrim net p m → Form m (s t p)
form_at net cycles w s φ run zero h p m has = subst (Form m) (sym (run.start p ∙ ap reset_at has)) (reset_form m)
form_at net cycles w s φ run (suc t) h p m has =
    subst (Form m) (sym (run.steps t p (omega arith) ∙ ap (λ o. next_at o (s t p) (φ t)) has)) (next_form m (s t p) (φ t))

pub fits_hold : FitsHold
fits_hold net signals cycles w s φ is_net order tape run t h p m has =
    let closed : IsClosed net (λ c. upto net.colours) = λ q k there. all_closed net.colours k (prim_fits net is_net q k there) in
    fits net.colours m (s t p) (form_at net cycles w s φ run t h p m has)
    ((colours_hold net signals (λ c. upto net.colours) cycles w s φ is_net order closed tape run).0 t p m h has)

-- ---- one cycle, from any fitting state

in_all : (n : ℕ) (ps : List ℕ) → All (λ d. d < n) ps → (j d : ℕ) → slice_get ps j ≡ Some d → IsIn (upto n) d
in_all n [] all j d at = absurd cc
in_all n (p ∷ ps) all zero d at = let same : p ≡ d = cc in subst (IsIn (upto n)) same (in_upto n p (all 0 p (omega arith)))
in_all n (p ∷ ps) all (suc j) d at = in_all n ps (λ i y h. all (suc i) y (omega arith)) j d at

-- a fitting content has colours of the net
knows : (n : ℕ) (m : Component) (x : Content) → FitsContent n m x → FitsColours (λ c. upto n) m x
knows n (Source out cs mode) (Pending None) h = λ d is. absurd cc
knows n (Source out cs mode) (Pending (Some e)) h = λ d is. (let same : e ≡ d = cc in subst (IsIn (upto n)) same (in_upto n e h))
knows n (Source out cs mode) (Packets ps) h = absurd h
knows n (Source out cs mode) (Held b) h = absurd h
knows n (Source out cs mode) (Pref side) h = absurd h
knows n (Source out cs mode) Nothing h = absurd h
knows n (Sink input mode) x h = tt
knows n (Queue input out capacity initial) (Packets ps) h = (in_all n ps h.1, h.0)
knows n (Queue input out capacity initial) (Pending o) h = absurd h
knows n (Queue input out capacity initial) (Held b) h = absurd h
knows n (Queue input out capacity initial) (Pref side) h = absurd h
knows n (Queue input out capacity initial) Nothing h = absurd h
knows n (Function input out table) x h = tt
knows n (Fork input a b ta tb) x h = tt
knows n (Join a b out pass) x h = tt
knows n (Switch input a b to_a) x h = tt
knows n (Merge a b out) x h = tt

pub fits_next : FitsNext
fits_next net signals s w φ is_net order fitting choices is_frame p m has =
    let colours : ℕ → List ℕ = λ c. upto net.colours in
    let closed : IsClosed net colours = λ q k there. all_closed net.colours k (prim_fits net is_net q k there) in
    let known : (q : ℕ) (k : Component) → HasPrim net q k → FitsColours colours k (s q) = λ q k there. knows net.colours k (s q) (fitting q k there) in
    let wired = counted net is_net in
    let after = next_fits net signals colours is_net order closed m (closed p m has) (s p) (w p) φ (is_frame p m has) (known p m has)
    (λ c d named is. coloured net signals colours is_net order closed s w φ is_frame known choices c d
    (elim named [ inl has_output ↦ output_below net wired p m c has has_output | inr has_input ↦ input_below net wired p m c has has_input ]) is) in
    let there : next_at (Some m) (s p) φ ≡ next_at (slice_get net.prims p) (s p) φ = ap (λ o. next_at o (s p) φ) (sym has) in
    subst (FitsContent net.colours m) there (fits net.colours m (content_after m (s p) φ) (next_form m (s p) φ) after)

-- the colours of a channel are colours of the net
pub colours_below : (net : Network) (colours : ℕ → List ℕ) → IsNet net → AreColours net colours → (c d : ℕ) → IsIn (colours c) d → d < net.colours
colours_below net colours is_net are c d inside =
    below net.colours d (are.least (λ k. upto net.colours) (λ q k there. all_closed net.colours k (prim_fits net is_net q k there)) c d inside)
