-- What a primitive brings, and what it makes of a colour that comes in, kind by kind.
use Rattle.std.proofs.Common.{◌≡◌, ◌⊎◌, ℕ, ◌<◌, ◌==◌, Bool, true, false, cond, List, [], ◌∷◌, map, length, slice_index, refl, sym, ap, subst, inl, inr, arith, eq-eqb, eqb-true}
use Rattle.std.specs.Prelude.{All}
use Rattle.xm_colours.proofs.Among.{all_in, in_from, in_map, in_where, is_in, map_in, where_in}
use Rattle.xm_colours.specs.Family.{Closed}
use Rattle.xm_colours.specs.Inner.Spreading.{Covers, given, pair, sent}
use Rattle.xm_colours.specs.declared.pairs.Pair.{Pair}
use Rattle.xm_model.specs.Component.{Component, Fork, Function, Join, Merge, Queue, Sink, Source, Switch}
use Rattle.xm_model.specs.Net.{FitsComponent}
use Rattle.xm_model.specs.Membership.{IsIn}
use Rattle.xm_model.specs.Ports.{HasOutput, HasInput, fork_output_a, fork_output_b, fork_input, function_output, function_input, join_output, join_input_a, join_input_b, merge_output, merge_input_a, merge_input_b, queue_output, queue_input, sink_input, source_output, switch_output_a, switch_output_b, switch_input}
use Rattle.xm_model.specs.Signals.{at_side, takes_a}
use Rattle.xm_model.specs.declared.primitive.Side.TheVariants.{A, B}

-- one of two pairs, as a test tells
in_choice : (b : Bool) (x y z : Pair) → IsIn (cond b (x ∷ []) (y ∷ [])) z → ((b ≡ true) × (x ≡ z)) ⊎ ((b ≡ false) × (y ≡ z))
in_choice true x y z (inl e) = inl (refl, e)
in_choice true x y z (inr h) = absurd h
in_choice false x y z (inl e) = inr (refl, e)
in_choice false x y z (inr h) = absurd h

choice_in_a : (b : Bool) (x y : Pair) → b ≡ true → IsIn (cond b (x ∷ []) (y ∷ [])) x
choice_in_a true x y e = inl refl
choice_in_a false x y e = absurd cc

choice_in_b : (b : Bool) (x y : Pair) → b ≡ false → IsIn (cond b (x ∷ []) (y ∷ [])) y
choice_in_b false x y e = inl refl
choice_in_b true x y e = absurd cc

-- pairs of one channel
of_channel : (out n : ℕ) (cs : List ℕ) (x : Pair) → All (λ d. d < n) cs → IsIn (map (pair out) cs) x → (out ≡ x.channel) × (x.colour < n)
of_channel out n cs x all h =
    let r = map_in (pair out) x cs h in
    let below : r.0 < n = all_in (λ d. d < n) cs r.0 all r.1.0 in
    (ap (λ (p : Pair). p.channel) r.1.1, subst (λ (p : Pair). p.colour < n) r.1.1 below)

image_below : (n : ℕ) (table : List ℕ) (d : ℕ) → length table ≡ n → All (λ k. k < n) table → d < n → slice_index table d < n
image_below n table d whole all below = all d 0 (omega arith)

module _ (n : ℕ) (x : Pair) where
  -- it brings colours of the net, on its outputs
  pub given_fits : (m : Component) → FitsComponent n m → IsIn (given m) x → HasOutput m x.channel × (x.colour < n)
  given_fits (Source out cs mode) fits h = let r = of_channel out n cs x fits.2 h in (subst (HasOutput (Source out cs mode)) r.0 source_output, r.1)
  given_fits (Sink input mode) fits h = absurd h
  given_fits (Queue input out capacity initial) fits h = let r = of_channel out n initial x fits.3 h in (subst (HasOutput (Queue input out capacity initial)) r.0 queue_output, r.1)
  given_fits (Function input out table) fits h = absurd h
  given_fits (Fork input a b ta tb) fits h = absurd h
  given_fits (Join a b out pass) fits h = absurd h
  given_fits (Switch input a b to_a) fits h = absurd h
  given_fits (Merge a b out) fits h = absurd h

  fits_at : (m : Component) (c d : ℕ) → HasOutput m c → d < n → pair c d ≡ x → HasOutput m x.channel × (x.colour < n)
  fits_at m c d has_output below e = (subst (λ (p : Pair). HasOutput m p.channel) e has_output, subst (λ (p : Pair). p.colour < n) e below)

  -- it makes colours of the net, on its outputs
  pub sent_fits : (m : Component) (it : Pair) → FitsComponent n m → it.colour < n → IsIn (sent m it) x → HasOutput m x.channel × (x.colour < n)
  sent_fits (Source out cs mode) it fits below h = absurd h
  sent_fits (Sink input mode) it fits below h = absurd h
  sent_fits (Queue input out capacity initial) it fits below (inl e) = fits_at _ out it.colour queue_output below e
  sent_fits (Queue input out capacity initial) it fits below (inr h) = absurd h
  sent_fits (Function input out table) it fits below (inl e) = fits_at _ out _ function_output (image_below n table it.colour fits.0 fits.1 below) e
  sent_fits (Function input out table) it fits below (inr h) = absurd h
  sent_fits (Fork input a b ta tb) it fits below (inl e) = fits_at _ a _ fork_output_a (image_below n ta it.colour fits.0.0 fits.0.1 below) e
  sent_fits (Fork input a b ta tb) it fits below (inr (inl e)) = fits_at _ b _ fork_output_b (image_below n tb it.colour fits.1.0 fits.1.1 below) e
  sent_fits (Fork input a b ta tb) it fits below (inr (inr h)) = absurd h
  sent_fits (Join a b out pass) it fits below h = let r = in_where (at_side pass a b == it.channel) (pair out it.colour) x h in fits_at _ out it.colour join_output below r.1
  sent_fits (Switch input a b to_a) it fits below h = elim (in_choice (takes_a to_a it.colour) (pair a it.colour) (pair b it.colour) x h) [
    | inl r ↦ fits_at _ a it.colour switch_output_a below r.1
    | inr r ↦ fits_at _ b it.colour switch_output_b below r.1
  ]
  sent_fits (Merge a b out) it fits below (inl e) = fits_at _ out it.colour merge_output below e
  sent_fits (Merge a b out) it fits below (inr h) = absurd h

-- its tables have an entry for each colour of the net
pub covers : (n : ℕ) (m : Component) (d : ℕ) → FitsComponent n m → d < n → Covers m d
covers n (Source out cs mode) d fits below = tt
covers n (Sink input mode) d fits below = tt
covers n (Queue input out capacity initial) d fits below = tt
covers n (Function input out table) d fits below = let e = fits.0 in omega arith
covers n (Fork input a b ta tb) d fits below = let e = fits.0.0 in let f = fits.1.0 in (omega arith, omega arith)
covers n (Join a b out pass) d fits below = tt
covers n (Switch input a b to_a) d fits below = omega arith
covers n (Merge a b out) d fits below = tt

module _ (family : ℕ → List ℕ) where
  abbrev pub Inside : Pair → Type 0
  Inside x = IsIn (family x.channel) x.colour

  all_inside : (out : ℕ) (cs : List ℕ) (x : Pair) → ((d : ℕ) → IsIn cs d → IsIn (family out) d) → IsIn (map (pair out) cs) x → Inside x
  all_inside out cs x closed h = let r = map_in (pair out) x cs h in subst Inside r.1.1 (closed r.0 (is_in cs r.0 r.1.0))

  -- a closed family has what a primitive brings
  pub closed_given : (m : Component) (x : Pair) → Closed family m → IsIn (given m) x → Inside x
  closed_given (Source out cs mode) x closed h = all_inside out cs x closed h
  closed_given (Sink input mode) x closed h = absurd h
  closed_given (Queue input out capacity initial) x closed h = all_inside out initial x closed.1 h
  closed_given (Function input out table) x closed h = absurd h
  closed_given (Fork input a b ta tb) x closed h = absurd h
  closed_given (Join a b out pass) x closed h = absurd h
  closed_given (Switch input a b to_a) x closed h = absurd h
  closed_given (Merge a b out) x closed h = absurd h

  -- and what it makes of a colour that the family has at its input
  pub closed_sent : (m : Component) (c d : ℕ) (x : Pair) → Closed family m → HasInput m c → IsIn (family c) d → IsIn (sent m (pair c d)) x → Inside x
  closed_sent m c d x closed sink_input i h = absurd h
  closed_sent m c d x closed queue_input i (inl e) = subst Inside e (closed.0 d i)
  closed_sent m c d x closed queue_input i (inr h) = absurd h
  closed_sent m c d x closed function_input i (inl e) = subst Inside e (closed d i)
  closed_sent m c d x closed function_input i (inr h) = absurd h
  closed_sent m c d x closed fork_input i (inl e) = subst Inside e (closed.0 d i)
  closed_sent m c d x closed fork_input i (inr (inl e)) = subst Inside e (closed.1 d i)
  closed_sent m c d x closed fork_input i (inr (inr h)) = absurd h
  closed_sent m c d x closed (join_input_a {b = b} {out = out} {pass = pass}) i h =
      let r = in_where (at_side pass c b == c) (pair out d) x h in
      let side : at_side pass c b ≡ c = eqb-true (at_side pass c b) c r.0 in
      subst Inside r.1 (closed d (subst (λ (k : ℕ). IsIn (family k) d) (sym side) i))
  closed_sent m c d x closed (join_input_b {a = a} {out = out} {pass = pass}) i h =
      let r = in_where (at_side pass a c == c) (pair out d) x h in
      let side : at_side pass a c ≡ c = eqb-true (at_side pass a c) c r.0 in
      subst Inside r.1 (closed d (subst (λ (k : ℕ). IsIn (family k) d) (sym side) i))
  closed_sent m c d x closed (switch_input {a = a} {b = b} {to_a = to_a}) i h = elim (in_choice (takes_a to_a d) (pair a d) (pair b d) x h) [
    | inl r ↦ subst Inside r.1 (closed.0 d i r.0)
    | inr r ↦ subst Inside r.1 (closed.1 d i r.0)
  ]
  closed_sent m c d x closed merge_input_a i (inl e) = subst Inside e (closed.0 d i)
  closed_sent m c d x closed merge_input_a i (inr h) = absurd h
  closed_sent m c d x closed merge_input_b i (inl e) = subst Inside e (closed.1 d i)
  closed_sent m c d x closed merge_input_b i (inr h) = absurd h

  -- a family that has both is closed
  pub closed_from : (m : Component) → ((x : Pair) → IsIn (given m) x → Inside x) → ((c d : ℕ) → HasInput m c → IsIn (family c) d → (x : Pair) → IsIn (sent m (pair c d)) x → Inside x) → Closed family m
  closed_from (Source out cs mode) brings sends = λ d i. brings (pair out d) (in_map (pair out) d cs (in_from cs d i))
  closed_from (Sink input mode) brings sends = tt
  closed_from (Queue input out capacity initial) brings sends = (
    λ d i. sends input d queue_input i (pair out d) (inl refl),
    λ d i. brings (pair out d) (in_map (pair out) d initial (in_from initial d i)),
  )
  closed_from (Function input out table) brings sends = λ d i. sends input d function_input i (pair out (slice_index table d)) (inl refl)
  closed_from (Fork input a b ta tb) brings sends = (
    λ d i. sends input d fork_input i (pair a (slice_index ta d)) (inl refl),
    λ d i. sends input d fork_input i (pair b (slice_index tb d)) (inr (inl refl)),
  )
  closed_from (Join a b out A) brings sends = λ d i. sends a d join_input_a i (pair out d) (where_in (a == a) (pair out d) (eq-eqb a a refl))
  closed_from (Join a b out B) brings sends = λ d i. sends b d join_input_b i (pair out d) (where_in (b == b) (pair out d) (eq-eqb b b refl))
  closed_from (Switch input a b to_a) brings sends = (
    λ d i goes. sends input d switch_input i (pair a d) (choice_in_a (takes_a to_a d) (pair a d) (pair b d) goes),
    λ d i goes. sends input d switch_input i (pair b d) (choice_in_b (takes_a to_a d) (pair a d) (pair b d) goes),
  )
  closed_from (Merge a b out) brings sends = (
    λ d i. sends a d merge_input_a i (pair out d) (inl refl),
    λ d i. sends b d merge_input_b i (pair out d) (inl refl),
  )
