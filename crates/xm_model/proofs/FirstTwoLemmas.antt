-- How the first two primitives at each channel go on as ports are met.
use Rattle.std.proofs.Common.{◌≡◌, ◌≢◌, ℕ, ◌+◌, ◌<◌, List, [], ◌∷◌, ◌++◌, length, map, get_or, set, refl, ap, sym, ◌∙◌, arith, inl, inr, add-zero, append_assoc, take, length-take, subst, eq-eqb, ne_eqb, length-set, append-nil}
use Rattle.std.proofs.lemmas.Bool.Decides.{eqb_tells}
use Rattle.std.specs.List.{All}
use Rattle.std.proofs.Math.ListN.{get_or-map}
use Rattle.std.proofs.lemmas.List.{length-map, map-append, get_or-set_other}
use Rattle.std.proofs.lemmas.Grind.{get_or-set_at}
use Rattle.std.proofs.lemmas.List.{take_more}
use Rattle.xm_model.specs.Net.{ends_at, ports}
use Rattle.xm_model.specs.Lemmas.ChannelEnds.{ends_at-append}
use Rattle.xm_model.specs.Component.{Component, component_of}
use Rattle.xm_model.specs.declared.primitive.Primitive.{Primitive}
use Rattle.xm_model.specs.Inner.FirstTwo.{first_two, none_met, AreFirstTwo, with_end}
use Rattle.xm_model.specs.declared.net.FirstTwo.{FirstTwo}

-- one more end at the channel it names
pub first_two-snoc : (l : List ℕ) (p : ℕ) → first_two (l ++ p ∷ []) ≡ with_end (first_two l) p
first_two-snoc [] p = refl
first_two-snoc (x ∷ []) p = refl
first_two-snoc (x ∷ y ∷ []) p = refl
first_two-snoc (x ∷ y ∷ z ∷ l) p = refl

-- the ends of one port
pub ends_at-same : (c p k : ℕ) → c ≡ k → ends_at ((c, p) ∷ []) k ≡ p ∷ []
ends_at-same c p k e = rw (eq-eqb c k e)

pub ends_at-other : (c p k : ℕ) → c ≢ k → ends_at ((c, p) ∷ []) k ≡ []
ends_at-other c p k e = rw (ne_eqb c k e)

-- an end at c is met
pub AreFirstTwo-snoc : (es : List (ℕ × ℕ)) (seen : List FirstTwo) (c p : ℕ) → c < length seen → AreFirstTwo es seen → AreFirstTwo (es ++ (c, p) ∷ []) (set seen c (with_end (get_or seen c none_met) p))
AreFirstTwo-snoc es seen c p inside h = record {
  at = λ k below.
      elim (eqb_tells c k) [
        | inl e ↦ rw ends_at-append (rw (ends_at-same c p k e.1) (rw first_two-snoc (rw (get_or-set_at seen c k _ none_met (sym e.1) inside) (ap (λ l. with_end l p) (h.at c inside ∙ ap (λ i. first_two (ends_at es i)) e.1)))))
        | inr e ↦ rw ends_at-append (rw (ends_at-other c p k e.1) (rw append-nil (rw (get_or-set_other seen c k _ none_met (λ x. e.1 (sym x))) (h.at k (simp length-set at below)))))
      ];
}

-- the ports of one more primitive
pub ports-snoc : (f : Component → List ℕ) (ms : List Component) (m : Component) (b : ℕ) → ports f (ms ++ m ∷ []) b ≡ ports f ms b ++ map (λ c. (c, b + length ms)) (f m)
ports-snoc f [] m b = rw (append-nil, add-zero)
ports-snoc f (x ∷ ms) m b = rw (ports-snoc f ms m (b + 1)) (rw (append_assoc) (ap (λ k. map (λ c. (c, b)) (f x) ++ (ports f ms (b + 1) ++ map (λ c. (c, k)) (f m))) (omega arith)))

pub ports-take : (f : Component → List ℕ) (xs : List Primitive) (i : ℕ) (x : Primitive) → i < length xs → x ≡ get_or xs i x → ports f (map component_of (take (i + 1) xs)) 0 ≡ ports f (map component_of (take i xs)) 0 ++ map (λ c. (c, i)) (f (component_of x))
ports-take f xs i x below e =
    let n : 0 + length (map component_of (take i xs)) ≡ i = simp (length-map, length-take) (omega arith) in
    rw (take_more xs i x below) (rw map-append (rw (ports-snoc f _ (component_of (get_or xs i x)) 0) (rw (← e) (ap (λ k. ports f (map component_of (take i xs)) 0 ++ map (λ c. (c, k)) (f (component_of x))) n))))

-- what holds of each primitive holds of the one at i
pub All-primitive : (P : Component → Type 0) (xs : List Primitive) (i : ℕ) (x : Primitive) → All P (map component_of xs) → i < length xs → x ≡ get_or xs i x → P (component_of x)
All-primitive P xs i x h below e =
    let at : P (get_or (map component_of xs) i (component_of x)) = h i (component_of x) (simp length-map below) in
    subst P (get_or-map component_of xs i x ∙ ap component_of (sym e)) at
