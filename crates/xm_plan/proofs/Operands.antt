-- Signals of one primitive, made from operands that were read before any of them was made.
use Rattle.std.proofs.Common.{◌≡◌, ◌≢◌, ◌∙◌, ℕ, List, [], ◌∷◌, ap, ap₂, refl, sym}
use Rattle.std.specs.Prelude.{Bool, ◌&&◌, is_some}
use Rattle.xm_model.specs.Component.{Content, Fork, Join, Merge, Switch}
use Rattle.xm_model.specs.Lemmas.PortCounts.{at_first, at_second}
use Rattle.xm_model.specs.Signals.{Signals, at_side, grant, granted_offer, is_a, is_b, only_if, pref_in, through, to_side_a, to_side_b}
use Rattle.xm_model.specs.declared.primitive.Side.{Side}
use Rattle.xm_model.specs.declared.state.Choice.{Choice}
use Rattle.xm_order.specs.Settle.{ChangesOnly}
use Rattle.xm_order.specs.declared.signal.Signal.TheVariants as signal
use Rattle.xm_plan.proofs.AtPorts.{kept-through, not_first}
use Rattle.xm_plan.specs.Inner.Made.{AreMade}
use Rattle.xm_plan.specs.Inner.Operations.{AreApart, Keeps, kept}

offers_apart : (c d : ℕ) → c ≢ d → signal.Offer c ≢ signal.Offer d
offers_apart c d apart same = apart (let h = same in cc)

readies_apart : (c d : ℕ) → c ≢ d → signal.Ready c ≢ signal.Ready d
readies_apart c d apart same = apart (let h = same in cc)

sorts_apart : (c d : ℕ) → signal.Ready c ≢ signal.Offer d
sorts_apart c d same = absurd (let h = same in cc)

turned : {X : Type 0} (x y : X) → x ≢ y → y ≢ x
turned x y apart same = apart (sym same)

pub plain_fork_made : (input a b n : ℕ) (ta tb : List ℕ) (s : Content) (w : Choice) (φ0 φ1 φ2 φ3 : Signals) →
    AreApart input a b → Keeps n ta → Keeps n tb →
    φ1.offer a ≡ only_if (φ0.ready b) (kept n (φ0.offer input)) → ChangesOnly φ0 φ1 (signal.Offer a) →
    φ2.offer b ≡ only_if (φ0.ready a) (kept n (φ0.offer input)) → ChangesOnly φ1 φ2 (signal.Offer b) →
    φ3.ready input ≡ (φ0.ready a && φ0.ready b) → ChangesOnly φ2 φ3 (signal.Ready input) →
    AreMade (Fork input a b ta tb) s w φ0 (signal.Offer a ∷ signal.Offer b ∷ signal.Ready input ∷ []) φ3
plain_fork_made input a b n ta tb s w φ0 φ1 φ2 φ3 apart keeps_a keeps_b v1 o1 v2 o2 v3 o3 =
    let given : φ0.offer input ≡ φ1.offer input = o1 (signal.Offer input) (offers_apart input a (turned a input apart.1.0)) in
    let a1 : φ0.ready a ≡ φ1.ready a = o1 (signal.Ready a) (sorts_apart a a) in
    let a2 : φ1.ready a ≡ φ2.ready a = o2 (signal.Ready a) (sorts_apart a b) in
    let b1 : φ0.ready b ≡ φ1.ready b = o1 (signal.Ready b) (sorts_apart b a) in
    let b2 : φ1.ready b ≡ φ2.ready b = o2 (signal.Ready b) (sorts_apart b b) in (
      φ1,
      (
        record { value = v1 ∙ ap (only_if _) (kept-through n ta _ keeps_a) ∙ sym (at_first a _ _); only = o1 },
        (
          φ2,
          (
            record { value = v2 ∙ ap₂ only_if a1 (kept-through n tb _ keeps_b ∙ ap (through tb) given) ∙ sym (at_second a b _ _ (not_first a b apart.0)); only = o2 },
            (φ3, (record { value = v3 ∙ ap₂ (λ (x y : Bool). x && y) (a1 ∙ a2) (b1 ∙ b2); only = o3 }, refl)),
          ),
        ),
      ),
    )

pub join_made : (a b out : ℕ) (pass : Side) (s : Content) (w : Choice) (φ0 φ1 φ2 φ3 : Signals) → AreApart out a b →
    φ1.offer out ≡ only_if (is_some (φ0.offer a) && is_some (φ0.offer b)) (at_side pass (φ0.offer a) (φ0.offer b)) →
    ChangesOnly φ0 φ1 (signal.Offer out) →
    φ2.ready a ≡ (φ0.ready out && is_some (φ0.offer b)) → ChangesOnly φ1 φ2 (signal.Ready a) →
    φ3.ready b ≡ (φ0.ready out && is_some (φ0.offer a)) → ChangesOnly φ2 φ3 (signal.Ready b) →
    AreMade (Join a b out pass) s w φ0 (signal.Offer out ∷ signal.Ready a ∷ signal.Ready b ∷ []) φ3
join_made a b out pass s w φ0 φ1 φ2 φ3 apart v1 o1 v2 o2 v3 o3 =
    let a1 : φ0.offer a ≡ φ1.offer a = o1 (signal.Offer a) (offers_apart a out apart.1.0) in
    let a2 : φ1.offer a ≡ φ2.offer a = o2 (signal.Offer a) (turned _ _ (sorts_apart a a)) in
    let b1 : φ0.offer b ≡ φ1.offer b = o1 (signal.Offer b) (offers_apart b out apart.1.1) in
    let r1 : φ0.ready out ≡ φ1.ready out = o1 (signal.Ready out) (sorts_apart out out) in
    let r2 : φ1.ready out ≡ φ2.ready out = o2 (signal.Ready out) (readies_apart out a (turned a out apart.1.0)) in (
      φ1,
      (
        record { value = v1; only = o1 },
        (
          φ2,
          (
            record { value = v2 ∙ ap₂ (λ (x y : Bool). x && y) r1 (ap is_some b1) ∙ sym (at_first a _ _); only = o2 },
            (φ3, (record { value = v3 ∙ ap₂ (λ (x y : Bool). x && y) (r1 ∙ r2) (ap is_some (a1 ∙ a2)) ∙ sym (at_second a b _ _ (not_first a b apart.0)); only = o3 }, refl)),
          ),
        ),
      ),
    )

pub merge_made : (a b out : ℕ) (s : Content) (w : Choice) (φ0 φ1 φ2 φ3 : Signals) → AreApart out a b →
    φ1.offer out ≡ granted_offer (grant (pref_in s) (φ0.offer a) (φ0.offer b)) (φ0.offer a) (φ0.offer b) →
    ChangesOnly φ0 φ1 (signal.Offer out) →
    φ2.ready a ≡ (is_a (grant (pref_in s) (φ0.offer a) (φ0.offer b)) && φ0.ready out) → ChangesOnly φ1 φ2 (signal.Ready a) →
    φ3.ready b ≡ (is_b (grant (pref_in s) (φ0.offer a) (φ0.offer b)) && φ0.ready out) → ChangesOnly φ2 φ3 (signal.Ready b) →
    AreMade (Merge a b out) s w φ0 (signal.Offer out ∷ signal.Ready a ∷ signal.Ready b ∷ []) φ3
merge_made a b out s w φ0 φ1 φ2 φ3 apart v1 o1 v2 o2 v3 o3 =
    let a1 : φ0.offer a ≡ φ1.offer a = o1 (signal.Offer a) (offers_apart a out apart.1.0) in
    let a2 : φ1.offer a ≡ φ2.offer a = o2 (signal.Offer a) (turned _ _ (sorts_apart a a)) in
    let b1 : φ0.offer b ≡ φ1.offer b = o1 (signal.Offer b) (offers_apart b out apart.1.1) in
    let b2 : φ1.offer b ≡ φ2.offer b = o2 (signal.Offer b) (turned _ _ (sorts_apart a b)) in
    let r1 : φ0.ready out ≡ φ1.ready out = o1 (signal.Ready out) (sorts_apart out out) in
    let r2 : φ1.ready out ≡ φ2.ready out = o2 (signal.Ready out) (readies_apart out a (turned a out apart.1.0)) in (
      φ1,
      (
        record { value = v1; only = o1 },
        (
          φ2,
          (
            record { value = v2 ∙ ap₂ (λ (x y : Bool). x && y) (ap is_a (ap₂ (grant (pref_in s)) a1 b1)) r1 ∙ sym (at_first a _ _); only = o2 },
            (φ3, (record { value = v3 ∙ ap₂ (λ (x y : Bool). x && y) (ap is_b (ap₂ (grant (pref_in s)) (a1 ∙ a2) (b1 ∙ b2))) (r1 ∙ r2) ∙ sym (at_second a b _ _ (not_first a b apart.0)); only = o3 }, refl)),
          ),
        ),
      ),
    )

pub switch_offers_made : (input a b : ℕ) (to_a : List Bool) (s : Content) (w : Choice) (φ0 φ1 φ2 : Signals) → AreApart input a b →
    φ1.offer a ≡ to_side_a to_a (φ0.offer input) → ChangesOnly φ0 φ1 (signal.Offer a) →
    φ2.offer b ≡ to_side_b to_a (φ0.offer input) → ChangesOnly φ1 φ2 (signal.Offer b) →
    AreMade (Switch input a b to_a) s w φ0 (signal.Offer a ∷ signal.Offer b ∷ []) φ2
switch_offers_made input a b to_a s w φ0 φ1 φ2 apart v1 o1 v2 o2 =
    let given : φ0.offer input ≡ φ1.offer input = o1 (signal.Offer input) (offers_apart input a (turned a input apart.1.0)) in (
      φ1,
      (
        record { value = v1 ∙ sym (at_first a _ _); only = o1 },
        (φ2, (record { value = v2 ∙ ap (to_side_b to_a) given ∙ sym (at_second a b _ _ (not_first a b apart.0)); only = o2 }, refl)),
      ),
    )
