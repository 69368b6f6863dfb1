-- What stays from one cycle to the next, primitive by primitive.
use Rattle.std.proofs.Common.{◌≡◌, ℕ, Bool, false, Option, Some, None, List, slice_get, length, sym, ◌∙◌, arith, [], ◌∷◌, ◌<◌, ◌≤◌, length-drop}
use Rattle.std.proofs.lemmas.Bool.{and_right, or_cases, ltb-true, lt-ltb}
use Rattle.xm_design.specs.Lemmas.Offers.{merge_again, merge_grants_a, merge_grants_b, offers, only_if-false, only_if-true, to_side_a_some, to_side_b_some}
use Rattle.xm_persist.specs.Rights.{OfferStays, ReadyStays}
use Rattle.xm_model.specs.Frame.{ForkEquation, FunctionEquation, JoinEquation, MergeEquation, QueueEquation, SwitchEquation}
use Rattle.xm_model.specs.Next.{joined, left, move, next_pref}
use Rattle.xm_model.specs.Signals.{Signals, grant}
use Rattle.xm_model.specs.declared.primitive.Side.{Side}

pub fork_a_stays : (input a b : ℕ) (ta tb : List ℕ) (φ ψ : Signals) → ForkEquation input a b ta tb φ → ForkEquation input a b ta tb ψ → OfferStays input φ ψ → ReadyStays b φ ψ → OfferStays a φ ψ
fork_a_stays input a b ta tb φ ψ e f ip tp d offered stuck = grind (arith, offers)

pub fork_b_stays : (input a b : ℕ) (ta tb : List ℕ) (φ ψ : Signals) → ForkEquation input a b ta tb φ → ForkEquation input a b ta tb ψ → OfferStays input φ ψ → ReadyStays a φ ψ → OfferStays b φ ψ
fork_b_stays input a b ta tb φ ψ e f ip tp d offered stuck = grind (arith, offers)

pub fork_in_stays : (input a b : ℕ) (ta tb : List ℕ) (φ ψ : Signals) → ForkEquation input a b ta tb φ → ForkEquation input a b ta tb ψ → ReadyStays a φ ψ → ReadyStays b φ ψ → ReadyStays input φ ψ
fork_in_stays input a b ta tb φ ψ e f ta_stays tb_stays is_ready quiet = grind (arith, offers)

pub function_out_stays : (input out : ℕ) (table : List ℕ) (φ ψ : Signals) → FunctionEquation input out table φ → FunctionEquation input out table ψ → OfferStays input φ ψ → OfferStays out φ ψ
function_out_stays input out table φ ψ e f ip d offered stuck = grind (arith, offers)

pub function_in_stays : (input out : ℕ) (table : List ℕ) (φ ψ : Signals) → FunctionEquation input out table φ → FunctionEquation input out table ψ → ReadyStays out φ ψ → ReadyStays input φ ψ
function_in_stays input out table φ ψ e f tp is_ready quiet = grind (arith, offers)

pub join_a_stays : (a b out : ℕ) (pass : Side) (φ ψ : Signals) → JoinEquation a b out pass φ → JoinEquation a b out pass ψ → ReadyStays out φ ψ → OfferStays b φ ψ → ReadyStays a φ ψ
join_a_stays a b out pass φ ψ e f tp ip is_ready quiet = grind (arith, offers)

pub join_b_stays : (a b out : ℕ) (pass : Side) (φ ψ : Signals) → JoinEquation a b out pass φ → JoinEquation a b out pass ψ → ReadyStays out φ ψ → OfferStays a φ ψ → ReadyStays b φ ψ
join_b_stays a b out pass φ ψ e f tp ip is_ready quiet = grind (arith, offers)

pub join_out_stays : (a b out : ℕ) (pass : Side) (φ ψ : Signals) → JoinEquation a b out pass φ → JoinEquation a b out pass ψ → OfferStays a φ ψ → OfferStays b φ ψ → OfferStays out φ ψ
join_out_stays a b out pass φ ψ e f ipa ipb d offered stuck = grind (arith, offers)

pub switch_a_stays : (input a b : ℕ) (to_a : List Bool) (φ ψ : Signals) → SwitchEquation input a b to_a φ → SwitchEquation input a b to_a ψ → OfferStays input φ ψ → OfferStays a φ ψ
switch_a_stays input a b to_a φ ψ e f ip d offered stuck = grind (arith, offers, to_side_a_some)

pub switch_b_stays : (input a b : ℕ) (to_a : List Bool) (φ ψ : Signals) → SwitchEquation input a b to_a φ → SwitchEquation input a b to_a ψ → OfferStays input φ ψ → OfferStays b φ ψ
switch_b_stays input a b to_a φ ψ e f ip d offered stuck = grind (arith, offers, to_side_b_some)

pub switch_in_stays : (input a b : ℕ) (to_a : List Bool) (φ ψ : Signals) → SwitchEquation input a b to_a φ → ReadyStays input φ ψ
switch_in_stays input a b to_a φ ψ e is_ready quiet = absurd (grind (arith, offers, or_cases))

-- what the merge next to a grant offers
pub merge_out_stays : (a b out : ℕ) (pref : Side) (φ ψ : Signals) → MergeEquation a b out pref φ →
    MergeEquation a b out (next_pref pref (grant pref (φ.offer a) (φ.offer b)) (φ.ready out)) ψ →
    OfferStays a φ ψ → OfferStays b φ ψ → OfferStays out φ ψ
merge_out_stays a b out pref φ ψ e f ipa ipb d offered stuck =
    let is_stuck : φ.ready out ≡ false = stuck in
    let again = merge_again pref (φ.offer a) (φ.offer b) (ψ.offer a) (ψ.offer b) d (sym e.offer_out ∙ offered)
    (λ x is granted. ipa x is (grind (arith, and_right)))
    (λ y is granted. ipb y is (grind (arith, and_right))) in
    f.offer_out ∙ rw stuck again

pub merge_a_stays : (a b out : ℕ) (pref : Side) (φ ψ : Signals) → MergeEquation a b out pref φ → ReadyStays a φ ψ
merge_a_stays a b out pref φ ψ e is_ready quiet = absurd (grind (arith, offers, merge_grants_a))

pub merge_b_stays : (a b out : ℕ) (pref : Side) (φ ψ : Signals) → MergeEquation a b out pref φ → ReadyStays b φ ψ
merge_b_stays a b out pref φ ψ e is_ready quiet = absurd (grind (arith, offers, merge_grants_b))

-- the head stays where nothing leaves
pub head_stays : (ps : List ℕ) (arrival : Option ℕ) (d : ℕ) → slice_get ps 0 ≡ Some d → slice_get (joined ps arrival) 0 ≡ Some d
head_stays [] arrival d h = cc
head_stays (p ∷ ps) None d h = h
head_stays (p ∷ ps) (Some e) d h = h

pub length-left : (ps : List ℕ) (departure : Option ℕ) → length (left ps departure) ≤ length ps
length-left ps None = omega arith
length-left ps (Some d) = simp length-drop (omega arith)

pub queue_out_stays : (input out capacity : ℕ) (ps : List ℕ) (φ ψ : Signals) → QueueEquation input out capacity ps φ →
    QueueEquation input out capacity (joined (left ps (move φ out)) (move φ input)) ψ → OfferStays out φ ψ
queue_out_stays input out capacity ps φ ψ e f d offered stuck =
    let still : move φ out ≡ None = only_if-false (φ.ready out) (φ.offer out) stuck in
    f.offer_out ∙ rw still (head_stays ps (move φ input) d (sym e.offer_out ∙ offered))

pub queue_in_stays : (input out capacity : ℕ) (ps : List ℕ) (φ ψ : Signals) → QueueEquation input out capacity ps φ →
    QueueEquation input out capacity (joined (left ps (move φ out)) (move φ input)) ψ → ReadyStays input φ ψ
queue_in_stays input out capacity ps φ ψ e f is_ready quiet =
    let none_in : move φ input ≡ None = only_if-true (φ.ready input) (φ.offer input) is_ready ∙ quiet in
    let room : length ps < capacity = ltb-true (length ps) capacity (sym e.ready_in ∙ is_ready) in
    f.ready_in ∙ rw none_in (lt-ltb (length (left ps (move φ out))) capacity (omega (arith, length-left ps (move φ out))))
