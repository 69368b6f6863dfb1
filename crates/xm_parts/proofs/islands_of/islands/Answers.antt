use Rattle.std.proofs.Common.{◌≡◌, ◌<◌, ℕ, length, map, ap, sym, ◌∙◌, arith, inl, inr, slice_get}
use Rattle.std.proofs.lemmas.Bool.{cases_lt}
use Rattle.std.proofs.lemmas.List.{length-map}
use Rattle.std.proofs.lemmas.Option.{slice_get_within}
use Rattle.xm_model.specs.Component.{component_of}
use Rattle.xm_model.specs.Lending.{refill-full}
use Rattle.xm_parts.proofs.Grouping.{alone, numbered}
use Rattle.xm_parts.proofs.Parting.{port_below}
use Rattle.xm_parts.specs.Inner.Grouped.{is_least}
use Rattle.xm_parts.specs.Kept.{label_at}
use Rattle.xm_parts.specs.Passing.{place}
use Rattle.xm_parts.proofs.islands_of.islands.Goals as goal

pub loop-i-init : goal.loop-i-init
loop-i-init c =
    let count = c.channels.ensures.value in
    record {
      whole = c.in_ok-labels.ensures.whole ∙ count;
      grouped = alone c.net-net.result.now (label_at c.in_ok-labels.labels.items) (λ k h. c.in_ok-labels.ensures.each k (omega arith));
      joined = λ j h m d e has q p r. absurd (omega arith);
    }

pub loop-i-preserved : goal.loop-i-preserved
loop-i-preserved c =
    let net = c.net-net.result.now in
    let long = c.join_prim.auto.labels ∙ ap length c.as_mut_slice.ensures.value in
    let full = refill-full (length c.loop-i.labels.items) c.loop-i.labels.items c.join_prim.new.labels long in
    rw full (record {
      whole = long ∙ c.loop-i.invariant.whole;
      grouped = c.join_prim.ensures.grouped;
      joined = λ j h m d e has q p r.
          elim (cases_lt j c.loop-i.i) [
            | inl less ↦ c.join_prim.ensures.keeps d e (port_below net c.prims.ensures.net j m d has p) (port_below net c.prims.ensures.net j m e has r)
                (rw c.as_mut_slice.ensures.value (c.loop-i.invariant.joined j less m d e has q p r))
            | inr more ↦ (let same : j ≡ c.loop-i.i = omega arith in c.join_prim.ensures.joined m d e (ap (slice_get net.prims) (sym same) ∙ has) q p r)
          ];
    })

pub returns-clause-islands : goal.returns-clause-islands
returns-clause-islands c =
    let net = c.net-net.result.now in
    let n : length c.as_slice.result.now ≡ length net.prims = sym (length-map c.as_slice.result.now component_of) ∙ ap length (ap (map component_of) c.as_slice.ensures ∙ c.prims.ensures.prims) in
    let end = c.loop-i-test.false in let upto = c.loop-i.auto.i-end in
    let whole = c.loop-i.invariant.whole in
    let labels = c.loop-i.labels.items in
    let each : (k : ℕ) → k < net.channels → label_at c.in_ok-made.made.items k ≡ place (is_least (label_at labels)) (label_at labels k) =
    λ k h. rw (← c.as_slice-2.ensures) (c.in_ok-made.ensures.each k (let same = ap length c.as_slice-2.ensures in omega arith)) in
    rw (← c.net-net.ensures.net) (numbered net (label_at labels) (label_at c.in_ok-made.made.items) c.loop-i.invariant.grouped
    (λ i m d e has q p r. c.loop-i.invariant.joined i (let inside = slice_get_within net.prims i m has in omega arith) m d e has q p r) each)
