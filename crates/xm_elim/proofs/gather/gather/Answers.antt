use Rattle.std.proofs.Common.{ℕ, ◌+◌, ◌<◌, ◌∙◌, ap, sym, subst, length, All, List, arith}
use Rattle.std.proofs.lemmas.List.{length-map}
use Rattle.std.proofs.lemmas.List.Elements.{All-weaker}
use Rattle.xm_model.specs.ListView.{ListView}
use Rattle.xm_model.specs.Membership.{IsIn}
use Rattle.xm_rows.specs.Lemmas.Noting.{list_read}
use Rattle.xm_flow.specs.Slots.{AreBelow}
use Rattle.xm_elim.proofs.Gathering.{bounded_at, gathered_more, gathered_none, passed_same, pivot_leads}
use Rattle.xm_flow.specs.declared.testing.Slot.{Slot}
use Rattle.xm_elim.proofs.gather.gather.Goals as goal
use Rattle.xm_elim.proofs.gather.gather.Goals.{in-Some+in_ok-lemma+in_ok-push, in_default}

pub loop-n-init : goal.loop-n-init
loop-n-init c = record {
  gathered = gathered_none c.args.moves c.args.counts c.args.flow.now c.args.rows.now c.new-lemmas.result.items c.new-lemmas.ensures.items;
  below = subst (AreBelow 1) (sym c.as_mut_slice-slots.ensures.value) c.in_ok-held.ensures.below;
  whole = ap length c.as_mut_slice-slots.ensures.value ∙ c.in_ok-held.ensures.whole;
}

pub pivot_at-requires-clause-within : goal.pivot_at-requires-clause-within
pivot_at-requires-clause-within c =
    let low : c.args.moves + c.loop-n.n < length c.args.columns.now = (let n = c.loop-n-test.true in let whole = c.requires.whole in omega (arith, n, whole)) in
    subst (All (λ p. p < length c.args.rows.now)) (list_read c.args.columns.now (c.args.moves + c.loop-n.n) c.index-columns-column.result c.as_slice.result.now low c.index-columns-column.is
    (c.as_slice.ensures ∙ ap (λ (l : ListView ℕ). l.items) c.index-columns-column.is))
    (c.requires.covers.bounded (c.args.moves + c.loop-n.n))

pub pivot_at-requires-clause-covers : goal.pivot_at-requires-clause-covers
pivot_at-requires-clause-covers c = λ i w at is.
    let low : c.args.moves + c.loop-n.n < length c.args.columns.now = (let n = c.loop-n-test.true in let whole = c.requires.whole in omega (arith, n, whole)) in
    let len = length-map c.args.columns.now (λ (l : ListView ℕ). l.items) in
    subst (λ (l : List ℕ). IsIn l i) (list_read c.args.columns.now (c.args.moves + c.loop-n.n) c.index-columns-column.result c.as_slice.result.now low c.index-columns-column.is
    (c.as_slice.ensures ∙ ap (λ (l : ListView ℕ). l.items) c.index-columns-column.is))
    (c.requires.covers.covers i w (c.args.moves + c.loop-n.n) at (omega (arith, len, low)) (c.requires.leads i w (c.args.moves + c.loop-n.n) at is).some)

pub tested_lemma-requires-clause-leads : goal.tested_lemma-requires-clause-leads
tested_lemma-requires-clause-leads c = pivot_leads c.args.moves _ c.loop-n.n c.in-Some.i c.args.rows.now c.index-rows-i.result c.requires.leads c.in-Some.ensures.some

pub tested_lemma-requires-clause-bounded : goal.tested_lemma-requires-clause-bounded
tested_lemma-requires-clause-bounded c =
    bounded_at _ c.in-Some.i c.args.rows.now c.index-rows-i.result c.in-Some.ensures.some.0 c.requires.bounded c.in-Some.ensures.some.1.0

pub loop-n-preserved : goal.loop-n-preserved
loop-n-preserved c =
    let whole = c.match-pivot_at.auto.slots ∙ c.loop-n.invariant.whole in
    elim c.match-pivot_at.branch [
      | in-Some+in_ok-lemma+in_ok-push w ↦
          record {
            gathered = gathered_more c.args.moves c.args.counts c.loop-n.n w.in-Some.i c.args.flow.now c.args.rows.now c.loop-n.lemmas.items c.match-pivot_at.lemmas.items c.loop-n.failed
                c.match-pivot_at.failed w.in_ok-lemma.fits w.index-rows-i.result w.in_ok-lemma.lemma w.in-Some.ensures.some w.in_ok-lemma.ensures.parted w.in_ok-lemma.ensures.fits
                (ap (λ l. l.items) w.lemmas-is ∙ w.in_ok-push.ensures.ok) (w.failed-is ∙ w.first_failed-failed.ensures) c.loop-n.invariant.gathered;
            below = subst (AreBelow (c.loop-n.n + 1 + 1)) (sym w.slots-is) w.in_ok-lemma.ensures.below;
            whole = whole;
          }
      | in_default w ↦
          record {
            gathered = passed_same c.args.moves c.args.counts c.loop-n.n c.args.flow.now c.args.rows.now c.loop-n.lemmas.items c.match-pivot_at.lemmas.items c.loop-n.failed
                c.match-pivot_at.failed (ap (λ l. l.items) w.lemmas-is) w.failed-is w.in_default.ensures.none c.loop-n.invariant.gathered;
            below = subst (AreBelow (c.loop-n.n + 1 + 1)) (sym w.slots-is)
                (All-weaker (λ (s : Slot). s.lemma < c.loop-n.n + 1) (λ s. s.lemma < c.loop-n.n + 1 + 1) (λ s low. omega arith) c.loop-n.slots c.loop-n.invariant.below);
            whole = whole;
          }
    ]
