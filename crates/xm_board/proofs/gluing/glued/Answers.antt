use Rattle.std.proofs.Common.{◌≡◌, ◌<◌, ℕ, length, refl, ap, sym, subst, ◌∙◌, arith, inl, inr}
use Rattle.std.proofs.lemmas.Bool.{cases_lt}
use Rattle.std.proofs.lemmas.Option.{slice_get_read}
use Rattle.xm_board.proofs.Glued.{added_here, kept_here, whole_net}
use Rattle.xm_design.specs.Designed.{Designed}
use Rattle.xm_parts.specs.Gluing.{FitCells, HoldsPart}
use Rattle.xm_parts.specs.Kept.{label_at}
use Rattle.xm_parts.specs.Rows.{FitsPart}
use Rattle.xm_board.proofs.gluing.glued.Goals as goal

pub add-requires-clause-row : goal.add-requires-clause-row
add-requires-clause-row c =
    let logs = c.args.logs.now in let p = c.loop-p.p in let label = label_at c.args.parts.now.labels in
    let inside : p < length logs = (let w = c.requires.whole in let n = c.count-count.ensures.value in omega arith) in
    let there = slice_get_read logs (length logs) p c.index-logs-p.result refl inside c.index-logs-p.is in
    subst (λ (d : Designed). FitsPart d.net label p c.index-logs-p.result.base) (sym c.requires.design) (c.requires.fit.fits p c.index-logs-p.result there)

pub add-requires-clause-fit : goal.add-requires-clause-fit
add-requires-clause-fit c =
    let logs = c.args.logs.now in let p = c.loop-p.p in
    let inside : p < length logs = (let w = c.requires.whole in let n = c.count-count.ensures.value in omega arith) in
    let there = slice_get_read logs (length logs) p c.index-logs-p.result refl inside c.index-logs-p.is in
    subst (λ (d : Designed). FitCells d.net c.index-logs-p.result.base.cells.items) (sym c.requires.design) (c.requires.fit.cells p c.index-logs-p.result there)

pub loop-p-preserved : goal.loop-p-preserved
loop-p-preserved c =
    let logs = c.args.logs.now in let p = c.loop-p.p in let label = label_at c.args.parts.now.labels in
    let inside : p < length logs = (let w = c.requires.whole in let n = c.count-count.ensures.value in omega arith) in
    let there = slice_get_read logs (length logs) p c.index-logs-p.result refl inside c.index-logs-p.is in
    let same = c.requires.design in
    let before = c.loop-p.glue in let after = c.add.new.self in
    record {
      design = c.add.ensures.design ∙ c.loop-p.invariant.design;
      cycle = c.add.ensures.cycle ∙ c.loop-p.invariant.cycle;
      holds = λ s φ are q h. elim (cases_lt q p) [
        | inl less ↦ kept_here c.args.parts.now.design c.args.design.now same label p q s φ c.index-logs-p.result before.contents before.wires after.contents after.wires (c.add.ensures.kept q s φ) (are p c.index-logs-p.result there) (c.loop-p.invariant.holds s φ are q less)
        | inr more ↦ (let is : p ≡ q = omega arith in subst (λ (r : ℕ). HoldsPart c.args.design.now.net label r s φ after.contents after.wires) is
            (added_here c.args.parts.now.design c.args.design.now same label p s φ c.index-logs-p.result after.contents after.wires (c.add.ensures.added s φ) (are p c.index-logs-p.result there)))
      ];
    }

pub returns-clause-cycle : goal.returns-clause-cycle
returns-clause-cycle c = c.finish.ensures.cycle ∙ c.loop-p.invariant.cycle

pub returns-clause-cells : goal.returns-clause-cells
returns-clause-cells c = c.finish.ensures.cells ∙ ap (λ (d : Designed). length d.net.prims) c.loop-p.invariant.design

pub returns-clause-channels : goal.returns-clause-channels
returns-clause-channels c = c.finish.ensures.channels ∙ ap (λ (d : Designed). d.net.channels) c.loop-p.invariant.design

pub returns-clause-holds : goal.returns-clause-holds
returns-clause-holds c s φ are =
    let same = c.requires.design in
    let below = subst (λ (d : Designed). (ch : ℕ) → ch < d.net.channels → label_at c.args.parts.now.labels ch < c.args.parts.now.count) same c.count-count.ensures.below in
    whole_net c.glue_law.ensures c.args.design.now c.is_designed.ensures (label_at c.args.parts.now.labels) c.args.parts.now.count s φ c.loop-p.glue.contents _ c.loop-p.glue.wires _ below
    (λ p part. c.loop-p.invariant.holds s φ are p (let n = c.count-count.ensures.value in omega arith)) c.finish.ensures.contents c.finish.ensures.wires
