use Rattle.std.proofs.Common.{◌∙◌, sym, subst, rules}
use Rattle.std.specs.Int.{w128}
use Rattle.std.proofs.lemmas.Int.{to_z-of_z}
use Rattle.xm_rows.specs.Row.{Fits128}
use Rattle.xm_elim.proofs.Parting.{high_from, lowered_row, new_lead, old_some, reduced_pivot}
use Rattle.xm_elim.proofs.part.reduced.Goals as goal

pub over_packets-requires : goal.over_packets-requires
over_packets-requires c = high_from c.args.moves _ c.args.column c.args.row.now c.entries-row.ensures.row c.requires.leads

pub new-requires : goal.new-requires
new-requires c =
    lowered_row c.args.moves c.args.counts c.args.column c.args.row.now c.as_slice.result.now _ c.entries-row.ensures.row c.requires.leads
    (c.as_slice.ensures ∙ c.in_ok-entries.ensures) (to_z-of_z w128 _ (search rules) ∙ c.constant.ensures.value)

pub ratio-factor-requires-clause-nonzero : goal.ratio-factor-requires-clause-nonzero
ratio-factor-requires-clause-nonzero c =
    let is = c.as_slice.ensures ∙ c.in_ok-entries.ensures in
    let same = to_z-of_z w128 c.constant.result (search rules) ∙ c.constant.ensures.value in
    let some = old_some c.args.moves c.args.counts c.args.column c.args.row.now c.as_slice.result.now _ c.in_ok-reduced.reduced c.primitive.new.row c.entries-row.ensures.row c.requires.leads is same
    c.in_ok-reduced.ensures.ok in
    let lead = new_lead c.args.moves c.args.counts c.args.column c.args.row.now c.as_slice.result.now _ c.in_ok-reduced.reduced c.primitive.new.row c.entries-row.ensures.row c.requires.leads is same
    c.in_ok-reduced.ensures.ok (c.primitive.ensures.primitive some) in
    λ gone. lead (sym c.value_at.ensures.value ∙ sym (to_z-of_z w128 c.value_at.result (search rules)) ∙ gone)

pub returns : goal.returns
returns c =
    let is = c.as_slice.ensures ∙ c.in_ok-entries.ensures in
    let same = to_z-of_z w128 c.constant.result (search rules) ∙ c.constant.ensures.value in
    let some = old_some c.args.moves c.args.counts c.args.column c.args.row.now c.as_slice.result.now _ c.in_ok-reduced.reduced c.primitive.new.row c.entries-row.ensures.row c.requires.leads is same
    c.in_ok-reduced.ensures.ok in
    let before_same = to_z-of_z w128 c.value_at-before.result (search rules) in
    let after_same = to_z-of_z w128 c.value_at.result (search rules) in
    let factor_same = to_z-of_z w128 c.ratio-factor.result (search rules) in
    reduced_pivot c.args.moves c.args.counts c.args.column c.args.row.now c.as_slice.result.now _ c.in_ok-reduced.reduced c.primitive.new.row c.entries-row.ensures.row c.requires.leads is same
    c.in_ok-reduced.ensures.ok _ _ _ (c.primitive.ensures.primitive some) c.entries-entries.ensures.row (before_same ∙ c.value_at-before.ensures.value) (after_same ∙ c.value_at.ensures.value)
    (subst Fits128 (sym before_same) c.value_at-before.ensures.fits) (factor_same ∙ c.ratio-factor.ensures)
