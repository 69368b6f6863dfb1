use Rattle.std.proofs.Common.{inr, get_or, rules, SFits, pos}
use Rattle.std.specs.Int.{w128}
use Rattle.std.proofs.lemmas.Int.{to_z-of_z}
use Rattle.xm_rows.specs.declared.row.Entry.{Entry}
use Rattle.xm_flow.proofs.Adding.{added_all, added_more, added_none, not_true, product_leaves, sum_leaves}
use Rattle.xm_flow.proofs.testing.add_entries.Goals as goal

pub loop-entry-init : goal.loop-entry-init
loop-entry-init c =
    let factor : SFits w128 c.args.factor = search rules in
    record { added = rw (to_z-of_z w128 c.args.factor factor) (added_none c.args.n c.args.factor c.args.slots.now); below = λ h. h }

pub returns-in_default-clause-leaves : goal.returns-in_default-clause-leaves
returns-in_default-clause-leaves c =
    let none : Entry = record { column = 0; value = pos 0 } in
    let factor : SFits w128 c.args.factor = search rules in
    let value : SFits w128 (get_or c.args.entries.now c.loop-entry.entry-index none).value = search rules in
    let leaves = simp to_z-of_z at c.in_default.ensures in
    inr (product_leaves c.args.n c.args.factor c.args.entries.now c.loop-entry.entry-index none c.args.slots.now c.requires.rising c.loop-entry-test.true leaves)

pub returns-then-not-add-clause-leaves : goal.returns-then-not-add-clause-leaves
returns-then-not-add-clause-leaves c =
    let none : Entry = record { column = 0; value = pos 0 } in
    let factor : SFits w128 c.args.factor = search rules in
    let value : SFits w128 (get_or c.args.entries.now c.loop-entry.entry-index none).value = search rules in
    let term : SFits w128 c.in-Some.term = search rules in
    let product = simp to_z-of_z at c.in-Some.ensures in
    let fits = simp to_z-of_z at c.add.ensures.fits in
    let added = simp to_z-of_z at c.loop-entry.invariant.added in
    inr (sum_leaves c.args.n c.args.factor c.args.entries.now c.loop-entry.entry-index none c.args.slots.now c.loop-entry.slots c.in-Some.term c.requires.rising c.loop-entry-test.true
    product (λ all. not_true c.add.result (fits.1 all) c.if-not-add.true) added)

pub returns-then-not-add-clause-below : goal.returns-then-not-add-clause-below
returns-then-not-add-clause-below c = λ h. c.add.ensures.below (c.loop-entry.invariant.below h)

pub loop-entry-preserved : goal.loop-entry-preserved
loop-entry-preserved c =
    let none : Entry = record { column = 0; value = pos 0 } in
    let factor : SFits w128 c.args.factor = search rules in
    let value : SFits w128 (get_or c.args.entries.now c.loop-entry.entry-index none).value = search rules in
    let term : SFits w128 c.in-Some.term = search rules in
    let product = simp to_z-of_z at c.in-Some.ensures in
    let fits = simp to_z-of_z at c.add.ensures.fits in
    let once = simp to_z-of_z at c.add.ensures.added in
    let added = simp to_z-of_z at c.loop-entry.invariant.added in
    record {
      added = rw (to_z-of_z w128 c.args.factor factor) (added_more c.args.n c.args.factor c.args.entries.now c.loop-entry.entry-index none c.args.slots.now c.loop-entry.slots c.add.new.slots
          c.in-Some.term c.requires.rising c.loop-entry-test.true product (fits.0 c.if-not-add.false) (once c.if-not-add.false) added);
      below = λ h. c.add.ensures.below (c.loop-entry.invariant.below h);
    }

pub returns-clause-added : goal.returns-clause-added
returns-clause-added c = λ done.
    let factor : SFits w128 c.args.factor = search rules in
    let added = simp to_z-of_z at c.loop-entry.invariant.added in
    added_all c.args.n c.args.factor c.args.entries.now c.loop-entry.entry-index c.args.slots.now c.loop-entry.slots c.loop-entry-test.false added
