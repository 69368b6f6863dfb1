use Rattle.std.proofs.Common.{◌*ℤ◌, get_or, rules, SFits, pos}
use Rattle.std.specs.Int.{w128}
use Rattle.std.proofs.lemmas.Int.{to_z-of_z}
use Rattle.std.proofs.lemmas.List.Elements.{All-more}
use Rattle.xm_rows.specs.Row.{Fits128}
use Rattle.xm_rows.specs.declared.row.Entry.{Entry}
use Rattle.xm_flow.proofs.Adding.{not_true, scaled_all, scaled_not}
use Rattle.xm_flow.proofs.testing.scales.Goals as goal

pub loop-entry-preserved : goal.loop-entry-preserved
loop-entry-preserved c =
    let none : Entry = record { column = 0; value = pos 0 } in
    let es = c.entries-entry-items.result.now in
    let scale : SFits w128 c.args.it.now.scale = search rules in
    let value : SFits w128 (get_or es c.loop-entry.entry-index none).value = search rules in
    let fits = simp to_z-of_z at c.is_product.ensures in
    All-more (λ (e : Entry). Fits128 (c.args.it.now.scale *ℤ e.value)) es c.loop-entry.entry-index none c.loop-entry-test.true c.loop-entry.invariant (fits.0 c.if-not-is_product.false)

pub returns-then-not-is_product : goal.returns-then-not-is_product
returns-then-not-is_product c =
    let none : Entry = record { column = 0; value = pos 0 } in
    let es = c.entries-entry-items.result.now in
    let scale : SFits w128 c.args.it.now.scale = search rules in
    let value : SFits w128 (get_or es c.loop-entry.entry-index none).value = search rules in
    let fits = simp to_z-of_z at c.is_product.ensures in (
      λ is. absurd (cc),
      λ scaled. scaled_not _ es c.loop-entry.entry-index none c.entries-entry-items.ensures.value c.loop-entry-test.true
          (λ all. not_true c.is_product.result (fits.1 all) c.if-not-is_product.true) scaled,
    )

pub returns : goal.returns
returns c =
    let scale : SFits w128 c.args.it.now.scale = search rules in
    let constant : SFits w128 c.constant.result = search rules in
    let fits = simp to_z-of_z at c.is_product-2.ensures in
    scaled_all _ c.entries-entry-items.result.now c.loop-entry.entry-index c.constant.result c.is_product-2.result c.entries-entry-items.ensures.value c.loop-entry-test.false
    c.constant.ensures.value c.loop-entry.invariant fits
