use Rattle.std.proofs.Common.{◌+◌, Option, Some, None, List, cond, Bool, drop, get_or, pos, ℤ, ap, ◌∙◌, SFits, rules}
use Rattle.std.specs.Int.{w128}
use Rattle.std.proofs.lemmas.Int.{to_z-of_z}
use Rattle.xm_check.proofs.Adding.{first_of}
use Rattle.xm_proof.specs.Sums as spec
use Rattle.xm_rows.specs.declared.row.Entry.{Entry}
use Rattle.xm_check.proofs.sums.add_entries.Goals as goal

pub loop-entry-preserved : goal.loop-entry-preserved
loop-entry-preserved c =
    let none : Entry = record { column = 0; value = pos 0 } in
    let e = get_or c.args.entries.now c.loop-entry.entry-index none in
    let fits : SFits w128 e.value = search rules in
    let factor_fits : SFits w128 c.args.factor = search rules in
    let so_far = simp to_z-of_z at c.loop-entry.invariant in
    let added = simp to_z-of_z at c.add_entry.ensures in
    rw (to_z-of_z w128 c.args.factor factor_fits)
    (so_far ∙ first_of c.args.factor c.args.entries.now c.loop-entry.entry-index none c.loop-entry.columns c.loop-entry-test.true
    ∙ ap (spec.add_entries c.args.factor (drop (c.loop-entry.entry-index + 1) c.args.entries.now)) (added ∙ ap (λ (b : Bool). cond {A = Option (List ℤ)} b (Some c.add_entry.new.columns) None) c.if-not-add_entry.false))
