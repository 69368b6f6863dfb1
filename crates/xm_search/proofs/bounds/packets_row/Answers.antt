use Rattle.std.proofs.Common.{List, ◌∙◌, subst, sym, ℤ}
use mir.Syntax.{w128}
use mir.Val.{of_z, to_z}
use Rattle.std.proofs.lemmas.Int.{to_z-of_z}
use Rattle.xm_proof.specs.Tests.{entries_where}
use Rattle.xm_rows.specs.Row.{IsRow}
use Rattle.xm_rows.specs.declared.row.Entry.{Entry}
use Rattle.xm_search.specs.Inner.Named.{is_counted}
use Rattle.xm_search.proofs.Naming.{where_row}
use Rattle.xm_search.proofs.bounds.packets_row.Goals as goal

pub new-requires : goal.new-requires
new-requires c =
    let value = sym (to_z-of_z w128 c.args.value c.ranges.value) in
    let constant = sym (to_z-of_z w128 c.args.constant c.ranges.constant) in
    let row = where_row (is_counted c.args.q c.args.colour) c.args.value c.args.constant c.args.pairs.now c.requires.nonzero c.requires.value c.requires.constant in
    let by_value = subst (λ (v : ℤ). IsRow (record { entries = entries_where (is_counted c.args.q c.args.colour) v 0 c.args.pairs.now; constant = c.args.constant })) value row in
    let by_both = subst (λ (v : ℤ). IsRow (record { entries = entries_where (is_counted c.args.q c.args.colour) (to_z w128 (of_z w128 c.args.value)) 0 c.args.pairs.now; constant = v })) constant by_value in
    subst (λ (es : List Entry). IsRow (record { entries = es; constant = to_z w128 (of_z w128 c.args.constant) })) (sym (c.as_slice.ensures ∙ c.in_ok-entries.ensures)) by_both
