use Rattle.std.proofs.Common.{sym, subst, List, ℤ, rules}
use Rattle.std.specs.Int.{w128}
use Rattle.std.specs.List.{insert}
use Rattle.std.proofs.lemmas.Int.{to_z-of_z}
use Rattle.xm_rows.specs.declared.row.Entry.{Entry}
use Rattle.xm_flow.specs.Inner.Building.{Put}
use Rattle.xm_flow.proofs.Putting.{put_insert}
use Rattle.xm_flow.proofs.term.insert_at.Goals as goal

pub returns : goal.returns
returns c =
    let same = to_z-of_z w128 c.args.value (search rules) in
    subst (λ (l : List Entry). Put c.args.column c.args.value c.args.entries.now.items l) (sym c.in_ok-insert.ensures.items)
    (subst (λ (v : ℤ). Put c.args.column c.args.value c.args.entries.now.items (insert c.args.entries.now.items c.args.p (record { column = c.args.column; value = v }))) (sym same)
    (put_insert c.args.column c.args.value c.args.entries.now.items c.args.p c.requires.within c.requires.low c.requires.high))
