use Rattle.std.proofs.Common.{◌≡◌, ◌++◌, List, ap, ◌∙◌, SFits, rules}
use Rattle.std.specs.Int.{w128}
use Rattle.std.proofs.lemmas.Int.{to_z-of_z}
use Rattle.xm_check.proofs.Packing.{over_from}
use Rattle.xm_proof.specs.Tests.{entries_where, of_pair, queue_columns}
use Rattle.xm_rows.specs.declared.row.Entry.{Entry}
use Rattle.xm_check.proofs.items.packet.Goals as goal

pub returns-clause-over : goal.returns-clause-over
returns-clause-over c =
    let fits : SFits w128 c.args.value = search rules in
    let added : c.push_count.new.entries.items ≡ c.new-entries.result.items ++ entries_where (of_pair c.args.q c.args.d) c.args.value 0 (queue_columns c.args.design.now) = simp to_z-of_z at c.in_ok-push_count.ensures in
    let whole : c.push_count.new.entries.items ≡ entries_where (of_pair c.args.q c.args.d) c.args.value 0 (queue_columns c.args.design.now) = added ∙ ap (λ (l : List Entry). l ++ entries_where (of_pair c.args.q c.args.d) c.args.value 0 (queue_columns c.args.design.now)) c.new-entries.ensures.items in
    over_from (of_pair c.args.q c.args.d) c.args.value (queue_columns c.args.design.now) c.push_count.new.entries.items whole
