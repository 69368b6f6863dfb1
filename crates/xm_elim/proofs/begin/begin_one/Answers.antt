use Rattle.std.proofs.Common.{◌∙◌, rules}
use Rattle.std.specs.Int.{w128}
use Rattle.std.proofs.lemmas.Int.{to_z-of_z}
use Rattle.xm_elim.proofs.Beginning.{begun_entries, begun_is_row}
use Rattle.xm_elim.proofs.begin.begin_one.Goals as goal

pub new-requires : goal.new-requires
new-requires c =
    begun_is_row c.args.base c.args.i c.args.row.now c.as_slice.result.now _ c.entries-entry-items.ensures.row c.requires.within
    (begun_entries c.loop-entry.entries.items _ c.push-2.new.self.items c.as_slice.result.now _ c.loop-entry.entry-index c.args.row.now c.as_slice.ensures c.in_ok-push-2.ensures.ok
    c.loop-entry.invariant c.loop-entry-test.false c.entries-entry-items.ensures.value)
    (to_z-of_z w128 _ (search rules) ∙ c.constant.ensures.value)
