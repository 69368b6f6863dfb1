use Rattle.std.proofs.Common.{arith}
use Rattle.serde_json.specs.View.{members_view}
use Rattle.xm_model.specs.Naming.{naming_of}
use Rattle.xm_writer.proofs.Spelled.{entries_all, entries_more}
use Rattle.xm_writer.proofs.writing.entries_value.Goals as goal

pub loop-entry-preserved : goal.loop-entry-preserved
loop-entry-preserved c =
    rw c.in_ok-put_entry.ensures (entries_more (naming_of c.args.names.now) c.args.entries.now c.loop-entry.entry-index c.entry-item.result (members_view c.loop-entry.members.entries) _ c.loop-entry-test.true c.entry-item.is c.loop-entry.invariant)

pub returns : goal.returns
returns c = entries_all (naming_of c.args.names.now) c.args.entries.now c.loop-entry.entry-index _ _ (omega arith) c.loop-entry.invariant
