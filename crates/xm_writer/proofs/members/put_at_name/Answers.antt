use Rattle.serde_json.proofs.Views.{members_view-insert_entry}
use Rattle.xm_writer.proofs.members.put_at_name.Goals as goal

pub returns : goal.returns
returns c = rw (c.in_ok-insert.ensures.entries, ← c.in_ok-key.ensures) (members_view-insert_entry c.args.members.now.entries c.in_ok-key.key c.args.value)
