use Rattle.std.proofs.Common.{◌∙◌}
use Rattle.xm_json.proofs.Items.{has_only-keys}
use Rattle.xm_json.proofs.members.has_only.Goals as goal

pub returns : goal.returns
returns c = c.keys_are_among.ensures ∙ has_only-keys c.args.names.now c.args.members.now.entries
