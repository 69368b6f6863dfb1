use Rattle.xm_commands.proofs.Shares.{demonstration_read}
use Rattle.xm_commands.proofs.demonstration_words.read_demonstration.Goals as goal

pub returns-in-len1-up-clause-exact : goal.returns-in-len1-up-clause-exact
returns-in-len1-up-clause-exact c = demonstration_read c.read_options_of.result c.args.words.now.words.items c.requires (rw c.as_slice.ensures at c.read_options_of.ensures.exact)
