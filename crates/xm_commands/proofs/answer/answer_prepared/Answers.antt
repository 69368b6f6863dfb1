use Rattle.std.proofs.Common.{subst}
use Rattle.xm_commands.specs.Inner.Plain.{IsPlain}
use Rattle.xm_commands.proofs.answer.answer_prepared.Goals as goal

pub write_search-requires-clause-plain : goal.write_search-requires-clause-plain
write_search-requires-clause-plain g c = subst IsPlain c.in-Prove.is c.requires.plain
