use Rattle.std.proofs.Common.{subst}
use Rattle.xm_commands.specs.Inner.CallEnded.{IsWithin}
use Rattle.xm_commands.proofs.top.make.Goals as goal

pub obey-requires : goal.obey-requires
obey-requires g c = subst IsWithin c.in-Obey.is c.requires
