use Rattle.std.proofs.Common.{refl}
use Rattle.xm_tape.proofs.Leaping.{leap_more}
use Rattle.xm_tape.proofs.leap.one_more.Goals as goal

pub returns : goal.returns
returns c n is = leap_more n c.args.leap is _ _ refl refl
