use Rattle.xm_options.proofs.Values.{none_without_options}
use Rattle.xm_options.proofs.read.no_options.Goals as goal

pub returns : goal.returns
returns c = none_without_options
