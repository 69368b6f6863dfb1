use Rattle.xm_design.proofs.Listing as listing
use Rattle.xm_design.proofs.laws.one_oracle_count.Goals as goal

pub returns : goal.returns
returns c = listing.one_oracle_count
