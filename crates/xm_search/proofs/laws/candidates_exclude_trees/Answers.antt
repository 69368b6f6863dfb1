use Rattle.xm_search.proofs.Candidates as law
use Rattle.xm_search.proofs.laws.candidates_exclude_trees.Goals as goal

pub returns : goal.returns
returns c = law.candidates_exclude_trees
