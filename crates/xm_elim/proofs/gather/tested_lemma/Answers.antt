use Rattle.xm_flow.specs.ValidLemma.{lemma_of}
use Rattle.xm_elim.proofs.Following.{parted_places}
use Rattle.xm_elim.proofs.gather.tested_lemma.Goals as goal

pub test_fits-fits-requires-clause-places : goal.test_fits-fits-requires-clause-places
test_fits-fits-requires-clause-places c =
    parted_places c.args.moves c.args.counts c.args.flow.now c.args.row.now (lemma_of c.in_ok-lemma.lemma) c.in_ok-lemma.ensures c.entries-row.ensures.row c.requires.bounded
