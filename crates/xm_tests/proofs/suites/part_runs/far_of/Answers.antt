use Rattle.std.proofs.lemmas.Option.{slice_get_within}
use Rattle.xm_parts.specs.Kept.{label_at}
use Rattle.xm_tests.proofs.suites.part_runs.far_of.Goals as goal

pub set_far-requires-clause-near : goal.set_far-requires-clause-near
set_far-requires-clause-near c k q at = (c.neighbours-near.ensures.others q (c.neighbours-near.ensures.near.near k q at)).0

pub returns : goal.returns
returns c s φ of =
    c.far_law.ensures c.args.design.now.net (label_at c.args.parts.now.labels) c.args.p φ c.set_far.new.moves c.set_far.ensures.room
    (λ q near. let found = c.neighbours-near.ensures.near.whole q (rw c.requires.design near) in
    c.set_far.ensures.set s φ of found.0 q (slice_get_within c.neighbours-near.result.now found.0 q found.1) found.1)
