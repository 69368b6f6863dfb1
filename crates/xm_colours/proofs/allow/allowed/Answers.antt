use Rattle.std.proofs.Common.{[], ◌∷◌, map, take}
use Rattle.xm_colours.proofs.Refusing.{found_more}
use Rattle.xm_colours.specs.Family.{colours_at}
use Rattle.xm_model.specs.Naming.{allowed_of}
use Rattle.xm_colours.proofs.allow.allowed.Goals as goal

pub loop-entry-preserved : goal.loop-entry-preserved
loop-entry-preserved c =
    found_more (colours_at c.args.colours.now) c.as_slice-entry-items.result.now c.loop-entry.entry-index c.entry-item.result c.first_of_both-found.result c.loop-entry-test.true c.entry-item.is
    (c.first_of_both-found.ensures (colours_at c.args.colours.now) (map allowed_of (take c.loop-entry.entry-index c.as_slice-entry-items.result.now)) (allowed_of c.entry-item.result ∷ []) c.loop-entry.invariant c.refused.ensures)
