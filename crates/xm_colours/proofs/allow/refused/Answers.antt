use Rattle.xm_colours.proofs.Refusing.{refused_none, refused_some}
use Rattle.xm_colours.specs.Family.{colours_at}
use Rattle.xm_model.specs.Naming.{allowed_of}
use Rattle.xm_colours.proofs.allow.refused.Goals as goal

pub returns-in-Some : goal.returns-in-Some
returns-in-Some c =
    refused_some (colours_at c.args.colours.now) (allowed_of c.args.entry.now) c.as_slice.result.now c.word.result c.set_from-allowed.result c.word.ensures c.as_slice.ensures c.set_from-allowed.ensures
    c.in-Some.colour c.in-Some.ensures.some

pub returns-in-None : goal.returns-in-None
returns-in-None c =
    refused_none (colours_at c.args.colours.now) (allowed_of c.args.entry.now) c.as_slice.result.now c.word.result c.set_from-allowed.result c.word.ensures c.as_slice.ensures c.set_from-allowed.ensures
    c.in-None.ensures.none
